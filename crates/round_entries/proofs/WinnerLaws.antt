-- Laws about the count of bids that won.
use mathlib.Core.Path.{◌≡◌, refl, ◌∙◌, ap}
use mathlib.Core.Bool.{cond}
use mathlib.Core.List.{List}
use Prim.Native.Nat.{ℕ, zero, suc, ◌+◌, ◌≤◌}
use native.Mathlib.Numerals.{add-one}
use native.Mathlib.Omega.{arith}
use lib.Dec.{ltb}
use lib.ListN.{length, get_or, take}
use Rattle.std.specs.List.{count_by}
use Rattle.std.proofs.lemmas.List.Sums.{sum_by_more}
use Rattle.market.proofs.KindLaws.{megawatts-at}
use Rattle.market.proofs.Tests.{kept-at-most}
use Rattle.market.specs.Books.{megawatts, in_megawatts}
use Rattle.market.specs.declared.units.Megawatts.{Megawatts}
use Rattle.round_entries.specs.Entries.{winners_in}

-- bids counted one by one
pub winners-counted : (won : List Megawatts) (n : ℕ) → n ≤ length won → winners_in (in_megawatts won) n ≡ count_by (λ m. ltb 0 m.0) (take n won)
winners-counted won zero within = refl
winners-counted won (suc n) within =
    let more = sum_by_more (λ (m : Megawatts). cond (ltb 0 m.0) 1 0) won n (megawatts 0) (omega arith) in
    let one = ap {B = ℕ} (λ (m : ℕ). cond (ltb 0 m) 1 0) (megawatts-at won n) in
    let next : winners_in (in_megawatts won) (suc n) ≡ count_by (λ m. ltb 0 m.0) (take (n + 1) won) = omega (arith, winners-counted won n (omega arith), more, one) in
    next ∙ ap (λ (k : ℕ). count_by (λ (m : Megawatts). ltb 0 m.0) (take k won)) (add-one n)

pub winners-within : (won : List ℕ) (n : ℕ) → winners_in won n ≤ n
winners-within won zero = omega arith
winners-within won (suc n) = omega (arith, winners-within won n, kept-at-most (ltb 0 (get_or won n 0)) 1)
