-- Laws about a column of a list.
use mathlib.Core.Path.{◌≡◌, sym, ◌∙◌, ap}
use mathlib.Core.List.{List, []}
use Prim.Native.Nat.{ℕ, ◌+◌, ◌-◌, ◌*◌, ◌≤◌, ◌<◌}
use native.Mathlib.Omega.{arith}
use lib.ListN.{length, take, drop, length-drop, drop_of_length-le}
use lib.Seq.{take_all}
use Rattle.market.specs.Limits.{bidder_limit}
use Rattle.journal_step.specs.LineStep.{column}

module _ (list : List ℕ) (k : ℕ) where
  abbrev from : ℕ
  from = k * bidder_limit

  pub column-none : length list ≤ from → [] ≡ column k list
  column-none h = sym (ap (take bidder_limit) (drop_of_length-le list h))

  pub column-short : length list - from < bidder_limit → take (length list - from) (drop from list) ≡ column k list
  column-short h =
      let rest = drop from list in
      take_all (length list - from) rest (omega (arith, length-drop from list))
      ∙ sym (take_all bidder_limit rest (omega (arith, length-drop from list)))

  pub column-whole : take (from + bidder_limit - from) (drop from list) ≡ column k list
  column-whole =
      let n : from + bidder_limit - from ≡ bidder_limit = omega arith in
      ap (λ (m : ℕ). take m (drop from list)) n
