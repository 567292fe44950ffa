-- Laws about a list that is written from the front, and about the sum of what is written.
use mathlib.Core.Path.{◌≡◌, sym, ◌∙◌, ap}
use mathlib.Core.List.{List, ◌++◌}
use Prim.Native.Nat.{ℕ, suc, ◌+◌, ◌<◌}
use native.Mathlib.Numerals.{add-one}
use native.Mathlib.Omega.{arith}
use lib.ListN.{length, get_or, take, drop, set}
use lib.Seq.{take_at, length-take-le, take_all, take-suc, drop-cons, append_snoc, set_at}
use Rattle.market.specs.Books.{with_front}
use Rattle.market.specs.Limits.{bidder_limit}
use Rattle.pool_sharing.specs.Sharing.{total}

-- after the next write the list has one more amount and one old word less
module _ (amounts before : List ℕ) (i : ℕ) where
  pub write-next : i < length amounts → i < length before → set (take i amounts ++ drop i before) i (get_or amounts i 0) ≡ take (i + 1) amounts ++ drop (i + 1) before
  write-next p q =
      ap (λ (l : List ℕ). set (take i amounts ++ l) i (get_or amounts i 0)) (drop-cons before i 0 q)
      ∙ set_at (take i amounts) (get_or before i 0) (drop (suc i) before) (get_or amounts i 0) i (length-take-le i amounts (omega arith))
      ∙ sym (append_snoc (take i amounts) (get_or amounts i 0) (drop (suc i) before))
      ∙ rw (add-one, take-suc amounts i 0 p)

  -- at the end all amounts are written
  pub all-written : i ≡ length amounts → take i amounts ++ drop i before ≡ with_front amounts before
  all-written end = rw (take_all i amounts (omega (arith, end)), end)

-- the sum of a list's first words where they are amounts that were written
pub put-listed : (amounts before : List ℕ) → length amounts ≡ bidder_limit → total (take bidder_limit (with_front amounts before)) ≡ total amounts
put-listed amounts before long = ap total (take_at amounts (drop (length amounts) before) bidder_limit long)
