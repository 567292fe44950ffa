-- A sound account that disburse or recover leaves as rule 11.8 allows stays sound.
use mathlib.Core.Path.{◌≡◌, refl}
use mathlib.Core.Bool.{Bool, true, false, cond, false≢true}
use Prim.Native.Nat.{ℕ, zero, suc, ◌+◌, ◌-◌, ◌≤◌}
use native.Mathlib.Omega.{arith}
use lib.Dec.{leb, ltb}
use lib.IntN.{ℤ, pos, negsuc, ◌+ℤ◌, ◌-ℤ◌}
use lib.Signed.{le_z}
use borrow.Author.Tests.{leb-true, le-leb}
use Rattle.market.proofs.Every.{both_true}
use Rattle.market.proofs.Tests.{left-true}
use Rattle.market.specs.Limits.{account_limit, reserve}
use Rattle.market.specs.Sound.{sound_account}

-- when a balance at or above 0 is sound, and when one below 0 is
above-sound : (a : ℕ) → a ≤ account_limit → sound_account (pos a) ≡ true
above-sound a h = le-leb a account_limit h

below-sound : (a : ℕ) → a ≤ account_limit - 1 → sound_account (negsuc a) ≡ true
below-sound a h = both_true (le-leb a (account_limit - 1) h) refl

above-limit : (a : ℕ) → sound_account (pos a) ≡ true → a ≤ account_limit
above-limit a h = leb-true a account_limit h

below-limit : (a : ℕ) → sound_account (negsuc a) ≡ true → a ≤ account_limit - 1
below-limit a h = leb-true a (account_limit - 1) (left-true (leb a (account_limit - 1)) true h)

-- what is taken leaves at least the reserve
reserved : (t : Bool) (a m : ℕ) → m ≤ account_limit → le_z (pos reserve) (cond t (negsuc a) (pos m)) ≡ true → sound_account (cond t (negsuc a) (pos m)) ≡ true
reserved true a m most h = absurd (false≢true h)
reserved false a m most h = above-sound m most

pub taken-sound : (z : ℤ) (d : ℕ) → sound_account z ≡ true → le_z (pos reserve) (z -ℤ pos d) ≡ true → sound_account (z -ℤ pos d) ≡ true
taken-sound (pos a) zero sound h = above-sound (a + 0) (omega (arith, above-limit a sound))
taken-sound (pos a) (suc d) sound h = reserved (ltb a (suc d)) (suc d - suc a) (a - suc d) (omega (arith, above-limit a sound)) h
taken-sound (negsuc a) zero sound h = reserved (ltb 0 (suc a)) (suc a - 1) (0 - suc a) (omega arith) h
taken-sound (negsuc a) (suc d) sound h = absurd (false≢true h)

-- what is added leaves the account at 0 or below
owing : (t : Bool) (a m : ℕ) → a ≤ account_limit - 1 → le_z (cond t (negsuc a) (pos m)) (pos 0) ≡ true → sound_account (cond t (negsuc a) (pos m)) ≡ true
owing true a m most h = below-sound a most
owing false a m most h = above-sound m (omega (arith, leb-true m 0 h))

pub added-sound : (z : ℤ) (d : ℕ) → sound_account z ≡ true → le_z (z +ℤ pos d) (pos 0) ≡ true → sound_account (z +ℤ pos d) ≡ true
added-sound (pos a) d sound h = above-sound (a + d) (omega (arith, leb-true (a + d) 0 h))
added-sound (negsuc a) d sound h = owing (ltb d (suc a)) (suc a - suc d) (d - suc a) (omega (arith, below-limit a sound)) h
