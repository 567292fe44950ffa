-- Laws about the money in a book: how the cash held changes with a bidder, and how it adds up with the account.
use mathlib.Core.Path.{◌≡◌, sym, ◌∙◌, ap}
use mathlib.Core.List.{List, [], ◌∷◌}
use Prim.Native.Nat.{ℕ, zero, suc, ◌+◌, ◌<◌}
use native.Mathlib.Omega.{arith}
use lib.IntN.{ℤ, pos, neg_ℤ, ◌+ℤ◌, ◌-ℤ◌, +ℤ_idr, +ℤ_assoc, +ℤ_comm, +ℤ-neg_ℤ_cancel}
use lib.ListN.{length, get_or, set}
use Rattle.market.specs.Books.{no_bidder, bidder_of, held_of}
use Rattle.market.specs.Limits.{bidder_limit}
use Rattle.market.specs.declared.book.Bidder.{Bidder}
use Rattle.market.specs.declared.book.Book.{Book}
use Rattle.market.specs.declared.book.Entry.{Entry}
use Rattle.call_rules.specs.Money.{held_by_all}
use Rattle.call_rules.specs.State.{SoundState}

-- replacing a bidder changes the cash held by the difference of the two
pub held-set : (l : List Bidder) (i : ℕ) (x : Bidder) → i < length l → held_by_all (set l i x) + held_of (get_or l i no_bidder) ≡ held_by_all l + held_of x
held-set [] i x h = absurd (none h)
  where
    none : i < 0 → ⊥
    none p = omega arith
held-set (y ∷ l) zero x h = omega arith
held-set (y ∷ l) (suc i) x h = omega (arith, held-set l i x (omega arith))

-- the same in a sound state, at any number of a bidder
pub held_after :
    (b : Book) (es : List Entry) → SoundState b es → (i : ℕ) (x : Bidder) → i < bidder_limit
    → held_by_all (set b.bidders i x) + held_of (bidder_of b i) ≡ held_by_all b.bidders + held_of x
held_after b es state i x h = held-set b.bidders i x (omega (arith, state.bidders))

-- the account gains what the cash loses and what comes in
pub gained : (z : ℤ) (held after gain into : ℕ) → after + gain ≡ held + into → pos after +ℤ (z +ℤ pos gain) ≡ pos held +ℤ z +ℤ pos into -ℤ pos 0
gained z held after gain into h =
    ap (λ (k : ℤ). pos after +ℤ k) (+ℤ_comm z (pos gain))
    ∙ sym (+ℤ_assoc (pos after) (pos gain) z)
    ∙ ap (λ (n : ℕ). pos n +ℤ z) h
    ∙ +ℤ_assoc (pos held) (pos into) z
    ∙ ap (λ (k : ℤ). pos held +ℤ k) (+ℤ_comm (pos into) z)
    ∙ sym (+ℤ_assoc (pos held) z (pos into))
    ∙ sym (+ℤ_idr (pos held +ℤ z +ℤ pos into))

-- the same where the account stays
pub held_more : (z : ℤ) (held after into : ℕ) → after ≡ held + into → pos after +ℤ z ≡ pos held +ℤ z +ℤ pos into -ℤ pos 0
held_more z held after into h =
    ap (λ (k : ℤ). pos after +ℤ k) (sym (+ℤ_idr z)) ∙ gained z held after 0 into (omega arith)

-- the account pays
pub paid-out : (z : ℤ) (held out : ℕ) → pos held +ℤ (z -ℤ pos out) ≡ pos held +ℤ z +ℤ pos 0 -ℤ pos out
paid-out z held out =
    sym (+ℤ_assoc (pos held) z (neg_ℤ (pos out))) ∙ ap (λ (k : ℤ). k -ℤ pos out) (sym (+ℤ_idr (pos held +ℤ z)))

-- cash goes out
pub held-less : (z : ℤ) (held after out : ℕ) → after + out ≡ held → pos after +ℤ z ≡ pos held +ℤ z +ℤ pos 0 -ℤ pos out
held-less z held after out h =
    sym (+ℤ-neg_ℤ_cancel (pos after +ℤ z) (pos out))
    ∙ ap (λ (k : ℤ). k -ℤ pos out) (back ∙ sym (+ℤ_idr (pos held +ℤ z)))
  where
    back : pos after +ℤ z +ℤ pos out ≡ pos held +ℤ z
    back =
        +ℤ_assoc (pos after) z (pos out)
        ∙ ap (λ (k : ℤ). pos after +ℤ k) (+ℤ_comm z (pos out))
        ∙ sym (+ℤ_assoc (pos after) (pos out) z)
        ∙ ap (λ (n : ℕ). pos n +ℤ z) h

-- nothing comes in and nothing goes out
pub nothing-moved : (z : ℤ) → z ≡ z +ℤ pos 0 -ℤ pos 0
nothing-moved z = sym (+ℤ_idr (z +ℤ pos 0) ∙ +ℤ_idr z)
