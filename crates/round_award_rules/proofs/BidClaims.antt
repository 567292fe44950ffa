-- The claims of one bid: putting claims in order does not change theirs.
use mathlib.Core.Path.{◌≡◌, refl, sym, ◌∙◌, ap}
use mathlib.Core.Bool.{Bool, true, false, cond}
use mathlib.Core.List.{List, [], ◌∷◌, ◌++◌}
use Prim.Native.Nat.{ℕ, ◌<◌}
use native.Mathlib.Omega.{arith}
use lib.Dec.{eqb}
use borrow.Author.Tests.{eq-eqb, ne_eqb, eqb-true, eqb-false}
use Rattle.round_award_rules.specs.Awards.{Claim, comes_before, insert, in_order}
use Rattle.round_award_rules.specs.Rivals.{Each}
use Rattle.round_award_rules.proofs.Claims.{each_append}
use Rattle.round_award_rules.proofs.OrderLaws.{before-price, each-order}

abbrev pub of_bid : ℕ → List Claim → List Claim
of_bid bid [] = []
of_bid bid (l ∷ ls) = cond (eqb l.bid bid) (l ∷ of_bid bid ls) (of_bid bid ls)

-- ---- The claims of a bid in a list

pub of-append : (bid : ℕ) (ls ms : List Claim) → of_bid bid (ls ++ ms) ≡ of_bid bid ls ++ of_bid bid ms
of-append bid [] ms = refl
of-append bid (l ∷ ls) ms = go (eqb l.bid bid) (of-append bid ls ms)
  where
    go : (t : Bool) → of_bid bid (ls ++ ms) ≡ of_bid bid ls ++ of_bid bid ms → cond t (l ∷ of_bid bid (ls ++ ms)) (of_bid bid (ls ++ ms)) ≡ cond t (l ∷ of_bid bid ls) (of_bid bid ls) ++ of_bid bid ms
    go true h = ap (l ∷◌) h
    go false h = h

pub of-all : (bid : ℕ) (ls : List Claim) → Each (λ l. l.bid ≡ bid) ls → of_bid bid ls ≡ ls
of-all bid [] h = refl
of-all bid (l ∷ ls) h =
    ap (λ (t : Bool). cond t (l ∷ of_bid bid ls) (of_bid bid ls)) (eq-eqb l.bid bid h.0)
    ∙ ap (l ∷◌) (of-all bid ls h.1)

pub of_none : (bid : ℕ) (ls : List Claim) → Each (λ l. l.bid ≡ bid → ⊥) ls → of_bid bid ls ≡ []
of_none bid [] h = refl
of_none bid (l ∷ ls) h =
    ap (λ (t : Bool). cond t (l ∷ of_bid bid ls) (of_bid bid ls)) (ne_eqb l.bid bid h.0)
    ∙ of_none bid ls h.1

-- what holds of each claim in `of_bid` holds of each claim of the list that is of this bid
pub each_of : (P : Claim → Type 0) (bid : ℕ) (ls : List Claim) → Each P (of_bid bid ls) → Each (λ l. l.bid ≡ bid → P l) ls
each_of P bid [] h = tt
each_of P bid (l ∷ ls) h = go (eqb l.bid bid) refl h (λ k. each_of P bid ls k)
  where
    go :
        (t :
        Bool) → eqb l.bid bid ≡ t → Each P (cond t (l ∷ of_bid bid ls) (of_bid bid ls)) → (Each P (of_bid bid ls) → Each (λ m. m.bid ≡ bid → P m) ls)
        → (l.bid ≡ bid → P l) × Each (λ m. m.bid ≡ bid → P m) ls
    go true e k next = ((λ is. k.0), next k.1)
    go false e k next = ((λ is. absurd (eqb-false l.bid bid e is)), next k)

-- ---- In order

-- one claim is above another: if both are of one bid, its price is higher
abbrev pub Above : Claim → Claim → Type 0
Above l m = m.bid ≡ l.bid → m.price < l.price

-- rule 7.2: within each bid a price is below the one before it
abbrev pub Strict : List Claim → Type 0
Strict [] = Unit {0}
Strict (l ∷ ls) = Each (Above l) ls × Strict ls

pub strict-append : (ls ms : List Claim) → Strict ls → Strict ms → Each (λ l. Each (Above l) ms) ls → Strict (ls ++ ms)
strict-append [] ms h k cross = k
strict-append (l ∷ ls) ms h k cross =
    (each_append (Above l) ls ms h.0 cross.0, strict-append ls ms h.1 k cross.1)

-- a claim of another bid put into its place
insert-other : (bid : ℕ) (l : Claim) (ms : List Claim) → (l.bid ≡ bid → ⊥) → of_bid bid (insert l ms) ≡ of_bid bid ms
insert-other bid l [] ne = ap (λ (t : Bool). cond t (l ∷ []) []) (ne_eqb l.bid bid ne)
insert-other bid l (m ∷ ms) ne = go (comes_before m l) (insert-other bid l ms ne)
  where
    go : (t : Bool) → of_bid bid (insert l ms) ≡ of_bid bid ms → of_bid bid (cond t (m ∷ insert l ms) (l ∷ m ∷ ms)) ≡ of_bid bid (m ∷ ms)
    go true h = ap (λ (ns : List Claim). cond (eqb m.bid bid) (m ∷ ns) ns) h
    go false h = ap (λ (t : Bool). cond t (l ∷ of_bid bid (m ∷ ms)) (of_bid bid (m ∷ ms))) (ne_eqb l.bid bid ne)

-- a claim of this bid, above the others, put into its place
insert-own : (bid : ℕ) (l : Claim) (ms : List Claim) → l.bid ≡ bid → Each (Above l) ms → of_bid bid (insert l ms) ≡ l ∷ of_bid bid ms
insert-own bid l [] is above = ap (λ (t : Bool). cond t (l ∷ []) []) (eq-eqb l.bid bid is)
insert-own bid l (m ∷ ms) is above = go (comes_before m l) refl (insert-own bid l ms is above.1)
  where
    go : (t : Bool) → comes_before m l ≡ t → of_bid bid (insert l ms) ≡ l ∷ of_bid bid ms → of_bid bid (cond t (m ∷ insert l ms) (l ∷ m ∷ ms)) ≡ l ∷ of_bid bid (m ∷ ms)
    go true e h =
        let other : m.bid ≡ bid → ⊥ = λ same. omega (arith, above.0 (same ∙ sym is), before-price m l e) in
        let skips : eqb m.bid bid ≡ false = ne_eqb m.bid bid other in
        ap (λ (t : Bool). cond t (m ∷ of_bid bid (insert l ms)) (of_bid bid (insert l ms))) skips
        ∙ h
        ∙ ap (λ (t : Bool). l ∷ cond t (m ∷ of_bid bid ms) (of_bid bid ms)) (sym skips)
    go false e h = ap (λ (t : Bool). cond t (l ∷ of_bid bid (m ∷ ms)) (of_bid bid (m ∷ ms))) (eq-eqb l.bid bid is)

-- putting claims in order keeps the order of one bid's claims
pub of-order : (bid : ℕ) (ls : List Claim) → Strict ls → of_bid bid (in_order ls) ≡ of_bid bid ls
of-order bid [] h = refl
of-order bid (l ∷ ls) h = go (eqb l.bid bid) refl (of-order bid ls h.1)
  where
    go : (t : Bool) → eqb l.bid bid ≡ t → of_bid bid (in_order ls) ≡ of_bid bid ls → of_bid bid (insert l (in_order ls)) ≡ cond t (l ∷ of_bid bid ls) (of_bid bid ls)
    go true e rest =
        insert-own bid l (in_order ls) (eqb-true l.bid bid e) (each-order (Above l) ls h.0) ∙ ap (l ∷◌) rest
    go false e rest = insert-other bid l (in_order ls) (eqb-false l.bid bid e) ∙ rest
