-- Laws about arrays that a closure makes, by the place or of each element, where each call leaves the closure as it was.
use mathlib.Core.Path.{◌≡◌, refl, sym, ◌∙◌, ap, subst}
use mathlib.Core.Bool.{Bool, true, false}
use mathlib.Core.List.{List, [], ◌∷◌, map}
use Prim.Native.Nat.{ℕ, zero, suc, ◌+◌, ◌≤◌, ◌<◌}
use native.Mathlib.Omega.{arith}
use lib.Dec.{ltb}
use lib.ListN.{length, get_or, length-map, get_or-map}
use lib.Seq.{ext_get_or}
use denote.Param.Members.{Mut, Called}
use borrow.Author.Tests.{ltb-true, ltb-false}
use Rattle.std.proofs.lemmas.Iterator.Adapters.{serves_from_places}
use Rattle.std.specs.Array.{IsFromFnResult, IsFromFnResultFrom, IsMapOf, MapsFrom, list_steps, index_steps}
use Rattle.std.specs.Fn.{Takes}
use Rattle.std.specs.Iterator.{AlwaysYields, CallableAtEachTurn}
use Rattle.std.specs.List.{FoldsTo}

-- ---- made by the place
module _ {F X : Type 0} (g : Mut F (ℕ × Unit {0}) X) (made : F) (f : ℕ → X) (calls : (i : ℕ) (x : X) (q : F) → Called g made (i, tt) x q → (q ≡ made) × (x ≡ f i)) (xs : List X) where
  each-made : (i n : ℕ) (q : F) → q ≡ made → IsFromFnResultFrom g q xs i n → (k : ℕ) (d : X) → i ≤ k → k < i + n → get_or xs k d ≡ f k
  each-made i zero q same from k d low high = absurd (omega arith)
  each-made i (suc n) q same from k d low high =
      let one = calls i from.1 from.0 (subst (λ (s : F). Called g s (i, tt) from.1 from.0) same from.3) in
      go (ltb i k) refl (λ (e : X). from.2.1 e ∙ one.1) (λ below. each-made (i + 1) n from.0 one.0 from.4 k d (omega arith) (omega arith))
    where
      go : (t : Bool) → ltb i k ≡ t → ((e : X) → get_or xs i e ≡ f i) → (i < k → get_or xs k d ≡ f k) → get_or xs k d ≡ f k
      go true e here rest = rest (ltb-true i k e)
      go false e here rest =
          let last : i ≡ k = omega (arith, ltb-false i k e) in
          subst (λ (j : ℕ). get_or xs j d ≡ f j) last (here d)

  pub made-at : (n : ℕ) → IsFromFnResult g made xs n → (k : ℕ) (d : X) → k < n → get_or xs k d ≡ f k
  made-at n result k d below = each-made 0 n made refl result.each k d (omega arith) (omega arith)

-- ---- made of each element
module _ {F A B : Type 0} (g : Mut F (A × Unit {0}) B) (made : F) (f : A → B) (calls : (x : A) (y : B) (q : F) → Called g made (x, tt) y q → (q ≡ made) × (y ≡ f x)) where
  each-mapped : (xs : List A) (ys : List B) (i n : ℕ) (q : F) → q ≡ made → MapsFrom g q xs ys i n → (k : ℕ) (d : A) (e : B) → i ≤ k → k < i + n → get_or ys k e ≡ f (get_or xs k d)
  each-mapped xs ys i zero q same from k d e low high = absurd (omega arith)
  each-mapped xs ys i (suc n) q same from k d e low high =
      let one = calls from.1 from.2 from.0 (subst (λ (s : F). Called g s (from.1, tt) from.2 from.0) same from.5) in
      go (ltb i k) refl (from.4.1 e ∙ one.1 ∙ ap f (sym (from.3.1 d)))
      (λ below. each-mapped xs ys (i + 1) n from.0 one.0 from.6 k d e (omega arith) (omega arith))
    where
      go : (t : Bool) → ltb i k ≡ t → get_or ys i e ≡ f (get_or xs i d) → (i < k → get_or ys k e ≡ f (get_or xs k d)) → get_or ys k e ≡ f (get_or xs k d)
      go true p here rest = rest (ltb-true i k p)
      go false p here rest =
          let last : i ≡ k = omega (arith, ltb-false i k p) in
          subst (λ (j : ℕ). get_or ys j e ≡ f (get_or xs j d)) last here

  pub mapped : (xs : List A) (ys : List B) (n : ℕ) → length xs ≡ n → (d : A) → IsMapOf g made xs ys n → ys ≡ map f xs
  mapped xs ys n long d result =
      ext_get_or (f d) ys (map f xs) (result.long ∙ sym long ∙ sym (length-map xs f))
      (λ (k : ℕ) (below : k < length ys).
      each-mapped xs ys 0 n made refl result.each k d (f d) (omega arith) (omega (arith, result.long)) ∙ sym (get_or-map f xs k d))

-- the elements of a list, one after another
road : {A : Type 0} (xs : List A) → AlwaysYields list_steps (λ x. x) xs xs
road [] = λ x j e. cc
road {A} (y ∷ ys) =
    (λ j e. cc, λ x j e. (cc, subst (λ (s : List A). AlwaysYields list_steps (λ (z : A). z) s ys) {x = ys} {y = j} (cc) (road ys)))

-- a closure that may be called at each element of a list may be called at each in turn
pub callable :
    {A F B : Type 0} (g : Mut F (A × Unit {0}) B) (made : F) (xs : List A) → ((x : A) (y : B) (q : F) → Called g made (x, tt) y q → q ≡ made)
    → ((x : A) (k : ℕ) → k < length xs → x ≡ get_or xs k x → Takes g made (x, tt))
    → CallableAtEachTurn list_steps (λ p x q. (y : B) × Called g p (x, tt) y q) (λ p x. Takes g p (x, tt)) xs made
callable g made xs same may = serves_from_places (record { runs = road xs }) (λ x q h. same x h.0 q h.1) may

-- and one that may be called at each number below `n` may be called at each in turn
module _ {F B : Type 0} (g : Mut F (ℕ × Unit {0}) B) (made : F) (same : (i : ℕ) (y : B) (q : F) → Called g made (i, tt) y q → q ≡ made) where
  kept : (is : List ℕ) (p q : F) → p ≡ made → FoldsTo (λ s i t. (y : B) × Called g s (i, tt) y t) p is q → q ≡ made
  kept [] p q is-made e = sym e ∙ is-made
  kept (i ∷ is) p q is-made steps =
      kept is steps.0 q (same i steps.1.0 steps.0 (subst (λ (s : F). Called g s (i, tt) steps.1.0 steps.0) is-made steps.1.1)) steps.2

  pub callable-at : (n : ℕ) → ((i : ℕ) → i < n → Takes g made (i, tt)) → CallableAtEachTurn (index_steps n) (λ p i q. (y : B) × Called g p (i, tt) y q) (λ p i. Takes g p (i, tt)) 0 made
  callable-at n may =
      record {
        at = λ is t q i u before calls next.
            subst (λ (s : F). Takes g s (i, tt)) (sym (kept is made q refl calls)) (may i (omega (arith, next.0, next.1)));
      }
