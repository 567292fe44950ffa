-- Arrays made by a call for each element of another.
use mathlib.Core.Path.{◌≡◌, refl, sym, ◌∙◌, ap, ap₂, subst}
use mathlib.Core.List.{List, [], ◌∷◌, map}
use Prim.Native.Nat.{ℕ, zero, suc, ◌<◌}
use native.Mathlib.Omega.{arith}
use lib.ListN.{length, get_or}
use Rattle.std.specs.Array.{list_steps}
use Rattle.std.specs.Iterator.{CallableAtEachTurn}
use Rattle.std.proofs.lemmas.Iterator.Adapters.{serves_from_places}
use Rattle.std.proofs.lemmas.List.{get_or_default}
use Rattle.std.proofs.lemmas.Iterator.Consumers.{YieldsList-from_shown}

-- a function that may be called at each element may be called at all of them in turn
pub serves_each :
    {A P : Type 0} {R : P → A → P → Type 0} {Q : P → A → Type 0} {p : P} (xs : List A) (d : A) → ((x : A) (q : P) → R p x q → q ≡ p)
    → ((k : ℕ) → k < length xs → Q p (get_or xs k d)) → CallableAtEachTurn list_steps R Q xs p
serves_each {Q = Q} {p = p} xs d same holds =
    serves_from_places (YieldsList-from_shown list_steps (λ x. x) (λ s. s) (λ s t e. ap (λ l. length l) e) (λ s x t e. e) xs) same
    (λ x k below is. subst (Q p) (get_or_default xs k d x below ∙ sym is) (holds k below))

-- a list is the image of another, if each element is
pub map_by_index :
    {A B C : Type 0} (f : A → C) (v : B → C) (xs : List A) (ys : List B) → length ys ≡ length xs
    → ((i : ℕ) (d : A) (e : B) → i < length xs → v (get_or ys i e) ≡ f (get_or xs i d)) → map v ys ≡ map f xs
map_by_index f v [] [] long each = refl
map_by_index f v [] (y ∷ ys) long each = cc
map_by_index f v (x ∷ xs) [] long each = cc
map_by_index f v (x ∷ xs) (y ∷ ys) long each =
    ap₂ ◌∷◌ (each zero x y (omega arith))
    (map_by_index f v xs ys (omega arith) (λ i d e below. each (suc i) d e (omega arith)))
