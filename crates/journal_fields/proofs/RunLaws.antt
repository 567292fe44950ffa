-- Laws about what is written at the front of a list.
use mathlib.Core.Path.{◌≡◌, sym, ◌∙◌, ap}
use mathlib.Core.List.{List, [], ◌∷◌, ◌++◌, append_assoc}
use Prim.Native.Nat.{ℕ, suc, ◌+◌, ◌≤◌, ◌<◌}
use native.Mathlib.Omega.{arith}
use lib.ListN.{length, drop, set, get_or, length-append, length-drop}
use lib.Seq.{drop-cons, set_at}
use Rattle.market.specs.Books.{with_front}

-- one more element after what is written
pub laid_more : {X : Type 0} (xs list : List X) (i : ℕ) (x : X) → length xs ≡ i → i < length list → set (with_front xs list) i x ≡ with_front (xs ++ (x ∷ [])) list
laid_more xs list i x e h =
    let d = get_or list i x in
    let n : length (xs ++ (x ∷ [])) ≡ suc i = length-append xs (x ∷ []) ∙ (let k : length xs + 1 ≡ suc i = omega arith in k) in
    ap (λ (k : ℕ). set (xs ++ drop k list) i x) e
    ∙ ap (λ l. set (xs ++ l) i x) (drop-cons list i x h)
    ∙ set_at xs d (drop (suc i) list) x i e
    ∙ sym (append_assoc xs (x ∷ []) (drop (suc i) list))
    ∙ ap (λ (k : ℕ). (xs ++ (x ∷ [])) ++ drop k list) (sym n)

pub laid-length : {X : Type 0} (xs list : List X) → length xs ≤ length list → length (with_front xs list) ≡ length list
laid-length xs list h =
    length-append xs (drop (length xs) list) ∙ (let k : length xs + length (drop (length xs) list) ≡ length list = omega (arith, length-drop (length xs) list) in k)
