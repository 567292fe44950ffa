-- Each part of the bytes is what the one before leaves.
use Rattle.std.proofs.Common.{arith, ◌≡◌, ℕ, ◌+◌, ◌-◌, ◌<◌, List, ◌∷◌, ◌++◌, length, take, drop, get_or, append_assoc, add-one, refl}
use Rattle.std.proofs.lemmas.List.{take-append-drop, drop-drop}
use Rattle.std.proofs.lemmas.Grind.{common_steps}
use Rattle.std.proofs.Math.Seq.{split_at}
use Rattle.case_files.proofs.first_case.Goals as goal

whole : (xs : List ℕ) (a : ℕ) → take (length xs - a) (drop a xs) ≡ drop a xs
whole xs a = grind (arith, common_steps)

cut : (xs : List ℕ) (i : ℕ) → i < length xs → xs ≡ take i xs ++ (get_or xs i 0 ∷ take (length xs - (i + 1)) (drop (i + 1) xs))
cut xs i p = rw (whole xs (i + 1), add-one) (split_at xs i 0 p)

parts : (b s n r : List ℕ) (k u e c : ℕ) → s ≡ drop k b → n ≡ take (length s - u) (drop u s) → r ≡ take (length n - (e + 1)) (drop (e + 1) n)
    → e < length n → c < length r
    → (x : List ℕ) × (x' : ℕ) × (x'' : ℕ) × (b ≡ x ++ take e n ++ (x' ∷ (take c r ++ (x'' ∷ take (length r - (c + 1)) (drop (c + 1) r)))))
parts b s n r k u e c is_s is_n is_r e_in c_in =
    let w = whole s u in
    let from_b = take-append-drop k b in
    let from_s = take-append-drop u s in
    let from_n = cut n e e_in in
    let from_r = cut r c c_in in
    (take k b ++ take u s, get_or n e 0, get_or r c 0, simp append_assoc cc)

pub returns-clause-parts : goal.returns-clause-parts
returns-clause-parts c =
    let apart : c.in_ok-said.said.now ≡ drop (length c.args.word.now + 1) c.args.bytes.now =
    cc (c.in_ok-strip_prefix.ensures.cases.1, c.in_ok-said.ensures.cases.1, drop-drop 1 (length c.args.word.now) c.args.bytes.now) in
    parts _ _ _ _ _ c.field_at-size.result.used c.in_ok-end.end c.field_at-size.result.value apart refl refl (omega arith) (omega arith)
