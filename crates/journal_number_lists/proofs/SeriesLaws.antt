-- Laws about fields that are read one after another and written at the front of a list.
use mathlib.Core.Path.{◌≡◌, refl, sym, ◌∙◌, ap}
use mathlib.Core.Bool.{Bool, cond}
use mathlib.Core.List.{List, [], ◌∷◌, ◌++◌, append_assoc, append-nil}
use Prim.Native.Nat.{ℕ, suc, ◌+◌, ◌-◌, ◌≤◌, ◌<◌}
use native.Mathlib.Omega.{arith}
use lib.ListN.{length, drop, set, length-append}
use lib.Seq.{drop-drop}
use borrow.Author.Tests.{eq-eqb, ne_eqb}
use Rattle.journal_fields.specs.JournalFields.{fields_said, fields_used}
use Rattle.market.specs.Books.{with_front}
use Rattle.journal_fields.proofs.RunLaws.{laid_more, laid-length}

module _ {X : Type 0} (used : List ℕ → ℕ) (value : List ℕ → X) (line : List ℕ) (at : ℕ) (before : List X) where
  -- fields read from a place on: `i` of them so far, up to `place`
  pub record RunTo (i place : ℕ) (out : List X) : Type 0 where
    pub done : List X
    pub count : length done ≡ i
    pub most : i ≤ length before
    pub behind : at ≤ place
    pub inside : place ≤ length line
    pub list : out ≡ with_front done before
    pub said : fields_said used value (length before) (drop at line) ≡ done ++ fields_said used value (length before - i) (drop place line)
    pub bytes : fields_used used value (length before) (drop at line) + at ≡ place + fields_used used value (length before - i) (drop place line)

  pub run_none : at ≤ length line → RunTo 0 at before
  run_none h =
      record {
        done = [];
        count = refl;
        most = omega arith;
        behind = omega arith;
        inside = h;
        list = refl;
        said = ap (λ (k : ℕ). fields_said used value k (drop at line)) (sym whole);
        bytes = omega (arith, ap (λ (k : ℕ). fields_used used value k (drop at line)) whole);
      }
    where
      whole : length before - 0 ≡ length before
      whole = omega arith

  -- what a whole run is: how many fields, their bytes, that they fit the line, and the list
  abbrev pub Ran : ℕ → ℕ → List X → Type 0
  Ran count bytes out =
      (count ≡ length (fields_said used value (length before) (drop at line)))
      × ((bytes ≡ fields_used used value (length before) (drop at line))
      × ((at + bytes ≤ length line)
      × (out ≡ with_front (fields_said used value (length before) (drop at line)) before)))

  module _ (i place : ℕ) (out : List X) (to : RunTo i place out) where
    pub run_length : length out ≡ length before
    run_length = ap length to.list ∙ laid-length to.done before (omega (arith, to.count, to.most))

    abbrev rest : List ℕ
    rest = drop place line

    -- the fields end: what was read is all
    ended : fields_said used value (length before - i) rest ≡ [] → fields_used used value (length before - i) rest ≡ 0 → Ran i (place - at) out
    ended e z =
        let all : to.done ≡ fields_said used value (length before) (drop at line) = sym (to.said ∙ ap (λ l. to.done ++ l) e ∙ append-nil to.done) in (
          sym to.count ∙ ap length all,
          (omega (arith, to.bytes, z, to.behind), (omega (arith, to.behind, to.inside), to.list ∙ ap (λ l. with_front l before) all)),
        )

    pub run-full : length before ≤ i → Ran i (place - at) out
    run-full h =
        let z : length before - i ≡ 0 = omega arith in
        ended (ap (λ (k : ℕ). fields_said used value k rest) z) (ap (λ (k : ℕ). fields_used used value k rest) z)

    module _ (h : i < length before) where
      one_left : length before - i ≡ suc (length before - (i + 1))
      one_left = omega arith

      -- no further field is present
      pub run_ends : used rest ≡ 0 → Ran i (place - at) out
      run_ends z =
          let k = length before - (i + 1) in
          ended
          (ap (λ (n : ℕ). fields_said used value n rest) one_left
          ∙ ap (λ (t : Bool). cond t [] (value rest ∷ fields_said used value k (drop (used rest) rest))) (eq-eqb (used rest) 0 z))
          (ap (λ (n : ℕ). fields_used used value n rest) one_left
          ∙ ap (λ (t : Bool). cond t 0 (used rest + fields_used used value k (drop (used rest) rest))) (eq-eqb (used rest) 0 z))

      -- one more field is present
      pub run_more : (used rest ≡ 0 → ⊥) → place + used rest ≤ length line → RunTo (i + 1) (place + used rest) (set out i (value rest))
      run_more z room =
          let k = length before - (i + 1) in
          let next = drop (place + used rest) line in
          let further : drop (used rest) rest ≡ next = drop-drop (used rest) place line in
          let s : fields_said used value (length before - i) rest ≡ value rest ∷ fields_said used value k next =
          ap (λ (n : ℕ). fields_said used value n rest) one_left
          ∙ ap (λ (t : Bool). cond t [] (value rest ∷ fields_said used value k (drop (used rest) rest))) (ne_eqb (used rest) 0 z)
          ∙ ap (λ (l : List ℕ). value rest ∷ fields_said used value k l) further in
          let b : fields_used used value (length before - i) rest ≡ used rest + fields_used used value k next =
          ap (λ (n : ℕ). fields_used used value n rest) one_left
          ∙ ap (λ (t : Bool). cond t 0 (used rest + fields_used used value k (drop (used rest) rest))) (ne_eqb (used rest) 0 z)
          ∙ ap (λ (l : List ℕ). used rest + fields_used used value k l) further in
          record {
            done = to.done ++ (value rest ∷ []);
            count = length-append to.done (value rest ∷ []) ∙ (let n : length to.done + 1 ≡ i + 1 = omega (arith, to.count) in n);
            most = omega arith;
            behind = omega (arith, to.behind);
            inside = room;
            list =
                ap (λ l. set l i (value rest)) to.list
                ∙ laid_more to.done before i (value rest) to.count h;
            said =
                to.said ∙ ap (λ l. to.done ++ l) s
                ∙ sym (append_assoc to.done (value rest ∷ []) (fields_said used value k next));
            bytes = omega (arith, to.bytes, b);
          }
