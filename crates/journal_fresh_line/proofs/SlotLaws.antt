-- Laws about fields that are read to the end of a text, the first of them written in slots.
use mathlib.Core.Path.{◌≡◌, refl, sym, ◌∙◌, ap}
use mathlib.Core.Bool.{Bool, cond}
use mathlib.Core.List.{List, [], ◌∷◌, ◌++◌, append_assoc, append-nil}
use Prim.Native.Nat.{ℕ, zero, suc, ◌+◌, ◌-◌, ◌≤◌, ◌<◌}
use native.Mathlib.Omega.{arith}
use lib.ListN.{length, take, drop, set, length-append, length-take}
use lib.Seq.{drop-drop, take_all, take-append-le}
use borrow.Author.Tests.{eq-eqb, ne_eqb}
use Rattle.journal_fields.specs.JournalFields.{fields_said, fields_used}
use Rattle.market.specs.Books.{with_front}
use Rattle.journal_fields.proofs.RunLaws.{laid_more, laid-length}

take-most : {X : Type 0} (n : ℕ) (l : List X) → length (take n l) ≤ n
take-most n l = omega (arith, length-take n l)

module _ {X : Type 0} (used : List ℕ → ℕ) (value : List ℕ → X) (text : List ℕ) (before : List X) where
  abbrev said : ℕ → List ℕ → List X
  said = fields_said used value

  abbrev taken : ℕ → List ℕ → ℕ
  taken = fields_used used value

  -- fields read up to `place`, `i` of them
  pub record SlotsTo (i place : ℕ) (out : List X) : Type 0 where
    pub done : List X
    pub count : length done ≡ i
    pub few : i ≤ place
    pub inside : place ≤ length text
    pub list : out ≡ with_front (take (length before) done) before
    pub rest : said (length text) text ≡ done ++ said (length text - i) (drop place text)
    pub bytes : taken (length text) text ≡ place + taken (length text - i) (drop place text)

  pub slots-none : SlotsTo 0 0 before
  slots-none =
      let whole : length text - 0 ≡ length text = omega arith in
      record {
        done = [];
        count = refl;
        few = omega arith;
        inside = omega arith;
        list = sym (ap (λ l. with_front l before) (take_all (length before) [] (omega arith)));
        rest = ap (λ (k : ℕ). said k text) (sym whole);
        bytes = omega (arith, ap (λ (k : ℕ). taken k text) whole);
      }

  module _ (i place : ℕ) (out : List X) (to : SlotsTo i place out) where
    abbrev here : List ℕ
    here = drop place text

    pub slots_length : length out ≡ length before
    slots_length =
        ap length to.list ∙ laid-length (take (length before) to.done) before (omega (arith, take-most (length before) to.done))

    -- no further field is present: what was read is all
    module _ (none : used here ≡ 0) where
      gone-said : (k : ℕ) → said k here ≡ []
      gone-said zero = refl
      gone-said (suc k) =
          ap (λ (t : Bool). cond t [] (value here ∷ said k (drop (used here) here))) (eq-eqb (used here) 0 none)

      gone-taken : (k : ℕ) → taken k here ≡ 0
      gone-taken zero = refl
      gone-taken (suc k) =
          ap (λ (t : Bool). cond t 0 (used here + taken k (drop (used here) here))) (eq-eqb (used here) 0 none)

      all : to.done ≡ said (length text) text
      all = sym (to.rest ∙ ap (λ l. to.done ++ l) (gone-said (length text - i)) ∙ append-nil to.done)

      pub slots-count : i ≡ length (said (length text) text)
      slots-count = sym to.count ∙ ap length all

      pub slots-bytes : place ≡ taken (length text) text
      slots-bytes = omega (arith, to.bytes, gone-taken (length text - i))

      pub slots-list : out ≡ with_front (take (length before) (said (length text) text)) before
      slots-list = to.list ∙ ap (λ l. with_front (take (length before) l) before) all

    -- one more field is present
    module _ (some : used here ≡ 0 → ⊥) (room : place + used here ≤ length text) where
      abbrev more : List X
      more = to.done ++ (value here ∷ [])

      longer : length more ≡ i + 1
      longer = length-append to.done (value here ∷ []) ∙ (let n : length to.done + 1 ≡ i + 1 = omega (arith, to.count) in n)

      one_left : length text - i ≡ suc (length text - (i + 1))
      one_left = omega (arith, to.few, some)

      abbrev k : ℕ
      k = length text - (i + 1)

      abbrev next : List ℕ
      next = drop (place + used here) text

      further : drop (used here) here ≡ next
      further = drop-drop (used here) place text

      next-said : said (length text - i) here ≡ value here ∷ said k next
      next-said =
          ap (λ (n : ℕ). said n here) one_left
          ∙ ap (λ (t : Bool). cond t [] (value here ∷ said k (drop (used here) here))) (ne_eqb (used here) 0 some)
          ∙ ap (λ (l : List ℕ). value here ∷ said k l) further

      next-taken : taken (length text - i) here ≡ used here + taken k next
      next-taken =
          ap (λ (n : ℕ). taken n here) one_left
          ∙ ap (λ (t : Bool). cond t 0 (used here + taken k (drop (used here) here))) (ne_eqb (used here) 0 some)
          ∙ ap (λ (l : List ℕ). used here + taken k l) further

      slots-on : (after : List X) → after ≡ with_front (take (length before) more) before → SlotsTo (i + 1) (place + used here) after
      slots-on after e =
          record {
            done = more;
            count = longer;
            few = omega (arith, to.few, some);
            inside = room;
            list = e;
            rest = to.rest ∙ ap (λ l. to.done ++ l) next-said ∙ sym (append_assoc to.done (value here ∷ []) (said k next));
            bytes = omega (arith, to.bytes, next-taken);
          }

      -- there is a slot for it
      pub slots_set : i < length before → SlotsTo (i + 1) (place + used here) (set out i (value here))
      slots_set h =
          slots-on (set out i (value here))
          (ap (λ l. set l i (value here)) (to.list ∙ ap (λ l. with_front l before) (take_all (length before) to.done (omega (arith, to.count))))
          ∙ laid_more to.done before i (value here) to.count h
          ∙ ap (λ l. with_front l before) (sym (take_all (length before) more (omega (arith, longer)))))

      -- there is no slot for it
      pub slots-past : length before ≤ i → SlotsTo (i + 1) (place + used here) out
      slots-past h =
          slots-on out
          (to.list ∙ ap (λ l. with_front l before) (sym (take-append-le (length before) to.done (value here ∷ []) (omega (arith, to.count)))))
