-- The words of a bid section, put one by one.
use mathlib.Core.Path.{◌≡◌, refl, sym, ◌∙◌, ap, ap₂, subst}
use mathlib.Core.Bool.{Bool, true, false, cond}
use mathlib.Core.List.{List, [], ◌∷◌, ◌++◌, append_assoc, append-nil}
use Prim.Native.Nat.{ℕ, suc, ◌+◌, ◌-◌, ◌≤◌, ◌<◌}
use native.Mathlib.Omega.{arith}
use lib.ListN.{length, get_or, set, drop, length-append, length-drop, length-set, drop_of_length-le}
use lib.Seq.{drop-cons, drop-drop, set_at}
use Rattle.text_numbers.proofs.DecimalLaws.{digits-split}
use Rattle.text_numbers.proofs.PutLaws.{put-none}
use Rattle.text_numbers.specs.Put.{put_at}
use Rattle.text_numbers.specs.Decimal.{digits_in, right_digits, number_at}
use Rattle.text_numbers.specs.declared.Number.{Number}
use Rattle.sheet_lines.specs.Lines.{count_used}
use Rattle.sheet_lines.specs.declared.part.Part.TheVariants.{Bids}
use Rattle.sheet_form.specs.Words.{word_of, numbers_in, section_words}
use Rattle.sheet_form.proofs.WordLaws.{numbers-cons, numbers-none}

-- a number is no longer than the text
pub digits-within : (text : List ℕ) → (number_at text).digits ≤ length text
digits-within text = go (right_digits ds)
  where
    ds : List ℕ
    ds = digits_in text

    go : (t : Bool) → cond t (length ds) 0 ≤ length text
    go true = omega (arith, ap length (digits-split text), length-append ds (drop (length ds) text))
    go false = omega arith

pub near-end : (text : List ℕ) (number : Number) → number ≡ number_at text → number.digits ≤ length text
near-end text number is = subst (λ (r : Number). r.digits ≤ length text) (sym is) (digits-within text)

-- ---- Words put one by one, as `words_of` does

put_front : (before front : List ℕ) → put_at before 0 front ≡ front ++ drop (length front) before
put_front before front =
    ap (λ (n : ℕ). front ++ drop n before) (let same : 0 + length front ≡ length front = omega arith in same)

-- one word after those that are put
put-behind : (before front : List ℕ) (n word : ℕ) → length front ≡ n → n < length before → set (put_at before 0 front) n word ≡ put_at before 0 (front ++ (word ∷ []))
put-behind before front n word long inside =
    ap (λ (l : List ℕ). set l n word)
    (put_front before front ∙ ap (λ (l : List ℕ). front ++ l) (drop-cons before (length front) 0 (omega (arith, long))))
    ∙ set_at front (get_or before (length front) 0) (drop (suc (length front)) before) word n long
    ∙ sym (append_assoc front (word ∷ []) (drop (suc (length front)) before))
    ∙ ap (λ (k : ℕ). (front ++ (word ∷ [])) ++ drop k before)
    (let next : suc (length front) ≡ length (front ++ (word ∷ [])) = omega (arith, length-append front (word ∷ [])) in next)
    ∙ sym (put_front before (front ++ (word ∷ [])))

pub record WordsTo (section before out : List ℕ) (n at : ℕ) : Type 0 where
  pub front : List ℕ
  pub long : length front ≡ n
  pub stored : out ≡ put_at before 0 front
  pub rest : section_words section ≡ front ++ numbers_in (length section - n) (drop at section)
  pub few : n ≤ at
  pub near : at ≤ length section + 1
  pub same : length out ≡ length before

pub none-put : (section out : List ℕ) (at : ℕ) → at ≡ count_used Bids section → 0 + at ≤ length section → WordsTo section out out 0 at
none-put section out at is fits =
    record {
      front = [];
      long = refl;
      stored = sym (put-none out 0);
      rest =
          ap (λ (k : ℕ). numbers_in (length section) (drop k section)) (sym is)
          ∙ ap (λ (f : ℕ). numbers_in f (drop at section)) (let all : length section ≡ length section - 0 = omega arith in all);
      few = omega arith;
      near = omega (arith, fits);
      same = refl;
    }

module _ (section before out : List ℕ) (n at : ℕ) (s : WordsTo section before out n at) where
  -- no byte is left
  all_there : length section ≤ at → section_words section ≡ s.front
  all_there end =
      s.rest
      ∙ ap (λ (l : List ℕ). s.front ++ numbers_in (length section - n) l) (drop_of_length-le section {i = at} end)
      ∙ ap (λ (l : List ℕ). s.front ++ l) (numbers-none (length section - n))
      ∙ append-nil s.front

  pub all-counted : length section ≤ at → n ≡ length (section_words section)
  all-counted end = sym s.long ∙ ap length (sym (all_there end))

  pub all-put : length section ≤ at → out ≡ put_at before 0 (section_words section)
  all-put end = s.stored ∙ ap (put_at before 0) (sym (all_there end))

  -- the number here
  pub one-put :
      (number :
      Number) (word : ℕ) → number ≡ number_at (drop at section) → word ≡ word_of number.value → at < length section → length section ≤ length before
      → WordsTo section before (set out n word) (n + 1) (at + (number.digits + 1))
  one-put number word is says inside room =
      let text = drop at section in
      let k = length section - (n + 1) in
      let fuel : length section - n ≡ suc k = omega (arith, s.few) in
      let step = number.digits + 1 in
      record {
        front = s.front ++ (word ∷ []);
        long = length-append s.front (word ∷ []) ∙ ap (λ (m : ℕ). m + 1) s.long;
        stored = ap (λ (l : List ℕ). set l n word) s.stored ∙ put-behind before s.front n word s.long (omega (arith, s.few));
        rest =
            s.rest
            ∙ ap (λ (f : ℕ). s.front ++ numbers_in f text) fuel
            ∙ ap (λ (l : List ℕ). s.front ++ l)
            (numbers-cons k text (let some : 1 ≤ length text = omega (arith, length-drop at section) in some)
            ∙ ap (λ (r : Number). word_of r.value ∷ numbers_in k (drop (r.digits + 1) text)) (sym is)
            ∙ ap₂ (λ (w : ℕ) (l : List ℕ). w ∷ numbers_in k l) (sym says) (drop-drop step at section))
            ∙ sym (append_assoc s.front (word ∷ []) (numbers_in k (drop (at + step) section)));
        few = omega (arith, s.few);
        near = omega (arith, near-end text number is, length-drop at section);
        same = length-set out n word ∙ s.same;
      }
