-- A field that is written is read, and one that is read is in the text as it is written. The same holds of numbers in a row.
use mathlib.Core.Path.{◌≡◌, refl, sym, ◌∙◌, ap, ap₂, subst}
use mathlib.Core.Bool.{Bool, true, false, cond, ◌&&◌}
use mathlib.Core.List.{List, [], ◌∷◌, ◌++◌, append_assoc}
use Prim.Native.Nat.{ℕ, zero, suc, ◌+◌, ◌≤◌, ◌<◌, ◌^◌}
use native.Mathlib.Omega.{arith}
use lib.Dec.{leb, eqb}
use lib.ListN.{length, get_or, drop, length-append, get_or-eq_default}
use lib.Seq.{drop-append_seam, drop-drop, drop-cons, get_or_at}
use borrow.Author.Tests.{leb-true, leb-false, le-leb, eqb-true, eq-eqb}
use Rattle.market.proofs.Tests.{left-true, right-true}
use Rattle.market.specs.Books.{every}
use Rattle.text_numbers.proofs.DecimalLaws.{number-written, number_read, number-length, number-below, decimal-some}
use Rattle.text_numbers.specs.Decimal.{decimal, is_digit, number_at}
use Rattle.text_numbers.specs.declared.Number.{Number}
use Rattle.text_fields.specs.Fields.{space, newline, field_of, field_at, both, numbers_used, numbers_said, numbers_line, field_text, numbers_text}
use Rattle.text_fields.specs.declared.Field.{Field}

-- ---- Bytes at the front of a text

abbrev pub Front : List ℕ → List ℕ → Type 0
Front w text = text ≡ w ++ drop (length w) text

pub front-here : (w rest : List ℕ) → Front w (w ++ rest)
front-here w rest = ap (λ (l : List ℕ). w ++ l) (sym (drop-append_seam w rest))

-- first bytes, and then others after them
pub front-both : (w v text : List ℕ) → Front w text → Front v (drop (length w) text) → Front (w ++ v) text
front-both w v text first second =
    first
    ∙ ap (λ (l : List ℕ). w ++ l) (second ∙ ap (λ (l : List ℕ). v ++ l) (drop-drop (length v) (length w) text))
    ∙ sym (append_assoc w v (drop (length w + length v) text))
    ∙ ap (λ (n : ℕ). (w ++ v) ++ drop n text) (sym (length-append w v))

-- ---- A field

-- a byte that is not 0 is in the text, not past its end
stands : (text : List ℕ) (i stop : ℕ) → get_or text i 0 ≡ stop → 1 ≤ stop → drop i text ≡ stop ∷ drop (i + 1) text
stands text i stop is some = go (leb (length text) i) refl
  where
    go : (t : Bool) → leb (length text) i ≡ t → drop i text ≡ stop ∷ drop (i + 1) text
    go true e = absurd (let none : ⊥ = omega (arith, is, get_or-eq_default text 0 {n = i} (leb-true (length text) i e)) in none)
    go false e =
        drop-cons text i 0 (leb-false (length text) i e)
        ∙ ap₂ ◌∷◌ is (ap (λ (k : ℕ). drop k text) (let more : suc i ≡ i + 1 = omega arith in more))

pub field-written : (limit stop n : ℕ) (rest : List ℕ) → n ≤ limit → n < 10 ^ 13 → is_digit stop ≡ false → field_at limit stop (field_text n stop ++ rest) ≡ record {
  value =
      n;
  used = length (field_text n stop);
}
field-written limit stop n rest within below other =
    let digits = length (decimal n) in
    let tail = decimal n ++ (stop ∷ rest) in
    ap (field_at limit stop) (append_assoc (decimal n) (stop ∷ []) rest)
    ∙ ap (field_of limit stop tail) (number-written n stop rest below other)
    ∙ ap (λ (t : Bool). cond t (let f : Field = record { value = n; used = digits + 1 } in f) (record { value = 0; used = 0 }))
    (ap₂ ◌&&◌ (ap₂ ◌&&◌ (le-leb 1 digits (decimal-some n)) (le-leb n limit within))
    (eq-eqb (get_or tail digits 0) stop (get_or_at (decimal n) stop rest 0 digits refl)))
    ∙ ap (λ (used : ℕ). record { value = n; used = used }) (sym (length-append (decimal n) (stop ∷ [])))

pub record FieldRead (limit stop : ℕ) (text : List ℕ) (f : Field) : Type 0 where
  pub front : Front (field_text f.value stop) text
  pub long : f.used ≡ length (field_text f.value stop)
  pub within : f.value ≤ limit
  pub below : f.value < 10 ^ 13

pub field-read : (limit stop : ℕ) (text : List ℕ) → 1 ≤ stop → 1 ≤ (field_at limit stop text).used → FieldRead limit stop text (field_at limit stop text)
field-read limit stop text some = go (here && ends) refl
  where
    n : Number
    n = number_at text

    here : Bool
    here = leb 1 n.digits && leb n.value limit

    ends : Bool
    ends = eqb (get_or text n.digits 0) stop

    f : Bool → Field
    f t = cond t (record { value = n.value; used = n.digits + 1 }) (record { value = 0; used = 0 })

    go : (t : Bool) → (here && ends) ≡ t → 1 ≤ (f t).used → FieldRead limit stop text (f t)
    go true e used =
        let one : 1 ≤ n.digits = leb-true 1 n.digits (left-true (leb 1 n.digits) (leb n.value limit) (left-true here ends e)) in
        let byte = eqb-true (get_or text n.digits 0) stop (right-true here ends e) in
        let long : length (field_text n.value stop) ≡ n.digits + 1 =
        length-append (decimal n.value) (stop ∷ []) ∙ ap (λ (k : ℕ). k + 1) (sym (number-length text one)) in
        record {
          front =
              sym (number_read text one)
              ∙ ap (λ (l : List ℕ). decimal n.value ++ l) (stands text n.digits stop byte some)
              ∙ sym (append_assoc (decimal n.value) (stop ∷ []) (drop (n.digits + 1) text))
              ∙ ap (λ (k : ℕ). field_text n.value stop ++ drop k text) (sym long);
          long = sym long;
          within = leb-true n.value limit (right-true (leb 1 n.digits) (leb n.value limit) (left-true here ends e));
          below = number-below text one;
        }
    go false e used = absurd (let none : ⊥ = omega arith in none)

-- and its number is the one at the front of the text
pub field-value : (limit stop : ℕ) (text : List ℕ) → 1 ≤ (field_at limit stop text).used → (field_at limit stop text).value ≡ (number_at text).value
field-value limit stop text = go (leb 1 n.digits && leb n.value limit && eqb (get_or text n.digits 0) stop)
  where
    n : Number
    n = number_at text

    f : Bool → Field
    f t = cond t (record { value = n.value; used = n.digits + 1 }) (record { value = 0; used = 0 })

    go : (t : Bool) → 1 ≤ (f t).used → (f t).value ≡ n.value
    go true used = refl
    go false used = absurd (let none : ⊥ = omega arith in none)

-- ---- Numbers one after another

pub text-cons : (last n : ℕ) (ns : List ℕ) → 1 ≤ length ns → numbers_text last (n ∷ ns) ≡ field_text n space ++ numbers_text last ns
text-cons last n [] h = absurd (let none : ⊥ = omega arith in none)
text-cons last n (m ∷ ns) h = refl

-- if the last is ended by a newline, they are a line
pub line-text : (n : ℕ) (ns : List ℕ) → numbers_text newline (n ∷ ns) ≡ numbers_line (n ∷ ns)
line-text n [] = refl
line-text n (m ∷ ns) =
    append_assoc (decimal n) (space ∷ []) (numbers_text newline (m ∷ ns))
    ∙ ap (λ (l : List ℕ). decimal n ++ (space ∷ l)) (line-text m ns)

-- numbers of which the last is ended by a space can be followed by more numbers
pub text-join : (last n : ℕ) (ns : List ℕ) (m : ℕ) (ms : List ℕ) → numbers_text last ((n ∷ ns) ++ (m ∷ ms)) ≡ numbers_text space (n ∷ ns) ++ numbers_text last (m ∷ ms)
text-join last n [] m ms = refl
text-join last n (k ∷ ns) m ms =
    ap (λ (l : List ℕ). field_text n space ++ l) (text-join last k ns m ms)
    ∙ sym (append_assoc (field_text n space) (numbers_text space (k ∷ ns)) (numbers_text last (m ∷ ms)))

pub field-some : (n stop : ℕ) → 1 ≤ length (field_text n stop)
field-some n stop = omega (arith, length-append (decimal n) (stop ∷ []))

pub text-some : (last n : ℕ) (ns : List ℕ) → 1 ≤ length (numbers_text last (n ∷ ns))
text-some last n [] = field-some n last
text-some last n (m ∷ ns) =
    omega (arith, field-some n space, length-append (field_text n space) (numbers_text last (m ∷ ns)))

pub both_some : (m n : ℕ) → 1 ≤ m → 1 ≤ n → both m n ≡ m + n
both_some zero n h k = absurd (let none : ⊥ = omega arith in none)
both_some (suc m) zero h k = absurd (let none : ⊥ = omega arith in none)
both_some (suc m) (suc n) h k = refl

pub both-stand : (m n : ℕ) → 1 ≤ both m n → (1 ≤ m) × (1 ≤ n) × (both m n ≡ m + n)
both-stand zero n h = absurd (let none : ⊥ = omega arith in none)
both-stand (suc m) zero h = absurd (let none : ⊥ = omega arith in none)
both-stand (suc m) (suc n) h = (omega arith, omega arith, refl)

abbrev pub within : ℕ → ℕ → Bool
within limit n = leb n limit

-- numbers that are written are read
module _ (limit last : ℕ) (few : limit < 10 ^ 13) (other : is_digit last ≡ false) where
  first-written :
      (n :
      ℕ) (ns : List ℕ) (rest : List ℕ) → every (within limit) (n ∷ ns) ≡ true → (stop : ℕ) → is_digit stop ≡ false
      → field_at limit stop (field_text n stop ++ rest) ≡ record { value = n; used = length (field_text n stop) }
  first-written n ns rest all stop plain =
      let most : n ≤ limit = leb-true n limit (left-true (leb n limit) (every (within limit) ns) all) in
      field-written limit stop n rest most (omega arith) plain

  pub used-written :
      (n : ℕ) (ns rest : List ℕ) → every (within limit) (n ∷ ns) ≡ true
      → numbers_used limit last (suc (length ns)) (numbers_text last (n ∷ ns) ++ rest) ≡ length (numbers_text last (n ∷ ns))
  used-written n [] rest all = ap (λ (f : Field). f.used) (first-written n [] rest all last other)
  used-written n (m ∷ ns) rest all =
      let more = numbers_text last (m ∷ ns) in
      ap (numbers_used limit last (suc (suc (length ns)))) (append_assoc (field_text n space) more rest)
      ∙ ap (λ (f : Field). both f.used (numbers_used limit last (suc (length ns)) (drop f.used (field_text n space ++ (more ++ rest)))))
      (first-written n (m ∷ ns) (more ++ rest) all space refl)
      ∙ ap (λ (l : List ℕ). both (length (field_text n space)) (numbers_used limit last (suc (length ns)) l)) (drop-append_seam (field_text n space) (more ++ rest))
      ∙ ap (both (length (field_text n space))) (used-written m ns rest (right-true (leb n limit) (every (within limit) (m ∷ ns)) all))
      ∙ both_some (length (field_text n space)) (length more) (field-some n space) (text-some last m ns)
      ∙ sym (length-append (field_text n space) more)

  pub said-written : (n : ℕ) (ns rest : List ℕ) → every (within limit) (n ∷ ns) ≡ true → numbers_said limit last (suc (length ns)) (numbers_text last (n ∷ ns) ++ rest) ≡ n ∷ ns
  said-written n [] rest all = ap (λ (f : Field). f.value ∷ []) (first-written n [] rest all last other)
  said-written n (m ∷ ns) rest all =
      let more = numbers_text last (m ∷ ns) in
      ap (numbers_said limit last (suc (suc (length ns)))) (append_assoc (field_text n space) more rest)
      ∙ ap (λ (f : Field). f.value ∷ numbers_said limit last (suc (length ns)) (drop f.used (field_text n space ++ (more ++ rest))))
      (first-written n (m ∷ ns) (more ++ rest) all space refl)
      ∙ ap (λ (l : List ℕ). n ∷ numbers_said limit last (suc (length ns)) l) (drop-append_seam (field_text n space) (more ++ rest))
      ∙ ap (λ (l : List ℕ). n ∷ l) (said-written m ns rest (right-true (leb n limit) (every (within limit) (m ∷ ns)) all))

-- numbers that are read are in the text as they are written
pub record NumbersRead (limit last k : ℕ) (text : List ℕ) : Type 0 where
  pub front : Front (numbers_text last (numbers_said limit last k text)) text
  pub long : numbers_used limit last k text ≡ length (numbers_text last (numbers_said limit last k text))
  pub count : length (numbers_said limit last k text) ≡ k
  pub all : every (within limit) (numbers_said limit last k text) ≡ true

pub numbers-read : (limit last k : ℕ) (text : List ℕ) → 1 ≤ last → 1 ≤ numbers_used limit last (suc k) text → NumbersRead limit last (suc k) text
numbers-read limit last zero text some used =
    let r = field-read limit last text some used in
    record {
      front = r.front;
      long = r.long;
      count = refl;
      all = ap (λ (t : Bool). t && true) (le-leb (field_at limit last text).value limit r.within);
    }
numbers-read limit last (suc k) text some used =
    let f = field_at limit space text in
    let parts = both-stand f.used (numbers_used limit last (suc k) (drop f.used text)) used in
    joined parts.2 (field-read limit space text (omega arith) parts.0) (numbers-read limit last k (drop f.used text) some parts.1)
  where
    f : Field
    f = field_at limit space text

    rest : List ℕ
    rest = drop f.used text

    joined :
        both f.used (numbers_used limit last (suc k) rest) ≡ f.used + numbers_used limit last (suc k) rest → FieldRead limit space text f → NumbersRead limit last (suc k) rest
        → NumbersRead limit last (suc (suc k)) text
    joined sum first more =
        let ns = numbers_said limit last (suc k) rest in
        let ft = field_text f.value space in
        let mt = numbers_text last ns in
        let cons : numbers_text last (f.value ∷ ns) ≡ ft ++ mt = text-cons last f.value ns (omega (arith, more.count)) in
        record {
          front =
              subst (λ (w : List ℕ). Front w text) (sym cons)
              (front-both ft mt text first.front (subst (λ (n : ℕ). Front mt (drop n text)) first.long more.front));
          long = sum ∙ ap₂ ◌+◌ first.long more.long ∙ sym (length-append ft mt) ∙ ap length (sym cons);
          count = ap suc more.count;
          all = ap₂ ◌&&◌ (le-leb f.value limit first.within) more.all;
        }
