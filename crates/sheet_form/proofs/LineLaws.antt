-- Each line of a sheet that is written is read, and each that is read is in the text as it is written.
use mathlib.Core.Path.{◌≡◌, refl, sym, ◌∙◌, ap, ap₂, subst}
use mathlib.Core.Bool.{Bool, true, false, cond, ◌&&◌, ◌||◌, false≢true}
use mathlib.Core.List.{List, [], ◌∷◌, ◌++◌, append_assoc}
use Prim.Native.Nat.{ℕ, ◌+◌, ◌≤◌, ◌<◌, ◌^◌}
use native.Mathlib.Omega.{arith}
use lib.Dec.{leb, ltb, eqb}
use lib.ListN.{length, get_or, drop, length-append}
use lib.Seq.{drop-append_seam}
use borrow.Author.Tests.{le-leb, ltb-true, eqb-true, eq-eqb}
use Rattle.market.proofs.Tests.{left-true, right-true}
use Rattle.market.specs.Books.{every}
use Rattle.market.specs.Limits.{bidder_limit}
use Rattle.market.specs.declared.book.Direction.{Direction}
use Rattle.market.specs.declared.book.Direction.TheVariants.{Export, Import}
use Rattle.text_numbers.specs.Decimal.{decimal}
use Rattle.text_fields.proofs.FieldLaws.{Front, front-both, field-written, field-read, field-some, line-text, text-some, both_some, both-stand, within, used-written, said-written, numbers-read}
use Rattle.text_fields.specs.Fields.{space, newline, count_line, word_top, amount_top, starts_with, word_spaced, field_at, both, numbers_used, numbers_said, field_text, numbers_text}
use Rattle.text_fields.specs.declared.Field.{Field}
use Rattle.sheet_lines.specs.Lines.{word_then, part_word, count_place, count_used, count_said, bidder_used, direction_byte, is_direction, route_used, path_used}
use Rattle.sheet_lines.specs.declared.part.Part.{Part}
use Rattle.sheet_form.specs.Reading.{bidder_line_of, bidder_line_at, import_if, direction_of, path_line_of, route_in, after_number, path_line_at}
use Rattle.sheet_form.specs.declared.rows.BidderLine.{BidderLine}
use Rattle.sheet_form.specs.declared.rows.PathLine.{PathLine}
use Rattle.sheet_form.specs.Sheet.{bidder_line, path_line, fits_word, fits_amount, right_path}

pub or_left : (s : Bool) → (s || false) ≡ true → s ≡ true
or_left true h = refl
or_left false h = h

-- ---- Words

pub starts-written : (w rest : List ℕ) → starts_with w (w ++ rest) ≡ true
starts-written [] rest = refl
starts-written (c ∷ w) rest = ap₂ ◌&&◌ (eq-eqb c c refl) (starts-written w rest)

pub starts-read : (w text : List ℕ) → starts_with w text ≡ true → Front w text
starts-read [] text h = refl
starts-read (c ∷ w) [] h = absurd (false≢true h)
starts-read (c ∷ w) (d ∷ text) h =
    ap₂ ◌∷◌ (sym (eqb-true c d (left-true (eqb c d) (starts_with w text) h)))
    (starts-read w text (right-true (eqb c d) (starts_with w text) h))

pub behind-written : (t : Bool) (w u : ℕ) → t ≡ true → 1 ≤ w → 1 ≤ u → word_then t w u ≡ w + u
behind-written true w u h one two = both_some w u one two
behind-written false w u h one two = absurd (false≢true h)

pub behind-read : (t : Bool) (w u : ℕ) → 1 ≤ word_then t w u → (t ≡ true) × (1 ≤ u) × (word_then t w u ≡ w + u)
behind-read true w u h = let parts = both-stand w u h in (refl, parts.1, parts.2)
behind-read false w u h = absurd (let none : ⊥ = omega arith in none)

-- ---- A count line

module _ (part : Part) where
  abbrev word : List ℕ
  word = word_spaced (part_word part)

  word_some : 1 ≤ length word
  word_some = omega (arith, length-append (part_word part) (space ∷ []))

  count-text : (n : ℕ) → count_line (part_word part) n ≡ word ++ field_text n newline
  count-text n = sym (append_assoc (part_word part) (space ∷ []) (field_text n newline))

  pub count-some : (n : ℕ) → 1 ≤ length (count_line (part_word part) n)
  count-some n = omega (arith, word_some, length-append word (field_text n newline), ap length (count-text n))

  module _ (n : ℕ) (rest : List ℕ) (most : n ≤ word_top) where
    count-field : field_at word_top newline (drop (count_place part) (count_line (part_word part) n ++ rest)) ≡ record { value = n; used = length (field_text n newline) }
    count-field =
        ap (λ (l : List ℕ). field_at word_top newline (drop (length word) (l ++ rest))) (count-text n)
        ∙ ap (λ (l : List ℕ). field_at word_top newline (drop (length word) l)) (append_assoc word (field_text n newline) rest)
        ∙ ap (field_at word_top newline) (drop-append_seam word (field_text n newline ++ rest))
        ∙ field-written word_top newline n rest most (omega arith) refl

    count-starts : starts_with word (count_line (part_word part) n ++ rest) ≡ true
    count-starts =
        ap (λ (l : List ℕ). starts_with word (l ++ rest)) (count-text n)
        ∙ ap (starts_with word) (append_assoc word (field_text n newline) rest)
        ∙ starts-written word (field_text n newline ++ rest)

    pub count-said : count_said part (count_line (part_word part) n ++ rest) ≡ n
    count-said = ap (λ (f : Field). f.value) count-field

    pub count-written : count_used part (count_line (part_word part) n ++ rest) ≡ length (count_line (part_word part) n)
    count-written =
        ap (λ (f : Field). word_then (starts_with word (count_line (part_word part) n ++ rest)) (count_place part) f.used) count-field
        ∙ behind-written (starts_with word (count_line (part_word part) n ++ rest)) (length word) (length (field_text n newline)) count-starts word_some (field-some n newline)
        ∙ sym (length-append word (field_text n newline))
        ∙ ap length (sym (count-text n))

  pub record CountRead (text : List ℕ) : Type 0 where
    pub front : Front (count_line (part_word part) (count_said part text)) text
    pub long : count_used part text ≡ length (count_line (part_word part) (count_said part text))
    pub most : count_said part text ≤ word_top

  pub count-read : (text : List ℕ) → 1 ≤ count_used part text → CountRead text
  count-read text used =
      let rest = drop (length word) text in
      let f = field_at word_top newline rest in
      let parts = behind-read (starts_with word text) (length word) f.used used in
      let r = field-read word_top newline rest (omega arith) parts.1 in
      let n = f.value in
      record {
        front =
            subst (λ (w : List ℕ). Front w text) (sym (count-text n))
            (front-both word (field_text n newline) text (starts-read word text parts.0) r.front);
        long = parts.2 ∙ ap (λ (k : ℕ). length word + k) r.long ∙ sym (length-append word (field_text n newline)) ∙ ap length (sym (count-text n));
        most = r.within;
      }

-- ---- A bidder's line

few-amounts : amount_top < 10 ^ 13
few-amounts = omega arith

few_words : word_top < 10 ^ 13
few_words = omega arith

cond-read : (t : Bool) (n : ℕ) → 1 ≤ cond t n 0 → (t ≡ true) × (cond t n 0 ≡ n)
cond-read true n h = (refl, refl)
cond-read false n h = absurd (let none : ⊥ = omega arith in none)

-- a bidder's line that is right, given the least number that it may have
abbrev pub right_bidder : ℕ → BidderLine → Bool
right_bidder least x = leb least x.bidder && ltb x.bidder bidder_limit && fits_amount x.cash && fits_amount x.letter

abbrev bidder_numbers : BidderLine → List ℕ
bidder_numbers x = x.bidder ∷ x.cash ∷ x.letter ∷ []

module _ (least : ℕ) (x : BidderLine) (rest : List ℕ) (right : right_bidder least x ≡ true) where
  abbrev rises : Bool
  rises = leb least x.bidder

  abbrev known : Bool
  known = ltb x.bidder bidder_limit

  numbered : (rises && known) ≡ true
  numbered = left-true (rises && known) (fits_amount x.cash) (left-true (rises && known && fits_amount x.cash) (fits_amount x.letter) right)

  bidder-fit : every (within amount_top) (bidder_numbers x) ≡ true
  bidder-fit =
      let below : x.bidder < bidder_limit = ltb-true x.bidder bidder_limit (right-true rises known numbered) in
      let cash = right-true (rises && known) (fits_amount x.cash) (left-true (rises && known && fits_amount x.cash) (fits_amount x.letter) right) in
      let letter = right-true (rises && known && fits_amount x.cash) (fits_amount x.letter) right in
      ap₂ ◌&&◌ (le-leb x.bidder amount_top (omega arith)) (ap₂ ◌&&◌ cash (ap₂ ◌&&◌ letter refl))

  bidder-text : bidder_line x ++ rest ≡ numbers_text newline (bidder_numbers x) ++ rest
  bidder-text = ap (λ (l : List ℕ). l ++ rest) (sym (line-text x.bidder (x.cash ∷ x.letter ∷ [])))

  bidder-said : numbers_said amount_top newline 3 (bidder_line x ++ rest) ≡ bidder_numbers x
  bidder-said =
      ap (numbers_said amount_top newline 3) bidder-text
      ∙ said-written amount_top newline few-amounts refl x.bidder (x.cash ∷ x.letter ∷ []) rest bidder-fit

  pub bidder-number : (field_at amount_top space (bidder_line x ++ rest)).value ≡ x.bidder
  bidder-number = ap (λ (l : List ℕ). get_or l 0 0) bidder-said

  pub bidder-again : bidder_line_of (numbers_said amount_top newline 3 (bidder_line x ++ rest)) ≡ x
  bidder-again = ap bidder_line_of bidder-said

  pub bidder-numbers : numbers_used amount_top newline 3 (bidder_line x ++ rest) ≡ length (bidder_line x)
  bidder-numbers =
      ap (numbers_used amount_top newline 3) bidder-text
      ∙ used-written amount_top newline few-amounts refl x.bidder (x.cash ∷ x.letter ∷ []) rest bidder-fit
      ∙ ap length (line-text x.bidder (x.cash ∷ x.letter ∷ []))

  pub bidder-written : bidder_used least (bidder_line x ++ rest) ≡ length (bidder_line x)
  bidder-written =
      ap (λ (t : Bool). cond t (numbers_used amount_top newline 3 (bidder_line x ++ rest)) 0)
      (ap (λ (n : ℕ). leb least n && ltb n bidder_limit) bidder-number ∙ numbered)
      ∙ bidder-numbers

pub record BidderRead (least : ℕ) (text : List ℕ) : Type 0 where
  pub front : Front (bidder_line (bidder_line_at text)) text
  pub long : bidder_used least text ≡ length (bidder_line (bidder_line_at text))
  pub numbers : bidder_used least text ≡ numbers_used amount_top newline 3 text
  pub right : right_bidder least (bidder_line_at text) ≡ true

pub bidder-read : (least : ℕ) (text : List ℕ) → 1 ≤ bidder_used least text → BidderRead least text
bidder-read least text used =
    let v = (field_at amount_top space text).value in
    let said = numbers_said amount_top newline 3 text in
    let parts = cond-read (leb least v && ltb v bidder_limit) (numbers_used amount_top newline 3 text) used in
    let r = numbers-read amount_top newline 2 text (omega arith) (omega (arith, parts.1)) in
    let x = bidder_line_at text in
    let same : numbers_text newline said ≡ bidder_line x = line-text x.bidder (x.cash ∷ x.letter ∷ []) in
    let behind-first = right-true (leb x.bidder amount_top) (every (within amount_top) (x.cash ∷ x.letter ∷ [])) r.all in
    let cash = left-true (leb x.cash amount_top) (every (within amount_top) (x.letter ∷ [])) behind-first in
    let letter = left-true (leb x.letter amount_top) true (right-true (leb x.cash amount_top) (every (within amount_top) (x.letter ∷ [])) behind-first) in
    record {
      front = subst (λ (w : List ℕ). Front w text) same r.front;
      long = parts.1 ∙ r.long ∙ ap length same;
      numbers = parts.1;
      right = ap₂ ◌&&◌ (ap₂ ◌&&◌ parts.0 cash) letter;
    }

-- ---- A path's line

direction-byte : (d : Direction) → is_direction (direction_byte d) ≡ true
direction-byte Export = refl
direction-byte Import = refl

direction-again : (d : Direction) → direction_of (direction_byte d) ≡ d
direction-again Export = refl
direction-again Import = refl

-- the byte of a direction is the byte of the direction that is read from it
direction-read : (c : ℕ) → is_direction c ≡ true → direction_byte (direction_of c) ≡ c
direction-read c h = go (eqb c (direction_byte Import)) refl
  where
    go : (t : Bool) → eqb c (direction_byte Import) ≡ t → direction_byte (import_if t) ≡ c
    go true e = sym (eqb-true c (direction_byte Import) e)
    go false e = sym (eqb-true c (direction_byte Export) (or_left (eqb c (direction_byte Export)) (ap (λ (t : Bool). eqb c (direction_byte Export) || t) (sym e) ∙ h)))

abbrev path_numbers : PathLine → List ℕ
path_numbers p = p.zone ∷ p.base ∷ p.upper ∷ p.first ∷ p.second ∷ []

-- the direction and the space after it
abbrev way_text : PathLine → List ℕ
way_text p = direction_byte p.direction ∷ space ∷ []

abbrev route_text : PathLine → List ℕ
route_text p = way_text p ++ numbers_text newline (path_numbers p)

path-text : (number : ℕ) (p : PathLine) → path_line number p ≡ field_text number space ++ route_text p
path-text number p =
    ap (λ (l : List ℕ). decimal number ++ (space ∷ direction_byte p.direction ∷ space ∷ l)) (sym (line-text p.zone (p.base ∷ p.upper ∷ p.first ∷ p.second ∷ [])))
    ∙ sym (append_assoc (decimal number) (space ∷ []) (route_text p))

pub path-some : (number : ℕ) (p : PathLine) → 1 ≤ length (path_line number p)
path-some number p =
    omega (
      arith,
      ap length (path-text number p),
      length-append (field_text number space) (route_text p),
      field-some number space,
    )

right-numbers : (p : PathLine) → right_path p ≡ true → every (within word_top) (path_numbers p) ≡ true
right-numbers p h =
    let a = fits_word p.zone in
    let b = fits_word p.base in
    let c = fits_word p.upper in
    let d = fits_word p.first in
    let e = fits_word p.second in
    let four = left-true (a && b && c && d) e h in
    let three = left-true (a && b && c) d four in
    let two = left-true (a && b) c three in
    ap₂ ◌&&◌ (left-true a b two)
    (ap₂ ◌&&◌ (right-true a b two)
    (ap₂ ◌&&◌ (right-true (a && b) c three)
    (ap₂ ◌&&◌ (right-true (a && b && c) d four) (ap₂ ◌&&◌ (right-true (a && b && c && d) e h) refl))))

numbers-right : (p : PathLine) → every (within word_top) (path_numbers p) ≡ true → right_path p ≡ true
numbers-right p h =
    let a = fits_word p.zone in
    let b = fits_word p.base in
    let c = fits_word p.upper in
    let d = fits_word p.first in
    let e = fits_word p.second in
    let from-b = right-true a (b && (c && (d && (e && true)))) h in
    let from-c = right-true b (c && (d && (e && true))) from-b in
    let from-d = right-true c (d && (e && true)) from-c in
    let from-e = right-true d (e && true) from-d in
    ap₂ ◌&&◌
    (ap₂ ◌&&◌
    (ap₂ ◌&&◌ (ap₂ ◌&&◌ (left-true a (b && (c && (d && (e && true)))) h) (left-true b (c && (d && (e && true))) from-b)) (left-true c (d && (e && true)) from-c))
    (left-true d (e && true) from-d))
    (left-true e true from-e)

module _ (p : PathLine) (rest : List ℕ) (right : right_path p ≡ true) where
  abbrev after : List ℕ
  after = route_text p ++ rest

  after_is : drop 2 after ≡ numbers_text newline (path_numbers p) ++ rest
  after_is = refl

  route-used : numbers_used word_top newline 5 (drop 2 after) ≡ length (numbers_text newline (path_numbers p))
  route-used = used-written word_top newline few_words refl p.zone (p.base ∷ p.upper ∷ p.first ∷ p.second ∷ []) rest (right-numbers p right)

  pub route-written : route_used after ≡ length (route_text p)
  route-written =
      ap (λ (n : ℕ). word_then (is_direction (direction_byte p.direction) && true) 2 n) route-used
      ∙ behind-written (is_direction (direction_byte p.direction) && true) 2 (length (numbers_text newline (path_numbers p)))
      (ap (λ (t : Bool). t && true) (direction-byte p.direction)) (omega arith) (text-some newline p.zone (p.base ∷ p.upper ∷ p.first ∷ p.second ∷ []))
      ∙ sym (length-append (way_text p) (numbers_text newline (path_numbers p)))

  pub route-again : route_in after ≡ p
  route-again =
      ap₂ path_line_of (direction-again p.direction)
      (said-written word_top newline few_words refl p.zone (p.base ∷ p.upper ∷ p.first ∷ p.second ∷ []) rest (right-numbers p right))

module _ (number : ℕ) (p : PathLine) (rest : List ℕ) (most : number ≤ word_top) (right : right_path p ≡ true) where
  path-whole : path_line number p ++ rest ≡ field_text number space ++ (route_text p ++ rest)
  path-whole =
      ap (λ (l : List ℕ). l ++ rest) (path-text number p) ∙ append_assoc (field_text number space) (route_text p) rest

  number-field : field_at word_top space (path_line number p ++ rest) ≡ record { value = number; used = length (field_text number space) }
  number-field = ap (field_at word_top space) path-whole ∙ field-written word_top space number (route_text p ++ rest) most (omega arith) refl

  pub path-after : after_number (path_line number p ++ rest) ≡ route_text p ++ rest
  path-after =
      ap (λ (f : Field). drop f.used (path_line number p ++ rest)) number-field
      ∙ ap (drop (length (field_text number space))) path-whole
      ∙ drop-append_seam (field_text number space) (route_text p ++ rest)

  pub path-again : route_in (after_number (path_line number p ++ rest)) ≡ p
  path-again = ap route_in path-after ∙ route-again p rest right

  pub path-written : path_used number (path_line number p ++ rest) ≡ length (path_line number p)
  path-written =
      ap (λ (t : Bool). cond t (both (field_at word_top space (path_line number p ++ rest)).used (route_used (after_number (path_line number p ++ rest)))) 0)
      (eq-eqb (field_at word_top space (path_line number p ++ rest)).value number (ap (λ (f : Field). f.value) number-field))
      ∙ ap₂ both (ap (λ (f : Field). f.used) number-field) (ap route_used path-after ∙ route-written p rest right)
      ∙ both_some (length (field_text number space)) (length (route_text p)) (field-some number space) (omega arith)
      ∙ sym (length-append (field_text number space) (route_text p))
      ∙ ap length (sym (path-text number p))

pub record PathRead (number : ℕ) (text : List ℕ) : Type 0 where
  pub front : Front (path_line number (path_line_at text)) text
  pub long : path_used number text ≡ length (path_line number (path_line_at text))
  pub most : number ≤ word_top
  pub right : right_path (path_line_at text) ≡ true

pub record RouteRead (text : List ℕ) : Type 0 where
  pub front : Front (route_text (route_in text)) text
  pub long : route_used text ≡ length (route_text (route_in text))
  pub right : right_path (route_in text) ≡ true

pub two_bytes : (text : List ℕ) (c d : ℕ) → get_or text 0 0 ≡ c → get_or text 1 0 ≡ d → 1 ≤ d → Front (c ∷ d ∷ []) text
two_bytes [] c d one two some = absurd (let none : ⊥ = omega (arith, two) in none)
two_bytes (x ∷ []) c d one two some = absurd (let none : ⊥ = omega (arith, two) in none)
two_bytes (x ∷ y ∷ text) c d one two some = ap₂ (λ (a b : ℕ). a ∷ b ∷ text) one two

pub route-read : (text : List ℕ) → 1 ≤ route_used text → RouteRead text
route-read text used =
    let c = get_or text 0 0 in
    let way = is_direction c in
    let gap = eqb (get_or text 1 0) space in
    let parts = behind-read (way && gap) 2 (numbers_used word_top newline 5 (drop 2 text)) used in
    let r = numbers-read word_top newline 4 (drop 2 text) (omega arith) parts.1 in
    let p = route_in text in
    let byte = direction-read c (left-true way gap parts.0) in
    record {
      front =
          front-both (way_text p) (numbers_text newline (path_numbers p)) text
          (two_bytes text (direction_byte p.direction) space (sym byte) (eqb-true (get_or text 1 0) space (right-true way gap parts.0)) (omega arith))
          r.front;
      long = parts.2 ∙ ap (λ (n : ℕ). 2 + n) r.long ∙ sym (length-append (way_text p) (numbers_text newline (path_numbers p)));
      right = numbers-right p r.all;
    }

pub path-read : (number : ℕ) (text : List ℕ) → 1 ≤ path_used number text → PathRead number text
path-read number text used =
    let f = field_at word_top space text in
    let parts = cond-read (eqb f.value number) (both f.used (route_used (after_number text))) used in
    let two = both-stand f.used (route_used (after_number text)) (omega (arith, parts.1)) in
    let r = field-read word_top space text (omega arith) two.0 in
    let route = route-read (after_number text) two.1 in
    let p = path_line_at text in
    let same : f.value ≡ number = eqb-true f.value number parts.0 in
    let whole : field_text f.value space ++ route_text p ≡ path_line number p =
    ap (λ (n : ℕ). field_text n space ++ route_text p) same ∙ sym (path-text number p) in
    record {
      front =
          subst (λ (w : List ℕ). Front w text) whole
          (front-both (field_text f.value space) (route_text p) text r.front (subst (λ (n : ℕ). Front (route_text p) (drop n text)) r.long route.front));
      long =
          parts.1 ∙ two.2 ∙ ap₂ ◌+◌ r.long route.long ∙ sym (length-append (field_text f.value space) (route_text p)) ∙ ap length whole;
      most = omega (arith, same, r.within);
      right = route.right;
    }
