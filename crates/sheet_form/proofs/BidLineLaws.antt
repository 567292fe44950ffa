-- A bid's line that is written is read, and one that is read is in the text as it is written.
use mathlib.Core.Path.{◌≡◌, refl, sym, ◌∙◌, ap, ap₂, subst}
use mathlib.Core.Bool.{true, ◌&&◌}
use mathlib.Core.List.{List, [], ◌∷◌, ◌++◌, append_assoc, append-nil}
use Prim.Native.Nat.{ℕ, zero, suc, ◌+◌, ◌*◌, ◌≤◌, ◌<◌, ◌^◌}
use native.Mathlib.Omega.{arith}
use lib.ListN.{length, get_or, drop, length-append, drop_of_length-le}
use lib.Seq.{drop-append_seam}
use borrow.Author.Tests.{leb-true}
use Rattle.market.proofs.Every.{every_append}
use Rattle.market.proofs.Tests.{left-true, right-true}
use Rattle.market.specs.Books.{every}
use Rattle.text_numbers.proofs.DecimalLaws.{number-written}
use Rattle.text_numbers.specs.Decimal.{decimal, number_at}
use Rattle.text_numbers.specs.declared.Number.{Number}
use Rattle.round_bids.proofs.EncodingLaws.{bid-back, bid-read, pairs-length}
use Rattle.round_bids.specs.Bids.{Bid, bid_at, bid_end}
use Rattle.round_bids.specs.Encoding.{pairs_encoded, bid_encoded}
use Rattle.text_fields.proofs.FieldLaws.{Front, front-both, field-value, line-text, text-join, text-some, both_some, both-stand, used-written, said-written, NumbersRead, numbers-read}
use Rattle.text_fields.specs.Fields.{space, newline, word_top, field_at, both, numbers_used, numbers_said, numbers_line, field_text, numbers_text}
use Rattle.sheet_lines.specs.Lines.{from_count, bid_used}
use Rattle.sheet_form.specs.Reading.{after_stamp, bid_words}
use Rattle.sheet_form.specs.Sheet.{bid_line, fits_word, right_bid}

-- ---- A bid in two parts: bidder, path and stamp, and the numbers from n on

abbrev heads : Bid → List ℕ
heads b = b.bidder ∷ b.path ∷ b.stamp ∷ []

abbrev pairs_of : Bid → List ℕ
pairs_of b = pairs_encoded b.laminations

abbrev heads_text : Bid → List ℕ
heads_text b = numbers_text space (heads b)

abbrev tail_text : Bid → List ℕ
tail_text b = numbers_text newline (length b.laminations ∷ pairs_of b)

bid-text : (b : Bid) → bid_line b ≡ heads_text b ++ tail_text b
bid-text b =
    sym (line-text b.bidder (b.path ∷ b.stamp ∷ length b.laminations ∷ pairs_of b))
    ∙ text-join newline b.bidder (b.path ∷ b.stamp ∷ []) (length b.laminations) (pairs_of b)

pub bid-some : (b : Bid) → 1 ≤ length (bid_line b)
bid-some b =
    omega (
      arith,
      ap length (bid-text b),
      length-append (heads_text b) (tail_text b),
      text-some newline (length b.laminations) (pairs_of b),
    )

-- the first of the numbers that are written
first-number : (n : ℕ) (ns rest : List ℕ) → n < 10 ^ 13 → (number_at (numbers_text newline (n ∷ ns) ++ rest)).value ≡ n
first-number n [] rest few =
    ap (λ (l : List ℕ). (number_at l).value) (append_assoc (decimal n) (newline ∷ []) rest)
    ∙ ap (λ (r : Number). r.value) (number-written n newline rest few refl)
first-number n (m ∷ ns) rest few =
    let more = numbers_text newline (m ∷ ns) in
    ap (λ (l : List ℕ). (number_at l).value) (append_assoc (field_text n space) more rest ∙ append_assoc (decimal n) (space ∷ []) (more ++ rest))
    ∙ ap (λ (r : Number). r.value) (number-written n space (more ++ rest) few refl)

-- ---- Written

module _ (b : Bid) (rest : List ℕ) (right : right_bid b ≡ true) where
  abbrev n : ℕ
  n = length b.laminations

  abbrev whole : List ℕ
  whole = bid_line b ++ rest

  from-path : every fits_word (b.path ∷ b.stamp ∷ n ∷ pairs_of b) ≡ true
  from-path = right-true (fits_word b.bidder) (every fits_word (b.path ∷ b.stamp ∷ n ∷ pairs_of b)) right

  from-stamp : every fits_word (b.stamp ∷ n ∷ pairs_of b) ≡ true
  from-stamp = right-true (fits_word b.path) (every fits_word (b.stamp ∷ n ∷ pairs_of b)) from-path

  tail-right : every fits_word (n ∷ pairs_of b) ≡ true
  tail-right = right-true (fits_word b.stamp) (every fits_word (n ∷ pairs_of b)) from-stamp

  heads-right : every fits_word (heads b) ≡ true
  heads-right =
      ap₂ ◌&&◌ (left-true (fits_word b.bidder) (every fits_word (b.path ∷ b.stamp ∷ n ∷ pairs_of b)) right)
      (ap₂ ◌&&◌ (left-true (fits_word b.path) (every fits_word (b.stamp ∷ n ∷ pairs_of b)) from-path)
      (ap₂ ◌&&◌ (left-true (fits_word b.stamp) (every fits_word (n ∷ pairs_of b)) from-stamp) refl))

  few : n ≤ word_top
  few = leb-true n word_top (left-true (fits_word n) (every fits_word (pairs_of b)) tail-right)

  whole_is : whole ≡ heads_text b ++ (tail_text b ++ rest)
  whole_is = ap (λ (l : List ℕ). l ++ rest) (bid-text b) ∙ append_assoc (heads_text b) (tail_text b) rest

  heads-used : numbers_used word_top space 3 whole ≡ length (heads_text b)
  heads-used =
      ap (numbers_used word_top space 3) whole_is
      ∙ used-written word_top space (omega arith) refl b.bidder (b.path ∷ b.stamp ∷ []) (tail_text b ++ rest) heads-right

  heads-said : numbers_said word_top space 3 whole ≡ heads b
  heads-said =
      ap (numbers_said word_top space 3) whole_is
      ∙ said-written word_top space (omega arith) refl b.bidder (b.path ∷ b.stamp ∷ []) (tail_text b ++ rest) heads-right

  after_is : after_stamp whole ≡ tail_text b ++ rest
  after_is =
      ap (λ (k : ℕ). drop k whole) heads-used
      ∙ ap (drop (length (heads_text b))) whole_is
      ∙ drop-append_seam (heads_text b) (tail_text b ++ rest)

  count-is : from_count (after_stamp whole) ≡ suc (length (pairs_of b))
  count-is =
      ap from_count after_is
      ∙ ap (λ (k : ℕ). 1 + 2 * k) (first-number n (pairs_of b) rest (omega (arith, few)))
      ∙ (let same : 1 + 2 * n ≡ suc (length (pairs_of b)) = omega (arith, pairs-length b.laminations) in same)

  tail-used : numbers_used word_top newline (from_count (after_stamp whole)) (after_stamp whole) ≡ length (tail_text b)
  tail-used =
      ap₂ (numbers_used word_top newline) count-is after_is
      ∙ used-written word_top newline (omega arith) refl n (pairs_of b) rest tail-right

  tail-said : numbers_said word_top newline (from_count (after_stamp whole)) (after_stamp whole) ≡ n ∷ pairs_of b
  tail-said =
      ap₂ (numbers_said word_top newline) count-is after_is
      ∙ said-written word_top newline (omega arith) refl n (pairs_of b) rest tail-right

  pub bid-written : bid_used whole ≡ length (bid_line b)
  bid-written =
      ap₂ both heads-used tail-used
      ∙ both_some (length (heads_text b)) (length (tail_text b)) (text-some space b.bidder (b.path ∷ b.stamp ∷ [])) (text-some newline n (pairs_of b))
      ∙ sym (length-append (heads_text b) (tail_text b))
      ∙ ap length (sym (bid-text b))

  pub words-written : bid_words whole ≡ bid_encoded b
  words-written = ap₂ ◌++◌ heads-said tail-said

  pub bid-again : bid_at (bid_words whole) 0 ≡ b
  bid-again =
      ap (λ (words : List ℕ). bid_at words 0) words-written
      ∙ bid-read (bid_encoded b) [] b 0 (sym (append-nil (bid_encoded b)))

-- ---- Read

pub record BidRead (text : List ℕ) : Type 0 where
  pub front : Front (bid_line (bid_at (bid_words text) 0)) text
  pub long : bid_used text ≡ length (bid_line (bid_at (bid_words text) 0))
  pub words : bid_encoded (bid_at (bid_words text) 0) ≡ bid_words text
  pub right : right_bid (bid_at (bid_words text) 0) ≡ true

-- words of which the fourth counts the pairs after it are the words of the bid that is read in them
bid-of-words : (words : List ℕ) → length words ≡ 4 + 2 * get_or words 3 0 → bid_encoded (bid_at words 0) ≡ words
bid-of-words words long =
    let end : bid_end words 0 ≡ length words = omega (arith, long) in
    sym (append-nil (bid_encoded (bid_at words 0)))
    ∙ ap (λ (l : List ℕ). bid_encoded (bid_at words 0) ++ l) (sym (drop_of_length-le words {i = bid_end words 0} (omega (arith, end))))
    ∙ bid-back words 0 (omega (arith, end))

-- the first of the numbers that are read is the number at the front of the text
said-first : (limit last k : ℕ) (text : List ℕ) → 1 ≤ numbers_used limit last (suc k) text → get_or (numbers_said limit last (suc k) text) 0 0 ≡ (number_at text).value
said-first limit last zero text used = field-value limit last text used
said-first limit last (suc k) text used =
    let f = field_at limit space text in
    field-value limit space text (both-stand f.used (numbers_used limit last (suc k) (drop f.used text)) used).0

-- numbers of which the last is ended by a space, and more numbers after them
join-text : (last n : ℕ) (ns ms : List ℕ) → 1 ≤ length ms → numbers_text last ((n ∷ ns) ++ ms) ≡ numbers_text space (n ∷ ns) ++ numbers_text last ms
join-text last n ns [] some = absurd (let none : ⊥ = omega arith in none)
join-text last n ns (m ∷ ms) some = text-join last n ns m ms

module _ (text : List ℕ) (used : 1 ≤ bid_used text) where
  abbrev after : List ℕ
  after = after_stamp text

  abbrev three : List ℕ
  three = numbers_said word_top space 3 text

  abbrev more : List ℕ
  more = numbers_said word_top newline (from_count after) after

  abbrev bid : Bid
  bid = bid_at (bid_words text) 0

  stand :
      (1 ≤ numbers_used word_top space 3 text) × (1 ≤ numbers_used word_top newline (from_count after) after)
      × (bid_used text ≡ numbers_used word_top space 3 text + numbers_used word_top newline (from_count after) after)
  stand = both-stand (numbers_used word_top space 3 text) (numbers_used word_top newline (from_count after) after) used

  counted : from_count after ≡ suc (2 * (number_at after).value)
  counted = omega arith

  there : 1 ≤ numbers_used word_top newline (suc (2 * (number_at after).value)) after
  there = subst (λ (c : ℕ). 1 ≤ numbers_used word_top newline c after) counted stand.1

  first : NumbersRead word_top space 3 text
  first = numbers-read word_top space 2 text (omega arith) stand.0

  second : NumbersRead word_top newline (from_count after) after
  second =
      subst (λ (c : ℕ). NumbersRead word_top newline c after) (sym counted)
      (numbers-read word_top newline (2 * (number_at after).value) after (omega arith) there)

  n-is : get_or more 0 0 ≡ (number_at after).value
  n-is =
      ap (λ (c : ℕ). get_or (numbers_said word_top newline c after) 0 0) counted
      ∙ said-first word_top newline (2 * (number_at after).value) after there

  words_back : bid_encoded bid ≡ bid_words text
  words_back =
      bid-of-words (bid_words text)
      (let long : length (three ++ more) ≡ 4 + 2 * get_or more 0 0 = omega (arith, length-append three more, second.count, n-is) in long)

  line-is : numbers_text space three ++ numbers_text newline more ≡ bid_line bid
  line-is =
      sym (join-text newline (get_or three 0 0) (get_or three 1 0 ∷ get_or three 2 0 ∷ []) more (omega (arith, second.count)))
      ∙ line-text (get_or three 0 0) (get_or three 1 0 ∷ get_or three 2 0 ∷ more)
      ∙ ap numbers_line (sym words_back)

  pub bid-line-read : BidRead text
  bid-line-read =
      record {
        front =
            subst (λ (w : List ℕ). Front w text) line-is
            (front-both (numbers_text space three) (numbers_text newline more) text first.front
            (subst (λ (n : ℕ). Front (numbers_text newline more) (drop n text)) first.long second.front));
        long =
            stand.2 ∙ ap₂ ◌+◌ first.long second.long ∙ sym (length-append (numbers_text space three) (numbers_text newline more)) ∙ ap length line-is;
        words = words_back;
        right = ap (every fits_word) words_back ∙ every_append fits_word three more first.all second.all;
      }
