-- The words of a bid section are those of the bids in it.
use mathlib.Core.Path.{◌≡◌, refl, sym, ◌∙◌, ap, ap₂}
use mathlib.Core.Bool.{Bool, true, false, cond}
use mathlib.Core.List.{List, [], ◌∷◌, ◌++◌, append_assoc}
use Prim.Native.Nat.{ℕ, zero, suc, ◌+◌, ◌-◌, ◌≤◌}
use native.Mathlib.Omega.{arith}
use lib.ListN.{length, drop, length-append}
use lib.Seq.{drop-append_seam}
use borrow.Author.Tests.{leb-true, le-leb}
use Rattle.market.proofs.Tests.{left-true, right-true}
use Rattle.market.specs.Books.{every}
use Rattle.text_numbers.proofs.DecimalLaws.{number-written}
use Rattle.text_numbers.specs.Decimal.{decimal, is_digit, number_at}
use Rattle.text_numbers.specs.declared.Number.{Number}
use Rattle.round_bids.specs.Bids.{Bid}
use Rattle.round_bids.specs.Encoding.{bid_encoded, encoded}
use Rattle.text_fields.proofs.FieldLaws.{field-some, line-text}
use Rattle.text_fields.specs.Fields.{space, newline, count_line, word_top, field_text, numbers_text}
use Rattle.sheet_lines.specs.Lines.{part_word, count_used}
use Rattle.sheet_lines.specs.declared.part.Part.TheVariants.{Bids}
use Rattle.sheet_form.specs.Sheet.{bid_line, bid_lines, bid_section, fits_word, right_bid, right_section}
use Rattle.sheet_form.specs.Words.{word_of, numbers_in, section_words}
use Rattle.sheet_form.proofs.LineLaws.{count-written}

pub numbers-cons : (k : ℕ) (text : List ℕ) → 1 ≤ length text → numbers_in (suc k) text ≡ word_of (number_at text).value ∷ numbers_in k (drop ((number_at text).digits + 1) text)
numbers-cons k [] some = absurd (let none : ⊥ = omega arith in none)
numbers-cons k (c ∷ text) some = refl

pub numbers-none : (k : ℕ) → numbers_in k [] ≡ []
numbers-none zero = refl
numbers-none (suc k) = refl

-- one number and the byte that ends it
one_number : (k n stop : ℕ) (rest : List ℕ) → n ≤ word_top → is_digit stop ≡ false → numbers_in (suc k) (field_text n stop ++ rest) ≡ n ∷ numbers_in k rest
one_number k n stop rest most other =
    let text = field_text n stop ++ rest in
    let whole : text ≡ decimal n ++ (stop ∷ rest) = append_assoc (decimal n) (stop ∷ []) rest in
    let read : number_at text ≡ record { value = n; digits = length (decimal n) } = ap number_at whole ∙ number-written n stop rest (omega arith) other in
    numbers-cons k text (omega (arith, length-append (field_text n stop) rest, field-some n stop))
    ∙ ap (λ (r : Number). word_of r.value ∷ numbers_in k (drop (r.digits + 1) text)) read
    ∙ ap₂ ◌∷◌ (ap (λ (t : Bool). cond t n 0) (le-leb n word_top most))
    (ap (numbers_in k)
    (ap (λ (d : ℕ). drop d text) (sym (length-append (decimal n) (stop ∷ []))) ∙ drop-append_seam (field_text n stop) rest))

-- numbers in a line
line-numbers : (k n : ℕ) (ns rest : List ℕ) → every fits_word (n ∷ ns) ≡ true → numbers_in (length (n ∷ ns) + k) (numbers_text newline (n ∷ ns) ++ rest) ≡ (n ∷ ns) ++ numbers_in k rest
line-numbers k n [] rest right =
    ap (λ (f : ℕ). numbers_in f (field_text n newline ++ rest)) (let one : 1 + k ≡ suc k = omega arith in one)
    ∙ one_number k n newline rest (leb-true n word_top (left-true (fits_word n) true right)) refl
line-numbers k n (m ∷ ns) rest right =
    let more = numbers_text newline (m ∷ ns) in
    ap₂ numbers_in (let next : length (n ∷ m ∷ ns) + k ≡ suc (length (m ∷ ns) + k) = omega arith in next) (append_assoc (field_text n space) more rest)
    ∙ one_number (length (m ∷ ns) + k) n space (more ++ rest) (leb-true n word_top (left-true (fits_word n) (every fits_word (m ∷ ns)) right)) refl
    ∙ ap (λ (l : List ℕ). n ∷ l) (line-numbers k m ns rest (right-true (fits_word n) (every fits_word (m ∷ ns)) right))

-- the numbers in all lines of bids
bids-numbers : (k : ℕ) (bs : List Bid) → every right_bid bs ≡ true → numbers_in (length (encoded bs) + k) (bid_lines bs) ≡ encoded bs
bids-numbers k [] right = numbers-none (0 + k)
bids-numbers k (b ∷ bs) right =
    let words = bid_encoded b in
    let tail = b.path ∷ b.stamp ∷ length b.laminations ∷ drop 4 words in
    ap₂ numbers_in
    (let sum : length (words ++ encoded bs) + k ≡ length words + (length (encoded bs) + k) = omega (arith, length-append words (encoded bs)) in sum)
    (ap (λ (l : List ℕ). l ++ bid_lines bs) (sym (line-text b.bidder tail)))
    ∙ line-numbers (length (encoded bs) + k) b.bidder tail (bid_lines bs) (left-true (right_bid b) (every right_bid bs) right)
    ∙ ap (λ (l : List ℕ). words ++ l) (bids-numbers k bs (right-true (right_bid b) (every right_bid bs) right))

-- each number takes at least one byte
numbers-bytes : (n : ℕ) (ns : List ℕ) → length (n ∷ ns) ≤ length (numbers_text newline (n ∷ ns))
numbers-bytes n [] = field-some n newline
numbers-bytes n (m ∷ ns) =
    omega (arith, field-some n space, numbers-bytes m ns, length-append (field_text n space) (numbers_text newline (m ∷ ns)))

bids-bytes : (bs : List Bid) → length (encoded bs) ≤ length (bid_lines bs)
bids-bytes [] = omega arith
bids-bytes (b ∷ bs) =
    let words = bid_encoded b in
    let tail = b.path ∷ b.stamp ∷ length b.laminations ∷ drop 4 words in
    omega (
      arith,
      length-append words (encoded bs),
      length-append (bid_line b) (bid_lines bs),
      numbers-bytes b.bidder tail,
      ap length (line-text b.bidder tail),
      bids-bytes bs,
    )

-- the words that a round takes
pub section-words : (bids : List Bid) → right_section bids ≡ true → section_words (bid_section bids) ≡ encoded bids
section-words bids right =
    let count = count_line (part_word Bids) (length bids) in
    let lines = bid_lines bids in
    let few = leb-true (length bids) word_top (left-true (fits_word (length bids)) (every right_bid bids) right) in
    let spare = length (bid_section bids) - length (encoded bids) in
    ap₂ numbers_in
    (let sum : length (bid_section bids) ≡ length (encoded bids) + spare = omega (arith, length-append count lines, bids-bytes bids) in sum)
    (ap (λ (n : ℕ). drop n (bid_section bids)) (count-written Bids (length bids) lines few) ∙ drop-append_seam count lines)
    ∙ bids-numbers spare bids (right-true (fits_word (length bids)) (every right_bid bids) right)

-- a text has no more words than bytes
numbers-few : (k : ℕ) (text : List ℕ) → length (numbers_in k text) ≤ k
numbers-few zero text = omega arith
numbers-few (suc k) [] = omega arith
numbers-few (suc k) (c ∷ cs) = omega (arith, numbers-few k (drop ((number_at (c ∷ cs)).digits + 1) (c ∷ cs)))

pub words-few : (section : List ℕ) → length (section_words section) ≤ length section
words-few section = numbers-few (length section) (drop (count_used Bids section) section)
