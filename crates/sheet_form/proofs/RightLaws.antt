-- What is known of a well-formed sheet: it has a title, it has few bidders, and its bid sections are the parts of its bytes that
-- rule 14.6 names.
use mathlib.Core.Path.{◌≡◌, refl, sym, ◌∙◌, ap, ap₂}
use mathlib.Core.Bool.{true, ◌&&◌}
use mathlib.Core.List.{List, [], ◌∷◌}
use Prim.Native.Nat.{ℕ, zero, suc, ◌+◌, ◌≤◌}
use native.Mathlib.Omega.{arith}
use lib.Dec.{leb, ltb, eqb}
use lib.ListN.{length, drop, take, replicate}
use lib.Seq.{take-append_seam}
use borrow.Author.Tests.{leb-true, le-leb, ltb-true, eqb-true}
use Rattle.market.proofs.Tests.{left-true, right-true}
use Rattle.market.specs.Limits.{bidder_limit}
use Rattle.market.specs.declared.book.Kind.{Kind}
use Rattle.market.specs.declared.book.Kind.TheVariants.{Short, Long}
use Rattle.round_bids.specs.Bids.{Bid}
use Rattle.round_bids.specs.Encoding.{encoded}
use Rattle.text_fields.specs.Fields.{word_top}
use Rattle.sheet_lines.specs.Lines.{title_used, count_used, count_said, line_at}
use Rattle.sheet_lines.specs.declared.part.Part.{Part}
use Rattle.sheet_lines.specs.declared.part.Part.TheVariants.{Bidders, Bids}
use Rattle.sheet_form.specs.declared.rows.BidderLine.{BidderLine}
use Rattle.sheet_form.specs.Form.{well_formed, section_at, section_whole, form_from, sheet_kind, form_of}
use Rattle.sheet_form.specs.Reading.{lines_in, bidder_line_at, bid_in, section_says, part_at, after_part, at_bidders, at_rounds}
use Rattle.sheet_form.specs.Sheet.{rounds_of, bid_section, fits_amount, right_bidders, right_section}
use Rattle.sheet_form.specs.Words.{section_words}
use Rattle.sheet_form.proofs.CountedLaws.{section_text, section-read}
use Rattle.sheet_form.proofs.SheetLaws.{bids-same, stands-right, inner, third, from-paths, bidders}
use Rattle.sheet_form.proofs.Sorts.{bid_sort, bid-in, bid-out, bids-right, bidders-right}
use Rattle.sheet_form.proofs.WordLaws.{section-words}

-- ---- A section has as many lines as its count says

pub lines-count : {X : Type 0} (part : Part) (read : List ℕ → X) (k state : ℕ) (text : List ℕ) → length (lines_in part read k state text) ≡ k
lines-count part read zero state text = refl
lines-count part read (suc k) state text =
    ap suc (lines-count part read k (line_at part state text).next (drop (line_at part state text).used text))

pub says-count : {X : Type 0} (part : Part) (read : List ℕ → X) (text : List ℕ) → length (section_says part read text) ≡ count_said part text
says-count part read text = lines-count part read (count_said part text) 0 (drop (count_used part text) text)

-- ---- Bidders

-- the first of lines that are right: its number, and the lines after it
pub first-rises :
    (least : ℕ) (x : BidderLine) (xs : List BidderLine) → right_bidders least (x ∷ xs) ≡ true
    → (least ≤ x.bidder) × (ltb x.bidder bidder_limit ≡ true) × (right_bidders (x.bidder + 1) xs ≡ true)
first-rises least x xs right =
    let above = leb least x.bidder in
    let below = ltb x.bidder bidder_limit in
    let cash = fits_amount x.cash in
    let letter = fits_amount x.letter in
    let rest = right_bidders (x.bidder + 1) xs in
    let number = left-true (above && below) cash (left-true (above && below && cash) letter (left-true (above && below && cash && letter) rest right)) in (
      leb-true least x.bidder (left-true above below number),
      right-true above below number,
      right-true (above && below && cash && letter) rest right,
    )

-- there are at most 32 rising numbers below 32
rising-few : (least : ℕ) (xs : List BidderLine) → least ≤ bidder_limit → right_bidders least xs ≡ true → least + length xs ≤ bidder_limit
rising-few least [] most right = omega (arith, most)
rising-few least (x ∷ xs) most right =
    let first = first-rises least x xs right in
    let below = ltb-true x.bidder bidder_limit first.1 in
    omega (arith, first.0, rising-few (x.bidder + 1) xs (omega (arith, below)) first.2)

-- ---- Bid sections

module _ (text : List ℕ) (present : section_whole Bids text ≡ true) where
  abbrev bids : List Bid
  bids = section_says Bids bid_in text

  part-is : part_at Bids text ≡ bid_section bids
  part-is =
      let r = section-read bid_sort bid-in bid-out text present in
      let w = section_text bid_sort bids in
      ap₂ take r.long r.front ∙ take-append_seam w (drop (length w) text) ∙ bids-same bids

  bids-are-right : right_section bids ≡ true
  bids-are-right =
      let r = section-read bid_sort bid-in bid-out text present in
      ap₂ ◌&&◌ (le-leb (length bids) word_top r.most) (sym (bids-right bids 0) ∙ r.right)

  -- the words of a section whose lines are right
  pub part-words : section_words (part_at Bids text) ≡ encoded bids
  part-words = ap section_words part-is ∙ section-words bids bids-are-right

-- a section with nothing after it
whole_part : (text : List ℕ) → length (after_part Bids text) ≡ 0 → part_at Bids text ≡ text
whole_part text none = take_all (section_at Bids text).used text none
  where
    take_all : (n : ℕ) (l : List ℕ) → length (drop n l) ≡ 0 → take n l ≡ l
    take_all zero [] h = refl
    take_all zero (c ∷ l) h = absurd (let none : ⊥ = omega (arith, h) in none)
    take_all (suc n) [] h = refl
    take_all (suc n) (c ∷ l) h = ap (λ (rest : List ℕ). c ∷ rest) (take_all n l h)

-- the first section of bids is right, and so is the second of a long auction, with nothing after it
first-stands : (kind : Kind) (line : ℕ) (text : List ℕ) → form_from (replicate (rounds_of kind) Bids) line text ≡ well_formed → section_whole Bids text ≡ true
first-stands Short line text h =
    let next = line + (section_at Bids text).lines in
    (stands-right (section_whole Bids text) next (form_from [] next (after_part Bids text)) h).0
first-stands Long line text h =
    let next = line + (section_at Bids text).lines in
    (stands-right (section_whole Bids text) next (form_from (Bids ∷ []) next (after_part Bids text)) h).0

second-stands :
    (line : ℕ) (text : List ℕ) → form_from (replicate (rounds_of Long) Bids) line text ≡ well_formed
    → (section_whole Bids (after_part Bids text) ≡ true) × (length (after_part Bids (after_part Bids text)) ≡ 0)
second-stands line text h =
    let later = after_part Bids text in
    let next = line + (section_at Bids text).lines in
    let end = next + (section_at Bids later).lines in
    let rest = after_part Bids later in
    let one = stands-right (section_whole Bids text) next (form_from (Bids ∷ []) next later) h in
    let two = stands-right (section_whole Bids later) end (form_from [] end rest) one.1 in
    (two.0, eqb-true (length rest) 0 (stands-right (eqb (length rest) 0) end well_formed two.1).0)

-- ---- The sheet

module _ (text : List ℕ) (form : form_of text ≡ well_formed) where
  pub title-some : 1 ≤ title_used text
  title-some = leb-true 1 (title_used text) (inner text form).0

  pub bidders-rise : right_bidders 0 (section_says Bidders bidder_line_at (at_bidders text)) ≡ true
  bidders-rise = sym (bidders-right (section_says Bidders bidder_line_at (at_bidders text)) 0) ∙ (bidders text form).right

  pub few-bidders : length (section_says Bidders bidder_line_at (at_bidders text)) ≤ bidder_limit
  few-bidders = omega (arith, rising-few 0 (section_says Bidders bidder_line_at (at_bidders text)) (omega arith) bidders-rise)

  -- its bid sections
  pub first-words : section_words (part_at Bids (at_rounds text)) ≡ encoded (section_says Bids bid_in (at_rounds text))
  first-words = part-words (at_rounds text) (first-stands (sheet_kind text) (third text form) (at_rounds text) (from-paths text form).1)

  pub second-words : sheet_kind text ≡ Long → section_words (after_part Bids (at_rounds text)) ≡ encoded (section_says Bids bid_in (after_part Bids (at_rounds text)))
  second-words long =
      let two = second-stands (third text form) (at_rounds text)
      (ap (λ (kind : Kind). form_from (replicate (rounds_of kind) Bids) (third text form) (at_rounds text)) (sym long) ∙ (from-paths text form).1) in
      let later = after_part Bids (at_rounds text) in
      ap section_words (sym (whole_part later two.1)) ∙ part-words later two.0
