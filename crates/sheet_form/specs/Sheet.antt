-- What a sheet says, how it is written in bytes, and which sheets can be written (rules 14.1 to 14.5).
use Rattle.std.specs.Prelude.{Bool, true, ◌&&◌, List, [], ◌∷◌, ◌++◌, map, ℕ, ◌+◌, leb, ltb, eqb, length}
use Rattle.market.specs.Books.{every}
use Rattle.market.specs.Limits.{bidder_limit}
use Rattle.market.specs.declared.book.Kind.{Kind}
use Rattle.market.specs.declared.book.Kind.TheVariants.{Short, Long}
use Rattle.text_numbers.specs.Decimal.{decimal}
use Rattle.round_bids.specs.Bids.{Bid}
use Rattle.round_bids.specs.Encoding.{bid_encoded}
use Rattle.text_fields.specs.Fields.{line, numbers_line, count_line, word_top, amount_top}
use Rattle.sheet_lines.specs.Lines.{title_word, kind_byte, part_word, direction_byte}
use Rattle.sheet_lines.specs.declared.part.Part.TheVariants.{Bidders, Paths, Bids}
use Rattle.sheet_form.specs.declared.rows.BidderLine.{BidderLine}
use Rattle.sheet_form.specs.declared.rows.PathLine.{PathLine}

-- ---- What it says

-- rule 14.3: kind and days, the bidders, the paths, and as many sections of bids as the kind has rounds; the records of a bidder's and of a path's
-- line are declared with the code
pub record Sheet : Type 0 where
  pub kind : Kind
  pub first : ℕ
  pub last : ℕ
  pub bidders : List BidderLine
  pub paths : List PathLine
  pub rounds : List (List Bid)

-- rule 14.3: a sheet of kind L has a second section of bids
abbrev pub rounds_of : Kind → ℕ
rounds_of Short = 1
rounds_of Long = 2

-- ---- How it is written

-- rule 14.3: `TRA K FIRST LAST`
abbrev pub title_line : Sheet → List ℕ
title_line s = line (title_word ∷ (kind_byte s.kind ∷ []) ∷ decimal s.first ∷ decimal s.last ∷ [])

-- rule 14.3: `BIDDER CASH LETTER`
abbrev pub bidder_line : BidderLine → List ℕ
bidder_line x = numbers_line (x.bidder ∷ x.cash ∷ x.letter ∷ [])

-- rule 14.3: `PATH DIRECTION ZONE BASE FUL A B`
abbrev pub path_line : ℕ → PathLine → List ℕ
path_line number p =
    line
    (decimal number
    ∷ (direction_byte p.direction ∷ [])
    ∷ map decimal (p.zone ∷ p.base ∷ p.upper ∷ p.first ∷ p.second ∷ []))

-- rules 14.3 and 14.6: `BIDDER PATH STAMP N PRICE MW PRICE MW ..`, the words that a round takes
abbrev pub bid_line : Bid → List ℕ
bid_line b = numbers_line (bid_encoded b)

-- lines of bidders, of paths and of bids, one after another
abbrev pub bidder_lines : List BidderLine → List ℕ
bidder_lines [] = []
bidder_lines (x ∷ xs) = bidder_line x ++ bidder_lines xs

abbrev pub path_lines : ℕ → List PathLine → List ℕ
path_lines number [] = []
path_lines number (p ∷ ps) = path_line number p ++ path_lines (number + 1) ps

abbrev pub bid_lines : List Bid → List ℕ
bid_lines [] = []
bid_lines (b ∷ bs) = bid_line b ++ bid_lines bs

-- rule 14.3: a section of bids, `bids COUNT` and its lines
abbrev pub bid_section : List Bid → List ℕ
bid_section bids = count_line (part_word Bids) (length bids) ++ bid_lines bids

abbrev pub bid_sections : List (List Bid) → List ℕ
bid_sections [] = []
bid_sections (bids ∷ more) = bid_section bids ++ bid_sections more

-- rules 14.1 and 14.3: the title, and then the sections of bidders, paths and bids, each after the line with its count
unfoldable pub sheet_text : Sheet → List ℕ
sheet_text s =
    title_line s
    ++ (count_line (part_word Bidders) (length s.bidders) ++ bidder_lines s.bidders)
    ++ (count_line (part_word Paths) (length s.paths) ++ path_lines 0 s.paths)
    ++ bid_sections s.rounds

-- ---- Which sheets can be written

-- rule 14.2: a number is below 2^32
abbrev pub fits_word : ℕ → Bool
fits_word n = leb n word_top

-- rule 14.2: cash and letter have at most 13 digits
abbrev pub fits_amount : ℕ → Bool
fits_amount n = leb n amount_top

-- rule 14.4: the numbers of bidders are 0 to 31, each above the one before, and at least `least`
abbrev pub right_bidders : ℕ → List BidderLine → Bool
right_bidders least [] = true
right_bidders least (x ∷ xs) =
    (leb least x.bidder && ltb x.bidder bidder_limit && fits_amount x.cash && fits_amount x.letter)
    && right_bidders (x.bidder + 1) xs

-- rule 14.5: of a path and of a bid it is only tested that the numbers fit
abbrev pub right_path : PathLine → Bool
right_path p = fits_word p.zone && fits_word p.base && fits_word p.upper && fits_word p.first && fits_word p.second

abbrev pub right_bid : Bid → Bool
right_bid b = every fits_word (bid_encoded b)

-- a section: its count is a number too, and must fit
abbrev pub right_section : List Bid → Bool
right_section bids = fits_word (length bids) && every right_bid bids

-- rules 14.2 to 14.5: a sheet that can be written
unfoldable pub right_sheet : Sheet → Bool
right_sheet s =
    fits_word s.first
    && fits_word s.last
    && right_bidders 0 s.bidders
    && fits_word (length s.paths)
    && every right_path s.paths
    && eqb (length s.rounds) (rounds_of s.kind)
    && every right_section s.rounds
