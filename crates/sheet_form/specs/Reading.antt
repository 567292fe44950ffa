-- What a well-formed sheet says, read line by line (rules 14.3, 14.4 and 14.6).
use Rattle.std.specs.Prelude.{Bool, true, false, List, [], ◌∷◌, ◌++◌, ℕ, zero, suc, eqb, get_or, drop, take}
use Rattle.market.specs.declared.book.Direction.{Direction}
use Rattle.market.specs.declared.book.Direction.TheVariants.{Export, Import}
use Rattle.round_bids.specs.Bids.{Bid, bid_at}
use Rattle.text_fields.specs.Fields.{space, newline, word_top, amount_top, field_at, numbers_used, numbers_said}
use Rattle.sheet_lines.specs.Lines.{days_place, title_used, count_used, count_said, direction_byte, from_count, line_at}
use Rattle.sheet_lines.specs.declared.part.Part.{Part}
use Rattle.sheet_lines.specs.declared.part.Part.TheVariants.{Bidders, Paths, Bids}
use Rattle.sheet_form.specs.Form.{section_at, sheet_kind}
use Rattle.sheet_form.specs.declared.rows.BidderLine.{BidderLine}
use Rattle.sheet_form.specs.declared.rows.PathLine.{PathLine}
use Rattle.sheet_form.specs.Sheet.{Sheet, rounds_of}

-- ---- Lines

-- the lines of a section, as many as the third argument says, each read where the one before it ends
abbrev pub lines_in : {X : Type 0} → Part → (List ℕ → X) → ℕ → ℕ → List ℕ → List X
lines_in part read zero state text = []
lines_in part read (suc k) state text =
    read text ∷ lines_in part read k (line_at part state text).next (drop (line_at part state text).used text)

-- rule 14.3: a bidder's line has the bidder, its cash and its letter
abbrev pub bidder_line_of : List ℕ → BidderLine
bidder_line_of said = record { bidder = get_or said 0 0; cash = get_or said 1 0; letter = get_or said 2 0 }

abbrev pub bidder_line_at : List ℕ → BidderLine
bidder_line_at text = bidder_line_of (numbers_said amount_top newline 3 text)

-- rule 14.4: `M` is the direction in, and `X` the direction out
abbrev pub import_if : Bool → Direction
import_if true = Import
import_if false = Export

abbrev pub direction_of : ℕ → Direction
direction_of c = import_if (eqb c (direction_byte Import))

-- rule 14.3: a path's line has direction, zone, base, FUL, A and B
abbrev pub path_line_of : Direction → List ℕ → PathLine
path_line_of way said =
    record {
      direction = way;
      zone = get_or said 0 0;
      base = get_or said 1 0;
      upper = get_or said 2 0;
      first = get_or said 3 0;
      second = get_or said 4 0;
    }

-- a path's line after its number
abbrev pub route_in : List ℕ → PathLine
route_in text = path_line_of (direction_of (get_or text 0 0)) (numbers_said word_top newline 5 (drop 2 text))

abbrev pub after_number : List ℕ → List ℕ
after_number text = drop (field_at word_top space text).used text

abbrev pub path_line_at : List ℕ → PathLine
path_line_at text = route_in (after_number text)

-- what follows the stamp of a bid's line
abbrev pub after_stamp : List ℕ → List ℕ
after_stamp text = drop (numbers_used word_top space 3 text) text

-- rule 14.6: the words of a bid are the numbers of its line in order
abbrev pub bid_words : List ℕ → List ℕ
bid_words text =
    numbers_said word_top space 3 text ++ numbers_said word_top newline (from_count (after_stamp text)) (after_stamp text)

abbrev pub bid_in : List ℕ → Bid
bid_in text = bid_at (bid_words text) 0

-- ---- Sections

-- what the lines of a section say, after the line with its count
abbrev pub section_says : {X : Type 0} → Part → (List ℕ → X) → List ℕ → List X
section_says part read text = lines_in part read (count_said part text) 0 (drop (count_used part text) text)

-- rule 14.6: a section is the part of the bytes from the line with its count to the end of its last line; and what comes after it
abbrev pub part_at : Part → List ℕ → List ℕ
part_at part text = take (section_at part text).used text

abbrev pub after_part : Part → List ℕ → List ℕ
after_part part text = drop (section_at part text).used text

-- the sections of bids, as many as the first argument says, one after another
abbrev pub rounds_at : ℕ → List ℕ → List (List Bid)
rounds_at zero text = []
rounds_at (suc k) text = section_says Bids bid_in text ∷ rounds_at k (after_part Bids text)

-- ---- The sheet

-- where each section begins
abbrev pub at_bidders : List ℕ → List ℕ
at_bidders text = drop (title_used text) text

abbrev pub at_paths : List ℕ → List ℕ
at_paths text = after_part Bidders (at_bidders text)

abbrev pub at_rounds : List ℕ → List ℕ
at_rounds text = after_part Paths (at_paths text)

-- the first and the last day
abbrev pub days_in : List ℕ → List ℕ
days_in text = numbers_said word_top newline 2 (drop days_place text)

-- rules 14.3 and 14.6: all that the sheet says
unfoldable pub sheet_in : List ℕ → Sheet
sheet_in text =
    record {
      kind = sheet_kind text;
      first = get_or (days_in text) 0 0;
      last = get_or (days_in text) 1 0;
      bidders = section_says Bidders bidder_line_at (at_bidders text);
      paths = section_says Paths path_line_at (at_paths text);
      rounds = rounds_at (rounds_of (sheet_kind text)) (at_rounds text);
    }
