-- The lines of a sheet (rules 14.2 to 14.4), each at the front of a text, by the bytes that it takes, its byte 10 included; 0 if the line is
-- faulty or not there. Ranges that only the calls judge are not tested (rule 14.5).
use Rattle.std.specs.Prelude.{Bool, true, false, cond, ◌&&◌, ◌||◌, List, [], ◌∷◌, ℕ, ◌+◌, ◌*◌, leb, ltb, eqb, length, get_or, drop}
use Rattle.market.specs.Limits.{bidder_limit}
use Rattle.market.specs.declared.book.Direction.{Direction}
use Rattle.market.specs.declared.book.Direction.TheVariants.{Export, Import}
use Rattle.market.specs.declared.book.Kind.{Kind}
use Rattle.market.specs.declared.book.Kind.TheVariants.{Short, Long}
use Rattle.text_numbers.specs.Decimal.{number_at}
use Rattle.text_fields.specs.Fields.{space, newline, word_top, amount_top, starts_with, word_spaced, field_at, both, numbers_used}
use Rattle.sheet_lines.specs.declared.part.Part.{Part}
use Rattle.sheet_lines.specs.declared.part.Part.TheVariants.{Bidders, Paths, Bids}
use Rattle.sheet_lines.specs.declared.part.Step.{Step}

-- the bytes of a word that must be at the front, and of what follows it: 0 if one of them is missing
abbrev pub word_then : Bool → ℕ → ℕ → ℕ
word_then present word used = cond present (both word used) 0

-- ---- The title

-- rule 14.3: `TRA`
abbrev pub title_word : List ℕ
title_word = 84 ∷ 82 ∷ 65 ∷ []

-- rule 14.4: `S` and `L`
abbrev pub kind_byte : Kind → ℕ
kind_byte Short = 83
kind_byte Long = 76

-- whether a byte is that of a kind
abbrev pub is_kind : ℕ → Bool
is_kind c = eqb c (kind_byte Short) || eqb c (kind_byte Long)

-- the kind of a byte
abbrev pub long_if : Bool → Kind
long_if true = Long
long_if false = Short

abbrev pub kind_of_byte : ℕ → Kind
kind_of_byte c = long_if (eqb c (kind_byte Long))

-- the place of the kind, after the title's word and a space, and that of the days, after the kind and a space
abbrev pub kind_place : ℕ
kind_place = 4

abbrev pub days_place : ℕ
days_place = 6

-- rules 14.3 and 14.4: the title has its word, a kind and two days, which may be any numbers of rule 14.2
abbrev pub title_used : List ℕ → ℕ
title_used text =
    word_then (starts_with (word_spaced title_word) text && is_kind (get_or text kind_place 0) && eqb (get_or text (kind_place + 1) 0) space) days_place
    (numbers_used word_top newline 2 (drop days_place text))

-- ---- The line with a section's count

-- rule 14.3: `bidders`, `paths`, `bids`
abbrev pub part_word : Part → List ℕ
part_word Bidders = 98 ∷ 105 ∷ 100 ∷ 100 ∷ 101 ∷ 114 ∷ 115 ∷ []
part_word Paths = 112 ∷ 97 ∷ 116 ∷ 104 ∷ 115 ∷ []
part_word Bids = 98 ∷ 105 ∷ 100 ∷ 115 ∷ []

-- the place of its count
abbrev pub count_place : Part → ℕ
count_place part = length (word_spaced (part_word part))

-- rule 14.3: a section begins with its word and its count
abbrev pub count_used : Part → List ℕ → ℕ
count_used part text =
    word_then (starts_with (word_spaced (part_word part)) text) (count_place part) (field_at word_top newline (drop (count_place part) text)).used

abbrev pub count_said : Part → List ℕ → ℕ
count_said part text = (field_at word_top newline (drop (count_place part) text)).value

-- ---- A bidder's line

-- rules 14.2 and 14.4: bidder, cash and letter; the number is 0 to 31 and at least the one given, and the amounts have at most 13 digits
abbrev pub bidder_used : ℕ → List ℕ → ℕ
bidder_used least text =
    cond (leb least (field_at amount_top space text).value && ltb (field_at amount_top space text).value bidder_limit)
    (numbers_used amount_top newline 3 text)
    0

-- ---- A path's line

-- rule 14.4: `X` and `M`
abbrev pub direction_byte : Direction → ℕ
direction_byte Export = 88
direction_byte Import = 77

abbrev pub is_direction : ℕ → Bool
is_direction c = eqb c (direction_byte Export) || eqb c (direction_byte Import)

-- rules 14.3 and 14.5: a direction, a space, and five numbers: zone, base, FUL, A and B, of any size that rule 14.2 allows
abbrev pub route_used : List ℕ → ℕ
route_used text =
    word_then (is_direction (get_or text 0 0) && eqb (get_or text 1 0) space) 2 (numbers_used word_top newline 5 (drop 2 text))

-- rule 14.4: the path has the number given
abbrev pub path_used : ℕ → List ℕ → ℕ
path_used number text =
    cond (eqb (field_at word_top space text).value number)
    (both (field_at word_top space text).used (route_used (drop (field_at word_top space text).used text)))
    0

-- ---- A bid's line

-- how many numbers there are from N on
abbrev pub from_count : List ℕ → ℕ
from_count text = 1 + 2 * (number_at text).value

-- rules 14.3, 14.4 and 14.5: bidder, path, stamp and N, and exactly N pairs, whatever N is
abbrev pub bid_used : List ℕ → ℕ
bid_used text =
    both (numbers_used word_top space 3 text)
    (numbers_used word_top newline (from_count (drop (numbers_used word_top space 3 text) text)) (drop (numbers_used word_top space 3 text) text))

-- ---- A line of a section

-- rule 14.4: a line, where `state` is what the lines before it ask of it: the least number that a bidder's line may have, or the number that
-- a path's line must have; and what it asks of the next line
abbrev pub line_at : Part → ℕ → List ℕ → Step
line_at Bidders state text =
    record { used = bidder_used state text; next = (field_at amount_top space text).value + 1 }
line_at Paths state text = record { used = path_used state text; next = state + 1 }
line_at Bids state text = record { used = bid_used text; next = state }
