-- The award sheet (rules 14.9 and 14.10), and the line of a refusal that stands in its place (rules 14.7 and 14.8).
use Rattle.std.specs.Prelude.{Bool, List, [], ◌∷◌, ◌++◌, ℕ, ltb, length}
use Rattle.market.specs.Books.{bidder_of}
use Rattle.market.specs.Limits.{release, rule_edition, bidder_limit}
use Rattle.market.specs.declared.book.Bidder.{Bidder}
use Rattle.market.specs.declared.book.Book.{Book}
use Rattle.text_numbers.specs.Decimal.{decimal}
use Rattle.text_fields.specs.Fields.{line, numbers_line, count_line}
use Rattle.sheet_lines.specs.Lines.{part_word}
use Rattle.sheet_lines.specs.declared.part.Part.TheVariants.{Bidders}
use Rattle.award_sheet_round.specs.RoundLines.{RoundMade, round_text}
use Rattle.award_sheet_parts.specs.Phrases as words

-- rules 14.9 and 1.6: `TRA-AWARD release R rules E`, with the engine's own release and edition
abbrev pub award_title_line : List ℕ
award_title_line = line (words.award_title_word ∷ words.release_word ∷ decimal release ∷ words.rules_word ∷ decimal rule_edition ∷ [])

-- rule 14.9: the title, and `rounds COUNT`
abbrev pub title_text : ℕ → List ℕ
title_text rounds = award_title_line ++ count_line words.rounds_word rounds

-- ---- The rounds, one after the other

-- rule 14.10: bids, paths and awards once for each round, in the order of the rounds
abbrev pub rounds_text : ℕ → List RoundMade → List ℕ
rounds_text paths [] = []
rounds_text paths (r ∷ rs) = round_text paths r ++ rounds_text paths rs

-- ---- The bidders

-- whether a number is that of a bidder
abbrev pub is_bidder : ℕ → Bool
is_bidder number = ltb number bidder_limit

-- rule 14.9: `BIDDER CASH APPLIED LETTER HOLD OWED`
abbrev pub award_bidder_line : ℕ → Bidder → List ℕ
award_bidder_line number x =
    numbers_line (number ∷ x.cash.0 ∷ x.applied.0 ∷ x.letter.0 ∷ x.hold.0 ∷ x.owed.0 ∷ [])

-- rule 14.10: the bidders of the sheet, with their numbers in this book
abbrev pub award_bidder_lines : Book → List ℕ → List ℕ
award_bidder_lines b [] = []
award_bidder_lines b (number ∷ numbers) = award_bidder_line number (bidder_of b number) ++ award_bidder_lines b numbers

-- rules 14.9 and 14.10: `bidders COUNT`, and as many lines
abbrev pub bidders_text : Book → List ℕ → List ℕ
bidders_text b listed = count_line (part_word Bidders) (length listed) ++ award_bidder_lines b listed

-- ---- The sheet of these rounds, with the book after them and the bidders listed

-- rule 14.9: title, rounds and bidders
unfoldable pub award_text : List RoundMade → Book → List ℕ → List ℕ
award_text rounds b listed =
    title_text (length rounds) ++ rounds_text b.path_count rounds ++ bidders_text b listed

-- ---- Refusals

-- rule 14.8: `refused 40 line L`
abbrev pub refused_line : ℕ → ℕ → List ℕ
refused_line number at = line (words.refused_word ∷ decimal number ∷ words.line_word ∷ decimal at ∷ [])

-- rule 14.7: `refused N`
abbrev pub refused_text : ℕ → List ℕ
refused_text number = count_line words.refused_word number
