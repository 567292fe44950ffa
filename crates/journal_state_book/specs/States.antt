-- What the program `journal` prints besides the replies (rule 15.8): the engine, the book, its paths and bidders and the register's entries, a
-- line each. docs/JOURNAL.md has these lines.
use Rattle.std.specs.Prelude.{Bool, cond, ◌&&◌, List, [], ◌∷◌, ◌++◌, ℕ, suc, eqb, ℤ, pos, negsuc}
use Rattle.market.specs.Limits.{release, rule_edition}
use Rattle.market.specs.declared.book.Bidder.{Bidder}
use Rattle.market.specs.declared.book.Direction.{Direction}
use Rattle.market.specs.declared.book.Direction.TheVariants.{Export, Import}
use Rattle.market.specs.declared.book.Entry.{Entry}
use Rattle.market.specs.declared.book.Kind.{Kind}
use Rattle.market.specs.declared.book.Kind.TheVariants.{Short, Long}
use Rattle.market.specs.declared.book.Path.{Path}
use Rattle.market.specs.declared.book.Period.{Period}
use Rattle.market.specs.declared.book.Stage.{Stage}
use Rattle.market.specs.declared.book.Stage.TheVariants.{Idle, Open}
use Rattle.text_numbers.specs.Decimal.{decimal}
use Rattle.text_fields.specs.Fields.{newline}
use Rattle.journal_rows.specs.Rows.{row, last_row}
use Rattle.journal_state_book.specs.Words as words

-- room for any line of the state
abbrev pub line_room : ℕ
line_room = 256

-- rule 15.8: `# engine release R rules E`, the engine's own numbers (rule 1.6)
abbrev pub engine_text : List ℕ
engine_text = row words.engine_mark (release ∷ []) ++ last_row words.rules_mark (rule_edition ∷ [])

-- rule 15.8: `# book account A`, with a minus sign before a balance below 0
abbrev pub account_text : ℤ → List ℕ
account_text (pos n) = row words.book_mark (n ∷ [])
account_text (negsuc n) = words.debt_mark ++ decimal (suc n)

-- an open auction: its kind, its next round and its period
abbrev pub kind_mark : Kind → List ℕ
kind_mark Short = words.short_mark
kind_mark Long = words.long_mark

abbrev pub open_text : Kind → ℕ → Period → List ℕ
open_text kind round period = row (kind_mark kind) (round ∷ period.first.0 ∷ period.last.0 ∷ [])

-- rule 15.8: `idle`, or `open K ROUND FIRST LAST`
abbrev pub stage_text : Stage → List ℕ
stage_text Idle = words.idle_mark
stage_text (Open kind round period) = open_text kind round period

-- rule 15.8: account, count and stage
abbrev pub book_text : ℤ → ℕ → Stage → List ℕ
book_text account entries stage = account_text account ++ row words.count_mark (entries ∷ []) ++ stage_text stage ++ (newline ∷ [])

-- direction, zone, offer and sold of a path
abbrev pub direction_mark : Direction → List ℕ
direction_mark Export = words.export_mark
direction_mark Import = words.import_mark

abbrev pub offer_text : Path → List ℕ
offer_text p = last_row (direction_mark p.direction) (p.zone ∷ p.offer.0 ∷ p.sold.0 ∷ [])

-- rule 15.8: `# path I D ZONE OFFER SOLD`
abbrev pub path_text : ℕ → Path → List ℕ
path_text i p =
    row words.path_mark (i ∷ []) ++ offer_text p

-- rule 15.8: a bidder of whom every number is 0 has no line
abbrev pub blank : Bidder → Bool
blank x =
    eqb x.cash.0 0 && eqb x.applied.0 0 && eqb x.letter.0 0 && eqb x.hold.0 0 && eqb x.owed.0 0 && eqb x.step 0

-- rule 15.8: `# bidder I CASH APPLIED LETTER HOLD OWED STEP`
abbrev pub bidder_text : ℕ → Bidder → List ℕ
bidder_text i x =
    last_row words.bidder_mark (i ∷ x.cash.0 ∷ x.applied.0 ∷ x.letter.0 ∷ x.hold.0 ∷ x.owed.0 ∷ x.step ∷ [])

abbrev pub bidder_part : ℕ → Bidder → List ℕ
bidder_part i x = cond (blank x) [] (bidder_text i x)

-- rule 15.8: `# entry I BIDDER PATH MW FIRST LAST STATE`
abbrev pub entry_text : ℕ → Entry → List ℕ
entry_text i e =
    last_row words.entry_mark
    (i ∷ e.bidder ∷ e.path ∷ e.quantity.0 ∷ e.period.first.0 ∷ e.period.last.0 ∷ e.state ∷ [])
