-- The form of a sheet (rules 14.1, 14.3, 14.5 and 14.8), tested line by line, each line where the one before it ends: right, or the number of the
-- line at which the text stops being a sheet.
use Rattle.std.specs.Prelude.{◌≡◌, Bool, true, false, List, [], ◌∷◌, ℕ, zero, suc, ◌+◌, ◌≤◌, leb, eqb, length, get_or, drop, Result, Ok, Err}
use Rattle.market.specs.Limits.{sheet_bytes}
use Rattle.market.specs.declared.book.Kind.{Kind}
use Rattle.market.specs.declared.book.Kind.TheVariants.{Short, Long}
use Rattle.sheet_lines.specs.Lines.{kind_of_byte, kind_place, title_used, count_used, count_said, line_at}
use Rattle.sheet_lines.specs.declared.part.Part.{Part}
use Rattle.sheet_lines.specs.declared.part.Part.TheVariants.{Bidders, Paths, Bids}
use Rattle.sheet_form.specs.declared.form.FaultyLine.{FaultyLine}
use Rattle.sheet_form.specs.declared.form.Found.{Found}
use Rattle.sheet_form.specs.declared.place.Place.{Place}
use Rattle.sheet_form.specs.declared.form.Read.{Read}

-- ---- The lines of a section

-- a line, by the bytes that it takes, 0 if it is faulty, and the lines after it
abbrev pub line_then : ℕ → Read → Read
line_then zero more = record { lines = 0; used = 0 }
line_then (suc n) more = record { lines = 1 + more.lines; used = suc n + more.used }

-- the lines before the first faulty one, at most as many as the second argument says, and the bytes that they take
abbrev pub lines_at : Part → ℕ → ℕ → List ℕ → Read
lines_at part zero state text = record { lines = 0; used = 0 }
lines_at part (suc k) state text =
    line_then (line_at part state text).used
    (lines_at part k (line_at part state text).next (drop (line_at part state text).used text))

-- rule 14.3: the line with the count, and as many lines as it says
abbrev pub section_at : Part → List ℕ → Read
section_at part text =
    line_then (count_used part text) (lines_at part (count_said part text) 0 (drop (count_used part text) text))

-- whether all of these lines are right
abbrev pub section_whole : Part → List ℕ → Bool
section_whole part text = eqb (section_at part text).lines (1 + count_said part text)

-- ---- The sheet

-- rule 14.3: bidders, paths and bids, in this order; kind L has bids twice
abbrev pub parts_of : Kind → List Part
parts_of Short = Bidders ∷ Paths ∷ Bids ∷ []
parts_of Long = Bidders ∷ Paths ∷ Bids ∷ Bids ∷ []

-- a text is well-formed, or it has a first faulty line
abbrev pub SheetForm : Type 0
SheetForm = Result (Unit {0}) FaultyLine

abbrev pub well_formed : SheetForm
well_formed = Ok tt

abbrev pub faulty_at : ℕ → SheetForm
faulty_at line = Err (record { 0 = line })

-- the form that was found, whatever else was found of a well-formed text
abbrev pub form_only : {A : Type 0} → Result A FaultyLine → SheetForm
form_only (Ok x) = well_formed
form_only (Err line) = Err line

-- the rest of the form if the test is true, and otherwise the number of the faulty line
abbrev pub if_whole : Bool → ℕ → SheetForm → SheetForm
if_whole true line rest = rest
if_whole false line rest = faulty_at line

-- rule 14.8: the line that is wrong, the place of one that is not there, or a line after the end; with the sections still to come and the number of
-- the next line
abbrev pub form_from : List Part → ℕ → List ℕ → SheetForm
form_from [] line text = if_whole (eqb (length text) 0) line well_formed
form_from (part ∷ parts) line text =
    if_whole (section_whole part text) (line + (section_at part text).lines)
    (form_from parts (line + (section_at part text).lines) (drop (section_at part text).used text))

-- the kind of the sheet's auction
abbrev pub sheet_kind : List ℕ → Kind
sheet_kind text = kind_of_byte (get_or text kind_place 0)

-- rules 14.1 and 14.8: more than 16,384 bytes are a fault of line 0, a wrong title one of line 1; the sections follow from line 2 on.
-- rule 14.5: this alone is form; all else is left to the calls
unfoldable pub form_of : List ℕ → SheetForm
form_of text =
    if_whole (leb (length text) sheet_bytes) 0
    (if_whole (leb 1 (title_used text)) 1 (form_from (parts_of (sheet_kind text)) 2 (drop (title_used text) text)))

-- ---- Places

-- a section of which all lines are right, and the place after it
pub record SectionIs (part : Part) (bytes : List ℕ) (from next : Place) : Type 0 where
  pub whole : section_whole part (drop from.at bytes) ≡ true
  pub place : next.at ≡ from.at + (section_at part (drop from.at bytes)).used
  pub line : next.line ≡ from.line + (section_at part (drop from.at bytes)).lines
  pub inside : next.at ≤ length bytes

-- a section with a faulty line
pub record FaultIn (part : Part) (bytes : List ℕ) (from : Place) (fault : FaultyLine) : Type 0 where
  pub whole : section_whole part (drop from.at bytes) ≡ false
  pub line : fault.0 ≡ from.line + (section_at part (drop from.at bytes)).lines

-- rule 14.6: the places of the sections, the first of them at `at`; after the first section of bids comes the second, or the end
pub record PlacesAre (bytes : List ℕ) (at : ℕ) (found : Found) : Type 0 where
  pub bidders : found.bidders ≡ at
  pub paths : found.paths ≡ at + (section_at Bidders (drop at bytes)).used
  pub first : found.first ≡ found.paths + (section_at Paths (drop found.paths bytes)).used
  pub second : found.second ≡ found.first + (section_at Bids (drop found.first bytes)).used
  pub inside : found.second ≤ length bytes
