-- The place found for the paths is the place where the rules read them.
use mathlib.Core.Path.{◌≡◌, sym, ◌∙◌, ap}
use mathlib.Core.List.{List}
use Prim.Native.Nat.{ℕ}
use lib.ListN.{drop}
use lib.Seq.{drop-drop}
use Rattle.sheet_lines.specs.Lines.{title_used}
use Rattle.sheet_lines.specs.declared.part.Part.TheVariants.{Bidders}
use Rattle.sheet_form.specs.Form.{section_at, PlacesAre}
use Rattle.sheet_form.specs.Reading.{at_bidders, at_paths}
use Rattle.sheet_form.specs.declared.form.Found.{Found}

module _ (bytes : List ℕ) (found : Found) (p : PlacesAre bytes (title_used bytes) found) where
  pub paths-place : drop found.paths bytes ≡ at_paths bytes
  paths-place =
      ap (λ (n : ℕ). drop n bytes) p.paths ∙ sym (drop-drop (section_at Bidders (at_bidders bytes)).used (title_used bytes) bytes)
