-- The places found for the bid sections are those where the rules read them.
use mathlib.Core.Path.{◌≡◌, sym, ◌∙◌, ap}
use mathlib.Core.List.{List}
use Prim.Native.Nat.{ℕ, ◌-◌, ◌≤◌}
use native.Mathlib.Omega.{arith}
use lib.ListN.{take, drop}
use lib.Seq.{drop-drop}
use Rattle.sheet_lines.specs.Lines.{title_used}
use Rattle.sheet_lines.specs.declared.part.Part.TheVariants.{Paths, Bids}
use Rattle.sheet_form.specs.Form.{section_at, PlacesAre}
use Rattle.sheet_form.specs.Reading.{part_at, after_part, at_rounds}
use Rattle.sheet_form.specs.declared.form.Found.{Found}
use Rattle.sheet_form.proofs.PlaceLaws.{paths-place}

module _ (bytes : List ℕ) (found : Found) (p : PlacesAre bytes (title_used bytes) found) where
  rounds-place : drop found.first bytes ≡ at_rounds bytes
  rounds-place =
      ap (λ (n : ℕ). drop n bytes) p.first
      ∙ sym (drop-drop (section_at Paths (drop found.paths bytes)).used found.paths bytes)
      ∙ ap (after_part Paths) (paths-place bytes found p)

  section-long : found.second - found.first ≡ (section_at Bids (drop found.first bytes)).used
  section-long = omega (arith, p.second)

  pub first-ordered : found.first ≤ found.second
  first-ordered = omega (arith, p.second)

  pub first-section : take (found.second - found.first) (drop found.first bytes) ≡ part_at Bids (at_rounds bytes)
  first-section =
      ap (λ (n : ℕ). take n (drop found.first bytes)) section-long ∙ ap (part_at Bids) rounds-place

  pub behind-section : drop found.second bytes ≡ after_part Bids (at_rounds bytes)
  behind-section =
      ap (λ (n : ℕ). drop n bytes) p.second
      ∙ sym (drop-drop (section_at Bids (drop found.first bytes)).used found.first bytes)
      ∙ ap (after_part Bids) rounds-place
