use mathlib.Core.Path.{◌≡◌, refl, ap}
use mathlib.Core.List.{List, [], ◌∷◌, ◌++◌}
use Prim.Native.Nat.{ℕ}
use Rattle.market.specs.Limits.{release, rule_edition}
use Rattle.text_numbers.specs.Decimal.{decimal}
use Rattle.text_fields.specs.Fields.{space, count_line, field_text}
use Rattle.text_writing.proofs.PutLaws.{written_from, written-room, written-fits, written_next, written_all}
use Rattle.text_writing.proofs.PieceLaws.{field-piece}
use Rattle.award_sheet_parts.specs.AwardSheet.{award_title_line}
use Rattle.award_sheet_parts.specs.Phrases.{award_title_word, release_word, rules_word}
use Rattle.award_sheet_parts.proofs.title.put_title_line.Goals as goal

abbrev named : List ℕ
named = award_title_word ++ (space ∷ (release_word ++ (space ∷ [])))

abbrev edition : List ℕ
edition = count_line rules_word rule_edition

pieces : award_title_line ≡ named ++ (field_text release space ++ edition)
pieces = ap (λ (l : List ℕ). named ++ l) (field-piece (decimal release) space edition)

pub put_bytes-named-requires : goal.put_bytes-named-requires
put_bytes-named-requires c = written-fits (written_from pieces c.requires) named _ refl

pub put_field-released-requires : goal.put_field-released-requires
put_field-released-requires c =
    written-fits (written_next (written_from pieces c.requires) c.put_bytes-named.ensures) (field_text release space) edition refl

pub put_count-requires : goal.put_count-requires
put_count-requires c =
    let first = written_next (written_from pieces c.requires) c.put_bytes-named.ensures in
    written-room (written_next first c.put_field-released.ensures)

pub returns : goal.returns
returns c =
    let first = written_next (written_from pieces c.requires) c.put_bytes-named.ensures in
    written_all (written_next first c.put_field-released.ensures) c.put_count.ensures
