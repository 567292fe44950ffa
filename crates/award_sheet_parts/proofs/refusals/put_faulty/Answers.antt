use mathlib.Core.Path.{◌≡◌, refl, ap}
use mathlib.Core.List.{List, [], ◌∷◌, ◌++◌}
use Prim.Native.Nat.{ℕ}
use Rattle.text_numbers.specs.Decimal.{decimal}
use Rattle.text_fields.specs.Fields.{space, count_line, field_text}
use Rattle.text_writing.proofs.PutLaws.{written_from, written-room, written-fits, written_next, written_all}
use Rattle.text_writing.proofs.PieceLaws.{field-piece}
use Rattle.market.specs.Answers.{form_refusal}
use Rattle.award_sheet_parts.specs.AwardSheet.{refused_line}
use Rattle.award_sheet_parts.specs.Phrases.{refused_word, line_word}
use Rattle.award_sheet_parts.proofs.refusals.put_faulty.Goals as goal

abbrev named : List ℕ
named = refused_word ++ (space ∷ [])

abbrev behind : ℕ → List ℕ
behind line = count_line line_word line

pieces : (line : ℕ) → refused_line form_refusal line ≡ named ++ (field_text form_refusal space ++ behind line)
pieces line = ap (λ (l : List ℕ). named ++ l) (field-piece (decimal form_refusal) space (behind line))

pub put_bytes-named-requires : goal.put_bytes-named-requires
put_bytes-named-requires c = written-fits (written_from (pieces c.args.line) c.requires) named _ refl

pub put_field-numbered-requires : goal.put_field-numbered-requires
put_field-numbered-requires c =
    let first = written_next (written_from (pieces c.args.line) c.requires) c.put_bytes-named.ensures in
    written-fits first (field_text form_refusal space) (behind c.args.line) refl

pub put_count-requires : goal.put_count-requires
put_count-requires c =
    let first = written_next (written_from (pieces c.args.line) c.requires) c.put_bytes-named.ensures in
    written-room (written_next first c.put_field-numbered.ensures)

pub returns : goal.returns
returns c =
    let first = written_next (written_from (pieces c.args.line) c.requires) c.put_bytes-named.ensures in
    written_all (written_next first c.put_field-numbered.ensures) c.put_count.ensures
