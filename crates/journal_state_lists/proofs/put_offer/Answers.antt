-- By cases on the direction: each arm writes one row with the rule's mark of that direction, and this row is the whole
-- text, so one written piece completes it (written-done).
use mathlib.Core.Path.{refl, sym, ◌∙◌, ap}
use mathlib.Core.List.{[], ◌∷◌, append-nil}
use Rattle.market.specs.declared.book.Direction.{Direction}
use Rattle.journal_rows.specs.Rows.{last_row}
use Rattle.text_writing.proofs.PutLaws.{written_none, written-fits, written_on, written-done}
use Rattle.journal_state_book.specs.States.{direction_mark, offer_text}
use Rattle.journal_state_book.specs.Words as words
use Rattle.journal_state_lists.proofs.put_offer.Goals as goal

pub put_last_row-requires : goal.put_last_row-requires
put_last_row-requires c =
    let a = c.args in
    let p = a.path in
    let ns = p.zone ∷ p.offer.0 ∷ p.sold.0 ∷ [] in
    let piece = last_row words.export_mark ns in
    let s = written_none a.out.now a.at (offer_text p) c.requires in
    let e = ap (λ (d : Direction). last_row (direction_mark d) ns) c.in-Export.is ∙ sym (append-nil piece) in
    written-fits s piece [] e

pub put_last_row-requires-in-Import : goal.put_last_row-requires-in-Import
put_last_row-requires-in-Import c =
    let a = c.args in
    let p = a.path in
    let ns = p.zone ∷ p.offer.0 ∷ p.sold.0 ∷ [] in
    let piece = last_row words.import_mark ns in
    let s = written_none a.out.now a.at (offer_text p) c.requires in
    let e = ap (λ (d : Direction). last_row (direction_mark d) ns) c.in-Import.is ∙ sym (append-nil piece) in
    written-fits s piece [] e

pub returns-in-Export : goal.returns-in-Export
returns-in-Export c =
    let a = c.args in
    let p = a.path in
    let ns = p.zone ∷ p.offer.0 ∷ p.sold.0 ∷ [] in
    let piece = last_row words.export_mark ns in
    let s = written_none a.out.now a.at (offer_text p) c.requires in
    let e = ap (λ (d : Direction). last_row (direction_mark d) ns) c.in-Export.is ∙ sym (append-nil piece) in
    let put = c.put_last_row in
    written-done (written_on s piece [] e put.ensures) refl

pub returns-in-Import : goal.returns-in-Import
returns-in-Import c =
    let a = c.args in
    let p = a.path in
    let ns = p.zone ∷ p.offer.0 ∷ p.sold.0 ∷ [] in
    let piece = last_row words.import_mark ns in
    let s = written_none a.out.now a.at (offer_text p) c.requires in
    let e = ap (λ (d : Direction). last_row (direction_mark d) ns) c.in-Import.is ∙ sym (append-nil piece) in
    let put = c.put_last_row-in-Import in
    written-done (written_on s piece [] e put.ensures) refl
