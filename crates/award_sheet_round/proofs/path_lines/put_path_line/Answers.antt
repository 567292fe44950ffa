-- A line in two pieces, its three numbers and its price (`three-pieces`): the numbers are added by `written_next`, which
-- leaves the room that the price needs, and the price by `written_all`.
use native.Mathlib.Omega.{arith}
use mathlib.Core.Path.{refl}
use mathlib.Core.List.{List, [], ◌∷◌, ◌++◌}
use Prim.Native.Nat.{ℕ}
use Rattle.text_fields.specs.Fields.{space, newline, numbers_text}
use Rattle.call_round.specs.Answers.{offered_in, sold_in, price_in}
use Rattle.text_writing.proofs.PutLaws.{written_from, written-room, written-fits, written_next, written_all}
use Rattle.text_writing.proofs.PieceLaws.{three-pieces}
use Rattle.award_sheet_round.specs.RoundLines.{price_field}
use Rattle.award_sheet_round.proofs.path_lines.put_path_line.Goals as goal

abbrev named : List ℕ → ℕ → List ℕ
named results path = numbers_text space (path ∷ offered_in results path ∷ sold_in results path ∷ [])

abbrev price : List ℕ → ℕ → List ℕ
price results path = price_field (price_in results path) ++ (newline ∷ [])

pub put_numbers-next-requires : goal.put_numbers-next-requires
put_numbers-next-requires c =
    let a = c.args in
    let l = a.results.now in
    let begun = written_from (three-pieces a.path (offered_in l a.path) (sold_in l a.path) (price l a.path)) c.requires.path_in_bounds in
    record { in_bounds = omega arith; numbers_in_bounds = written-fits begun (named l a.path) (price l a.path) refl }

pub put_price-requires : goal.put_price-requires
put_price-requires c =
    let a = c.args in
    let l = a.results.now in
    let begun = written_from (three-pieces a.path (offered_in l a.path) (sold_in l a.path) (price l a.path)) c.requires.path_in_bounds in
    written-room (written_next begun c.put_numbers-next.ensures)

pub returns : goal.returns
returns c =
    let a = c.args in
    let l = a.results.now in
    let begun = written_from (three-pieces a.path (offered_in l a.path) (sold_in l a.path) (price l a.path)) c.requires.path_in_bounds in
    written_all (written_next begun c.put_numbers-next.ensures) c.put_price.ensures
