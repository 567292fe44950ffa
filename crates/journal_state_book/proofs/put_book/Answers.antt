-- The line is four pieces (book-pieces): the account, the entry count, the stage, byte 10. Each call writes the next
-- piece where the one before it ends (written_on); the whole line fits the buffer by book-fits.
use native.Mathlib.Omega.{arith}
use mathlib.Core.Path.{refl, subst}
use mathlib.Core.List.{List, [], ◌∷◌, ◌++◌}
use Prim.Native.Nat.{ℕ, ◌≤◌}
use lib.IntN.{ℤ}
use lib.ListN.{length}
use Rattle.market.specs.declared.book.Stage.{Stage}
use Rattle.text_fields.specs.Fields.{newline}
use Rattle.journal_rows.specs.Rows.{row}
use Rattle.text_writing.proofs.PutLaws.{WrittenTo, written_none, written-fits, written_on, written-room, written_all}
use Rattle.journal_state_book.specs.States.{line_room, account_text, stage_text, book_text}
use Rattle.journal_state_book.specs.Words as words
use Rattle.journal_state_book.proofs.StateLaws.{book-pieces, book-fits}
use Rattle.journal_state_book.proofs.put_book.Goals as goal

-- the pieces of the line after the account
abbrev counted : ℕ → List ℕ
counted entries = row words.count_mark (entries ∷ [])

-- at the start nothing of the line is written
begun :
    (out : List ℕ) (account : ℤ) (entries : ℕ) (stage : Stage) → line_room ≤ length out
    → WrittenTo out 0 (book_text account entries stage) (account_text account ++ (counted entries ++ (stage_text stage ++ (newline ∷ [])))) 0 out
begun out account entries stage room =
    subst (λ (rest : List ℕ). WrittenTo out 0 (book_text account entries stage) rest 0 out)
    (book-pieces account entries stage)
    (written_none out 0 (book_text account entries stage) (omega (arith, book-fits account entries stage, room)))

pub put_row-counted-requires : goal.put_row-counted-requires
put_row-counted-requires c =
    let a = c.args in
    let s = begun a.out.now a.account.0 a.entries a.stage c.requires in
    let t = written_on s (account_text a.account.0) (counted a.entries ++ (stage_text a.stage ++ (newline ∷ []))) refl c.put_account-owned.ensures in
    written-fits t (counted a.entries) (stage_text a.stage ++ (newline ∷ [])) refl

pub put_stage-end-requires : goal.put_stage-end-requires
put_stage-end-requires c =
    let a = c.args in
    let s = begun a.out.now a.account.0 a.entries a.stage c.requires in
    let t = written_on s (account_text a.account.0) (counted a.entries ++ (stage_text a.stage ++ (newline ∷ []))) refl c.put_account-owned.ensures in
    let u = written_on t (counted a.entries) (stage_text a.stage ++ (newline ∷ [])) refl c.put_row-counted.ensures in
    written-fits u (stage_text a.stage) (newline ∷ []) refl

pub put_bytes-requires : goal.put_bytes-requires
put_bytes-requires c =
    let a = c.args in
    let s = begun a.out.now a.account.0 a.entries a.stage c.requires in
    let t = written_on s (account_text a.account.0) (counted a.entries ++ (stage_text a.stage ++ (newline ∷ []))) refl
    c.put_account-owned.ensures in
    let u = written_on t (counted a.entries) (stage_text a.stage ++ (newline ∷ [])) refl c.put_row-counted.ensures in
    written-room (written_on u (stage_text a.stage) (newline ∷ []) refl c.put_stage-end.ensures)

pub returns : goal.returns
returns c =
    let a = c.args in
    let s = begun a.out.now a.account.0 a.entries a.stage c.requires in
    let t =
    written_on s (account_text a.account.0) (counted a.entries ++ (stage_text a.stage ++ (newline ∷ []))) refl
    c.put_account-owned.ensures in
    let u = written_on t (counted a.entries) (stage_text a.stage ++ (newline ∷ [])) refl c.put_row-counted.ensures in
    let v = written_on u (stage_text a.stage) (newline ∷ []) refl c.put_stage-end.ensures in
    written_all v c.put_bytes.ensures
