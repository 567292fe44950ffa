-- By cases on the sign: a balance below 0 is the mark with a minus sign and then its size (account-debt), any other is
-- one row (account-plain). The size that is written is nat_abs of the balance, by magnitude's contract.
use native.Mathlib.Omega.{arith}
use mathlib.Core.Path.{◌≡◌, refl, sym, ◌∙◌, ap}
use mathlib.Core.List.{[], ◌∷◌, ◌++◌, append-nil}
use Prim.Native.Nat.{ℕ}
use lib.IntN.{nat_abs}
use borrow.Author.Rules.{rules}
use Rattle.text_numbers.specs.Decimal.{decimal}
use Rattle.journal_rows.specs.Rows.{row}
use Rattle.text_writing.proofs.PutLaws.{written_none, written-fits, written_on, written-room, written_all, written-done}
use Rattle.journal_state_book.specs.States.{account_text}
use Rattle.journal_state_book.specs.Words as words
use Rattle.journal_state_book.proofs.StateLaws.{account-debt, account-plain, account-fits}
use Rattle.journal_state_book.proofs.put_account.Goals as goal

pub put_number-requires : goal.put_number-requires
put_number-requires c =
    let a = c.args in
    let z = a.account.0 in
    let size = c.magnitude-size.result in
    let same : size ≡ nat_abs z = search rules in
    let s = written_none a.out.now 0 (account_text z) (omega (arith, account-fits z, c.requires)) in
    let e =
    account-debt z (sym c.below_zero.ensures ∙ c.if-below_zero.true)
    ∙ ap (λ (n : ℕ). words.debt_mark ++ decimal n) (sym same) in
    let put = c.put_bytes-next in
    let t = written_on s words.debt_mark (decimal size) e put.ensures in
    written-room t

pub returns-then-below_zero : goal.returns-then-below_zero
returns-then-below_zero c =
    let a = c.args in
    let z = a.account.0 in
    let size = c.magnitude-size.result in
    let same : size ≡ nat_abs z = search rules in
    let s = written_none a.out.now 0 (account_text z) (omega (arith, account-fits z, c.requires)) in
    let e =
    account-debt z
    (sym c.below_zero.ensures
    ∙ c.if-below_zero.true)
    ∙ ap (λ (n : ℕ). words.debt_mark ++ decimal n) (sym same) in
    let put = c.put_bytes-next in
    let t = written_on s words.debt_mark (decimal size) e put.ensures in
    let next = c.put_number in
    written_all t next.ensures

pub put_row-requires : goal.put_row-requires
put_row-requires c =
    let a = c.args in
    let z = a.account.0 in
    let size = c.magnitude-size.result in
    let same : size ≡ nat_abs z = search rules in
    let s = written_none a.out.now 0 (account_text z) (omega (arith, account-fits z, c.requires)) in
    let piece = row words.book_mark (size ∷ []) in
    let e =
    account-plain z (sym c.below_zero.ensures ∙ c.if-below_zero.false) ∙ ap (λ (n : ℕ). row words.book_mark (n ∷ [])) (sym same)
    ∙ sym (append-nil piece) in
    written-fits s piece [] e

pub returns : goal.returns
returns c =
    let a = c.args in
    let z = a.account.0 in
    let size = c.magnitude-size.result in
    let same : size ≡ nat_abs z = search rules in
    let s = written_none a.out.now 0 (account_text z) (omega (arith, account-fits z, c.requires)) in
    let piece = row words.book_mark (size ∷ []) in
    let e =
    account-plain z (sym c.below_zero.ensures ∙ c.if-below_zero.false)
    ∙ ap (λ (n : ℕ). row words.book_mark (n ∷ [])) (sym same) ∙ sym (append-nil piece) in
    let put = c.put_row in
    written-done (written_on s piece [] e put.ensures) refl
