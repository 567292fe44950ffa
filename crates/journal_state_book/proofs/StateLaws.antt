-- Laws about the lines of the state, piece by piece, and that each fits.
use mathlib.Core.Path.{◌≡◌, refl, sym, ◌∙◌, ap}
use mathlib.Core.Bool.{Bool, true, false, cond, true≢false}
use mathlib.Core.List.{[], ◌∷◌, ◌++◌, append_assoc, append-nil}
use Prim.Native.Nat.{ℕ, suc, ◌≤◌, ◌<◌}
use native.Mathlib.Omega.{arith}
use lib.IntN.{ℤ, pos, negsuc, nat_abs}
use lib.Signed.{lt_z}
use lib.ListN.{length, length-append}
use borrow.Author.Tests.{ltb-true}
use Rattle.market.specs.Limits.{release, rule_edition}
use Rattle.market.specs.declared.book.Bidder.{Bidder}
use Rattle.market.specs.declared.book.Direction.{Direction}
use Rattle.market.specs.declared.book.Direction.TheVariants.{Export, Import}
use Rattle.market.specs.declared.book.Entry.{Entry}
use Rattle.market.specs.declared.book.Kind.{Kind}
use Rattle.market.specs.declared.book.Kind.TheVariants.{Short, Long}
use Rattle.market.specs.declared.book.Path.{Path}
use Rattle.market.specs.declared.book.Period.{Period}
use Rattle.market.specs.declared.book.Stage.{Stage}
use Rattle.market.specs.declared.book.Stage.TheVariants.{Idle, Open}
use Rattle.text_numbers.specs.Decimal.{decimal}
use Rattle.text_fields.specs.Fields.{newline}
use Rattle.journal_rows.specs.Rows.{row, last_row}
use Rattle.journal_rows.proofs.RowLaws.{decimal-most, row-most, last-row-most}
use Rattle.journal_state_book.specs.States.{line_room, engine_text, account_text, open_text, stage_text, book_text, direction_mark, offer_text, path_text, blank, bidder_text, bidder_part, entry_text}
use Rattle.journal_state_book.specs.Words as words

-- ---- Pieces

-- a balance below 0, and any other
pub account-debt : (z : ℤ) → lt_z z (pos 0) ≡ true → account_text z ≡ words.debt_mark ++ decimal (nat_abs z)
account-debt (pos n) below =
    let none : n < 0 = ltb-true n 0 below in
    absurd (omega arith)
account-debt (negsuc n) below = refl

pub account-plain : (z : ℤ) → lt_z z (pos 0) ≡ false → account_text z ≡ row words.book_mark (nat_abs z ∷ [])
account-plain (pos n) above = refl
account-plain (negsuc n) above = absurd (true≢false above)

pub book-pieces : (account : ℤ) (entries : ℕ) (stage : Stage) → book_text account entries stage ≡ account_text account ++ (row words.count_mark (entries ∷ []) ++ (stage_text stage ++ (newline ∷ [])))
book-pieces account entries stage =
    let counted = row words.count_mark (entries ∷ []) in
    append_assoc (account_text account ++ counted) (stage_text stage) (newline ∷ [])
    ∙ append_assoc (account_text account) counted (stage_text stage ++ (newline ∷ []))

pub bidder-none : (i : ℕ) (x : Bidder) → blank x ≡ true → bidder_part i x ≡ []
bidder-none i x is = ap (λ (t : Bool). cond t [] (bidder_text i x)) is

pub bidder-some : (i : ℕ) (x : Bidder) → blank x ≡ false → bidder_part i x ≡ bidder_text i x ++ []
bidder-some i x is = ap (λ (t : Bool). cond t [] (bidder_text i x)) is ∙ sym (append-nil (bidder_text i x))

-- ---- Every line fits

pub engine-fits : length engine_text ≤ line_room
engine-fits =
    omega (
      arith,
      row-most words.engine_mark (release ∷ []),
      last-row-most words.rules_mark (rule_edition ∷ []),
      length-append (row words.engine_mark (release ∷ [])) (last_row words.rules_mark (rule_edition ∷ [])),
    )

account-most : (z : ℤ) → length (account_text z) ≤ 36
account-most (pos n) = omega (arith, row-most words.book_mark (n ∷ []))
account-most (negsuc n) = omega (arith, decimal-most (suc n), length-append words.debt_mark (decimal (suc n)))

pub account-fits : (z : ℤ) → length (account_text z) ≤ line_room
account-fits z = omega (arith, account-most z)

open-most : (kind : Kind) (round : ℕ) (period : Period) → length (open_text kind round period) ≤ 70
open-most Short round period = omega (arith, row-most words.short_mark (round ∷ period.first.0 ∷ period.last.0 ∷ []))
open-most Long round period = omega (arith, row-most words.long_mark (round ∷ period.first.0 ∷ period.last.0 ∷ []))

stage-most : (stage : Stage) → length (stage_text stage) ≤ 70
stage-most Idle = omega arith
stage-most (Open kind round period) = open-most kind round period

pub book-fits : (account : ℤ) (entries : ℕ) (stage : Stage) → length (book_text account entries stage) ≤ line_room
book-fits account entries stage =
    let owned = account_text account in
    let counted = row words.count_mark (entries ∷ []) in
    omega (
      arith,
      account-most account,
      row-most words.count_mark (entries ∷ []),
      stage-most stage,
      length-append owned counted,
      length-append (owned ++ counted) (stage_text stage),
      length-append (owned ++ counted ++ stage_text stage) (newline ∷ []),
    )

direction-most : (d : Direction) → length (direction_mark d) ≤ 2
direction-most Export = omega arith
direction-most Import = omega arith

pub path-fits : (i : ℕ) (p : Path) → length (path_text i p) ≤ line_room
path-fits i p =
    omega (
      arith,
      row-most words.path_mark (i ∷ []),
      direction-most p.direction,
      last-row-most (direction_mark p.direction) (p.zone ∷ p.offer.0 ∷ p.sold.0 ∷ []),
      length-append (row words.path_mark (i ∷ [])) (offer_text p),
    )

pub bidder-fits : (i : ℕ) (x : Bidder) → length (bidder_part i x) ≤ line_room
bidder-fits i x = go (blank x)
  where
    go : (t : Bool) → length (cond t [] (bidder_text i x)) ≤ line_room
    go true = omega arith
    go false = omega (arith, last-row-most words.bidder_mark (i ∷ x.cash.0 ∷ x.applied.0 ∷ x.letter.0 ∷ x.hold.0 ∷ x.owed.0 ∷ x.step ∷ []))

pub entry-fits : (i : ℕ) (e : Entry) → length (entry_text i e) ≤ line_room
entry-fits i e =
    omega
    (arith, last-row-most words.entry_mark (i ∷ e.bidder ∷ e.path ∷ e.quantity.0 ∷ e.period.first.0 ∷ e.period.last.0 ∷ e.state ∷ []))
