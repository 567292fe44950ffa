-- An unsound book makes the table's first row hold, so the refusal is 2 whatever the other rows say (unsound-refused). A
-- sound one is what deposit_sound requires, and that call already ensures the rule.
use mathlib.Core.Path.{sym, ◌∙◌}
use Rattle.call_funding.proofs.KeptDeposits.{unsound-refused}
use Rattle.call_funding.proofs.deposit.Goals as goal

pub returns-then-not-sound_book : goal.returns-then-not-sound_book
returns-then-not-sound_book c =
    let a = c.args in
    unsound-refused a.book (sym c.sound_book.ensures ∙ c.if-not-sound_book.true) a.bidder a.to a.amount

pub deposit_sound-requires : goal.deposit_sound-requires
deposit_sound-requires c = sym c.sound_book.ensures ∙ c.if-not-sound_book.false

pub returns : goal.returns
returns c = c.deposit_sound.ensures
