-- An unsound book makes the table's first row hold, so the refusal is that of the state whatever the other rows say (refuses). A sound
-- one is what withdraw_sound requires, and that call already ensures the rule.
use mathlib.Core.Path.{refl, sym, ◌∙◌}
use Rattle.std.specs.Prelude.{Err}
use Rattle.market.specs.declared.answer.Refusal.{Refusal}
use Rattle.call_rules.proofs.Decides.{refuses}
use Rattle.call_rules.specs.Steps.{no_register, verdict_of}
use Rattle.call_funding.specs.Withdraw.{withdraw}
use Rattle.call_funding.proofs.withdraw.Goals as goal

pub returns-then-not-sound_book : goal.returns-then-not-sound_book
unfolding verdict_of withdraw
returns-then-not-sound_book c =
    let a = c.args in
    refuses (withdraw a.bidder a.from a.amount) a.book no_register (Err Refusal.Unsound)
    (rw (sym c.sound_book.ensures ∙ c.if-not-sound_book.true)) refl

pub withdraw_sound-requires : goal.withdraw_sound-requires
withdraw_sound-requires c = sym c.sound_book.ensures ∙ c.if-not-sound_book.false

pub returns : goal.returns
returns c = c.withdraw_sound.ensures
