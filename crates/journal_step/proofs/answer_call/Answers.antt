-- By cases on whether the call is a round: either way the two lists are as long as the rule lends for this call, so
-- what answer_lent ensures is what the rule's call leaves (left-same).
use mathlib.Core.Path.{◌≡◌, refl, sym, ◌∙◌, ap}
use mathlib.Core.Bool.{Bool, true, false}
use lib.ListN.{length}
use Rattle.text_numbers.specs.Put.{put_at}
use Rattle.call_rules.specs.Steps.{Left}
use Rattle.engine.specs.declared.calls.Call.{Call}
use denote.Enum.Bare.{sameb}
use Rattle.journal_step.specs.contracts.answers.Tell.{the_type}
use Rattle.journal_step.specs.declared.answers.Tell.{Tell}
use Rattle.journal_step.specs.declared.answers.Tell.TheVariants as tells
use Rattle.journal_step.specs.LineStep.{is_round, tell_by, called_by}
use Rattle.journal_step.proofs.LineLaws.{left-same}
use Rattle.journal_step.proofs.answer_call.Goals as goal

-- only a round tells what a round awards
awards : (t : Tell) → sameb the_type t tells.Awards ≡ is_round t
awards tells.Nothing = refl
awards tells.Offers = refl
awards tells.Awards = refl
awards tells.Amounts = refl

tested-by : (call : Call) {tell : Tell} {t : Bool} → tell ≡ tell_by call → sameb the_type tell tells.Awards ≡ t → is_round (tell_by call) ≡ t
tested-by call {tell = tell} e h = ap is_round (sym e) ∙ sym (awards tell) ∙ h

pub answer_lent-requires : goal.answer_lent-requires
answer_lent-requires c = c.requires

pub returns-then-eq : goal.returns-then-eq
returns-then-eq c =
    let a = c.args in
    let made = c.answer_lent.ensures in
    let tested : is_round (tell_by a.call) ≡ true = tested-by a.call c.tell_of.ensures (sym c.eq.ensures ∙ c.if-eq.true) in
    let same = left-same a.book a.register.now a.call a.list.now a.prices.now true tested in record {
      journal = made.journal ∙ ap (λ (l : Left). (called_by a.call l).journal) same;
      used = made.used ∙ ap (λ (l : Left). length (called_by a.call l).text) same;
      bytes = made.bytes ∙ ap (λ (l : Left). put_at a.out.now 0 (called_by a.call l).text) same;
      register = made.register ∙ ap (λ (l : Left). (called_by a.call l).register) same;
    }

pub answer_lent-requires-2 : goal.answer_lent-requires-2
answer_lent-requires-2 c = c.requires

pub returns : goal.returns
returns c =
    let a = c.args in
    let made = c.answer_lent-2.ensures in
    let tested : is_round (tell_by a.call) ≡ false = tested-by a.call c.tell_of.ensures (sym c.eq.ensures ∙ c.if-eq.false) in
    let same = left-same a.book a.register.now a.call a.list.now a.prices.now false tested in record {
      journal = made.journal ∙ ap (λ (l : Left). (called_by a.call l).journal) same;
      used = made.used ∙ ap (λ (l : Left). length (called_by a.call l).text) same;
      bytes = made.bytes ∙ ap (λ (l : Left). put_at a.out.now 0 (called_by a.call l).text) same;
      register = made.register ∙ ap (λ (l : Left). (called_by a.call l).register) same;
    }
