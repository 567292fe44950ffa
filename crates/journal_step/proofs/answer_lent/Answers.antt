-- A straight line: call_lent leaves what the rule's step leaves, and put_answer writes its text, which is the rule's
-- (call-text). The hard need is that the list has room for the answers of all bids that the answer tells of
-- (few-bids).
use mathlib.Core.Bool.{true}
use mathlib.Core.Path.{◌∙◌, ap}
use native.Mathlib.Omega.{arith}
use lib.ListN.{length, replicate}
use Rattle.market.specs.Answers.{bids_in}
use Rattle.market.specs.Limits.{bidder_limit, path_answer_words}
use Rattle.market.specs.declared.book.Book.{Book}
use Rattle.text_numbers.specs.Put.{put_at}
use Rattle.call_rules.proofs.StepLaws.{few-bids}
use Rattle.call_rules.specs.Steps.{Left}
use Rattle.engine.proofs.Laws.{lawful}
use Rattle.engine.specs.Lent.{lists_of}
use Rattle.engine.specs.Rules.{rule_of}
use Rattle.text_writing.proofs.PutLaws.{put_front}
use Rattle.journal_step.specs.declared.Journal.{Journal}
use Rattle.journal_step.specs.LineStep.{lent_with}
use Rattle.journal_step.proofs.LineLaws.{call-text}
use Rattle.journal_step.proofs.answer_lent.Goals as goal

pub put_answer-used-requires : goal.put_answer-used-requires
put_answer-used-requires c =
    let a = c.args in
    let made = c.call_lent-outcome in
    let lent = lent_with a.list.now a.prices.now (replicate bidder_limit 0) a.answers.now (replicate path_answer_words 0) a.scratch.now in
    let fits = few-bids (rule_of a.call lent) (lists_of lent) (lawful a.call lent) a.book a.register.now in
    let told = ap (λ (l : Left). bids_in l.outcome.answer) made.ensures in record {
      reply_room_in_bounds = c.requires;
      amounts_len = omega arith;
      results_len = omega arith;
      answer_bound = (omega (arith, told, fits.0), omega (arith, told, fits.1));
    }

abbrev begun : Book → Journal
begun book = record { ready = true; book = book }

pub returns : goal.returns
returns c =
    let a = c.args in
    let made = c.call_lent-outcome in
    let put = c.put_answer-used in
    let tell = c.tell_of-tell in
    let lent = lent_with a.list.now a.prices.now (replicate bidder_limit 0) a.answers.now (replicate path_answer_words 0) a.scratch.now in
    let same = call-text a.call _ _ tell.result tell.ensures made.ensures in record {
      journal = ap (λ (l : Left). begun l.outcome.book) made.ensures;
      used = put_front put.ensures ∙ ap length same;
      bytes = put.ensures.bytes ∙ ap (put_at a.out.now 0) same;
      register = ap (λ (l : Left). l.words) made.ensures;
    }
