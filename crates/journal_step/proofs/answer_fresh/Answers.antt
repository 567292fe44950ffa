-- Three ways out: a malformed line is turned away (fresh-away); the engine refuses the routes and the journal stays
-- (fresh_kept); the engine answers and its book is taken (fresh-taken). No fresh book answers bids, so its reply needs
-- no list (fresh-none).
use borrow.Author.Rules.{rules}
use native.Mathlib.Omega.{arith}
use Rattle.market.specs.declared.answer.Outcome.{Outcome}
use Rattle.std.specs.Prelude.{Result}
use Rattle.market.specs.Answers.{bids_in}
use Rattle.market.specs.declared.answer.Answer.{Answer}
use Rattle.journal_reply.specs.Replies.{reply_text}
use Rattle.journal_reply.specs.declared.Told.TheVariants.{Nothing}
use Rattle.journal_fresh_line.specs.FreshLines.{fresh_said}
use mathlib.Core.Path.{◌≡◌, sym, ◌∙◌, ap}
use mathlib.Core.List.{List, []}
use Prim.Native.Nat.{ℕ}
use lib.ListN.{length}
use borrow.Author.Tests.{not-true, not-false}
use Rattle.text_numbers.specs.Put.{put_at}
use Rattle.text_writing.proofs.PutLaws.{put_front}
use Rattle.journal_step.specs.LineStep.{Stepped, fresh_by, fresh_step, turned_away}
use Rattle.journal_step.proofs.LineLaws.{bids-numbered, fresh-none, fresh-away, fresh-made, fresh_kept, fresh-taken}
use Rattle.journal_step.proofs.answer_fresh.Goals as goal

abbrev reply_of : Result Answer ℕ → List ℕ
reply_of answer = reply_text answer Nothing [] [] 0 []

pub returns-then-not-said : goal.returns-then-not-said
returns-then-not-said c =
    let a = c.args in
    let said = c.fresh_said-said in
    let away = c.turn_away in
    let s : turned_away a.journal [] ≡ fresh_step a.journal [] (fresh_said a.text.now) =
    sym (fresh-away a.journal [] said.result (not-true said.result.present c.if-not-said.true)) ∙ ap (fresh_step a.journal []) said.ensures in record {
      journal = away.ensures.journal ∙ ap (λ (x : Stepped). x.journal) s;
      used = away.ensures.used ∙ ap (λ (x : Stepped). length x.text) s;
      bytes = away.ensures.bytes ∙ ap (λ (x : Stepped). put_at a.out.now 0 x.text) s;
    }

pub put_reply-used-requires : goal.put_reply-used-requires
put_reply-used-requires c =
    let said = c.fresh_said-said in
    let none : bids_in c.fresh-outcome.result.answer ≡ 0 =
    ap (λ (o : Outcome). bids_in o.answer) c.fresh-outcome.ensures ∙ fresh-none said.result.routes said.result.count in
    let told : bids_in c.numbered-answer.result ≡ 0 = ap bids_in c.numbered-answer.ensures ∙ bids-numbered c.fresh-outcome.result.answer ∙ none in
    record {
      reply_room_in_bounds = search rules;
      list_len_bound = search rules;
      answer_bound = (omega arith, omega arith);
      paths_le_path_limit = (search rules, search rules);
    }

pub returns-then-is_err : goal.returns-then-is_err
returns-then-is_err c =
    let a = c.args in
    let said = c.fresh_said-said in
    let made = c.fresh-outcome in
    let put = c.put_reply-used in
    let told = ap reply_of c.numbered-answer.ensures in
    let s : fresh_by a.journal [] made.result ≡ fresh_step a.journal [] (fresh_said a.text.now) =
    ap (fresh_by a.journal []) made.ensures
    ∙ sym (fresh-made a.journal [] said.result (not-false said.result.present c.if-not-said.false))
    ∙ ap (fresh_step a.journal []) said.ensures in record {
      journal = sym (fresh_kept a.journal made.result.answer made.result.book (sym c.is_err.ensures.value ∙ c.if-is_err.true)) ∙ ap (λ (x : Stepped). x.journal) s;
      used = put_front put.ensures ∙ ap length told ∙ ap (λ (x : Stepped). length x.text) s;
      bytes = put.ensures.bytes ∙ ap (put_at a.out.now 0) told ∙ ap (λ (x : Stepped). put_at a.out.now 0 x.text) s;
    }

pub returns : goal.returns
returns c =
    let a = c.args in
    let said = c.fresh_said-said in
    let made = c.fresh-outcome in
    let put = c.put_reply-used in
    let told = ap reply_of c.numbered-answer.ensures in
    let s : fresh_by a.journal [] made.result ≡ fresh_step a.journal [] (fresh_said a.text.now) =
    ap (fresh_by a.journal []) made.ensures
    ∙ sym (fresh-made a.journal [] said.result (not-false said.result.present c.if-not-said.false))
    ∙ ap (fresh_step a.journal []) said.ensures in record {
      journal = sym (fresh-taken a.journal made.result.answer made.result.book (sym c.is_err.ensures.value ∙ c.if-is_err.false)) ∙ ap (λ (x : Stepped). x.journal) s;
      used = put_front put.ensures ∙ ap length told ∙ ap (λ (x : Stepped). length x.text) s;
      bytes = put.ensures.bytes ∙ ap (put_at a.out.now 0) told ∙ ap (λ (x : Stepped). put_at a.out.now 0 x.text) s;
    }
