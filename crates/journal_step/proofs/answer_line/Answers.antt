-- By cases on the first word: a line that begins with `fresh` neither uses nor changes the register (fresh-journal,
-- fresh-text, fresh-register), and its lists stay; any other is answer_said's. line-fresh and line-said say that both
-- are the rule's step.
use mathlib.Core.Bool.{Bool, cond}
use Rattle.market.specs.Limits.{zones}
use Rattle.market.specs.Books.{with_front}
use Rattle.journal_call_line.specs.CallLine.{line_words, line_prices}
use Rattle.journal_step.specs.LineStep.{word_room, Stepped, fresh_step}
use mathlib.Core.Path.{sym, ◌∙◌, ap}
use mathlib.Core.List.{List, []}
use Prim.Native.Nat.{ℕ}
use lib.ListN.{length}
use Rattle.text_numbers.specs.Put.{put_at}
use Rattle.journal_fresh_line.specs.FreshLines.{fresh_said}
use Rattle.journal_step.proofs.LineLaws.{fresh-journal, fresh-text, fresh-register, line-fresh, line-said}
use Rattle.journal_step.proofs.answer_line.Goals as goal

-- a list with the line's own numbers at its front, where the line is not that of a fresh book
abbrev own : {X : Type 0} → List X → List X → Bool → List X
own xs list t = with_front (cond t [] xs) list

pub returns-in-Some : goal.returns-in-Some
returns-in-Some c =
    let a = c.args in
    let word = c.in-Some.ensures in
    let text = c.in-Some.text.now in
    let made = c.answer_fresh in
    let out = a.out.now in
    let f = fresh_said text in
    let s =
    ap (λ (l : List ℕ). fresh_step a.journal a.register.now (fresh_said l)) word.1
    ∙ line-fresh a.journal a.register.now a.line.now word.0 in
    let is = sym word.0 in
    let same = fresh-text a.journal a.register.now f in record {
      journal = made.ensures.journal ∙ fresh-journal a.journal a.register.now f ∙ ap (λ (x : Stepped). x.journal) s;
      used = made.ensures.used ∙ ap length same ∙ ap (λ (x : Stepped). length x.text) s;
      bytes = made.ensures.bytes ∙ ap (put_at out 0) same ∙ ap (λ (x : Stepped). put_at out 0 x.text) s;
      register = fresh-register a.journal a.register.now f ∙ ap (λ (x : Stepped). x.register) s;
      words = ap (own (line_words word_room zones a.line.now) a.words.now) is;
      prices = ap (own
          (line_prices word_room zones a.line.now) a.prices.now) is;
    }

pub returns : goal.returns
returns c =
    let a = c.args in
    let none = c.in_default.ensures in
    let done = c.answer_said in
    let is = sym none in
    let s =
    line-said a.journal a.register.now a.line.now none in record {
      journal = done.ensures.journal ∙ ap (λ (x : Stepped). x.journal) s;
      used = done.ensures.used ∙ ap (λ (x : Stepped). length x.text) s;
      bytes = done.ensures.bytes ∙ ap (λ (x : Stepped). put_at a.out.now 0 x.text) s;
      register = done.ensures.register
          ∙ ap (λ (x : Stepped). x.register) s;
      words = done.ensures.words ∙ ap (own (line_words word_room zones a.line.now) a.words.now) is;
      prices = done.ensures.prices ∙ ap (own
          (line_prices word_room zones a.line.now) a.prices.now) is;
    }
