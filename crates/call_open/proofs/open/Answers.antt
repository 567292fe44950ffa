-- By cases on the verdict: a refusal is the rule's (refuses); none gives its answer (takes). Where no row
-- holds, open-cleared gives the sound register and the length of the quantities, which opened_paths requires.
use mathlib.Core.Path.{sym, ◌∙◌, ap}
use mathlib.Core.List.{List}
use Rattle.market.specs.Answers.{answered}
use Rattle.market.specs.Books.{with_auction}
use Rattle.market.specs.declared.book.Path.{Path}
use Rattle.market.specs.declared.book.Stage.TheVariants.{Open}
use Rattle.call_rules.proofs.Decides.{refuses, takes}
use Rattle.call_open.proofs.Cleared.{open-cleared}
use Rattle.call_open.specs.Open.{«open»}
use Rattle.call_open.proofs.open.Goals as goal

pub returns-in-Err : goal.returns-in-Err
returns-in-Err c =
    let a = c.args in
    refuses («open» a.kind a.period a.quantities.now) a.book a.words.now _ (c.check.ensures a.kind) c.in-Err.is

pub opened_paths-paths-requires : goal.opened_paths-paths-requires
opened_paths-paths-requires c =
    let a = c.args in
    let lent = open-cleared a.book a.words.now a.kind a.period a.quantities.now (sym (c.check.ensures a.kind) ∙ c.in_default.is) in
    record {
      lent_register = lent.register;
      book_in_bounds = lent.long;
    }

pub returns : goal.returns
unfolding «open»
returns c =
    let p = c.before.before in
    let a = p.args in
    ap answered
    (c.with_auction.ensures ∙ ap (λ (l : List Path). with_auction a.book l (Open a.kind 1 a.period)) c.opened_paths-paths.ensures)
    ∙ takes («open» a.kind a.period a.quantities.now) a.book a.words.now _ (p.check.ensures a.kind) p.in_default.is
