-- By cases on the refusals: a refused fresh book (`book-refused`) or refused deposits (`deposits-refused`) are the
-- answer; else open follows (`deposits-made`). That `fresh` answered gives the few paths that open requires.
use mathlib.Core.Path.{sym, ◌∙◌}
use lib.ListN.{take}
use Rattle.sheet_calls.proofs.OpeningLaws.{book-refused, few-paths, deposits-refused, deposits-made}
use Rattle.sheet_calls.proofs.opened.Goals as goal

pub returns-then-is_err : goal.returns-then-is_err
returns-then-is_err c =
    let a = c.args in
    let made = c.fresh-made in
    let routes = c.routes in
    let bidders = take a.bidders.count a.bidders.lines in
    book-refused a.kind a.period bidders a.paths routes.result routes.ensures made.result made.ensures
    (sym c.is_err.ensures.value ∙ c.if-is_err.true)

pub returns-then-is_err-2 : goal.returns-then-is_err-2
returns-then-is_err-2 c =
    let a = c.args in
    let made = c.fresh-made in
    let routes = c.routes in
    let bidders = take a.bidders.count a.bidders.lines in
    deposits-refused a.kind a.period bidders a.paths routes.result routes.ensures made.result made.ensures
    (sym c.is_err.ensures.value ∙ c.if-is_err.false)
    c.deposits-funded.result c.deposits-funded.ensures (sym c.is_err-2.ensures.value ∙ c.if-is_err-2.true)

pub open_with-requires : goal.open_with-requires
open_with-requires c =
    let a = c.args in
    let made = c.fresh-made in
    let routes = c.routes in
    let bidders = take a.bidders.count a.bidders.lines in
    few-paths a.kind a.period bidders a.paths routes.result routes.ensures made.result made.ensures
    (sym c.is_err.ensures.value ∙ c.if-is_err.false)

pub returns : goal.returns
returns c =
    let a = c.args in
    let made = c.fresh-made in
    let routes = c.routes in
    let bidders = take a.bidders.count a.bidders.lines in
    c.open_with.ensures
    ∙ deposits-made a.kind a.period bidders a.paths routes.result routes.ensures made.result made.ensures
    (sym c.is_err.ensures.value ∙ c.if-is_err.false)
    c.deposits-funded.result c.deposits-funded.ensures (sym c.is_err-2.ensures.value ∙ c.if-is_err-2.false)

pub deposits-funded-requires : goal.deposits-funded-requires
deposits-funded-requires c = c.requires
