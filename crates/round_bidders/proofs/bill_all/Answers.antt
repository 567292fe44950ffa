use borrow.Author.Rules.{rules}
use mathlib.Core.Path.{◌≡◌, refl, ◌∙◌, ap}
use Rattle.market.proofs.KindLaws.{number-at-any}
use Rattle.market.specs.Books.{cents, in_cents}
use Rattle.market.specs.Limits.{bidder_limit}
use Rattle.round_charges.specs.Charges.{within_charges}
use Rattle.round_bidders.specs.Bidders.{billed_to}
use Rattle.round_bidders.proofs.bill_all.Goals as goal

pub bill-requires-clause-charges_value : goal.bill-requires-clause-charges_value
bill-requires-clause-charges_value c = number-at-any (λ x. x.0) within_charges c.args.charges c.loop-i.i (cents 0) c.requires.charges_value refl

pub returns : goal.returns
returns c =
    let all : c.loop-i.i ≡ bidder_limit = search rules in
    c.loop-i.invariant ∙ ap (billed_to c.args.bidders (in_cents c.args.charges)) all
