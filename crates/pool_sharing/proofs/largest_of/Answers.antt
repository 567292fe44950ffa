-- At the end the best of all is the rule's place (best-of-all).
use borrow.Author.Rules.{rules}
use native.Mathlib.Omega.{arith}
use mathlib.Core.Path.{◌≡◌}
use lib.ListN.{length}
use Rattle.market.specs.Limits.{bidder_limit}
use Rattle.pool_sharing.proofs.Largest.{best-of-all}
use Rattle.pool_sharing.proofs.largest_of.Goals as goal

pub returns-clause-value : goal.returns-clause-value
returns-clause-value c =
    let long : length c.args.rems ≡ bidder_limit = search rules in
    best-of-all c.args.rems c.loop-i.i c.loop-i.best (omega arith) c.loop-i.invariant
