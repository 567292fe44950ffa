use borrow.Author.Rules.{rules}
use mathlib.Core.Path.{ap}
use native.Mathlib.Omega.{arith}
use Rattle.market.proofs.KindLaws.{cents-at, numbers-long, cents-added}
use Rattle.market.specs.Books.{in_cents}
use Rattle.market.specs.Limits.{bidder_limit}
use Rattle.pool_sharing.proofs.HandOut.{one-more-total}
use Rattle.pool_sharing.proofs.Totals.{total-at}
use Rattle.pool_sharing.proofs.Loops.{handed-start, handed-next, handed-all}
use Rattle.pool_sharing.specs.Sharing.{total}
use Rattle.pool_sharing.proofs.hand_out.Goals as goal

pub loop-given-init : goal.loop-given-init
loop-given-init c = (search rules, search rules, search rules, handed-start c.args.left.0 c.args.remainders (in_cents c.args.floors))

pub overflow_add-shares : goal.overflow_add-shares
overflow_add-shares c =
    let shares = c.loop-given.shares in
    let place = c.largest_of-place.result in
    record { fits = omega (arith, total-at (in_cents shares) place, cents-at shares place, c.loop-given.invariant.2) }

pub loop-given-preserved : goal.loop-given-preserved
loop-given-preserved c =
    let a = c.args in
    let at = c.loop-given in
    let place = c.largest_of-place in
    let made = cents-added at.shares place.result 1 in
    let more = one-more-total (in_cents at.shares) place.result (omega (arith, numbers-long at.shares bidder_limit at.invariant.1, place.ensures.upper_bound)) in (
      search rules,
      search rules,
      omega (arith, ap total made, more, at.invariant.2, c.loop-given-test.true),
      rw made
          (handed-next a.left.0 a.remainders (in_cents a.floors) at.given at.rems (in_cents at.shares) at.invariant.3 place.result place.ensures.value
          (search rules)),
    )

pub returns : goal.returns
returns c =
    let a = c.args in
    let at = c.loop-given in
    handed-all a.left.0 a.remainders (in_cents a.floors) at.given at.rems (in_cents at.shares) at.invariant.3 (search rules)
