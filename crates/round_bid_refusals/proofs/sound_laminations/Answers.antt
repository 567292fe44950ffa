use borrow.Author.Rules.{rules}
use mathlib.Core.Path.{sym}
use Rattle.round_bids.proofs.BidLaws.{tested-none, tested-next, tested-fails, tested-all}
use Rattle.round_bid_refusals.proofs.sound_laminations.Goals as goal

pub loop-i-init : goal.loop-i-init
loop-i-init c = (search rules, let a = c.args in tested-none a.words.now a.at a.count)

pub returns-then-not-sound_lamination-lamination : goal.returns-then-not-sound_lamination-lamination
returns-then-not-sound_lamination-lamination c = let a = c.args in
    let at = c.loop-i in
    let lam = c.lamination_at-lamination in
    let test = c.sound_lamination in
    sym
    (tested-fails a.words.now a.at a.count at.i at.before at.invariant.1 lam.result lam.ensures test.result test.ensures (search rules)
    (c.if-not-sound_lamination-lamination.true))

pub loop-i-preserved : goal.loop-i-preserved
loop-i-preserved c = let a = c.args in
    let at = c.loop-i in
    let lam = c.lamination_at-lamination in
    let test = c.sound_lamination in (
      search rules,
      (tested-next a.words.now a.at a.count at.i at.before at.invariant.1 lam.result lam.ensures test.result test.ensures (search rules)
          (c.if-not-sound_lamination-lamination.false)),
    )

pub returns : goal.returns
returns c = let a = c.args in
    let at = c.loop-i in
    sym (tested-all a.words.now a.at a.count at.i at.before at.invariant.1 (search rules))
