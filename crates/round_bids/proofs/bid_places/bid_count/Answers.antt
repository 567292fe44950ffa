use native.Mathlib.Omega.{arith}
use Rattle.market.specs.Limits.{path_limit}
use Rattle.round_bids.proofs.Walk.{walk_start}
use Rattle.round_bids.proofs.Turns.{drained}
use Rattle.round_bids.proofs.bid_places.bid_count.Goals as goal

pub returns : goal.returns
returns c =
    let ran = c.count.ensures.ran in
    let all = drained ran.0 c.places.result 0 c.places.ensures.words (rw c.places.ensures.at (walk_start path_limit c.args.words.now c.requires.sound)) ran.1 in
    omega (arith, ran.2, all)
