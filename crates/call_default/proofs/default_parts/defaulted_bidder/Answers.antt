-- The forfeit is at most cash, applied cash and letter together, so the draw is at most the letter and the subtraction
-- does not go below 0. Each other field is 0 or what one callee ensures.
use mathlib.Core.Path.{◌≡◌, ap}
use native.Mathlib.Omega.{arith}
use Rattle.market.specs.declared.units.Cents.{Cents}
use Rattle.call_default.specs.Default.{draw_of}
use Rattle.call_default.proofs.default_parts.defaulted_bidder.Goals as goal

pub overflow_sub-result : goal.overflow_sub-result
overflow_sub-result c =
    let drawn : c.draw-drawn.result.0 ≡ draw_of c.args.bidder = ap (λ (v : Cents). v.0) c.draw-drawn.ensures in
    omega arith

pub returns : goal.returns
returns c = rw (c.cash_left.ensures, c.draw-drawn.ensures, c.risen.ensures)
