-- Laws about bidders billed one by one.
use mathlib.Core.Path.{◌≡◌, ap}
use mathlib.Core.List.{List}
use Prim.Native.Nat.{ℕ, suc, ◌+◌}
use native.Mathlib.Omega.{arith}
use lib.ListN.{get_or, set}
use Rattle.market.specs.Books.{no_bidder}
use Rattle.market.specs.declared.book.Bidder.{Bidder}
use Rattle.round_bidders.specs.Bidders.{billed, billed_to}

pub billed-next :
    (bidders : List Bidder) (charges : List ℕ) (i : ℕ)
    → set (billed_to bidders charges i) i (billed (get_or bidders i no_bidder) (get_or charges i 0)) ≡ billed_to bidders charges (i + 1)
billed-next bidders charges i = ap (billed_to bidders charges) (let next : suc i ≡ i + 1 = omega arith in next)
