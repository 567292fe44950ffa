-- Laws about paths taken one by one.
use mathlib.Core.Path.{◌≡◌, ap}
use mathlib.Core.List.{List}
use Prim.Native.Nat.{ℕ, suc, ◌+◌}
use native.Mathlib.Omega.{arith}
use lib.ListN.{get_or, set}
use Rattle.market.specs.Books.{no_path}
use Rattle.market.specs.declared.book.Path.{Path}
use Rattle.round_paths.specs.PathSales.{with_sold, sold_to}

pub sold-next : (slots : List Path) (sold : List ℕ) (i : ℕ) → set (sold_to slots sold i) i (with_sold (get_or slots i no_path) (get_or sold i 0)) ≡ sold_to slots sold (i + 1)
sold-next slots sold i = ap (sold_to slots sold) (let next : suc i ≡ i + 1 = omega arith in next)
