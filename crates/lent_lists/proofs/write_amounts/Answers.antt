-- The array has the number of each amount (mapped), which the copy puts over as many words at the front.
use borrow.Author.Rules.{rules}
use mathlib.Core.Path.{sym, ◌∙◌, ap₂}
use mathlib.Core.List.{List, ◌++◌}
use Prim.Native.Nat.{ℕ}
use lib.ListN.{drop}
use lib.Seq.{length-take-le}
use Rattle.market.proofs.KindLaws.{numbers-long}
use Rattle.market.specs.Books.{cents}
use Rattle.market.specs.Limits.{bidder_limit}
use Rattle.market.specs.declared.units.Cents.{Cents}
use Rattle.pool_sharing.proofs.Arrays.{mapped}
use Rattle.lent_lists.proofs.write_amounts.Goals as goal

pub copy_from_slice-requires : goal.copy_from_slice-requires
copy_from_slice-requires c = length-take-le bidder_limit c.args.lent.now c.requires ∙ sym c.map.ensures.items.long

pub returns : goal.returns
returns c =
    let a = c.args in
    let amounts = mapped _ _ (λ (x : Cents). x.0) (λ x y q k. (search rules, search rules)) a.amounts c.map.result bidder_limit (search rules) (cents 0) c.map.ensures.items in
    ap₂ (λ (l : List ℕ) (n : ℕ). l ++ drop n a.lent.now) (c.copy_from_slice.ensures.after ∙ amounts) (sym (numbers-long a.amounts bidder_limit (search rules)))
