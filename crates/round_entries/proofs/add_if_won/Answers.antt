-- By cases on the MW: with none, `if_won` is empty and writing the counted entries back changes nothing (`none-won`);
-- with some, it is this one entry, and `append` wrote it.
use native.Mathlib.Omega.{arith}
use mathlib.Core.Path.{◌∙◌, ap}
use mathlib.Core.List.{List}
use lib.ListN.{length}
use Rattle.market.specs.declared.book.Entry.{Entry}
use Rattle.round_entries.proofs.EntryLaws.{none-won, won-none, won-some}
use Rattle.round_entries.proofs.add_if_won.Goals as goal

pub returns-then-entry-eq0 : goal.returns-then-entry-eq0
returns-then-entry-eq0 c = let a = c.args in
    let none = won-none a.entry c.if-entry-eq0.true in
    let size = ap (λ (l : List Entry). length l) none in
    record {
      count = omega (arith, size);
      entries = none-won a.register.now a.count (omega (arith, size)) ∙ rw none;
    }

pub append-requires : goal.append-requires
append-requires c = let a = c.args in
    let size = ap (λ (l : List Entry). length l) (won-some a.entry c.if-entry-eq0.false) in
    omega (arith, size)

pub returns : goal.returns
returns c = let a = c.args in
    let one = won-some a.entry c.if-entry-eq0.false in
    let size = ap (λ (l : List Entry). length l) one in
    record {
      count = omega (arith, size);
      entries = c.append.ensures ∙ rw one;
    }
