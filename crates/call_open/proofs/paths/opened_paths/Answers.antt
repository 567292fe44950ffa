use mathlib.Core.Path.{◌≡◌, sym, ◌∙◌, ap, ap₂}
use mathlib.Core.List.{List}
use Prim.Native.Nat.{ℕ, ◌+◌, ◌*◌, ◌≤◌, ◌<◌}
use native.Mathlib.Omega.{arith}
use lib.ListN.{length, get_or, set}
use Rattle.market.proofs.KindLaws.{megawatts-at}
use Rattle.market.specs.Books.{in_megawatts, no_path}
use Rattle.market.specs.Limits.{path_limit, quantity_words}
use Rattle.market.specs.declared.book.Path.{Path}
use Rattle.register.specs.Refusals.{counted_entries}
use Rattle.call_open_offers.specs.Offers.{auction_offer}
use Rattle.call_open_offers.specs.declared.Quantities.{Quantities}
use Rattle.call_open.proofs.PathLaws.{paths-within, opened_by, more-opened, opened-same}
use Rattle.call_open.specs.OpenedPaths.{offering}
use Rattle.call_open.proofs.paths.opened_paths.Goals.{In-loop-i}
use Rattle.call_open.proofs.paths.opened_paths.Goals as goal

pub outstanding-out-requires : goal.outstanding-out-requires
outstanding-out-requires c =
    let lent = c.requires.lent_register in
    record {
      entry_words_in_bounds = lent.room;
      count_le_entry_limit = lent.count;
      paths_le_path_limit = paths-within c.args.book c.args.words.now lent;
      count_value = lent.entries;
    }

-- the path in hand
module _ (p : In-loop-i) where
  inside : p.loop-i.i < path_limit
  inside = omega (arith, paths-within p.args.book p.args.words.now p.requires.lent_register, p.loop-i-test.true)

  asked : (p.loop-i.i + 1) * quantity_words ≤ length p.args.quantities.now
  asked = omega (arith, p.requires.book_in_bounds, p.loop-i-test.true)

pub loop-i-preserved : goal.loop-i-preserved
loop-i-preserved c =
    let a = c.args in
    let at = c.loop-i in
    let out = c.outstanding-out.result in
    let slots = a.book.paths in
    let made =
    c.opened_path.ensures
    ∙ ap₂ (λ (of : Quantities) (n : ℕ). offering (get_or slots at.i no_path) (auction_offer a.kind of n)) c.quantities_at-of.ensures (sym (megawatts-at out at.i))
    in
    ap₂ (λ (l : List Path) (x : Path). set l at.i x) at.invariant made ∙ sym (more-opened a.kind a.quantities.now (in_megawatts out) slots at.i)

pub returns : goal.returns
returns c =
    let a = c.args in
    let at = c.loop-i in
    let out = c.outstanding-out in
    let all : at.i ≡ a.book.path_count = omega arith in
    at.invariant
    ∙ ap (opened_by a.kind a.quantities.now (in_megawatts out.result) a.book.paths) all
    ∙ opened-same a.kind a.period (counted_entries a.book a.words.now) a.quantities.now (in_megawatts out.result) a.book.paths out.ensures a.book.path_count

pub quantities_at-of-requires : goal.quantities_at-of-requires
quantities_at-of-requires c = asked (goal.at.quantities_at-of-requires c).In-loop-i

pub offset_bounds-book-i : goal.offset_bounds-book-i
offset_bounds-book-i c = record { fits = omega (arith, inside (goal.at.offset_bounds-book-i c).In-loop-i) }

pub bounds-book-i : goal.bounds-book-i
bounds-book-i c = inside (goal.at.bounds-book-i c).In-loop-i

pub offset_bounds-out-i : goal.offset_bounds-out-i
offset_bounds-out-i c = record { fits = omega (arith, inside (goal.at.offset_bounds-out-i c).In-loop-i) }

pub bounds-out-i : goal.bounds-out-i
bounds-out-i c = inside (goal.at.bounds-out-i c).In-loop-i

pub offset_bounds-paths-i : goal.offset_bounds-paths-i
offset_bounds-paths-i c = record { fits = omega (arith, inside (goal.at.offset_bounds-paths-i c).In-loop-i) }

pub bounds-paths-i : goal.bounds-paths-i
bounds-paths-i c = inside (goal.at.bounds-paths-i c).In-loop-i

pub overflow_step-i : goal.overflow_step-i
overflow_step-i c = record { fits = omega (arith, inside (goal.at.overflow_step-i c).In-loop-i) }
