use mathlib.Core.Path.{◌≡◌, sym, ◌∙◌, ap, subst}
use mathlib.Core.List.{List}
use Prim.Native.Nat.{ℕ, ◌+◌, ◌*◌, ◌≤◌, ◌<◌}
use native.Mathlib.Omega.{arith}
use lib.ListN.{length, get_or, set, length-map}
use borrow.Author.Rules.{rules}
use Rattle.market.proofs.KindLaws.{megawatts-at}
use Rattle.market.specs.Books.{megawatts, in_megawatts}
use Rattle.market.specs.Limits.{path_limit, quantity_limit}
use Rattle.market.specs.declared.book.Entry.{Entry}
use Rattle.market.specs.declared.units.Megawatts.{Megawatts}
use Rattle.register.proofs.EntryLaws.{EntryBounds, each-bounds}
use Rattle.register.specs.Entries.{counted_of, outstanding}
use Rattle.register.specs.Words.{entry_at, entries_of}
use Rattle.register_entries.proofs.OutstandingLaws.{shared, shared-within, outstanding-more, outstanding-within, megawatts-added, path-added}
use Rattle.register_entries.proofs.outstanding.Goals.{After-counted}
use Rattle.register_entries.proofs.outstanding.Goals as goal

-- the entry in hand
module _ (p : After-counted) where
  abbrev i : ℕ
  i = p.loop-i.i

  abbrev entry : Entry
  entry = entry_at p.args.words.now i

  abbrev sums : List Megawatts
  sums = p.loop-i.sums

  within : EntryBounds p.args.paths entry
  within = each-bounds p.args.paths p.args.words.now p.args.count i p.requires.count_value p.loop-i-test.true

  inside : entry.path < path_limit
  inside = omega (arith, within.path, p.requires.paths_le_path_limit)

  path-below : p.read-entry.result.path < path_limit
  path-below = subst (λ (e : Entry). e.path < path_limit) (sym p.read-entry.ensures) inside

  -- what it adds
  adds : p.counted.result.0 ≡ shared p.args.period entry
  adds = ap (λ (x : Megawatts). x.0) p.counted.ensures ∙ ap (shared p.args.period) p.read-entry.ensures

  -- the sums with it
  abbrev after : List Megawatts
  after = set sums p.read-entry.result.path (megawatts ((get_or sums p.read-entry.result.path (megawatts 0)).0 + p.counted.result.0))

  after_is : in_megawatts after ≡ set (in_megawatts sums) entry.path (get_or (in_megawatts sums) entry.path 0 + shared p.args.period entry)
  after_is =
      megawatts-added sums p.read-entry.result.path p.counted.result.0
      ∙ ap (λ (e : Entry). set (in_megawatts sums) e.path (get_or (in_megawatts sums) e.path 0 + p.counted.result.0)) p.read-entry.ensures
      ∙ ap (λ (n : ℕ). set (in_megawatts sums) entry.path (get_or (in_megawatts sums) entry.path 0 + n)) adds

  after-at : (path : ℕ) → get_or (in_megawatts after) path 0 ≡ outstanding path p.args.period (entries_of p.args.words.now (i + 1))
  after-at path =
      let long : length (in_megawatts sums) ≡ path_limit = length-map sums (λ (x : Megawatts). x.0) ∙ p.loop-i.invariant.long in
      ap (λ (l : List ℕ). get_or l path 0) after_is
      ∙ path-added (in_megawatts sums) p.args.period entry (omega (arith, long, inside)) path
      ∙ ap (λ (n : ℕ). n + counted_of path p.args.period entry) (p.loop-i.invariant.sums path)
      ∙ sym (outstanding-more p.args.words.now i path p.args.period)

  -- the sum of its path fits with it
  fits : (get_or sums p.read-entry.result.path (megawatts 0)).0 + p.counted.result.0 ≤ (i + 1) * quantity_limit
  fits =
      let a = p.args in
      let path = entry.path in
      let here : (get_or sums path (megawatts 0)).0 ≤ i * quantity_limit =
      omega (arith, megawatts-at sums path, p.loop-i.invariant.sums path, outstanding-within a.paths a.words.now a.count path a.period p.requires.count_value i (omega arith))
      in
      subst (λ (e : Entry). (get_or sums e.path (megawatts 0)).0 + p.counted.result.0 ≤ (i + 1) * quantity_limit) (sym p.read-entry.ensures)
      (omega (arith, here, adds, shared-within a.period entry, within.quantity))

pub loop-i-preserved : goal.loop-i-preserved
loop-i-preserved c = record { long = search rules; sums = after-at (goal.at.loop-i-preserved c).After-counted }

pub overflow_cast-sums : goal.overflow_cast-sums
overflow_cast-sums c = record { fits = omega (arith, path-below (goal.at.overflow_cast-sums c).After-counted) }

pub offset_bounds-sums-entry : goal.offset_bounds-sums-entry
offset_bounds-sums-entry c = record { fits = omega (arith, path-below (goal.at.offset_bounds-sums-entry c).After-counted) }

pub bounds-sums-entry : goal.bounds-sums-entry
bounds-sums-entry c = path-below (goal.at.bounds-sums-entry c).After-counted

pub overflow_add-sums : goal.overflow_add-sums
overflow_add-sums c = record { fits = omega (arith, fits (goal.at.overflow_add-sums c).After-counted, c.requires.count_le_entry_limit) }

pub bounds-sums-entry-in-loop-i : goal.bounds-sums-entry-in-loop-i
bounds-sums-entry-in-loop-i c = path-below (goal.at.bounds-sums-entry-in-loop-i c).After-counted
