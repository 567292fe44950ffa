use borrow.Author.Rules.{rules}
use native.Mathlib.Omega.{arith}
use mathlib.Core.Path.{◌≡◌, refl, sym, ◌∙◌, ap₂}
use mathlib.Core.List.{List, []}
use Prim.Native.Nat.{ℕ}
use lib.ListN.{get_or}
use Rattle.market.proofs.KindLaws.{megawatts-at}
use Rattle.market.specs.Books.{megawatts, in_megawatts}
use Rattle.market.specs.Limits.{path_limit}
use Rattle.market.specs.declared.book.Entry.{Entry}
use Rattle.market.specs.declared.book.Period.{Period}
use Rattle.market.specs.declared.units.Megawatts.{Megawatts}
use Rattle.round_bids.proofs.Turns.{kept, turn, past_end}
use Rattle.round_bids.proofs.Walk.{bid-below}
use Rattle.round_bids.specs.declared.Header.{Header}
use Rattle.round_entries.specs.Entries.{entry_of}
use Rattle.round_entries.proofs.EntryLaws.{AddedTo, none-added, room-here, one-added, all-counted, all-added}
use Rattle.round_entries.proofs.add_entries.Goals as goal

pub loop-k-init : goal.loop-k-init
loop-k-init c =
    let a = c.args in
    let pre = c.requires in
    record {
      can = search rules;
      ends = search rules;
      same = search rules;
      long = refl;
      added =
          kept (AddedTo _ _ _ _ _ _ _) c.into_iter-k-iterator.result (search rules) (search rules)
          (none-added a.words.now (in_megawatts a.won) a.period a.register.now a.counted pre.bid_list.sound (omega (arith, pre.words_bound)));
    }

-- the entry that it adds if it won
abbrev entry : Period → ℕ → Header → Entry
entry period won h = entry_of period won (record { bidder = h.bidder; path = h.path; stamp = 0; laminations = [] })

entry-is :
    (period : Period) (won : List Megawatts) (k : ℕ) (h here : Header) → h ≡ here
    → entry period (get_or won k (megawatts 0)).0 h ≡ entry period (get_or (in_megawatts won) k 0) here
entry-is period won k h here is = ap₂ (entry period) (sym (megawatts-at won k)) is

pub bounds-won-k : goal.bounds-won-k
bounds-won-k c =
    let u = turn c.loop-k.k-iterator c.next.new.self c.loop-k.invariant.same c.next.ensures.steps (AddedTo _ _ _ _ _ _ _) c.in-Some.is c.loop-k.invariant.added in
    bid-below path_limit _ _ _ u.here.walk u.inside c.requires.bid_list.short

pub add_if_won-count-requires : goal.add_if_won-count-requires
add_if_won-count-requires c =
    let a = c.args in
    let u = turn c.loop-k.k-iterator c.next.new.self c.loop-k.invariant.same c.next.ensures.steps (AddedTo _ _ _ _ _ _ _) c.in-Some.is c.loop-k.invariant.added in
    let is = entry-is a.period a.won c.in-Some.k _ _ c.header_at-header.ensures in
    let room = room-here u.here u.inside _ is c.requires.words_bound in
    omega (arith, room, c.loop-k.invariant.long, c.requires.register_words_in_bounds)

pub loop-k-preserved : goal.loop-k-preserved
loop-k-preserved c =
    let a = c.args in
    let u = turn c.loop-k.k-iterator c.next.new.self c.loop-k.invariant.same c.next.ensures.steps (AddedTo _ _ _ _ _ _ _) c.in-Some.is c.loop-k.invariant.added in
    let is = entry-is a.period a.won c.in-Some.k _ _ c.header_at-header.ensures in
    let add = c.add_if_won-count in
    record {
      can = search rules;
      ends = search rules;
      same = u.same;
      long = add.auto.register ∙ c.loop-k.invariant.long;
      added = kept (AddedTo _ _ _ _ _ _ _) c.next.new.self u.number u.place (rw (add.ensures.count, add.ensures.entries) (one-added u.here u.inside _ is));
    }

pub returns : goal.returns
returns c =
    let s = c.loop-k.invariant.added in
    let end = past_end c.loop-k.k-iterator c.next.new.self c.loop-k.invariant.same c.next.ensures.steps c.in-None.is in
    record {
      count = all-counted s end;
      entries = all-added s end;
    }
