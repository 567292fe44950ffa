use borrow.Author.Rules.{rules}
use native.Mathlib.Omega.{arith}
use mathlib.Core.Path.{sym, ◌∙◌}
use Rattle.round_bids.proofs.BidLaws.{fits-list, header-sound, header-bounds}
use Rattle.round_bids.proofs.ReadLaws.{none-tested, all_tested, bad-bid, pair-below, second-bid, stamp-falls, bid-tested}
use Rattle.round_bid_refusals.proofs.check.Goals as goal

pub loop-at-init : goal.loop-at-init
loop-at-init c = let a = c.args in none-tested a.paths a.words.now

pub returns-then-not-sound_bid : goal.returns-then-not-sound_bid
returns-then-not-sound_bid c = let a = c.args in
    let at = c.loop-at in
    sym (bad-bid a.paths a.words.now at.at at.stamp at.seen at.invariant (search rules) (sym c.sound_bid.ensures ∙ c.if-not-sound_bid.true))

pub header_at-header-requires : goal.header_at-header-requires
header_at-header-requires c = let a = c.args in
    let at = c.loop-at in
    let good = sym c.sound_bid.ensures ∙ c.if-not-sound_bid.false in
    let fits = fits-list a.paths a.words.now at.at good in omega (arith, fits)

pub pair_of-pair-requires : goal.pair_of-pair-requires
pair_of-pair-requires c = let a = c.args in
    let at = c.loop-at in
    let good = sym c.sound_bid.ensures ∙ c.if-not-sound_bid.false in
    let h = c.header_at-header in
    (header-bounds a.paths h.result (header-sound a.paths a.words.now at.at h.result h.ensures good)).bidder-below

pub bounds-seen-pair : goal.bounds-seen-pair
bounds-seen-pair c = let a = c.args in
    let at = c.loop-at in
    let good = sym c.sound_bid.ensures ∙ c.if-not-sound_bid.false in
    let h = c.header_at-header in
    let pair = c.pair_of-pair in
    pair-below a.paths a.words.now at.at at.stamp at.seen at.invariant (search rules) c.requires h.result h.ensures
    pair.result pair.ensures good

pub returns-then-seen-pair : goal.returns-then-seen-pair
returns-then-seen-pair c = let a = c.args in
    let at = c.loop-at in
    let good = sym c.sound_bid.ensures ∙ c.if-not-sound_bid.false in
    let h = c.header_at-header in
    let pair = c.pair_of-pair in
    sym
    (second-bid a.paths a.words.now at.at at.stamp at.seen at.invariant (search rules) c.requires h.result h.ensures
    pair.result pair.ensures good c.if-seen-pair.true)

pub returns-then-header-stamp : goal.returns-then-header-stamp
returns-then-header-stamp c = let a = c.args in
    let at = c.loop-at in
    let good = sym c.sound_bid.ensures ∙ c.if-not-sound_bid.false in
    let h = c.header_at-header in
    let pair = c.pair_of-pair in
    sym
    (stamp-falls a.paths a.words.now at.at at.stamp at.seen at.invariant (search rules) c.requires
    h.result h.ensures pair.result pair.ensures good c.if-seen-pair.false c.if-header-stamp.true)

pub bounds-seen-pair-in-loop-at : goal.bounds-seen-pair-in-loop-at
bounds-seen-pair-in-loop-at c = let a = c.args in
    let at = c.loop-at in
    let good = sym c.sound_bid.ensures ∙ c.if-not-sound_bid.false in
    let h = c.header_at-header in
    let pair = c.pair_of-pair in
    pair-below a.paths a.words.now at.at at.stamp at.seen at.invariant (search rules) c.requires h.result
    h.ensures pair.result pair.ensures good

pub bid_end-at-requires : goal.bid_end-at-requires
bid_end-at-requires c = let a = c.args in
    let at = c.loop-at in
    let good = sym c.sound_bid.ensures ∙ c.if-not-sound_bid.false in
    fits-list a.paths a.words.now at.at good

pub loop-at-preserved : goal.loop-at-preserved
loop-at-preserved c = let a = c.args in
    let at = c.loop-at in
    let good = sym c.sound_bid.ensures ∙ c.if-not-sound_bid.false in
    let h = c.header_at-header in
    let pair = c.pair_of-pair in
    rw c.bid_end-at.ensures
    (bid-tested a.paths a.words.now at.at at.stamp at.seen at.invariant (search rules) c.requires
    h.result h.ensures pair.result pair.ensures good c.if-seen-pair.false c.if-header-stamp.false)

pub returns : goal.returns
returns c = let a = c.args in
    let at = c.loop-at in
    sym (all_tested a.paths a.words.now at.at at.stamp at.seen at.invariant (search rules))
