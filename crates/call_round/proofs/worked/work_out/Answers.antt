-- Each field is what its callee ensures, once the limits, the kind and the round number it was called with are the
-- rule's; the sound book gives the bounds that the callees require.
use mathlib.Core.Path.{◌∙◌, ap, ap₂}
use mathlib.Core.List.{List, map, ◌++◌}
use Prim.Native.Nat.{ℕ, ◌-◌}
use lib.ListN.{length, take, replicate}
use Rattle.market.proofs.SoundLaws.{bidder-within, sound-parts, count-within}
use Rattle.market.specs.Books.{every}
use Rattle.market.specs.Limits.{path_limit}
use Rattle.market.specs.declared.book.Kind.{Kind}
use Rattle.round_bids.specs.Bids.{bids_of}
use Rattle.round_admission.proofs.LimitLaws.{limits-within}
use Rattle.round_admission.specs.Admission.{within_top, marks_of}
use Rattle.call_open_offers.specs.Offers.{round_offer}
use Rattle.call_round.specs.Padded.{padded}
use Rattle.call_round.proofs.worked.work_out.Goals as goal

pub limits_of-limits-requires : goal.limits_of-limits-requires
limits_of-limits-requires c = let start = c in
    λ i. bidder-within start.args.book i start.requires.book_value

pub marks_of-marked-requires : goal.marks_of-marked-requires
marks_of-marked-requires c = let start = c in
    record {
      bid_list = start.requires.bid_list;
      limits_value = ap (every within_top) c.limits_of-limits.ensures ∙ limits-within start.args.book start.requires.book_value;
    }

pub offered_by-offered-requires : goal.offered_by-offered-requires
offered_by-offered-requires c = let start = c in
    count-within start.args.book.path_count (sound-parts start.args.book start.requires.book_value).path-count

pub returns : goal.returns
returns c = let start = c in
    let b = start.args.book in
    let bids = bids_of start.args.bids.now in
    let marked = c.marks_of-marked in
    let limits = c.limits_of-limits.ensures in
    let kind = c.kind_of-kind.ensures in
    let number = c.round_of-number.ensures in record {
      marks = marked.ensures.marks ∙ ap (λ (l : List ℕ). padded (marks_of l bids) (length bids)) limits;
      bids = marked.ensures.bids;
      offered = c.offered_by-offered.ensures
          ∙ ap₂ (λ (k : Kind) (n : ℕ). map (round_offer k n) (take b.path_count b.paths) ++ replicate (path_limit - b.path_count) 0) kind number;
    }
