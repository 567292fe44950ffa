-- The invariant: the tree's claims are those that are left, and (`AwardedTo`) `left` is what the claims before them left of each path, and
-- each sum or lowest price so far, joined with what the claims that are left take, is that of the whole walk. `one-awarded` takes one claim
-- over; each sum leaves room for a quantity for each claim that is left, so it fits.
use mathlib.Core.Path.{◌≡◌}
use lib.ListN.{length}
use Rattle.market.specs.Books.{in_cents, in_megawatts}
use Rattle.round_award_rules.specs.Awards.{in_order}
use Rattle.round_order.specs.Tree.{claims_left, Tree}
use Rattle.round_awards.proofs.AwardLaws.{AwardedTo}
use Rattle.round_awards.proofs.award.Given as goal

abbrev pub invariant-loop-word : goal.invariant-loop-word
invariant-loop-word l =
    (length l.tree ≡ length l.initial.tree)
    × (Tree l.words l.count l.tree l.word
    × AwardedTo (in_order (claims_left l.words l.count l.initial.tree)) (in_order (claims_left l.words l.count l.tree))
    (in_megawatts l.initial.left) (in_megawatts l.left) (in_megawatts l.won) (in_megawatts l.sold) (in_cents l.prices))

abbrev pub decreases-loop-word : goal.decreases-loop-word
decreases-loop-word l = length (in_order (claims_left l.words l.count l.tree))
