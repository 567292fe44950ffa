use borrow.Author.Rules.{rules}
use native.Mathlib.Omega.{arith}
use mathlib.Core.Path.{◌≡◌, refl, sym, ◌∙◌, ap}
use mathlib.Core.Bool.{cond}
use mathlib.Core.List.{List}
use Prim.Native.Nat.{ℕ, ◌+◌, ◌-◌, ◌<◌, min}
use lib.Dec.{ltb}
use lib.ListN.{length, get_or, length-map}
use Rattle.market.proofs.KindLaws.{map-change, megawatts-at}
use Rattle.market.specs.Books.{cents, megawatts, in_megawatts}
use Rattle.market.specs.Limits.{path_limit, bid_limit}
use Rattle.round_award_rules.specs.Awards.{in_order, lower}
use Rattle.round_claims.specs.Packed.{bid_in_word, claim_in}
use Rattle.round_order.specs.Tree.{claims_left, Tree}
use Rattle.round_order.proofs.StepLaws.{none_left, bid-few, top-claim, order-after}
use Rattle.round_awards.proofs.AwardLaws.{none-awarded, left-within, won-room, sold-room, one-awarded, all-won, all-sold, all-priced}
use Rattle.round_awards.proofs.award.Goals as goal

pub loop-word-init : goal.loop-word-init
loop-word-init c =
    let a = c.args in
    let slots : length a.offered ≡ path_limit = search rules in
    let all = in_order (claims_left a.words.now a.count a.tree.now) in
    (search rules, (c.requires.tree, none-awarded all (in_megawatts a.offered) (length-map a.offered (λ x. x.0) ∙ slots) c.requires.offered_value))

pub claim_in-claim-requires : goal.claim_in-claim-requires
claim_in-claim-requires c = omega (arith, (top-claim c.loop-word.invariant.1.0 c.loop-word-test.true).inside)

-- the claim in a word has its place in the table of bids
few : {words : List ℕ} {count : ℕ} {tree : List ℕ} {word : ℕ} → Tree words count tree word → (word ≡ 0 → ⊥) → bid_in_word word < bid_limit
few t some = omega (arith, bid-few t some, t.few)

pub bounds-left-path : goal.bounds-left-path
bounds-left-path c = c.claim_in-claim.ensures.within

pub bounds-won-claim : goal.bounds-won-claim
bounds-won-claim c = omega (arith, few c.loop-word.invariant.1.0 c.loop-word-test.true, c.claim_in-claim.ensures.bid)

pub bounds-sold-path : goal.bounds-sold-path
bounds-sold-path c = c.claim_in-claim.ensures.within

pub bounds-prices-path : goal.bounds-prices-path
bounds-prices-path c = c.claim_in-claim.ensures.within

pub overflow_add-won : goal.overflow_add-won
overflow_add-won c =
    let a = c.args in
    let at = c.loop-word in
    let some = c.loop-word-test.true in
    let tree = at.invariant.1.0 in
    let bid = c.claim_in-claim.result.bid in
    let path = c.claim_in-claim.result.path in
    let here = order-after tree some _ refl in
    let room = won-room at.invariant.1.1 (claim_in a.words.now at.word) _ here (few tree some) bid in
    record {
      fits =
          omega
          (arith, left-within at.invariant.1.1 path, megawatts-at at.left path, c.taken_of-taken.ensures, room, megawatts-at at.won bid, c.requires.tree_len_bound);
    }

pub overflow_add-sold : goal.overflow_add-sold
overflow_add-sold c =
    let a = c.args in
    let at = c.loop-word in
    let some = c.loop-word-test.true in
    let tree = at.invariant.1.0 in
    let path = c.claim_in-claim.result.path in
    let here = order-after tree some _ refl in
    let room = sold-room at.invariant.1.1 (claim_in a.words.now at.word) _ here (few tree some) path in
    record {
      fits =
          omega
          (arith, left-within at.invariant.1.1 path, megawatts-at at.left path, c.taken_of-taken.ensures, room, megawatts-at at.sold path, c.requires.tree_len_bound);
    }

pub bounds-left-path-in-loop-word : goal.bounds-left-path-in-loop-word
bounds-left-path-in-loop-word c = c.claim_in-claim.ensures.within

pub bounds-won-claim-in-loop-word : goal.bounds-won-claim-in-loop-word
bounds-won-claim-in-loop-word c = omega (arith, few c.loop-word.invariant.1.0 c.loop-word-test.true, c.claim_in-claim.ensures.bid)

pub bounds-sold-path-in-loop-word : goal.bounds-sold-path-in-loop-word
bounds-sold-path-in-loop-word c = c.claim_in-claim.ensures.within

pub bounds-prices-path-in-loop-word : goal.bounds-prices-path-in-loop-word
bounds-prices-path-in-loop-word c = c.claim_in-claim.ensures.within

pub next-word-requires : goal.next-word-requires
next-word-requires c = record {
  tree_2 = c.loop-word.invariant.1.0;
  fact = c.loop-word-test.true;
}

pub loop-word-preserved : goal.loop-word-preserved
loop-word-preserved c =
    let a = c.args in
    let at = c.loop-word in
    let some = c.loop-word-test.true in
    let claim = c.claim_in-claim.result in
    let e = c.claim_in-claim.ensures in
    let path = claim.path in
    let takes = min claim.quantity.0 (get_or (in_megawatts at.left) path 0) in
    let taken : c.taken_of-taken.result.0 ≡ takes = c.taken_of-taken.ensures ∙ ap (min claim.quantity.0) (sym (megawatts-at at.left path)) in
    let paid = c.price_at.ensures ∙ ap (λ (n : ℕ). cond (ltb 0 n) claim.price.0 0) taken in
    let price = c.lower_of.ensures ∙ ap (lower (get_or at.prices path (cents 0)).0) paid in
    let left_is = map-change (λ x. x.0) at.left path (megawatts 0) _ (λ n. n - takes) (ap ((get_or at.left path (megawatts 0)).0 -◌) taken) in
    let won-is = map-change (λ x. x.0) at.won claim.bid (megawatts 0) _ (λ n. n + takes) (ap ((get_or at.won claim.bid (megawatts 0)).0 +◌) taken) in
    let sold-is = map-change (λ x. x.0) at.sold path (megawatts 0) _ (λ n. n + takes) (ap ((get_or at.sold path (megawatts 0)).0 +◌) taken) in
    let prices-is = map-change (λ x. x.0) at.prices path (cents 0) _ (λ n. lower n (cond (ltb 0 takes) claim.price.0 0)) price in (
      c.next-word.auto.tree ∙ at.invariant.0,
      (
        c.next-word.ensures.tree,
        rw (left_is, won-is, sold-is, prices-is)
            (one-awarded at.invariant.1.1 (claim_in a.words.now at.word) _ c.next-word.ensures.order (few at.invariant.1.0 some) _ _ _ _ e.bid e.path e.price e.quantity e.within),
      ),
    )

pub returns : goal.returns
returns c =
    let inv = c.loop-word.invariant in
    let none = ap in_order (none_left inv.1.0 c.loop-word-test.false) in
    record {
      won = all-won inv.1.1 none;
      sold = all-sold inv.1.1 none;
      prices = all-priced inv.1.1 none;
    }

pub offset_bounds-won-claim : goal.offset_bounds-won-claim
offset_bounds-won-claim c = record { fits = omega (arith, few c.loop-word.invariant.1.0 c.loop-word-test.true, c.claim_in-claim.ensures.bid) }
