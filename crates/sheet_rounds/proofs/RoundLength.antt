-- What an answered round writes into its lists is small enough for the award sheet.
use mathlib.Core.Path.{◌≡◌, refl, ◌∙◌, ap}
use mathlib.Core.Bool.{true, ◌&&◌}
use mathlib.Core.List.{List, [], ◌∷◌}
use Prim.Native.Nat.{ℕ, ◌*◌, ◌≤◌, ◌<◌, ◌^◌}
use native.Mathlib.Nat.{mul-le-mul}
use native.Mathlib.Omega.{arith}
use lib.Dec.{leb, ltb}
use lib.ListN.{length, get_or}
use borrow.Author.Tests.{leb-true}
use Rattle.market.proofs.Every.{every-at-any}
use Rattle.market.proofs.SoundLaws.{count-within, sound-parts}
use Rattle.market.proofs.Tests.{left-true, right-true}
use Rattle.market.specs.Answers.{answer_number}
use Rattle.market.specs.Books.{every}
use Rattle.market.specs.Limits.{bidder_limit, path_limit, price_limit, quantity_limit, lamination_limit}
use Rattle.market.specs.Sound.{sound_quantity, sound_book}
use Rattle.market.specs.declared.book.Book.{Book}
use Rattle.round_bids.proofs.ValueLaws.{lamination-value-within}
use Rattle.round_bids.specs.Bids.{Bid, bids_of, header_of, bid_value, laminations_value, lamination_value_limit}
use Rattle.round_bids.specs.BidRefusals.{sound_lamination, sound_laminations, above_prices, sound_header, sound_bid}
use Rattle.round_bids.specs.Encoding.{right_bids}
use Rattle.round_bids.specs.declared.Lamination.{Lamination}
use Rattle.round_award_rules.proofs.RoundClaims.{bids-at}
use Rattle.round_charges.specs.Charges.{sound_clearing_price}
use Rattle.call_round.proofs.ChargeLimits.{all-bids}
use Rattle.call_round.proofs.RoundBounds.{no_bid, offered-quantities, won-quantities, sold-quantities, price-bounds}
use Rattle.call_round.specs.Answers.{value_in, won_in, charge_in, offered_in, sold_in, price_in}
use Rattle.call_round.specs.Round.{offered_now, marks_now, won_now, sold_now, prices_now}
use Rattle.engine.specs.Lent.{Lent}
use Rattle.promise.proofs.RoundAnswers.{round_made, opened, answers-are, results-are}
use Rattle.promise.proofs.RowReads.{value_read, won-read, charge-read, offered-read, sold-read, price-read}
use Rattle.award_sheet.proofs.AwardLength.{BidSizes, PathSizes, RoundSizes}
use Rattle.sheet_rounds.proofs.FewBids.{sound-placed, all_sound, bids-at-most}

-- a bid's value is at most the largest value of a lamination, times the number of its laminations
pairs-value : (before : ℕ) (ls : List Lamination) → sound_laminations before ls ≡ true → laminations_value ls ≤ length ls * lamination_value_limit
pairs-value before [] sound = omega arith
pairs-value before (l ∷ ls) sound =
    let here = sound_lamination l && ltb l.price.0 before in
    let first = left-true (sound_lamination l) (ltb l.price.0 before) (left-true here (sound_laminations l.price.0 ls) sound) in
    omega (arith, lamination-value-within l first, pairs-value l.price.0 ls (right-true here (sound_laminations l.price.0 ls) sound))

value-small : (paths : ℕ) (b : Bid) → sound_bid paths b ≡ true → bid_value b < 10 ^ 14
value-small paths b sound =
    let head = sound_header paths (header_of b) in
    let pairs = sound_laminations above_prices b.laminations in
    let n = length b.laminations in
    let few = ltb b.bidder bidder_limit && ltb b.path paths && leb 1 n in
    let most = leb-true n lamination_limit (right-true few (leb n lamination_limit) (left-true head pairs sound)) in
    omega (arith, pairs-value above_prices b.laminations (right-true head pairs sound), most)

module _ (b : Book) (words : List ℕ) (l : Lent) (sound : sound_book b ≡ true) (none : answer_number (round_made b words l).reply.answer ≡ 0) where
  abbrev bids : List Bid
  bids = bids_of l.bids

  abbrev answers : List ℕ
  answers = (round_made b words l).reply.lists.answers

  abbrev results : List ℕ
  results = (round_made b words l).reply.lists.results

  few-paths : b.path_count ≤ path_limit
  few-paths = count-within b.path_count (sound-parts b sound).path-count

  good : right_bids b.path_count bids ≡ true
  good = (opened b words l none).right

  -- each number of a list of sound quantities is at most the limit
  quantity : (t : List ℕ) (i : ℕ) → every sound_quantity t ≡ true → get_or t i 0 ≤ quantity_limit
  quantity t i all = leb-true (get_or t i 0) quantity_limit (every-at-any sound_quantity t i 0 all refl)

  price : (i : ℕ) → get_or (prices_now b bids) i 0 ≤ price_limit
  price i = leb-true (get_or (prices_now b bids) i 0) price_limit (every-at-any sound_clearing_price (prices_now b bids) i 0 (price-bounds b bids sound good) refl)

  won : (i : ℕ) → get_or (won_now b bids) i 0 ≤ quantity_limit
  won i = quantity (won_now b bids) i (won-quantities b bids sound good)

  bid-sizes : (k : ℕ) → k < length bids → BidSizes answers k (get_or bids k no_bid)
  bid-sizes k inside =
      let x = get_or bids k no_bid in
      let is : sound_bid b.path_count x ≡ true = bids-at (λ i y. sound_bid b.path_count y ≡ true) 0 bids k no_bid inside (all_sound b.path_count 0 [] bids good) in
      let there = sound-placed b.path_count x few-paths is in
      let value = ap (λ (t : List ℕ). value_in t k) (answers-are b words l none) ∙ value_read (marks_now b bids) (won_now b bids) (prices_now b bids) bids l.answers k no_bid inside in
      let mw = ap (λ (t : List ℕ). won_in t k) (answers-are b words l none) ∙ won-read (marks_now b bids) (won_now b bids) (prices_now b bids) bids l.answers k no_bid inside in
      let bill = ap (λ (t : List ℕ). charge_in t k) (answers-are b words l none) ∙ charge-read (marks_now b bids) (won_now b bids) (prices_now b bids) bids l.answers k no_bid inside in
      record {
        place = omega (arith, bids-at-most b.path_count bids few-paths good);
        bidder = there.0;
        path = there.1;
        value = omega (arith, value, value-small b.path_count x is);
        won = omega (arith, mw, won k);
        charge = omega (arith, bill, mul-le-mul (price x.path) (won k));
      }

  path-sizes : (path : ℕ) → path < b.path_count → PathSizes results path
  path-sizes path below =
      let offered = ap (λ (t : List ℕ). offered_in t path) (results-are b words l none) ∙ offered-read (offered_now b) (sold_now b bids) (prices_now b bids) b.path_count l.results path below in
      let sold = ap (λ (t : List ℕ). sold_in t path) (results-are b words l none) ∙ sold-read (offered_now b) (sold_now b bids) (prices_now b bids) b.path_count l.results path below in
      let cost = ap (λ (t : List ℕ). price_in t path) (results-are b words l none) ∙ price-read (offered_now b) (sold_now b bids) (prices_now b bids) b.path_count l.results path below in
      record {
        place = omega (arith, few-paths);
        offered = omega (arith, offered, quantity (offered_now b) path (offered-quantities b sound));
        sold = omega (arith, sold, quantity (sold_now b bids) path (sold-quantities b bids sound good));
        price = omega (arith, cost, price path);
      }

  pub round-sizes : RoundSizes b.path_count (record { bids = bids; answers = answers; results = results })
  round-sizes =
      record {
        few = bids-at-most b.path_count bids few-paths good;
        bids = all-bids (BidSizes answers) bids no_bid bid-sizes;
        few-paths = few-paths;
        each = path-sizes;
      }
