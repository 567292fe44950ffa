-- What an answered round says (rules 12.4 to 12.8): its lists are the rules', no rival award has a higher value, its own award is one of them, and
-- the charges of bids and bidders are within price × MW of the filled pairs.
use mathlib.Core.Path.{◌≡◌, refl, sym, ◌∙◌, ap, ap₂, subst}
use mathlib.Core.Bool.{Bool, true, false, cond}
use mathlib.Core.List.{List, [], ◌∷◌}
use Prim.Native.Nat.{ℕ, ◌+◌, ◌≤◌, ◌<◌}
use native.Mathlib.Omega.{arith}
use lib.Dec.{eqb, ltb}
use lib.ListN.{length, get_or}
use Rattle.market.proofs.Tables.{none-refused}
use Rattle.market.specs.Answers.{answer_number, no_refusal}
use Rattle.market.specs.Limits.{bid_limit, path_limit, header_words}
use Rattle.market.specs.declared.book.Book.{Book}
use Rattle.market.specs.Books.{with_front}
use Rattle.round_bids.proofs.Walk.{bids-few}
use Rattle.round_bids.specs.Bids.{Bid, bids_of}
use Rattle.round_award_rules.proofs.BestAward.{best-award, award-legal, award-value, charge-within}
use Rattle.round_award_rules.proofs.RoundClaims.{EachBid}
use Rattle.round_award_rules.specs.Awards.{next_at, claims_of, Award, awards_of, won_by, charge_of}
use Rattle.round_award_rules.specs.Rivals.{Rival, Legal, rival_value, filled_value, total_value_from, total_value, filled_at, filled_from, filled_award}
use Rattle.round_awards.proofs.TableLaws.{below_at}
use Rattle.call_round.proofs.ReadyLaws.{listed}
use Rattle.call_round.proofs.RoundBounds.{no_bid}
use Rattle.call_round.specs.Answers.{won_in, charge_in}
use Rattle.call_round.specs.Round.{offered_now, marks_now, awards_now, won_now, prices_now, bid_answers_now, path_answers_now, round}
use Rattle.call_round.proofs.ChargeLimits.{all-bids, charge-table}
use Rattle.call_round.proofs.Cleared.{RoundOpen, round-cleared}
use Rattle.call_round.proofs.RoundLawful.{round-lawful}
use Rattle.call_rules.proofs.Decides.{list-changes}
use Rattle.call_rules.proofs.StepLaws.{same-paths}
use Rattle.call_rules.specs.Rule.{Rule}
use Rattle.call_rules.specs.Steps.{ruling_of, verdict_of, outcome_of, list_after, to_answers, to_results}
use Rattle.engine.specs.Lent.{Lent, lists_of}
use Rattle.engine.specs.declared.calls.Call.TheVariants.{Round}
use Rattle.promise.specs.Answered.{ListsTold, NoRivalAbove, OwnAward, BidsWithin, BiddersWithin, of_bidder}
use Rattle.promise.specs.Runs.{Made, engine_made}
use Rattle.promise.proofs.RowReads.{won-read, charge-read}

-- ---- Sums over bids

value_same : (f g : ℕ → ℕ) (n : ℕ) (bs : List Bid) → EachBid (λ k b. f k ≡ g k) n bs → total_value_from f n bs ≡ total_value_from g n bs
value_same f g n [] same = refl
value_same f g n (b ∷ bs) same =
    ap₂ (λ (won rest : ℕ). filled_value won b.laminations + rest) same.0 (value_same f g (n + 1) bs same.1)

one-under : (t : Bool) (x y : ℕ) → x ≤ y → cond t x 0 ≤ cond t y 0
one-under true x y most = most
one-under false x y most = omega arith

bidder-under : (bidder : ℕ) (f g : ℕ → Bid → ℕ) (n : ℕ) (bs : List Bid) → EachBid (λ k b. f k b ≤ g k b) n bs → of_bidder bidder f n bs ≤ of_bidder bidder g n bs
bidder-under bidder f g n [] most = omega arith
bidder-under bidder f g n (b ∷ bs) most =
    omega (
      arith,
      one-under (eqb b.bidder bidder) (f n b) (g n b) most.0,
      bidder-under bidder f g (n + 1) bs most.1,
    )

-- the award that fills bids in order looks only at what they won
filled-same : (f g : ℕ → ℕ) (n at : ℕ) (bs : List Bid) → EachBid (λ k b. f k ≡ g k) n bs → (place : ℕ) → filled_from f n at bs place ≡ filled_from g n at bs place
filled-same f g n at [] same place = refl
filled-same f g n at (b ∷ bs) same place =
    ap₂ (λ (here later : ℕ). cond (ltb place (next_at at b)) here later)
    (ap (λ (won : ℕ). filled_at won (at + header_words) b.laminations place) same.0)
    (filled-same f g (n + 1) (next_at at b) bs same.1 place)

-- ---- An answered round

-- a round, as the engine made it
abbrev pub round_made : Book → List ℕ → Lent → Made
round_made b words l = engine_made b words (record { what = Round; lent = l })

module _ (b : Book) (words : List ℕ) (l : Lent) (none : answer_number (round_made b words l).reply.answer ≡ 0) where
  abbrev rule : Rule
  rule = round l.bids l.answers l.results l.scratch

  abbrev bids : List Bid
  bids = bids_of l.bids

  abbrev marks : List ℕ
  marks = marks_now b bids

  abbrev awards : List Award
  awards = awards_of (offered_now b) bids marks

  abbrev answers : List ℕ
  answers = list_after to_answers rule b words l.answers

  abbrev results : List ℕ
  results = list_after to_results rule b words l.results

  abbrev after : Book
  after = (outcome_of rule b words).book

  -- nothing refuses it
  cleared : no_refusal ≡ verdict_of rule b words
  unfolding outcome_of
  cleared = sym (none-refused b (verdict_of rule b words) (ruling_of rule b words).outcome none)

  pub opened : RoundOpen b words l.bids l.answers l.results l.scratch
  opened = round-cleared b words l.bids l.answers l.results l.scratch (sym cleared)

  pub few : length bids ≤ bid_limit
  few =
      bids-few path_limit l.bids (listed b words l.bids l.answers l.results l.scratch opened.early).sound opened.early.list.short

  -- its lists, and the number of the book's paths
  pub answers-are : answers ≡ with_front (bid_answers_now b bids) l.answers
  unfolding round
  answers-are = sym (list-changes rule b words no_refusal cleared refl to_answers l.answers)

  pub results-are : results ≡ with_front (path_answers_now b bids) l.results
  unfolding round
  results-are = sym (list-changes rule b words no_refusal cleared refl to_results l.results)

  pub same_count : after.path_count ≡ b.path_count
  same_count = same-paths rule (lists_of l) (round-lawful l.bids (lists_of l) l.scratch) b words

  pub lists-told : ListsTold (round_made b words l)
  lists-told = record { bids = answers-are; paths = results-are }

  -- the words of its lists
  wins : (k : ℕ) → k < length bids → won_in answers k ≡ won_by k awards
  unfolding awards_now
  wins k inside =
      ap (λ (words : List ℕ). won_in words k) answers-are
      ∙ won-read marks (won_now b bids) (prices_now b bids) bids l.answers k no_bid inside
      ∙ below_at bid_limit (λ bid. won_by bid (awards_now b bids)) k (omega (arith, few))

  each-won : EachBid (λ k x. won_in answers k ≡ won_by k awards) 0 bids
  each-won = all-bids (λ k x. won_in answers k ≡ won_by k awards) bids no_bid wins

  charged : (k : ℕ) (d : Bid) → k < length bids → charge_in answers k ≤ charge_of k (get_or bids k d) awards
  unfolding awards_now
  charged k d inside =
      rw answers-are
      (rw (charge-read marks (won_now b bids) (prices_now b bids) bids l.answers k d inside)
      (charge-table b.path_count (offered_now b) bids marks opened.right bid_limit path_limit k (get_or bids k d)))

  same-value : total_value (won_in answers) bids ≡ total_value (λ k. won_by k awards) bids
  same-value = value_same (won_in answers) (λ k. won_by k awards) 0 bids each-won

  -- rule 12.7: no rival award has a total bid value above its own
  pub no-rival-above : NoRivalAbove (round_made b words l)
  no-rival-above gives legal =
      omega (arith, same-value, best-award b.path_count (offered_now b) bids marks opened.right gives legal)

  -- rule 12.6: its own is one of them
  same-award : filled_award (λ k. won_by k awards) bids ≡ filled_award (won_in answers) bids
  same-award = λ i place. sym (filled-same (won_in answers) (λ k. won_by k awards) 0 0 bids each-won place) i

  pub own-award : OwnAward (round_made b words l)
  own-award =
      record {
        legal =
            subst (Legal (offered_now b) (claims_of bids marks)) same-award
            (award-legal b.path_count (offered_now b) bids marks opened.right);
        value =
            ap (λ (gives : Rival). rival_value gives (claims_of bids marks)) (sym same-award)
            ∙ award-value b.path_count (offered_now b) bids marks opened.right
            ∙ sym same-value;
      }

  -- rule 12.8: the charge of a bid is within price × MW of its filled pairs
  pub bids-within : BidsWithin (round_made b words l)
  bids-within k d inside =
      let same = ap (λ (won : ℕ). filled_value won (get_or bids k d).laminations) (wins k inside) in
      omega (arith, same, charged k d inside, charge-within b.path_count (offered_now b) bids marks opened.right k d inside)

  -- and so no bidder is
  pub bidders-within : BiddersWithin (round_made b words l)
  bidders-within bidder =
      bidder-under bidder (λ k x. charge_in answers k) (λ k x. filled_value (won_in answers k) x.laminations) 0 bids
      (all-bids (λ k x. charge_in answers k ≤ filled_value (won_in answers k) x.laminations) bids no_bid (λ k inside. bids-within k no_bid inside))
