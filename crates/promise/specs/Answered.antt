-- What is promised of a round that was answered (rules 12.4 to 12.8). Its bids are those of the call's own words; what it offers and admits, and
-- both answered lists, follow from the book before it.
use Rattle.std.specs.Prelude.{◌≡◌, cond, List, [], ◌∷◌, ℕ, ◌+◌, ◌≤◌, ◌<◌, eqb, length, get_or}
use Rattle.market.specs.Answers.{answer_number}
use Rattle.market.specs.Books.{with_front}
use Rattle.round_bids.specs.Bids.{Bid, bids_of}
use Rattle.round_award_rules.specs.Awards.{Claim, claims_of}
use Rattle.round_award_rules.specs.Rivals.{Rival, Legal, rival_value, filled_value, total_value, filled_award}
use Rattle.call_round.specs.Answers.{won_in, charge_in}
use Rattle.call_round.specs.Round.{offered_now, marks_now, bid_answers_now, path_answers_now}
use Rattle.engine.specs.declared.calls.Call.TheVariants.{Round}
use Rattle.promise.specs.Runs.{Made}

-- ---- A round that was made

-- the bids of the call's words
abbrev pub bids_made : Made → List Bid
bids_made m = bids_of m.request.lent.bids

-- the pairs of the bids that the rules admit
abbrev pub claims_made : Made → List Claim
claims_made m = claims_of (bids_made m) (marks_now m.before (bids_made m))

-- the MW won by each bid, read from the answered list
abbrev pub won_made : Made → ℕ → ℕ
won_made m = won_in m.reply.lists.answers

-- rule 12.4: both lists are those of rules 7.17 and 7.18, from the book before the round and the call's words; the words past them stay
pub record ListsTold (m : Made) : Type 0 where
  pub bids : m.reply.lists.answers ≡ with_front (bid_answers_now m.before (bids_made m)) m.request.lent.answers
  pub paths : m.reply.lists.results ≡ with_front (path_answers_now m.before (bids_made m)) m.request.lent.results

-- ---- The award

-- rule 12.5: for each pair of the bids admitted a number of MW, at most the pair's; on each path they add up to at most what the round offers
abbrev pub RivalOf : Made → Rival → Type 0
RivalOf m gives = Legal (offered_now m.before) (claims_made m) gives

-- rule 12.7: no rival award has a total bid value above that of the engine's award
abbrev pub NoRivalAbove : Made → Type 0
NoRivalAbove m = (gives : Rival) → RivalOf m gives → rival_value gives (claims_made m) ≤ total_value (won_made m) (bids_made m)

-- rule 12.6: the answered MW of each bid, given to its pairs from the first on, are a rival award too, with this total bid value
pub record OwnAward (m : Made) : Type 0 where
  pub legal : RivalOf m (filled_award (won_made m) (bids_made m))
  pub value : rival_value (filled_award (won_made m) (bids_made m)) (claims_made m) ≡ total_value (won_made m) (bids_made m)

-- ---- The charges

-- rule 12.8: the charge of a bid is at most the sum of price × MW over its pairs, filled as rule 12.6 says
abbrev pub BidsWithin : Made → Type 0
BidsWithin m =
    (bid : ℕ) (none : Bid) →
    bid < length (bids_made m) →
    charge_in m.reply.lists.answers bid ≤ filled_value (won_made m bid) (get_or (bids_made m) bid none).laminations

-- an amount of each bid, summed over the bids of one bidder, from a number on
abbrev pub of_bidder : ℕ → (ℕ → Bid → ℕ) → ℕ → List Bid → ℕ
of_bidder bidder amount bid [] = 0
of_bidder bidder amount bid (b ∷ bs) =
    cond (eqb b.bidder bidder) (amount bid b) 0 + of_bidder bidder amount (bid + 1) bs

-- rule 12.8: and so the charges of a bidder are at most that sum over its bids
abbrev pub BiddersWithin : Made → Type 0
BiddersWithin m =
    (bidder : ℕ) →
    of_bidder bidder (λ bid b. charge_in m.reply.lists.answers bid) 0 (bids_made m)
    ≤ of_bidder bidder (λ bid b. filled_value (won_made m bid) b.laminations) 0 (bids_made m)

-- a fact of a call that was made, if it is a round and was answered
abbrev pub IfRound : (Made → Type 0) → Made → Type 0
IfRound holds m = m.request.what ≡ Round → answer_number m.reply.answer ≡ 0 → holds m
