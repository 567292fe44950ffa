use Rattle.std.proofs.Common.{rules}
use Rattle.std.proofs.lemmas.Iterator.{serves_from_Range, YieldsList-from_range}
use Rattle.std.proofs.lemmas.Iterator.Consumers.{YieldsList-from_filter, count_from_yields_List}
use Rattle.std.proofs.lemmas.List.Sums.{length-filter}
use native.Mathlib.Omega.{arith}
use mathlib.Core.Path.{sym, ◌∙◌, ap}
use Prim.Native.Nat.{ℕ}
use lib.Dec.{ltb}
use Rattle.std.specs.List.{count_by, range_with_len}
use Rattle.market.specs.Limits.{path_limit}
use Rattle.round_bids.proofs.Walk.{bids-few}
use Rattle.round_bids.specs.Bids.{bids_of}
use Rattle.call_round.specs.Answers.{won_in}
use Rattle.award_sheet_round.proofs.WalkLaws.{winners-counted}
use Rattle.award_sheet_round.proofs.walks.winner_count.Goals as goal

pub count-requires-clause-can : goal.count-requires-clause-can
count-requires-clause-can c =
    let few = bids-few path_limit c.args.words.now c.requires.bid_list.sound c.requires.bid_list.short in
    (tt, tt, serves_from_Range (λ x q r. search rules) (λ x low high. search rules))

pub returns : goal.returns
returns c =
    let won = λ (b : ℕ). ltb 0 (won_in c.args.answers.now b) in
    let n = c.bid_count.result in
    count_from_yields_List c.filter.result c.count.result c.count.ensures.ran
    (YieldsList-from_filter _ won (YieldsList-from_range 0 n n c.filter.ensures.source (omega arith)) c.filter.ensures.closure (λ x r q k. search rules))
    ∙ length-filter won (range_with_len 0 n)
    ∙ ap (λ (m : ℕ). count_by won (range_with_len 0 m)) c.bid_count.ensures
    ∙ sym (winners-counted c.args.answers.now (bids_of c.args.words.now) 0)
