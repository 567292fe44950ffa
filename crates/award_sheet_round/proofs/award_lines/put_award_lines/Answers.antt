use borrow.Author.Rules.{rules}
use native.Mathlib.Omega.{arith}
use mathlib.Core.Path.{refl}
use Rattle.market.specs.Limits.{path_limit}
use Rattle.round_bids.proofs.Turns.{kept, turn, past_end}
use Rattle.round_bids.proofs.Walk.{bid-below}
use Rattle.text_writing.proofs.PutLaws.{written_same}
use Rattle.award_sheet_round.specs.RoundLines.{award_part, award_lines}
use Rattle.award_sheet_round.proofs.WalkLaws.{LinesTo, bid-whole, lines_start, lines-done, lines_fit, lines-on}
use Rattle.award_sheet_round.proofs.award_lines.put_award_lines.Goals as goal

pub loop-k-init : goal.loop-k-init
loop-k-init c =
    let a = c.args in
    record {
      can = search rules;
      ends = search rules;
      same = search rules;
      lines =
          kept (LinesTo _ _ _ _ _ _) c.into_iter-k-iterator.result (search rules) (search rules)
          (lines_start (award_lines a.answers.now) a.words.now a.out.now a.at c.requires.bid_list.sound c.requires.words_in_bounds);
    }

-- at a bid: its words are inside the list, and it is one of those that a list may have
pub put_award-end-requires : goal.put_award-end-requires
put_award-end-requires c =
    let u = turn c.loop-k.k-iterator c.next.new.self c.loop-k.invariant.same c.next.ensures.steps (LinesTo _ _ _ _ _ _) c.in-Some.is c.loop-k.invariant.lines in
    let l = c.args.answers.now in
    record {
      header_words_in_bounds = omega (arith, bid-whole _ _ _ u.here.walk u.inside);
      bid_lt_bid_limit = bid-below path_limit _ _ _ u.here.walk u.inside c.requires.bid_list.short;
      bid_answer_words_in_bounds = c.requires.bid_answer_words_in_bounds;
      place_in_bounds = lines_fit (award_part l) (award_lines l) (λ k b bs. refl) u.here u.inside;
    }

pub loop-k-preserved : goal.loop-k-preserved
loop-k-preserved c =
    let u = turn c.loop-k.k-iterator c.next.new.self c.loop-k.invariant.same c.next.ensures.steps (LinesTo _ _ _ _ _ _) c.in-Some.is c.loop-k.invariant.lines in
    let l = c.args.answers.now in
    record {
      can = search rules;
      ends = search rules;
      same = u.same;
      lines = kept (LinesTo _ _ _ _ _ _) c.next.new.self u.number u.place (lines-on (award_part l) (award_lines l) (λ k b bs. refl) u.here u.inside c.put_award-end.ensures);
    }

pub shape_of-out : goal.shape_of-out
shape_of-out c = written_same c.loop-k.invariant.lines.to

pub returns : goal.returns
returns c =
    lines-done c.loop-k.invariant.lines refl
    (past_end c.loop-k.k-iterator c.next.new.self c.loop-k.invariant.same c.next.ensures.steps c.in-None.is)
