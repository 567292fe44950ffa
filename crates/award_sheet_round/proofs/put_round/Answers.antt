-- A text in three pieces, bids, paths and awards (`round-pieces`): the first two are added by `written_next`, which
-- leaves the room that the next one needs, and the last by `written_all`.
use mathlib.Core.Path.{refl}
use mathlib.Core.List.{List}
use Prim.Native.Nat.{ℕ}
use Rattle.round_bids.specs.Bids.{bids_of}
use Rattle.text_writing.proofs.PutLaws.{written_from, written-room, written-fits, written_next, written_all}
use Rattle.award_sheet_round.specs.RoundLines.{bids_part, paths_part, RoundMade}
use Rattle.award_sheet_round.proofs.LineLaws.{round-pieces}
use Rattle.award_sheet_round.proofs.put_round.Goals as goal

abbrev made : List ℕ → List ℕ → List ℕ → RoundMade
made bids answers results = record { bids = bids_of bids; answers = answers; results = results }

pub put_bids_part-offers-requires : goal.put_bids_part-offers-requires
put_bids_part-offers-requires c =
    let a = c.args in
    let r = made a.bids.now a.answers.now a.results.now in
    let begun = written_from (round-pieces a.paths r) c.requires.results_in_bounds in
    record {
      bid_list = c.requires.bid_list;
      bid_answer_words_in_bounds = c.requires.bid_answer_words_in_bounds;
      words_in_bounds = written-fits begun (bids_part r.answers r.bids) _ refl;
    }

pub put_paths_part-awards-requires : goal.put_paths_part-awards-requires
put_paths_part-awards-requires c =
    let a = c.args in
    let r = made a.bids.now a.answers.now a.results.now in
    let begun = written_from (round-pieces a.paths r) c.requires.results_in_bounds in
    record {
      paths_le_path_limit = c.requires.paths_le_path_limit;
      path_answer_words_in_bounds = c.requires.path_answer_words_in_bounds;
      paths_in_bounds = written-fits (written_next begun c.put_bids_part-offers.ensures) (paths_part r.results a.paths) _ refl;
    }

pub put_awards_part-requires : goal.put_awards_part-requires
put_awards_part-requires c =
    let a = c.args in
    let begun = written_from (round-pieces a.paths (made a.bids.now a.answers.now a.results.now)) c.requires.results_in_bounds in
    record {
      bid_list = c.requires.bid_list;
      bid_answer_words_in_bounds = c.requires.bid_answer_words_in_bounds;
      words_in_bounds = written-room (written_next (written_next begun c.put_bids_part-offers.ensures) c.put_paths_part-awards.ensures);
    }

pub returns : goal.returns
returns c =
    let a = c.args in
    let begun = written_from (round-pieces a.paths (made a.bids.now a.answers.now a.results.now)) c.requires.results_in_bounds in
    written_all (written_next (written_next begun c.put_bids_part-offers.ensures) c.put_paths_part-awards.ensures) c.put_awards_part.ensures
