use native.Mathlib.Omega.{arith}
use Prim.Native.Nat.{◌+◌, ◌-◌}
use Rattle.text_writing.proofs.PutLaws.{written_from, written_same, written-fits, written_on, written-done}
use Rattle.award_sheet_round.specs.RoundLines.{award_path_line}
use Rattle.award_sheet_round.proofs.LineLaws.{paths_from, paths-all, paths-next, paths-none}
use Rattle.award_sheet_round.proofs.path_lines.put_path_lines.Goals as goal

pub loop-path-init : goal.loop-path-init
loop-path-init c =
    (omega arith, written_from (paths-all c.args.results.now c.args.paths) c.requires.paths_in_bounds)

-- the lines from a path on are its own and those after it
pub put_path_line-end-requires : goal.put_path_line-end-requires
put_path_line-end-requires c =
    let a = c.args in
    let l = a.results.now in
    let at = c.loop-path in
    record {
      path_lt_path_limit = omega (arith, c.loop-path-test.true, c.requires.paths_le_path_limit);
      path_answer_words_in_bounds = c.requires.path_answer_words_in_bounds;
      path_in_bounds =
          written-fits at.invariant.1 (award_path_line l at.path) (paths_from l (at.path + 1) (a.paths - (at.path + 1)))
          (paths-next l at.path a.paths c.loop-path-test.true);
    }

pub loop-path-preserved : goal.loop-path-preserved
loop-path-preserved c =
    let a = c.args in
    let l = a.results.now in
    let at = c.loop-path in (
      omega (arith, c.loop-path-test.true),
      written_on at.invariant.1 (award_path_line l at.path) (paths_from l (at.path + 1) (a.paths - (at.path + 1)))
          (paths-next l at.path a.paths c.loop-path-test.true) c.put_path_line-end.ensures,
    )

pub shape_of-out : goal.shape_of-out
shape_of-out c = written_same c.loop-path.invariant.1

pub returns : goal.returns
returns c =
    written-done c.loop-path.invariant.1 (paths-none c.args.results.now c.loop-path.path c.args.paths c.loop-path-test.false)
