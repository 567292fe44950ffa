-- The invariant: the lines of the paths below `path` are written, and those from `path` on are still to come.
-- `paths-all` turns the rule, which counts from the last path, into lines from the first; `paths-next` splits off one
-- line a turn.
use Prim.Native.Nat.{◌-◌, ◌≤◌}
use Rattle.text_writing.proofs.PutLaws.{WrittenTo}
use Rattle.award_sheet_round.specs.RoundLines.{award_path_lines}
use Rattle.award_sheet_round.proofs.LineLaws.{paths_from}
use Rattle.award_sheet_round.proofs.path_lines.put_path_lines.Given as goal

abbrev pub invariant-loop-path : goal.invariant-loop-path
invariant-loop-path l = (l.path ≤ l.paths) × WrittenTo l.initial.out l.at (award_path_lines l.results l.paths) (paths_from l.results l.path (l.paths - l.path)) l.end l.out
