-- The invariant: the slots are the book's with the first `i` paths opened by the megawatts that were found outstanding
-- (`opened_by`); each turn opens one more (more-opened). At the end that is the rule's list, since each number found is
-- the rule's (opened-same). The count is at most the number of slots (paths-within).
use mathlib.Core.Path.{◌≡◌}
use Rattle.market.specs.Books.{in_megawatts}
use Rattle.call_open.proofs.PathLaws.{opened_by}
use Rattle.call_open.proofs.paths.opened_paths.Given as goal

abbrev pub invariant-loop-i : goal.invariant-loop-i
invariant-loop-i l = l.paths ≡ opened_by l.kind l.quantities (in_megawatts l.out) l.book.paths l.i
