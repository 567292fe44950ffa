-- `filled` is less than the buffer's length, which stays, so what each call requires holds in each turn.
use Rattle.std.proofs.Common.{length, ◌≡◌, ◌<◌}
use Rattle.journal_program.proofs.run_input.Given as goal

abbrev pub invariant-loop-turn : goal.invariant-loop-turn
invariant-loop-turn g l = (l.filled < length l.buffer) × (length l.buffer ≡ 65537)
