use borrow.Author.Rules.{rules}
use native.Mathlib.Omega.{arith}
use mathlib.Core.Path.{sym, ◌∙◌, ap}
use Prim.Native.Nat.{ℕ, ◌+◌, ◌≤◌}
use lib.Dec.{leb}
use lib.ListN.{length}
use Rattle.market.specs.Books.{in_megawatts}
use Rattle.market.specs.Limits.{entry_limit}
use Rattle.round_entries.proofs.WinnerLaws.{winners-counted, winners-within}
use Rattle.round_entries.proofs.has_room.Goals as goal

pub overflow_add-result : goal.overflow_add-result
overflow_add-result c =
    let a = c.args in
    let within : a.count ≤ length a.won = search rules in
    omega (arith, c.winners.ensures, winners-counted a.won a.count within, winners-within (in_megawatts a.won) a.count)

pub returns : goal.returns
returns c =
    let a = c.args in
    let within : a.count ≤ length a.won = search rules in
    ap (λ (n : ℕ). leb (a.entries + n) entry_limit) (c.winners.ensures ∙ sym (winners-counted a.won a.count within))
