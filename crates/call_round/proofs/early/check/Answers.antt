-- The table is in two parts. A refusal of the first part is the whole table's (`first-refuses`); without one the second
-- part decides (`second-decides`), and the book is known to be sound, which bounds its paths.
use mathlib.Core.Path.{◌≡◌, sym, ◌∙◌}
use mathlib.Core.List.{◌++◌}
use Rattle.std.proofs.Common.{rules}
use Rattle.std.specs.Prelude.{Err}
use Rattle.market.proofs.SoundLaws.{sound-parts, count-within}
use Rattle.market.proofs.Tables.{second-decides}
use Rattle.round_bids.specs.BidRefusals.{list_refusals}
use Rattle.register.specs.Refusals.{register_refusals}
use Rattle.call_round.specs.Round.{short_round_lists, desk_refusals}
use Rattle.call_round.proofs.Cleared.{lent-cleared}
use Rattle.call_rules.proofs.Decides.{first-refuses}
use Rattle.call_round.proofs.early.check.Goals as goal

pub returns-in_err-check_lent : goal.returns-in_err-check_lent
returns-in_err-check_lent c =
    let a = c.args in
    let is : c.from_residual.result ≡ Err c.in_err-check_lent.field-0.0 = search rules in
    is
    ∙ first-refuses (short_round_lists a.answers.now a.results.now a.scratch.now ++ register_refusals a.book a.words.now)
    (desk_refusals a.book a.bids.now ++ list_refusals a.book.path_count a.bids.now)
    (sym c.check_lent.ensures ∙ c.in_err-check_lent.was)

pub check_list-requires : goal.check_list-requires
check_list-requires c = let a = c.args in
    let none = sym c.check_lent.ensures ∙ c.in_ok-check_lent.was in
    let lent = lent-cleared a.book a.words.now a.bids.now a.answers.now a.results.now a.scratch.now none in
    count-within a.book.path_count (sound-parts a.book lent.register.sound).path-count

pub returns : goal.returns
returns c =
    let a = c.args in
    c.check_list.ensures
    ∙ sym
    (second-decides (short_round_lists a.answers.now a.results.now a.scratch.now ++ register_refusals a.book a.words.now)
    (desk_refusals a.book a.bids.now ++ list_refusals a.book.path_count a.bids.now)
    (sym c.check_lent.ensures ∙ c.in_ok-check_lent.was))
