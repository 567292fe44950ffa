use borrow.Author.Rules.{rules}
use mathlib.Core.Path.{◌∙◌}
use Rattle.market.specs.Books.{in_cents, in_megawatts}
use Rattle.market.proofs.KindLaws.{cents-at, megawatts-at}
use Rattle.round_paths.proofs.PathRowLaws.{row_next}
use Rattle.round_paths.proofs.write_paths.Goals as goal

pub loop-i-preserved : goal.loop-i-preserved
loop-i-preserved c =
    let a = c.args in
    let at = c.loop-i in
    let next = row_next (in_megawatts a.offered) (in_megawatts a.sold) (in_cents a.prices) a.answers.now at.answers at.i at.invariant.1.1 in (
      search rules,
      (
        c.put_row.auto.answers ∙ at.invariant.1.0,
        rw (c.put_row.ensures, c.from.ensures, c.from-in-loop-i.ensures) (rw (megawatts-at a.offered at.i, megawatts-at a.sold at.i, cents-at a.prices at.i) at next),
      ),
    )
