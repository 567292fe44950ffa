-- The count line was read, so the section's lines are those of `lines_from` and the count line itself (`some-..`).
use native.Mathlib.Omega.{arith}
use mathlib.Core.Path.{sym, ◌∙◌}
use borrow.Author.Tests.{eq-eqb, ne_eqb}
use Rattle.sheet_form.proofs.FormLaws.{some-stands, some-lines, some-used}
use Rattle.sheet_form.proofs.form.section_at.Goals as goal

pub returns-then-more-count-clause-faulty : goal.returns-then-more-count-clause-faulty
returns-then-more-count-clause-faulty c =
    let a = c.args in
    let count = c.count_line-count in
    let more = c.lines_from-more in record {
      whole = sym (some-stands a.part a.bytes.now a.from.at count.result.used count.result.value count.ensures.used count.ensures.value c.if-count-eq0.false more.result more.ensures.read)
          ∙ ne_eqb more.result.lines count.result.value c.if-more-count.true;
      line = omega (arith, some-lines a.part a.bytes.now a.from.at count.result.used count.result.value count.ensures.used count.ensures.value c.if-count-eq0.false more.result more.ensures.read);
    }

pub returns-clause-whole : goal.returns-clause-whole
returns-clause-whole c =
    let a = c.args in
    let count = c.count_line-count in
    let more = c.lines_from-more in record {
      whole = sym (some-stands a.part a.bytes.now a.from.at count.result.used count.result.value count.ensures.used count.ensures.value c.if-count-eq0.false more.result more.ensures.read)
          ∙ eq-eqb more.result.lines count.result.value c.if-more-count.false;
      place = omega (arith, some-used a.part a.bytes.now a.from.at count.result.used count.result.value count.ensures.used count.ensures.value c.if-count-eq0.false more.result more.ensures.read);
      line = omega (arith, some-lines a.part a.bytes.now a.from.at count.result.used count.result.value count.ensures.used count.ensures.value c.if-count-eq0.false more.result more.ensures.read);
      inside = omega (arith, more.ensures.fits);
    }
