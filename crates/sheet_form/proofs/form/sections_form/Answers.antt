use borrow.Author.Rules.{rules}
use Rattle.sheet_form.proofs.FormLaws.{form-sections}
use Rattle.sheet_form.proofs.form.sections_form.Goals as goal

pub returns-in_err-second-clause-form : goal.returns-in_err-second-clause-form
returns-in_err-second-clause-form c =
    let form = form-sections c.args.kind c.in_ok-paths.ensures.whole c.in_ok-first.ensures.whole c.in_err-second.ensures.form in
    search rules

pub returns-clause-form : goal.returns-clause-form
returns-clause-form c = form-sections c.args.kind c.in_ok-paths.ensures.whole c.in_ok-first.ensures.whole c.in_ok-second.ensures.form
