-- By cases on the verdict: a refusal is the rule's and leaves the words (refuses, words-stay); none gives its answer, with
-- the entries issued (takes, words-change). Where no row holds, pay-cleared gives what the callees require.
use mathlib.Core.Path.{sym, ◌∙◌, ap}
use Rattle.market.specs.Answers.{answered}
use Rattle.call_rules.proofs.Decides.{refuses, words-stay, takes, words-change}
use Rattle.call_pay.proofs.Cleared.{pay-cleared}
use Rattle.call_pay.specs.Pay.{pay}
use Rattle.call_pay.proofs.pay.Goals as goal

pub returns-in-Err : goal.returns-in-Err
returns-in-Err c =
    let a = c.args in
    let is = c.check.ensures in record {
      outcome = refuses (pay a.bidder a.amount) a.book a.words.now _ is c.in-Err.is;
      words = words-stay (pay a.bidder a.amount) a.book a.words.now _ is c.in-Err.is;
    }

pub returns : goal.returns
unfolding pay
returns c =
    let a = c.args in
    let is = c.check.ensures in record {
      outcome = ap answered c.book_paid.ensures ∙ takes (pay a.bidder a.amount) a.book a.words.now _ is c.in_default.is;
      words = c.issue.ensures ∙ words-change (pay a.bidder a.amount) a.book a.words.now _ is c.in_default.is;
    }

pub issue-requires : goal.issue-requires
issue-requires c =
    let clear = pay-cleared c.args.book c.args.words.now c.args.bidder c.args.amount (sym c.check.ensures ∙ c.in_default.is) in
    clear.0.room

pub book_paid-requires : goal.book_paid-requires
book_paid-requires c =
    let clear = pay-cleared c.args.book c.args.words.now c.args.bidder c.args.amount (sym c.check.ensures ∙ c.in_default.is) in record {
      book_value = clear.0.sound;
      bidder_lt_bidder_limit = clear.1;
    }
