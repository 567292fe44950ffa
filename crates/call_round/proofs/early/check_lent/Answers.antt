use borrow.Author.Tests.{le-leb, lt-leb}
use Rattle.call_round.proofs.early.check_lent.Goals as goal

pub returns-then-answers-lt-BID_ANSWER_WORDS : goal.returns-then-answers-lt-BID_ANSWER_WORDS
returns-then-answers-lt-BID_ANSWER_WORDS c = rw (lt-leb _ _ c.if-answers-lt-BID_ANSWER_WORDS.true)

pub returns-then-results-lt-PATH_ANSWER_WORDS : goal.returns-then-results-lt-PATH_ANSWER_WORDS
returns-then-results-lt-PATH_ANSWER_WORDS c = rw (le-leb _ _ c.if-answers-lt-BID_ANSWER_WORDS.false, lt-leb _ _ c.if-results-lt-PATH_ANSWER_WORDS.true)

pub returns-then-scratch-lt-SCRATCH_WORDS : goal.returns-then-scratch-lt-SCRATCH_WORDS
returns-then-scratch-lt-SCRATCH_WORDS c = rw (le-leb _ _ c.if-answers-lt-BID_ANSWER_WORDS.false, le-leb _ _ c.if-results-lt-PATH_ANSWER_WORDS.false, lt-leb _ _ c.if-scratch-lt-SCRATCH_WORDS.true)

pub returns : goal.returns
returns c = rw (le-leb _ _ c.if-answers-lt-BID_ANSWER_WORDS.false, le-leb _ _ c.if-results-lt-PATH_ANSWER_WORDS.false, le-leb _ _ c.if-scratch-lt-SCRATCH_WORDS.false) c.check.ensures
