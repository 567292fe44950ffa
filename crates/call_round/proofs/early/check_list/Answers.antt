use borrow.Author.Tests.{le-leb, lt-leb}
use mathlib.Core.Path.{sym, ◌∙◌}
use Rattle.call_round.proofs.early.check_list.Goals as goal

pub returns-then-bids-gt-BID_LIST_WORDS : goal.returns-then-bids-gt-BID_LIST_WORDS
returns-then-bids-gt-BID_LIST_WORDS c = rw (sym c.is_idle.ensures ∙ c.if-is_idle.false, lt-leb _ _ c.if-bids-gt-BID_LIST_WORDS.true)

pub returns : goal.returns
returns c = rw (sym c.is_idle.ensures ∙ c.if-is_idle.false, le-leb _ _ c.if-bids-gt-BID_LIST_WORDS.false) c.check.ensures
