-- By cases on the flow: a sound book's account and a total within the limit are what `minus` and `plus` require, and
-- what they ensure is the rule's balance for that flow.
use native.Mathlib.Omega.{arith}
use Rattle.market.proofs.SoundLaws.{sound-parts}
use Rattle.call_disburse.proofs.parts.account_after.Goals as goal

pub minus-requires : goal.minus-requires
minus-requires c = record {
  account_value = (sound-parts c.args.book c.requires.book_value).account;
  amount_le_account_limit = omega (arith, c.requires.total_le_pool_limit);
}

pub plus-requires : goal.plus-requires
plus-requires c = record {
  account_value = (sound-parts c.args.book c.requires.book_value).account;
  amount_le_account_limit = omega (arith, c.requires.total_le_pool_limit);
}
