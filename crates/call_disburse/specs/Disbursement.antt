-- Disburse and recover, what they are lent, and their refusals: rules 11.1, 11.2, 11.7, 11.8, 13.1 and 13.32.
use Rattle.std.specs.Prelude.{Bool, not, ◌&&◌, List, [], ◌∷◌, ◌++◌, ℕ, leb, eqb, ℤ, pos, ◌+ℤ◌, ◌-ℤ◌, length, take}
use Rattle.std.specs.Int.Signed.{le_z}
use Rattle.market.specs.Answers.{Row, ◌gives◌, answered}
use Rattle.market.specs.Books.{with_account}
use Rattle.market.specs.Limits.{bidder_limit, pool_limit, reserve}
use Rattle.market.specs.declared.book.Book.{Book}
use Rattle.market.specs.declared.units.Cents.{Cents}
use Rattle.market.specs.declared.answer.Refusal.{Refusal}
use Rattle.pool_columns.specs.Pools.{shares_of, column_refusals}
use Rattle.pool_columns.specs.declared.Columns.{Columns}
use Rattle.call_rules.specs.Money.{nothing}
use Rattle.call_rules.specs.Rule.{Reply, Rule, amounts_put}
use Rattle.call_rules.specs.Rule.Register.{unlent}
use Rattle.lent_lists.specs.Amounts.{listed}
use Rattle.call_disburse.specs.declared.flow.Flow.{Flow}
use Rattle.call_disburse.specs.declared.flow.Flow.TheVariants.{Out, In}

-- ---- What is lent

-- rules 11.2 and 11.7: the lists of the four columns, and the list for the shares
pub record PoolLists : Type 0 where
  pub provincial : List ℕ
  pub export : List ℕ
  pub meters : List ℕ
  pub interties : List ℕ
  pub shares : List ℕ

abbrev pub pool_lists : List ℕ → List ℕ → List ℕ → List ℕ → List ℕ → PoolLists
pool_lists provincial export meters interties shares =
    record { provincial = provincial; export = export; meters = meters; interties = interties; shares = shares }

-- rule 13.1: a list, and each of the five, has a word or more for each participant
abbrev pub reaches_all : List ℕ → Bool
reaches_all l = leb bidder_limit (length l)

abbrev pub all_long_enough : PoolLists → Bool
all_long_enough l =
    reaches_all l.provincial
    && reaches_all l.export
    && reaches_all l.meters
    && reaches_all l.interties
    && reaches_all l.shares

-- rule 11.2: a column is the first 32 words of its list, and words past them are not read
abbrev pub columns_from : List ℕ → List ℕ → List ℕ → List ℕ → Columns
columns_from provincial export meters interties =
    record {
      provincial = take bidder_limit provincial;
      export = take bidder_limit export;
      meters = take bidder_limit meters;
      interties = take bidder_limit interties;
    }

abbrev pub columns_of : PoolLists → Columns
columns_of l = columns_from l.provincial l.export l.meters l.interties

-- ---- The account

-- rule 11.8: the account after disburse, and after recover
abbrev pub account_after_flow : Flow → Book → Cents → ℤ
account_after_flow Out b d = b.account.0 -ℤ pos d.0
account_after_flow In b d = b.account.0 +ℤ pos d.0

-- rule 11.8: the account may be left so: disburse leaves the reserve in it, and recover does not take it above 0
abbrev pub within_bound : Flow → ℤ → Bool
within_bound Out after = le_z (pos reserve) after
within_bound In after = le_z after (pos 0)

-- ---- Refusals, in their order

-- rule 13.1: one of the five lists is too short
abbrev pub short_pool_lists : PoolLists → List Row
short_pool_lists l = (not (all_long_enough l) gives Refusal.ShortBuffer) ∷ []

-- rules 11.1 and 13.32: D is 0, or above its limit, or would leave the account as it may not be
abbrev pub total_refusals : Flow → Book → Cents → List Row
total_refusals flow b d =
    (eqb d.0 0 gives Refusal.Total)
    ∷ (not (leb d.0 pool_limit) gives Refusal.Total)
    ∷ (not (within_bound flow (account_after_flow flow b d)) gives Refusal.Total)
    ∷ []

-- ---- The calls

-- rule 12.10: the shares are the money, which goes out with a disbursement and comes in with a recovery
abbrev pub shares_out : Flow → Reply → ℕ
shares_out Out = listed
shares_out In = nothing

abbrev pub shares_in : Flow → Reply → ℕ
shares_in Out = nothing
shares_in In = listed

-- rules 11.1 and 11.7: one rule for both calls, in either stage: the total is tested before the columns, and the shares are written to their list
unfoldable pub settle : Flow → Cents → PoolLists → Rule
settle flow d l =
    record {
      on =
          λ b es.
          record {
            lent = short_pool_lists l;
            register = unlent;
            own = total_refusals flow b d ++ column_refusals d.0 (columns_of l);
            outcome = answered (with_account b (account_after_flow flow b d));
            fronts = amounts_put (shares_of d.0 (columns_of l));
          };
      into = shares_in flow;
      out = shares_out flow;
    }

-- rule 11.1: disburse and recover as calls
abbrev pub disburse : Cents → PoolLists → Rule
disburse d l = settle Out d l

abbrev pub recover : Cents → PoolLists → Rule
recover d l = settle In d l
