-- By cases: a list that is too short is refusal 1 (short-refused); otherwise the other rows decide (long-decided). A refusal
-- is the rule's (refusing); where there is none the rule answers, with the shares written (takes, list-changes), and
-- rest-cleared gives what the callees require.
use mathlib.Core.Path.{refl, ◌≡◌, ◌∙◌, ap}
use mathlib.Core.Bool.{not}
use mathlib.Core.List.{List}
use Prim.Native.Nat.{ℕ}
use Rattle.std.specs.Prelude.{Err}
use Rattle.market.specs.Answers.{answered, refused, Verdict}
use Rattle.market.specs.Books.{with_front}
use Rattle.market.specs.declared.answer.Refusal.{Refusal}
use Rattle.pool_columns.specs.Pools.{shares_of}
use Rattle.call_rules.proofs.Decides.{refuses, list-stays, takes, list-changes}
use Rattle.call_rules.specs.Rule.{Rule}
use Rattle.call_rules.specs.Steps.{no_register, verdict_of, outcome_of, list_after, to_amounts}
use Rattle.call_disburse.proofs.Cleared.{Long, rest-cleared, tested-long, short-refused, long-decided}
use Rattle.call_disburse.specs.Disbursement.{PoolLists, pool_lists, settle}
use Rattle.call_disburse.proofs.call.settle.Goals.{After-check, Else-not-all_long_enough, Start}
use Rattle.call_disburse.proofs.call.settle.Goals as goal

abbrev lists : Start → PoolLists
lists s = pool_lists s.args.provincial.now s.args.export.now s.args.meters.now s.args.interties.now s.args.shares.now

abbrev rule : Start → Rule
rule s = settle s.args.flow s.args.total (lists s)

-- a refusal, and the shares as they were
refusing :
    (s : Start) (v : Verdict) → v ≡ verdict_of (rule s) s.args.book no_register → {r : Refusal} → v ≡ Err r
    → (refused s.args.book r ≡ outcome_of (rule s) s.args.book no_register)
    × (s.args.shares.now ≡ list_after to_amounts (rule s) s.args.book no_register s.args.shares.now)
refusing s v is given =
    (refuses (rule s) s.args.book no_register v is given, list-stays (rule s) s.args.book no_register v is given to_amounts s.args.shares.now)

-- no list is too short
module _ (p : Else-not-all_long_enough) where
  abbrev start : Start
  start = (goal.at.Else-not-all_long_enough p).Start

  enough : Long (lists start)
  enough = tested-long (lists start) _ p.all_long_enough.ensures (ap not p.if-not-all_long_enough.false)

-- the verdict is the table's
module _ (p : After-check) where
  abbrev s : Start
  s = (goal.at.After-check p).Start

  verdict_is : p.check.result ≡ verdict_of (rule s) s.args.book no_register
  verdict_is =
      long-decided s.args.flow s.args.book s.args.total (lists s) _ p.all_long_enough.ensures (ap not p.if-not-all_long_enough.false)
      _ p.columns_of-columns.ensures _ p.check.ensures

pub returns-then-not-all_long_enough : goal.returns-then-not-all_long_enough
returns-then-not-all_long_enough c =
    let s = (goal.at.returns-then-not-all_long_enough c).Start in
    let short = short-refused s.args.flow s.args.book s.args.total (lists s) _ c.all_long_enough.ensures (ap not c.if-not-all_long_enough.true) in
    let both = refusing s (Err Refusal.ShortBuffer) short refl in
    record { outcome = both.0; shares = both.1 }

pub shares_of-requires : goal.shares_of-requires
shares_of-requires c =
    let a = c.args in
    let clear = rest-cleared a.flow a.book a.total c.columns_of-columns.result _ c.check.ensures c.in_default.is in
    record {
      total_le_pool_limit = clear.0.1;
      columns_value = clear.1;
    }

pub moved-requires : goal.moved-requires
moved-requires c =
    let a = c.args in
    let clear = rest-cleared a.flow a.book a.total c.columns_of-columns.result _ c.check.ensures c.in_default.is in
    record { book_value = clear.0.0; total_le_pool_limit = clear.0.1 }

pub returns : goal.returns
unfolding settle
returns c =
    let at = goal.at.returns c in
    let a = c.args in
    let is = verdict_is at.After-check in
    let shared = c.shares_of.ensures ∙ ap (shares_of a.total.0) c.columns_of-columns.ensures in record {
      outcome = ap answered c.moved.ensures ∙ takes (rule at.Start) a.book no_register _ is c.in_default.is;
      shares = c.write_amounts.ensures
          ∙ ap (λ (front : List ℕ). with_front front a.shares.now) shared
          ∙ list-changes (rule at.Start) a.book no_register _ is c.in_default.is to_amounts a.shares.now;
    }

pub columns_of-columns-requires : goal.columns_of-columns-requires
columns_of-columns-requires c =
    let long = enough (goal.at.columns_of-columns-requires c).Else-not-all_long_enough in
    record {
      bidder_limit_in_bounds = long.provincial;
      bidder_limit_in_bounds_2 = long.export;
      bidder_limit_in_bounds_3 = long.meters;
      bidder_limit_in_bounds_4 = long.interties;
    }

pub returns-in-Err : goal.returns-in-Err
returns-in-Err c =
    let at = goal.at.returns-in-Err c in
    let both = refusing at.Start _ (verdict_is at.After-check) c.in-Err.is in
    record { outcome = both.0; shares = both.1 }

pub write_amounts-requires : goal.write_amounts-requires
write_amounts-requires c = (enough (goal.at.write_amounts-requires c).Else-not-all_long_enough).shares
