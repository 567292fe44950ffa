-- The lists that come with a call, whose contents are free: rule 12.1. Each call reads and writes those that it is lent, and leaves the others.
use Rattle.std.specs.Prelude.{List, ℕ, ℤ}
use Rattle.call_rules.specs.Rule.{Lists, lists}
use Rattle.call_disburse.specs.Disbursement as pools

-- rule 12.1: all lists that some call is lent
pub record Lent : Type 0 where
  -- open: the quantities of the paths (rule 6.2)
  pub quantities : List ℕ
  -- round: the bid list (rule 7.1)
  pub bids : List ℕ
  -- payout: the zone prices (rule 10.2)
  pub prices : List ℤ
  -- disburse and recover: the four columns (rule 11.2)
  pub provincial : List ℕ
  pub export : List ℕ
  pub meters : List ℕ
  pub interties : List ℕ
  -- payout, and disburse and recover: the list for the 32 amounts (rule 10.5) or shares (rule 11.7)
  pub amounts : List ℕ
  -- round: the list for bids (rule 7.17), the list for paths (rule 7.18), and the scratch (rule 7.19)
  pub answers : List ℕ
  pub results : List ℕ
  pub scratch : List ℕ

-- the lists of a call, one after another
abbrev pub lent : List ℕ → List ℕ → List ℤ → List ℕ → List ℕ → List ℕ → List ℕ → List ℕ → List ℕ → List ℕ → List ℕ → Lent
lent quantities bids prices provincial export meters interties amounts answers results scratch =
    record {
      quantities = quantities;
      bids = bids;
      prices = prices;
      provincial = provincial;
      export = export;
      meters = meters;
      interties = interties;
      amounts = amounts;
      answers = answers;
      results = results;
      scratch = scratch;
    }

-- what disburse and recover are lent
abbrev pub pool_lists_of : Lent → pools.PoolLists
pool_lists_of l = pools.pool_lists l.provincial l.export l.meters l.interties l.amounts

-- the lists that some call writes to
abbrev pub lists_of : Lent → Lists
lists_of l = lists l.amounts l.answers l.results
