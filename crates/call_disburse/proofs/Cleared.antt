-- What is known of a call's arguments where its refusals do not hold, and the verdict of its refusals.
use mathlib.Core.Path.{◌≡◌, sym, ◌∙◌, ap}
use mathlib.Core.Bool.{Bool, true, false, not, ◌&&◌}
use mathlib.Core.List.{◌∷◌, ◌++◌}
use Prim.Native.Nat.{◌≤◌}
use lib.Dec.{leb}
use borrow.Author.Tests.{not-true, not-false, leb-true}
use lib.ListN.{length}
use lib.Seq.{length-take-le}
use Rattle.std.specs.Prelude.{Err}
use Rattle.market.proofs.Tables.{none-hold, neither-holds}
use Rattle.market.proofs.Tests.{left-true, right-true}
use Rattle.market.specs.Answers.{first_of, no_refusal, Verdict}
use Rattle.market.specs.Limits.{bidder_limit, pool_limit}
use Rattle.market.specs.Sound.{sound_book}
use Rattle.market.specs.declared.book.Book.{Book}
use Rattle.market.specs.declared.units.Cents.{Cents}
use Rattle.market.specs.declared.answer.Refusal.{Refusal}
use Rattle.pool_sharing.specs.Sharing.{total}
use Rattle.pool_columns.specs.Pools.{shares_of, column_refusals}
use Rattle.pool_columns.proofs.ShareLaws.{Alike, all-have-shares, shares-add-up}
use Rattle.pool_columns.specs.declared.Columns.{Columns}
use Rattle.call_rules.specs.Rules.{unsound_book}
use Rattle.call_rules.specs.Steps.{no_register, verdict_of}
use Rattle.call_disburse.specs.Disbursement.{PoolLists, reaches_all, all_long_enough, columns_of, short_pool_lists, total_refusals, settle}
use Rattle.call_disburse.specs.declared.flow.Flow.{Flow}

-- the book is sound, and the total is within the limit
pub total_cleared : (flow : Flow) (b : Book) (d : Cents) → first_of (unsound_book b ∷ total_refusals flow b d) ≡ no_refusal → (sound_book b ≡ true) × (d.0 ≤ pool_limit)
total_cleared flow b d h =
    let none = none-hold (unsound_book b ∷ total_refusals flow b d) h in
    (not-false (sound_book b) none.0, leb-true d.0 pool_limit (not-false (leb d.0 pool_limit) none.1.1.0))

-- the columns are not refused either; `v` is the verdict that a function computes
module _ (flow : Flow) (b : Book) (d : Cents) (cols : Columns) (v : Verdict) (is : v ≡ first_of (unsound_book b ∷ (total_refusals flow b d ++ column_refusals d.0 cols))) (none : v ≡ no_refusal) where
  pub rest-cleared : ((sound_book b ≡ true) × (d.0 ≤ pool_limit)) × (first_of (column_refusals d.0 cols) ≡ no_refusal)
  rest-cleared =
      let parts = neither-holds (unsound_book b ∷ total_refusals flow b d) (column_refusals d.0 cols) (sym is ∙ none) in
      (total_cleared flow b d parts.0, parts.1)

-- each list is long enough
pub record Long (l : PoolLists) : Type 0 where
  pub provincial : bidder_limit ≤ length l.provincial
  pub export : bidder_limit ≤ length l.export
  pub meters : bidder_limit ≤ length l.meters
  pub interties : bidder_limit ≤ length l.interties
  pub shares : bidder_limit ≤ length l.shares

long : (l : PoolLists) → all_long_enough l ≡ true → Long l
long l h =
    let provincial = reaches_all l.provincial in
    let export = reaches_all l.export in
    let meters = reaches_all l.meters in
    let interties = reaches_all l.interties in
    let shares = reaches_all l.shares in
    let h₃ = left-true (provincial && export && meters && interties) shares h in
    let h₂ = left-true (provincial && export && meters) interties h₃ in
    let h₁ = left-true (provincial && export) meters h₂ in
    record {
      provincial = leb-true bidder_limit (length l.provincial) (left-true provincial export h₁);
      export = leb-true bidder_limit (length l.export) (right-true provincial export h₁);
      meters = leb-true bidder_limit (length l.meters) (right-true (provincial && export) meters h₂);
      interties = leb-true bidder_limit (length l.interties) (right-true (provincial && export && meters) interties h₃);
      shares = leb-true bidder_limit (length l.shares) (right-true (provincial && export && meters && interties) shares h);
    }

-- the same from `r`, the test that a function computes
pub tested-long : (l : PoolLists) (r : Bool) → r ≡ all_long_enough l → not r ≡ false → Long l
tested-long l r is passed = long l (sym is ∙ not-false r passed)

-- their columns have a word for each participant
long-alike : (l : PoolLists) → Long l → Alike (columns_of l) bidder_limit
long-alike l h =
    record {
      provincial = length-take-le bidder_limit l.provincial h.provincial;
      export = length-take-le bidder_limit l.export h.export;
      meters = length-take-le bidder_limit l.meters h.meters;
      interties = length-take-le bidder_limit l.interties h.interties;
    }

module _ (flow : Flow) (b : Book) (d : Cents) (l : PoolLists) where
  -- the verdict of a call: refusal 1 where a list is too short, else that of the other rows
  module _ (r : Bool) (tested : r ≡ all_long_enough l) where
    pub short-refused : not r ≡ true → Err Refusal.ShortBuffer ≡ verdict_of (settle flow d l) b no_register
    unfolding verdict_of settle
    short-refused h = rw (sym tested ∙ not-true r h)

    pub long-decided :
        not r ≡ false → (cols : Columns) → cols ≡ columns_of l → (v : Verdict) → v ≡ first_of (unsound_book b ∷ (total_refusals flow b d ++ column_refusals d.0 cols))
        → v ≡ verdict_of (settle flow d l) b no_register
    unfolding verdict_of settle
    long-decided h cols same v is =
        is
        ∙ ap (λ (cs : Columns). first_of (unsound_book b ∷ (total_refusals flow b d ++ column_refusals d.0 cs))) same
        ∙ rw (sym tested ∙ not-false r h)

-- where the lists are long enough and the columns are not refused, there are 32 shares, and they add up to the total
pub shares-cleared :
    (d : Cents) (l : PoolLists) → first_of (short_pool_lists l) ≡ no_refusal → first_of (column_refusals d.0 (columns_of l)) ≡ no_refusal
    → (length (shares_of d.0 (columns_of l)) ≡ bidder_limit) × (total (shares_of d.0 (columns_of l)) ≡ d.0)
shares-cleared d l enough columns =
    let alike = long-alike l (long l (not-false (all_long_enough l) (none-hold (short_pool_lists l) enough).0)) in (
      all-have-shares d.0 (columns_of l) bidder_limit alike,
      shares-add-up d.0 (columns_of l) bidder_limit alike columns,
    )
