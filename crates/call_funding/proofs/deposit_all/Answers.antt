-- A sound book is what `deposit_each` requires, and that call ensures the rule. One that is not sound is refused where
-- a deposit is asked for, and else left as it is (`list-asked`). Slots past the last are none, so counting at most all
-- slots takes the same bidders (`take-listed`).
use mathlib.Core.Path.{◌≡◌, sym, ◌∙◌, ap}
use mathlib.Core.Bool.{Bool, true, false, cond}
use mathlib.Core.List.{List}
use Prim.Native.Nat.{ℕ}
use native.Mathlib.Omega.{arith}
use lib.ListN.{take}
use borrow.Author.Rules.{rules}
use Rattle.market.specs.Answers.{answered, refused}
use Rattle.market.specs.Limits.{bidder_limit}
use Rattle.market.specs.declared.answer.Refusal.{Refusal}
use Rattle.call_funding.specs.Deposits.{list_deposits}
use Rattle.call_funding.specs.declared.BidderDeposits.{BidderDeposits}
use Rattle.call_funding.proofs.DepositLaws.{as_long, take-listed}
use Rattle.call_funding.proofs.KeptDeposits.{list-asked}
use Rattle.call_funding.proofs.deposit_all.Goals.{After-none_asked, After-slots_listed-count, Start}
use Rattle.call_funding.proofs.deposit_all.Goals as goal

-- the bidders that are listed
module _ (p : After-slots_listed-count) where
  abbrev start : Start
  start = p.before.before

  abbrev all : List BidderDeposits
  all = start.args.list.bidders

  listed : take p.slots_listed-count.result all ≡ take start.args.list.count all
  listed =
      ap (λ (n : ℕ). take n all) p.slots_listed-count.ensures
      ∙ take-listed all start.args.list.count bidder_limit (search (rules, as_long))

-- what is left of them on a book that is not sound, by whether none asks
unsound :
    (c : After-none_asked) (t : Bool) → c.none_asked.result ≡ t
    → cond t (answered (start c.before.before.before).args.book) (refused (start c.before.before.before).args.book Refusal.Unsound)
    ≡ list_deposits (start c.before.before.before).args.book (take (start c.before.before.before).args.list.count (all c.before.before.before))
unsound c t is =
    let p = c.before.before.before in
    let b = (start p).args.book in
    let bad = sym c.sound_book.ensures ∙ c.if-sound_book.false in
    ap (λ (s : Bool). cond s (answered b) (refused b Refusal.Unsound)) (sym is ∙ c.none_asked.ensures)
    ∙ sym (list-asked b bad (take p.slots_listed-count.result (all p)))
    ∙ ap (list_deposits b) (listed p)

pub returns-then-sound_book : goal.returns-then-sound_book
returns-then-sound_book c =
    let p = c.before.before.before in
    c.deposit_each.ensures ∙ ap (list_deposits (start p).args.book) (listed p)

pub deposit_each-requires : goal.deposit_each-requires
deposit_each-requires c = record {
  book_value = sym c.sound_book.ensures ∙ c.if-sound_book.true;
  count_le_bidder_limit = omega (arith, c.slots_listed-count.ensures);
}

pub none_asked-requires : goal.none_asked-requires
none_asked-requires c = omega (arith, c.slots_listed-count.ensures)

pub returns-then-none_asked : goal.returns-then-none_asked
returns-then-none_asked c = unsound c.before true c.if-none_asked.true

pub returns : goal.returns
returns c = unsound c.before false c.if-none_asked.false
