-- The rules of deposit and withdraw are lawful: they keep a sound state, and the amount moves where it is cash.
use mathlib.Core.Path.{◌≡◌, refl}
use mathlib.Core.Bool.{true}
use mathlib.Core.List.{List}
use Prim.Native.Nat.{ℕ, ◌+◌, ◌≤◌, ◌<◌}
use native.Mathlib.Omega.{arith}
use lib.ListN.{set}
use borrow.Author.Tests.{leb-true}
use Rattle.market.proofs.SoundLaws.{AtRound, at-round, bidder-made, bidder-sound, bidder-within}
use Rattle.market.specs.Books.{held_of, bidder_of, with_bidder}
use Rattle.market.specs.Limits.{bidder_limit, money_limit}
use Rattle.market.specs.Sound.{round_of, sound_bidder, sound_book, BidderBounds}
use Rattle.market.specs.declared.book.Bidder.{Bidder}
use Rattle.market.specs.declared.book.Book.{Book}
use Rattle.market.specs.declared.book.Entry.{Entry}
use Rattle.market.specs.declared.units.Cents.{Cents}
use Rattle.call_rules.proofs.Lawful.{Moved, Lawful}
use Rattle.call_rules.proofs.SoundStates.{bidder-kept}
use Rattle.call_rules.specs.State.{SoundState}
use Rattle.call_rules.proofs.Sums.{held_after, held_more, held-less}
use Rattle.call_rules.specs.Money.{held_by_all}
use Rattle.call_rules.specs.Rule.{Lists}
use Rattle.call_funding.specs.declared.Funds.{Funds}
use Rattle.call_funding.specs.declared.Funds.TheVariants.{Cash, Letter}
use Rattle.call_funding.specs.Deposit.{has_room, with_deposit, deposit}
use Rattle.call_funding.specs.Funding.{cash_of}
use Rattle.call_funding.specs.Withdraw.{withdrawable, debited, withdraw}
use Rattle.call_funding.proofs.Cleared.{deposit-cleared, withdraw-cleared}

-- neither changes what soundness at a round requires of a bidder
credited-at : (round : ℕ) (x : Bidder) (to : Funds) (amount : Cents) → AtRound round x → AtRound round (with_deposit x to amount)
credited-at round x Cash amount h = record { one = h.one; two = h.two }
credited-at round x Letter amount h = record { one = h.one; two = h.two }

debited-at : (round : ℕ) (x : Bidder) (from : Funds) (amount : Cents) → AtRound round x → AtRound round (debited x from amount)
debited-at round x Cash amount h = record { one = h.one; two = h.two }
debited-at round x Letter amount h = record { one = h.one; two = h.two }

credited-within : (x : Bidder) (to : Funds) (amount : Cents) → BidderBounds x → has_room x to amount ≡ true → BidderBounds (with_deposit x to amount)
credited-within x Cash amount p room =
    let most : held_of x + amount.0 ≤ money_limit = leb-true (held_of x + amount.0) money_limit room in
    record { held = omega arith; letter = p.letter; hold = p.hold; owed = p.owed; step = p.step }
credited-within x Letter amount p room =
    let most : x.letter.0 + amount.0 ≤ money_limit = leb-true (x.letter.0 + amount.0) money_limit room in
    record { held = p.held; letter = most; hold = omega (arith, p.hold); owed = p.owed; step = p.step }

debited-within : (x : Bidder) (from : Funds) (amount : Cents) → BidderBounds x → amount.0 ≤ withdrawable x from → BidderBounds (debited x from amount)
debited-within x Cash amount p most =
    record { held = omega (arith, p.held); letter = p.letter; hold = p.hold; owed = p.owed; step = p.step }
debited-within x Letter amount p most =
    record {
      held = p.held;
      letter = omega (arith, p.letter);
      hold = omega (arith, p.hold);
      owed = p.owed;
      step = p.step;
    }

credited-held : (x : Bidder) (to : Funds) (amount : Cents) → held_of (with_deposit x to amount) ≡ held_of x + cash_of to amount
credited-held x Cash amount = omega arith
credited-held x Letter amount = omega arith

debited-held : (x : Bidder) (from : Funds) (amount : Cents) → amount.0 ≤ withdrawable x from → held_of (debited x from amount) + cash_of from amount ≡ held_of x
debited-held x Cash amount most = omega arith
debited-held x Letter amount most = omega arith

-- a bidder of a sound book is sound after a deposit for which there is room
pub credited-sound :
    (b : Book) (i : ℕ) (to : Funds) (amount : Cents) → sound_book b ≡ true → has_room (bidder_of b i) to amount ≡ true
    → sound_bidder (round_of b.stage) (with_deposit (bidder_of b i) to amount) ≡ true
credited-sound b i to amount sound room =
    let round = round_of b.stage in
    let x = bidder_of b i in
    bidder-made round (with_deposit x to amount) (credited-at round x to amount (at-round round x (bidder-sound b i sound)))
    (credited-within x to amount (bidder-within b i sound) room)

module _ (b : Book) (es : List Entry) (i : ℕ) (funds : Funds) (amount : Cents) (state : SoundState b es) where
  abbrev x : Bidder
  x = bidder_of b i

  abbrev round : ℕ
  round = round_of b.stage

  deposit-keeps : has_room x funds amount ≡ true → SoundState (with_bidder b i (with_deposit x funds amount)) es
  deposit-keeps room = bidder-kept b es i (with_deposit x funds amount) state (credited-sound b i funds amount state.sound room)

  withdraw-keeps : amount.0 ≤ withdrawable x funds → SoundState (with_bidder b i (debited x funds amount)) es
  withdraw-keeps most =
      bidder-kept b es i (debited x funds amount) state
      (bidder-made round (debited x funds amount) (debited-at round x funds amount (at-round round x (bidder-sound b i state.sound)))
      (debited-within x funds amount (bidder-within b i state.sound) most))

  -- cash comes in with a deposit, and goes out with a withdrawal; a letter is not money
  deposit-moves : i < bidder_limit → Moved b (with_bidder b i (with_deposit x funds amount)) (cash_of funds amount) 0
  deposit-moves number =
      held_more b.account.0 (held_by_all b.bidders) (held_by_all (set b.bidders i (with_deposit x funds amount))) (cash_of funds amount)
      (omega (arith, held_after b es state i (with_deposit x funds amount) number, credited-held x funds amount))

  withdraw-moves : i < bidder_limit → amount.0 ≤ withdrawable x funds → Moved b (with_bidder b i (debited x funds amount)) 0 (cash_of funds amount)
  withdraw-moves number most =
      held-less b.account.0 (held_by_all b.bidders) (held_by_all (set b.bidders i (debited x funds amount))) (cash_of funds amount)
      (omega (arith, held_after b es state i (debited x funds amount) number, debited-held x funds amount most))

module _ (i : ℕ) (funds : Funds) (amount : Cents) (lists : Lists) where
  pub deposit-lawful : Lawful (deposit i funds amount) lists
  unfolding deposit
  deposit-lawful =
      record {
        lent-rows = λ b es. refl;
        own-rows = λ b es. refl;
        answers = λ b es. refl;
        paths = λ b es. refl;
        none_in = λ r. refl;
        none_out = λ r. refl;
        few = λ b es sound clear. (omega arith, omega arith);
        keeps = λ b es state clear. deposit-keeps b es i funds amount state (deposit-cleared b i funds amount clear.own).1;
        moves = λ b es state clear. deposit-moves b es i funds amount state (deposit-cleared b i funds amount clear.own).0;
      }

  pub withdraw-lawful : Lawful (withdraw i funds amount) lists
  unfolding withdraw
  withdraw-lawful =
      record {
        lent-rows = λ b es. refl;
        own-rows = λ b es. refl;
        answers = λ b es. refl;
        paths = λ b es. refl;
        none_in = λ r. refl;
        none_out = λ r. refl;
        few = λ b es sound clear. (omega arith, omega arith);
        keeps = λ b es state clear. withdraw-keeps b es i funds amount state (withdraw-cleared b i funds amount clear.own).1;
        moves =
            λ b es state clear.
            let can = withdraw-cleared b i funds amount clear.own in
            withdraw-moves b es i funds amount state can.0 can.1;
      }
