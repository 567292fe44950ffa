-- Pay's rule is lawful: it keeps a sound state, and the payment comes in.
use mathlib.Core.Path.{refl, ◌∙◌}
use mathlib.Core.Bool.{or-true}
use mathlib.Core.List.{List, map}
use Prim.Native.Nat.{ℕ}
use native.Mathlib.Nat.{le_refl}
use native.Mathlib.Omega.{arith}
use lib.ListN.{set, length-map}
use Rattle.market.proofs.Every.{every_map}
use Rattle.market.proofs.SoundLaws.{bidder-made, bidder-within, AtRound}
use Rattle.market.specs.Books.{bidder_of, value_of, with_bidder}
use Rattle.market.specs.Sound.{round_of, BidderBounds}
use Rattle.market.specs.declared.book.Bidder.{Bidder}
use Rattle.market.specs.declared.book.Book.{Book}
use Rattle.market.specs.declared.book.Entry.{Entry}
use Rattle.market.specs.declared.units.Cents.{Cents}
use Rattle.register.proofs.EntryLaws.{issued-sound}
use Rattle.register.specs.Entries.{sound_entry, issued_to}
use Rattle.call_rules.proofs.Lawful.{Moved, Lawful}
use Rattle.call_rules.proofs.SoundStates.{bidder-kept, account-kept, entries-kept}
use Rattle.call_rules.specs.State.{SoundState}
use Rattle.call_rules.proofs.Sums.{held_after, gained}
use Rattle.call_rules.specs.Money.{held_by_all, cash_held}
use Rattle.call_rules.specs.Rule.{Lists}
use Rattle.call_pay.specs.Pay.{account_paid, paid, book_paid, pay}
use Rattle.call_pay.proofs.Cleared.{Payable, payable}

-- a bidder that has paid
paid-at : (round : ℕ) (x : Bidder) → AtRound round (paid x)
paid-at round x = record { one = simp or-true; two = simp or-true }

paid-within : (x : Bidder) → BidderBounds x → BidderBounds (paid x)
paid-within x p =
    record {
      held = omega (arith, p.held);
      letter = p.letter;
      hold = omega arith;
      owed = omega arith;
      step = omega (arith, p.step);
    }

module _ (b : Book) (es : List Entry) (i : ℕ) (amount : Cents) (state : SoundState b es) (can : Payable b i amount) where
  paid_kept : SoundState (book_paid b i) es
  paid_kept =
      let x = bidder_of b i in
      let round = round_of b.stage in
      account-kept (with_bidder b i (paid x)) es (account_paid b i)
      (bidder-kept b es i (paid x) state (bidder-made round (paid x) (paid-at round x) (paid-within x (bidder-within b i state.sound))))
      can.account

  pay-keeps : SoundState (book_paid b i) (map (issued_to i) es)
  pay-keeps =
      let paths = b.path_count in
      entries-kept (book_paid b i) es (map (issued_to i) es) b.entries paid_kept (length-map es (issued_to i) ∙ state.counted) (le_refl b.entries)
      (every_map (issued_to i) (sound_entry paths) (sound_entry paths) (issued-sound paths i) es state.entries)

  pay-moves : Moved b (book_paid b i) amount.0 0
  pay-moves =
      let x = bidder_of b i in
      gained b.account.0 (cash_held b) (held_by_all (set b.bidders i (paid x))) (value_of x) amount.0
      (omega (arith, held_after b es state i (paid x) can.number, can.payment))

pub pay-lawful : (i : ℕ) (amount : Cents) (lists : Lists) → Lawful (pay i amount) lists
unfolding pay
pay-lawful i amount lists =
    record {
      lent-rows = λ b es. refl;
      own-rows = λ b es. refl;
      answers = λ b es. refl;
      paths = λ b es. refl;
      none_in = λ r. refl;
      none_out = λ r. refl;
      few = λ b es sound clear. (omega arith, omega arith);
      keeps = λ b es state clear. pay-keeps b es i amount state (payable b i amount clear.own);
      moves = λ b es state clear. pay-moves b es i amount state (payable b i amount clear.own);
    }
