-- Default's rule is lawful: it keeps a sound state, and the draw comes in.
use mathlib.Core.Path.{◌≡◌, refl}
use mathlib.Core.Bool.{or-true}
use mathlib.Core.List.{List}
use Prim.Native.Nat.{ℕ, ◌+◌, ◌-◌}
use native.Mathlib.Omega.{arith}
use lib.ListN.{length, set}
use Rattle.market.proofs.SoundLaws.{bidder-made, bidder-within, AtRound}
use Rattle.market.specs.Books.{bidder_of, held_of, with_bidder, with_entries}
use Rattle.market.specs.Sound.{round_of, BidderBounds}
use Rattle.market.specs.declared.book.Bidder.{Bidder}
use Rattle.market.specs.declared.book.Book.{Book}
use Rattle.market.specs.declared.book.Entry.{Entry}
use Rattle.register.proofs.EntryLaws.{without-length, every-without}
use Rattle.register.specs.Entries.{sound_entry}
use Rattle.register.specs.declared.Removal.TheVariants.{PendingOf}
use Rattle.call_rules.proofs.Lawful.{Moved, Lawful}
use Rattle.call_rules.proofs.SoundStates.{bidder-kept, account-kept, entries-kept}
use Rattle.call_rules.specs.State.{SoundState}
use Rattle.call_rules.proofs.Sums.{held_after, gained}
use Rattle.call_rules.specs.Money.{held_by_all, cash_held}
use Rattle.call_rules.specs.Rule.{Lists}
use Rattle.call_default.specs.Default.{forfeit_of, draw_of, account_forfeited, defaulted, book_forfeited, entries_defaulted, default}
use Rattle.call_default.proofs.Cleared.{Defaulting, defaulting}

-- a bidder that has defaulted
defaulted-at : (round : ℕ) (x : Bidder) → AtRound round (defaulted x)
defaulted-at round x = record { one = simp or-true; two = simp or-true }

defaulted-within : (x : Bidder) → BidderBounds x → BidderBounds (defaulted x)
defaulted-within x p =
    record {
      held = omega (arith, p.held);
      letter = omega (arith, p.letter);
      hold = omega arith;
      owed = omega arith;
      step = omega arith;
    }

-- what the bidder keeps and the forfeit are together what it held and the draw
forfeited : (held forfeit : ℕ) → held - forfeit + 0 + forfeit ≡ held + (forfeit - held)
forfeited held forfeit = omega arith

module _ (b : Book) (es : List Entry) (i : ℕ) (state : SoundState b es) (can : Defaulting b i) where
  abbrev left : List Entry
  left = entries_defaulted i es

  forfeit-kept : SoundState (book_forfeited b i) es
  forfeit-kept =
      let x = bidder_of b i in
      let round = round_of b.stage in
      account-kept (with_bidder b i (defaulted x)) es (account_forfeited b i)
      (bidder-kept b es i (defaulted x) state (bidder-made round (defaulted x) (defaulted-at round x) (defaulted-within x (bidder-within b i state.sound))))
      can.account

  default-keeps : SoundState (with_entries (book_forfeited b i) (length left)) left
  default-keeps =
      entries-kept (book_forfeited b i) es left (length left) forfeit-kept refl
      (omega (arith, without-length (PendingOf i) es, state.counted))
      (every-without (sound_entry b.path_count) (PendingOf i) es state.entries)

  default-moves : Moved b (with_entries (book_forfeited b i) (length left)) (draw_of (bidder_of b i)) 0
  default-moves =
      let x = bidder_of b i in
      gained b.account.0 (cash_held b) (held_by_all (set b.bidders i (defaulted x))) (forfeit_of x) (draw_of x)
      (omega (arith, held_after b es state i (defaulted x) can.number, forfeited (held_of x) (forfeit_of x)))

pub default-lawful : (i : ℕ) (lists : Lists) → Lawful (default i) lists
unfolding default
default-lawful i lists =
    record {
      lent-rows = λ b es. refl;
      own-rows = λ b es. refl;
      answers = λ b es. refl;
      paths = λ b es. refl;
      none_in = λ r. refl;
      none_out = λ r. refl;
      few = λ b es sound clear. (omega arith, omega arith);
      keeps = λ b es state clear. default-keeps b es i state (defaulting b i clear.own);
      moves = λ b es state clear. default-moves b es i state (defaulting b i clear.own);
    }
