-- Default: rules 8.4 to 8.8.
use Rattle.std.specs.Prelude.{not, List, [], ◌∷◌, ℕ, ◌+◌, ◌-◌, ◌/◌, min, ltb, eqb, ℤ, pos, ◌+ℤ◌, length}
use Rattle.market.specs.Answers.{Row, ◌gives◌, drawn}
use Rattle.market.specs.Books.{cents, bidder_of, value_of, held_of, with_bidder, with_account, with_entries}
use Rattle.market.specs.Limits.{bidder_limit, step_limit}
use Rattle.market.specs.Sound.{sound_account, is_idle}
use Rattle.market.specs.declared.answer.Refusal.{Refusal}
use Rattle.market.specs.declared.book.Bidder.{Bidder}
use Rattle.market.specs.declared.book.Book.{Book}
use Rattle.market.specs.declared.book.Entry.{Entry}
use Rattle.register.specs.Entries.{without}
use Rattle.register.specs.declared.Removal.TheVariants.{PendingOf}
use Rattle.call_rules.specs.Money.{nothing, drawn_in}
use Rattle.call_rules.specs.Rule.{Rule, no_fronts}
use Rattle.call_rules.specs.Rule.Register.{changed}

-- rule 8.5: the forfeit
abbrev pub forfeit_of : Bidder → ℕ
forfeit_of x = min (held_of x + x.letter.0) (value_of x / 10)

-- rule 8.6: the draw on the letter, which is what cash and applied cash together lack
abbrev pub draw_of : Bidder → ℕ
draw_of x = forfeit_of x - held_of x

-- rule 8.6: the account gains the forfeit
abbrev pub account_forfeited : Book → ℕ → ℤ
account_forfeited b i = b.account.0 +ℤ pos (forfeit_of (bidder_of b i))

-- rules 8.4, 13.20, 13.10, 13.24 and 13.31, in the order of the rows: only a bidder that owes something defaults
abbrev pub default_refusals : Book → ℕ → List Row
default_refusals b i =
    (not (is_idle b.stage) gives Refusal.Stage)
    ∷ (not (ltb i bidder_limit) gives Refusal.Bidder)
    ∷ (eqb (bidder_of b i).owed.0 0 gives Refusal.NothingDue)
    ∷ (not (sound_account (account_forfeited b i)) gives Refusal.Account)
    ∷ []

-- rule 8.7: the bidder after a default
abbrev pub defaulted : Bidder → Bidder
defaulted x =
    record {
      cash = cents (held_of x - forfeit_of x);
      applied = cents 0;
      letter = cents (x.letter.0 - draw_of x);
      hold = cents 0;
      owed = cents 0;
      step = min (x.step + 1) step_limit;
    }

-- rules 8.6 and 8.7: the book after it, with the number of entries as before
abbrev pub book_forfeited : Book → ℕ → Book
book_forfeited b i = with_account (with_bidder b i (defaulted (bidder_of b i))) (account_forfeited b i)

-- rule 8.8: the bidder's pending entries leave, and the other entries stay in their order
abbrev pub entries_defaulted : ℕ → List Entry → List Entry
entries_defaulted i es = without (PendingOf i) es

-- rules 8.6, 8.8 and 12.10: a default as a call: it answers the draw, which comes in
unfoldable pub default : ℕ → Rule
default i =
    record {
      on =
          λ b es.
          record {
            lent = [];
            register = changed (entries_defaulted i es);
            own = default_refusals b i;
            outcome = drawn (draw_of (bidder_of b i)) (with_entries (book_forfeited b i) (length (entries_defaulted i es)));
            fronts = no_fronts;
          };
      into = drawn_in;
      out = nothing;
    }
