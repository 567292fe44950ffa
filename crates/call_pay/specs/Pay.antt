-- Pay: rules 8.1 to 8.3.
use Rattle.std.specs.Prelude.{not, List, [], ◌∷◌, map, ℕ, ◌-◌, ltb, eqb, ℤ, pos, ◌+ℤ◌}
use Rattle.market.specs.Answers.{Row, ◌gives◌, answered}
use Rattle.market.specs.Books.{cents, bidder_of, value_of, no_value, with_bidder, with_account}
use Rattle.market.specs.Limits.{bidder_limit}
use Rattle.market.specs.Sound.{sound_account, is_idle}
use Rattle.market.specs.declared.answer.Refusal.{Refusal}
use Rattle.market.specs.declared.book.Bidder.{Bidder}
use Rattle.market.specs.declared.book.Book.{Book}
use Rattle.market.specs.declared.units.Cents.{Cents}
use Rattle.register.specs.Entries.{issued_to}
use Rattle.call_rules.specs.Money.{if_answered, nothing}
use Rattle.call_rules.specs.Rule.{Rule, no_fronts}
use Rattle.call_rules.specs.Rule.Register.{changed}

-- rule 8.2: the account gains the bidder's value
abbrev pub account_paid : Book → ℕ → ℤ
account_paid b i = b.account.0 +ℤ pos (value_of (bidder_of b i))

-- rules 8.1, 13.20, 13.10, 13.13, 13.24 and 13.31, in the order of the rows: the amount must be what is owed, and 0 settles only a value above 0
abbrev pub pay_refusals : Book → ℕ → Cents → List Row
pay_refusals b i amount =
    (not (is_idle b.stage) gives Refusal.Stage)
    ∷ (not (ltb i bidder_limit) gives Refusal.Bidder)
    ∷ (not (eqb amount.0 (bidder_of b i).owed.0) gives Refusal.Payment)
    ∷ (no_value (bidder_of b i) gives Refusal.NothingDue)
    ∷ (not (sound_account (account_paid b i)) gives Refusal.Account)
    ∷ []

-- rule 8.2: the bidder after it has paid; the step of one at step 0 stays
abbrev pub paid : Bidder → Bidder
paid x =
    record { cash = x.cash; applied = cents 0; letter = x.letter; hold = cents 0; owed = cents 0; step = x.step - 1 }

-- rule 8.2: the book after a bidder has paid
abbrev pub book_paid : Book → ℕ → Book
book_paid b i = with_account (with_bidder b i (paid (bidder_of b i))) (account_paid b i)

-- rules 8.2, 8.3 and 12.10: a payment as a call: the bidder's entries become issued, and the amount is new money that comes in
unfoldable pub pay : ℕ → Cents → Rule
pay i amount =
    record {
      on =
          λ b es.
          record {
            lent = [];
            register = changed (map (issued_to i) es);
            own = pay_refusals b i amount;
            outcome = answered (book_paid b i);
            fronts = no_fronts;
          };
      into = if_answered amount.0;
      out = nothing;
    }
