-- Open: rules 6.1, 6.2 and 6.6, and its refusals.
use Rattle.std.specs.Prelude.{not, List, [], ◌∷◌, ℕ, leb, length, take}
use Rattle.market.specs.Answers.{Row, ◌gives◌, answered}
use Rattle.market.specs.Books.{every, no_value, with_auction}
use Rattle.market.specs.Sound.{sound_period, sound_quantity, is_idle}
use Rattle.market.specs.declared.answer.Refusal.{Refusal}
use Rattle.market.specs.declared.book.Book.{Book}
use Rattle.market.specs.declared.book.Entry.{Entry}
use Rattle.market.specs.declared.book.Kind.{Kind}
use Rattle.market.specs.declared.book.Period.{Period}
use Rattle.market.specs.declared.book.Stage.TheVariants.{Open}
use Rattle.call_rules.specs.Money.{nothing}
use Rattle.call_rules.specs.Rule.{Rule, no_fronts}
use Rattle.call_rules.specs.Rule.Register.{read}
use Rattle.call_open.specs.OpenedPaths.{words_needed, opened_paths}

-- rules 6.2 and 13.1: fewer quantities than four for each of the book's paths
abbrev pub short_quantities : Book → List ℕ → List Row
short_quantities b quantities = (not (leb (words_needed b) (length quantities)) gives Refusal.ShortBuffer) ∷ []

-- rules 6.1, 13.20, 13.21 and 13.25: an auction is open, or some bidder has a value; the period is not right; a quantity is too large, of either
-- kind, where words past those of the book's paths are not read (rule 6.2)
abbrev pub open_refusals : Book → Period → List ℕ → List Row
open_refusals b period quantities =
    (not (is_idle b.stage) gives Refusal.Stage)
    ∷ (not (every no_value b.bidders) gives Refusal.Stage)
    ∷ (not (sound_period period) gives Refusal.Days)
    ∷ (not (every sound_quantity (take (words_needed b) quantities)) gives Refusal.Quantity)
    ∷ []

-- rule 6.6: the paths have their offers, the stage is open at round 1, and all else stays
abbrev pub book_opened : Book → List Entry → Kind → Period → List ℕ → Book
book_opened b es kind period quantities =
    with_auction b (opened_paths kind period es quantities b.paths b.path_count) (Open kind 1 period)

-- rules 6.1 and 6.6: open as a call, which reads the register (rule 3.4); no money moves
unfoldable pub «open» : Kind → Period → List ℕ → Rule
«open» kind period quantities =
    record {
      on =
          λ b es.
          record {
            lent = short_quantities b quantities;
            register = read;
            own = open_refusals b period quantities;
            outcome = answered (book_opened b es kind period quantities);
            fronts = no_fronts;
          };
      into = nothing;
      out = nothing;
    }
