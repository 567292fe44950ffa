-- Retire: rule 9.1.
use Rattle.std.specs.Prelude.{not, List, [], ◌∷◌, leb, length}
use Rattle.market.specs.Answers.{Row, ◌gives◌, answered}
use Rattle.market.specs.Books.{with_entries}
use Rattle.market.specs.Limits.{day_limit}
use Rattle.market.specs.declared.answer.Refusal.{Refusal}
use Rattle.market.specs.declared.book.Entry.{Entry}
use Rattle.market.specs.declared.units.Day.{Day}
use Rattle.register.specs.Entries.{without}
use Rattle.register.specs.declared.Removal.TheVariants.{EndedBefore}
use Rattle.call_rules.specs.Money.{nothing}
use Rattle.call_rules.specs.Rule.{Rule, no_fronts}
use Rattle.call_rules.specs.Rule.Register.{changed}

-- rule 13.21: the day is above the highest day number
abbrev pub retire_refusals : Day → List Row
retire_refusals day = (not (leb day.0 day_limit) gives Refusal.Days) ∷ []

-- rule 9.1: the issued entries that ended before the day leave, and the other entries stay in their order
abbrev pub entries_retired : Day → List Entry → List Entry
entries_retired day es = without (EndedBefore day) es

-- rule 9.1: retire as a call, in either stage; no money moves
unfoldable pub retire : Day → Rule
retire day =
    record {
      on =
          λ b es.
          record {
            lent = [];
            register = changed (entries_retired day es);
            own = retire_refusals day;
            outcome = answered (with_entries b (length (entries_retired day es)));
            fronts = no_fronts;
          };
      into = nothing;
      out = nothing;
    }
