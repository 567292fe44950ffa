-- Retire's rule is lawful: it keeps a sound state, and moves no money.
use mathlib.Core.Path.{refl}
use mathlib.Core.List.{List}
use native.Mathlib.Omega.{arith}
use lib.ListN.{length}
use Rattle.market.specs.Books.{with_entries}
use Rattle.market.specs.declared.book.Book.{Book}
use Rattle.market.specs.declared.book.Entry.{Entry}
use Rattle.market.specs.declared.units.Day.{Day}
use Rattle.register.proofs.EntryLaws.{without-length, every-without}
use Rattle.register.specs.Entries.{sound_entry}
use Rattle.register.specs.declared.Removal.TheVariants.{EndedBefore}
use Rattle.call_rules.proofs.Lawful.{Lawful}
use Rattle.call_rules.proofs.SoundStates.{entries-kept}
use Rattle.call_rules.specs.State.{SoundState}
use Rattle.call_rules.proofs.Sums.{nothing-moved}
use Rattle.call_rules.specs.Money.{worth}
use Rattle.call_rules.specs.Rule.{Lists}
use Rattle.call_retire.specs.Retire.{entries_retired, retire}

retire-keeps : (b : Book) (es : List Entry) (day : Day) → SoundState b es → SoundState (with_entries b (length (entries_retired day es))) (entries_retired day es)
retire-keeps b es day state =
    entries-kept b es (entries_retired day es) (length (entries_retired day es)) state refl
    (omega (arith, without-length (EndedBefore day) es, state.counted))
    (every-without (sound_entry b.path_count) (EndedBefore day) es state.entries)

pub retire-lawful : (day : Day) (lists : Lists) → Lawful (retire day) lists
unfolding retire
retire-lawful day lists =
    record {
      lent-rows = λ b es. refl;
      own-rows = λ b es. refl;
      answers = λ b es. refl;
      paths = λ b es. refl;
      none_in = λ r. refl;
      none_out = λ r. refl;
      few = λ b es sound clear. (omega arith, omega arith);
      keeps = λ b es state clear. retire-keeps b es day state;
      moves = λ b es state clear. nothing-moved (worth b);
    }
