-- The length of the words and the book's count, both tested before, give the room that sound_entries requires.
use mathlib.Core.Path.{sym, ◌∙◌}
use native.Mathlib.Omega.{arith}
use Rattle.market.proofs.SoundLaws.{sound-parts}
use Rattle.register_sound.proofs.check.Goals as goal

pub sound_entries-requires : goal.sound_entries-requires
sound_entries-requires c =
    omega (arith, c.if-words-lt-REGISTER_WORDS.false, (sound-parts c.args.book (sym c.sound_book.ensures ∙ c.if-not-sound_book.false)).entries)
