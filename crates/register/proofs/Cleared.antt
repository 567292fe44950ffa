-- What is known where the refusals 1 and 2 of a call that is lent the register do not hold.
use mathlib.Core.Path.{◌≡◌}
use mathlib.Core.Bool.{◌&&◌}
use mathlib.Core.List.{List}
use Prim.Native.Nat.{ℕ, ◌≤◌}
use native.Mathlib.Omega.{arith}
use lib.ListN.{length}
use borrow.Author.Tests.{not-false, ltb-false}
use Rattle.market.proofs.SoundLaws.{sound-parts}
use Rattle.market.proofs.Tables.{none-hold}
use Rattle.market.proofs.Tests.{left-true, right-true}
use Rattle.market.specs.Answers.{no_refusal, first_of}
use Rattle.market.specs.Limits.{register_words}
use Rattle.market.specs.Sound.{sound_book}
use Rattle.market.specs.declared.book.Book.{Book}
use Rattle.register.specs.Refusals.{sound_entries, counted_entries, register_refusals, LentRegister}

pub register-cleared : (b : Book) (words : List ℕ) → first_of (register_refusals b words) ≡ no_refusal → LentRegister b words
register-cleared b words h =
    let book = sound_book b in
    let entries = sound_entries b (counted_entries b words) in
    let none = none-hold (register_refusals b words) h in
    let both = not-false (book && entries) none.1.0 in
    let sound = left-true book entries both in
    let long : register_words ≤ length words = ltb-false (length words) register_words none.0 in
    record {
      long = long;
      sound = sound;
      entries = right-true book entries both;
      count = (sound-parts b sound).entries;
      room = omega (arith, (sound-parts b sound).entries);
    }
