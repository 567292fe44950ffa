-- What keeps a state sound, and that a fresh one is.
use mathlib.Core.Path.{◌≡◌, refl, ◌∙◌}
use mathlib.Core.Bool.{true}
use mathlib.Core.List.{List}
use Prim.Native.Nat.{ℕ, ◌≤◌}
use native.Mathlib.Omega.{arith}
use lib.IntN.{ℤ}
use lib.ListN.{length, length-set, length-replicate}
use Rattle.market.proofs.Every.{every_set}
use Rattle.market.proofs.FreshLaws.{fresh-sound}
use Rattle.market.proofs.SoundLaws.{sound-parts, sound-made}
use Rattle.market.specs.Answers.{no_refusal, first_of}
use Rattle.market.specs.Books.{no_bidder, with_bidder, with_account, with_entries}
use Rattle.market.specs.Fresh.{fresh_refusals, fresh_book}
use Rattle.market.specs.Limits.{bidder_limit, register_words}
use Rattle.market.specs.Sound.{round_of, sound_bidder, sound_account, sound_book}
use Rattle.market.specs.declared.book.Bidder.{Bidder}
use Rattle.market.specs.declared.book.Book.{Book}
use Rattle.market.specs.declared.book.Entry.{Entry}
use Rattle.market.specs.declared.book.Route.{Route}
use Rattle.register.specs.Refusals.{sound_entries}
use Rattle.call_rules.specs.State.{SoundState, SoundMemory}

-- ---- A state in which one part is replaced

-- a bidder, by a sound one: the book alone, and the state
pub book-kept : (b : Book) (i : ℕ) (x : Bidder) → sound_book b ≡ true → sound_bidder (round_of b.stage) x ≡ true → sound_book (with_bidder b i x) ≡ true
book-kept b i x sound h =
    let p = sound-parts b sound in
    sound-made (with_bidder b i x)
    (record {
      path-count = p.path-count;
      entries = p.entries;
      stage = p.stage;
      paths = p.paths;
      bidders = every_set (sound_bidder (round_of b.stage)) b.bidders i x p.bidders h;
      account = p.account;
    })

pub bidder-kept : (b : Book) (es : List Entry) (i : ℕ) (x : Bidder) → SoundState b es → sound_bidder (round_of b.stage) x ≡ true → SoundState (with_bidder b i x) es
bidder-kept b es i x s h =
    record {
      sound = book-kept b i x s.sound h;
      entries = s.entries;
      counted = s.counted;
      bidders = length-set b.bidders i x ∙ s.bidders;
    }

-- the account, by a sound one
pub account-kept : (b : Book) (es : List Entry) (z : ℤ) → SoundState b es → sound_account z ≡ true → SoundState (with_account b z) es
account-kept b es z s h =
    let p = sound-parts b s.sound in
    record {
      sound =
          sound-made (with_account b z)
          (record {
            path-count = p.path-count;
            entries = p.entries;
            stage = p.stage;
            paths = p.paths;
            bidders = p.bidders;
            account = h;
          });
      entries = s.entries;
      counted = s.counted;
      bidders = s.bidders;
    }

-- the entries, by sound ones, no more than before
pub entries-kept :
    (b : Book) (es after : List Entry) (n : ℕ) → SoundState b es → length after ≡ n → n ≤ b.entries → sound_entries b after ≡ true
    → SoundState (with_entries b n) after
entries-kept b es after n s count fewer sound =
    let p = sound-parts b s.sound in
    record {
      sound =
          sound-made (with_entries b n)
          (record {
            path-count = p.path-count;
            entries = omega (arith, p.entries, fewer);
            stage = p.stage;
            paths = p.paths;
            bidders = p.bidders;
            account = p.account;
          });
      entries = sound;
      counted = count;
      bidders = s.bidders;
    }

-- ---- A fresh book, with any register that is long enough

pub fresh-state : (routes : List Route) (n : ℕ) (words : List ℕ) → first_of (fresh_refusals routes n) ≡ no_refusal → register_words ≤ length words → SoundMemory (fresh_book routes n) words
unfolding fresh_book
fresh-state routes n words none long =
    record {
      long = long;
      state =
          record {
            sound = fresh-sound routes n none;
            entries = refl;
            counted = refl;
            bidders = length-replicate bidder_limit no_bidder;
          };
    }
