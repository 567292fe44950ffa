-- The entries of winning bids added one by one, as `add_entries` does.
use mathlib.Core.Path.{◌≡◌, sym, ◌∙◌, ap, ap₂, subst}
use mathlib.Core.Bool.{Bool, true, cond}
use mathlib.Core.List.{List, [], ◌∷◌, ◌++◌, append_assoc, append-nil}
use Prim.Native.Nat.{ℕ, ◌+◌, ◌*◌, ◌≤◌, ◌<◌}
use native.Mathlib.Omega.{arith}
use borrow.Author.Tests.{lt-ltb, le-ltb}
use lib.ListN.{length, get_or, drop, length-append}
use lib.Seq.{drop-append-add, drop-drop}
use Rattle.market.specs.Limits.{entry_limit, entry_words, path_limit}
use Rattle.market.specs.declared.book.Entry.{Entry}
use Rattle.market.specs.declared.book.Period.{Period}
use Rattle.round_bids.proofs.Walk.{Walk, left, walk_start, left-start, walk-on, walk-done, left-splits}
use Rattle.round_bids.specs.BidRefusals.{sound_list}
use Rattle.round_bids.specs.Bids.{Bid, bid_at, bid_end, bids_of}
use Rattle.register.proofs.WordLaws.{all-words-length, entries-length, entries-read, written_back}
use Rattle.register.specs.Words.{entries_of, all_words, entries_written}
use Rattle.round_entries.specs.Entries.{entry_of, if_won, entries_from, new_entries}

-- entries written over entries that begin with the same ones
written_over : (words : List ℕ) (es more : List Entry) → entries_written (entries_written words es) (es ++ more) ≡ entries_written words (es ++ more)
written_over words es more =
    let n = length es * entry_words in
    let m = length more * entry_words in
    let sum : length (es ++ more) * entry_words ≡ length (all_words es) + m = omega (arith, length-append es more, all-words-length es) in
    let both : n + m ≡ length (es ++ more) * entry_words = omega (arith, length-append es more) in
    ap (λ (l : List ℕ). all_words (es ++ more) ++ l)
    (ap (λ (k : ℕ). drop k (entries_written words es)) sum
    ∙ drop-append-add (all_words es) (drop n words) m
    ∙ drop-drop m n words
    ∙ ap (λ (k : ℕ). drop k words) both)

-- entries added after the counted ones, where the counted ones are those that were written
added-over :
    (words now : List ℕ) (es more : List Entry) (count : ℕ) → now ≡ entries_written words es → count ≡ length es
    → entries_written now (entries_of now count ++ more) ≡ entries_written words (es ++ more)
added-over words now es more count is many =
    ap₂ (λ (l : List ℕ) (n : ℕ). entries_written l (entries_of l n ++ more)) is many
    ∙ ap (λ (l : List Entry). entries_written (entries_written words es) (l ++ more)) (entries-read words es)
    ∙ written_over words es more

-- nothing added changes nothing
pub none-won : (words : List ℕ) (count : ℕ) → count * entry_words ≤ length words → words ≡ entries_written words (entries_of words count ++ [])
none-won words count fits = sym (ap (entries_written words) (append-nil (entries_of words count)) ∙ written_back words count fits)

-- an entry of no MW is left out, and any other is in
pub won-none : (e : Entry) → e.quantity.0 ≡ 0 → if_won e ≡ []
won-none e is = ap (λ (t : Bool). cond t (e ∷ []) []) (le-ltb 0 e.quantity.0 (omega (arith, is)))

pub won-some : (e : Entry) → (e.quantity.0 ≡ 0 → ⊥) → if_won e ≡ e ∷ []
won-some e some = ap (λ (t : Bool). cond t (e ∷ []) []) (lt-ltb 0 e.quantity.0 (omega (arith, some)))

-- the entries of the first `k` bids are added, and those of the rest are still to come
pub record AddedTo (words won : List ℕ) (period : Period) (before : List ℕ) (counted : ℕ) (register : List ℕ) (count k at : ℕ) : Type 0 where
  pub walk : Walk path_limit words k at
  pub added : List Entry
  pub counts : count ≡ counted + length added
  pub stored : register ≡ entries_written before (entries_of before counted ++ added)
  pub rest : new_entries period won (bids_of words) ≡ added ++ entries_from period won k (left walk)

pub none-added :
    (words won : List ℕ) (period : Period) (before : List ℕ) (counted : ℕ) → sound_list path_limit words ≡ true → counted * entry_words ≤ length before
    → AddedTo words won period before counted before counted 0 0
none-added words won period before counted ok fits =
    record {
      walk = walk_start path_limit words ok;
      added = [];
      counts = let same : counted ≡ counted + 0 = omega arith in same;
      stored = none-won before counted fits;
      rest = ap (entries_from period won 0) (sym (left-start path_limit words ok));
    }

module _ {words won : List ℕ} {period : Period} {before : List ℕ} {counted : ℕ} {register : List ℕ} {count k at : ℕ} (s : AddedTo words won period before counted register count k at) where
  -- every bid's entry is added
  module _ (end : length words ≤ at) where
    whole : new_entries period won (bids_of words) ≡ s.added
    whole =
        s.rest ∙ ap (λ (l : List Bid). s.added ++ entries_from period won k l) (walk-done path_limit words k at s.walk end)
        ∙ append-nil s.added

    pub all-counted : count ≡ counted + length (new_entries period won (bids_of words))
    all-counted = s.counts ∙ ap (λ (l : List Entry). counted + length l) (sym whole)

    pub all-added : register ≡ entries_written before (entries_of before counted ++ new_entries period won (bids_of words))
    all-added = s.stored ∙ ap (λ (l : List Entry). entries_written before (entries_of before counted ++ l)) (sym whole)

  module _ (inside : at < length words) where
    abbrev entry : Entry
    entry = entry_of period (get_or won k 0) (bid_at words at)

    splits : new_entries period won (bids_of words) ≡ (s.added ++ if_won entry) ++ entries_from period won (k + 1) (left (walk-on path_limit words k at s.walk inside))
    splits =
        s.rest
        ∙ ap (λ (l : List Bid). s.added ++ entries_from period won k l) (left-splits path_limit words k at s.walk inside)
        ∙ sym (append_assoc s.added (if_won entry) (entries_from period won (k + 1) (left (walk-on path_limit words k at s.walk inside))))

    -- there is room for it
    pub room-here : (e : Entry) → e ≡ entry → counted + length (new_entries period won (bids_of words)) ≤ entry_limit → count + length (if_won e) ≤ entry_limit
    room-here e is fits =
        let rest = entries_from period won (k + 1) (left (walk-on path_limit words k at s.walk inside)) in
        let all = ap (λ (l : List Entry). length l) splits in
        let one = length-append (s.added ++ if_won entry) rest in
        let two = length-append s.added (if_won entry) in
        let same = ap (λ (x : Entry). length (if_won x)) is in
        omega (arith, fits, all, one, two, same, s.counts)

    exactly : AddedTo words won period before counted (entries_written register (entries_of register count ++ if_won entry)) (count + length (if_won entry)) (k + 1) (bid_end words at)
    exactly =
        record {
          walk = walk-on path_limit words k at s.walk inside;
          added = s.added ++ if_won entry;
          counts = let two = length-append s.added (if_won entry) in omega (arith, two, s.counts);
          stored = added-over before register (entries_of before counted ++ s.added) (if_won entry) count s.stored
              (s.counts ∙ (let n = length-append (entries_of before counted) s.added in
              let m = entries-length before counted in
              let e : counted + length s.added ≡ length (entries_of before counted ++ s.added) = omega (arith, n, m) in e))
              ∙ ap (entries_written before) (append_assoc (entries_of before counted) s.added (if_won entry));
          rest = splits;
        }

    -- the bid here has its entry, if it won
    pub one-added :
        (e : Entry) → e ≡ entry
        → AddedTo words won period before counted (entries_written register (entries_of register count ++ if_won e)) (count + length (if_won e)) (k + 1) (bid_end words at)
    one-added e is =
        subst (λ (x : Entry). AddedTo words won period before counted (entries_written register (entries_of register count ++ if_won x))
        (count + length (if_won x)) (k + 1) (bid_end words at)) (sym is)
        exactly
