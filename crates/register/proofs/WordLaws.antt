-- Laws about entries in words. Three of them matter most: an entry put at the end of what is written is appended to it, the
-- places after what is written are as they were, and the entries that are read are those that were written.
use mathlib.Core.Path.{◌≡◌, refl, sym, ◌∙◌, ap, ap₂}
use mathlib.Core.List.{List, [], ◌∷◌, ◌++◌}
use Prim.Native.Nat.{ℕ, zero, suc, ◌+◌, ◌*◌, ◌-◌, ◌≤◌, ◌<◌}
use native.Mathlib.Numerals.{add-one, add-two, add-three, add-four, add_five}
use native.Mathlib.Omega.{arith}
use lib.Dec.{lit<}
use lib.ListN.{length, get_or, take, drop, set, length-append, length-drop, get_or-append}
use lib.Seq.{sets-eq, get_or-append-add, get_or-drop, take_at, drop-append-add, drop-drop, set-get_or, take-suc, take-length, get_or_at}
use native.Mathlib.Decide.{dec_lt}
use native.Mathlib.Nat.{le_antisymm, le_refl, zero-add, add-zero}
use Rattle.market.specs.Books.{megawatts, day_number}
use Rattle.market.specs.Limits.{entry_words}
use Rattle.market.specs.declared.book.Entry.{Entry}
use Rattle.register.specs.Words.{entry_at, entries_of, encoded_entry, entry_put, all_words, entries_written}

-- six stores in a row
pub six-stores :
    (l :
    List ℕ) (at a b c d e f : ℕ) → at + 6 ≤ length l
    → set (set (set (set (set (set l at a) (at + 1) b) (at + 2) c) (at + 3) d) (at + 4) e) (at + 5) f ≡ take at l ++ (a ∷ b ∷ c ∷ d ∷ e ∷ f ∷ []) ++ drop (at + 6) l
six-stores l at a b c d e f h =
    rw (add-one at, add-two at, add-three at, add-four at, add_five at) (sets-eq (a ∷ b ∷ c ∷ d ∷ e ∷ f ∷ []) l at h)

-- the length of the words of a list of entries
pub all-words-length : (es : List Entry) → length (all_words es) ≡ length es * entry_words
all-words-length [] = refl
all-words-length (e ∷ es) = omega (arith, all-words-length es)

pub all-words-snoc : (es : List Entry) (e : Entry) → all_words (es ++ (e ∷ [])) ≡ all_words es ++ encoded_entry e
all-words-snoc [] e = refl
all-words-snoc (x ∷ es) e = ap (encoded_entry x ++◌) (all-words-snoc es e)

pub length-snoc : {A : Type 0} (l : List A) (a : A) → length (l ++ (a ∷ [])) ≡ length l + 1
length-snoc l a = length-append l (a ∷ [])

module _ (words : List ℕ) (es : List Entry) where
  -- writing entries does not change the number of words
  pub written-length : length es * entry_words ≤ length words → length (entries_written words es) ≡ length words
  written-length h =
      length-append (all_words es) (drop (length es * entry_words) words)
      ∙ omega (arith, all-words-length es, length-drop (length es * entry_words) words)

  -- the places after what is written are as they were
  pub past-written : (k : ℕ) → length es * entry_words ≤ k → get_or (entries_written words es) k 0 ≡ get_or words k 0
  past-written k h =
      let n = length (all_words es) in
      let same : n ≡ length es * entry_words = all-words-length es in
      let there : k ≡ n + (k - n) = omega arith in
      ap (λ (j : ℕ). get_or (entries_written words es) j 0) there
      ∙ get_or-append-add (all_words es) (drop (length es * entry_words) words) (k - n) 0
      ∙ get_or-drop (length es * entry_words) words (k - n) 0
      ∙ ap (λ (j : ℕ). get_or words j 0) (let e : length es * entry_words + (k - n) ≡ k = omega arith in e)

  -- so the entry at such a place is as it was
  pub entry_past : (i : ℕ) → length es ≤ i → entry_at (entries_written words es) i ≡ entry_at words i
  entry_past i h =
      let at = i * entry_words in
      λ j. record {
        bidder = past-written at (omega arith) j;
        path = past-written (at + 1) (omega arith) j;
        quantity = megawatts (past-written (at + 2) (omega arith) j);
        period =
            record {
              first = day_number (past-written (at + 3) (omega arith) j);
              last = day_number (past-written (at + 4) (omega arith) j);
            };
        state = past-written (at + 5) (omega arith) j;
      }

  -- an entry put at the end of what is written is appended to it
  pub put-appends : (e : Entry) → entry_put (entries_written words es) (length es) e ≡ entries_written words (es ++ (e ∷ []))
  put-appends e =
      let n = length es * entry_words in
      let rest = drop n words in
      let front : take n (entries_written words es) ≡ all_words es = take_at (all_words es) rest n (all-words-length es) in
      let back : drop (n + entry_words) (entries_written words es) ≡ drop (n + entry_words) words =
      ap (λ (k : ℕ). drop (k + entry_words) (entries_written words es)) (sym (all-words-length es))
      ∙ drop-append-add (all_words es) rest entry_words
      ∙ drop-drop entry_words n words
      in
      ap₂ (λ (a b : List ℕ). a ++ encoded_entry e ++ b) front back
      ∙ ap₂ (λ (a : List ℕ) (k : ℕ). a ++ drop k words) (sym (all-words-snoc es e))
      (let same : n + entry_words ≡ length (es ++ (e ∷ [])) * entry_words = omega (arith, length-snoc es e) in same)

-- writing no entry leaves the words as they were
pub nothing_written : (words : List ℕ) → entries_written words [] ≡ words
nothing_written words = refl

-- the counted entries: how many they are, and which one is at each place
pub entries-length : (words : List ℕ) (n : ℕ) → length (entries_of words n) ≡ n
entries-length words zero = refl
entries-length words (suc n) = omega (arith, length-snoc (entries_of words n) (entry_at words n), entries-length words n)

snoc-at : {A : Type 0} (l : List A) (a d : A) (f : ℕ → A) (n i : ℕ) → length l ≡ n → a ≡ f n → (i < n → get_or l i d ≡ f i) → Dec (i < n) → i < suc n → get_or (l ++ (a ∷ [])) i d ≡ f i
snoc-at l a d f n i long last front (yes p) h = get_or-append l (a ∷ []) d i (omega arith) ∙ front p
snoc-at l a d f n i long last front (no q) h =
    let here : i ≡ n = le_antisymm (le-of-lt-suc h) (not-lt q) in
    ap (λ (k : ℕ). get_or (l ++ (a ∷ [])) k d) here ∙ get_or_at l a [] d n long ∙ last ∙ ap f (sym here)
  where
    le-of-lt-suc : i < suc n → i ≤ n
    le-of-lt-suc p = omega arith

    not-lt : (i < n → ⊥) → n ≤ i
    not-lt p = omega arith

pub entries_at : (words : List ℕ) (n i : ℕ) (d : Entry) → i < n → get_or (entries_of words n) i d ≡ entry_at words i
entries_at words zero i d h = absurd (let no_place : ⊥ = omega arith in no_place)
entries_at words (suc n) i d h =
    snoc-at (entries_of words n) (entry_at words n) d (entry_at words) n i (entries-length words n) refl (entries_at words n i d) (dec_lt i n) h

-- putting an entry back where it was read changes nothing
put_back : (words : List ℕ) (i : ℕ) → (i + 1) * entry_words ≤ length words → entry_put words i (entry_at words i) ≡ words
put_back words i h =
    let at = i * entry_words in
    sym
    (six-stores words at (get_or words at 0) (get_or words (at + 1) 0) (get_or words (at + 2) 0) (get_or words (at + 3) 0) (get_or words (at + 4) 0) (get_or words (at + 5) 0) (omega arith))
    ∙ simp set-get_or

-- writing back the entries that were read changes nothing
pub written_back : (words : List ℕ) (n : ℕ) → n * entry_words ≤ length words → entries_written words (entries_of words n) ≡ words
written_back words zero h = refl
written_back words (suc n) h =
    let es = entries_of words n in
    sym (put-appends words es (entry_at words n))
    ∙ ap₂ (λ (w : List ℕ) (k : ℕ). entry_put w k (entry_at words n)) (written_back words n (omega arith)) (entries-length words n)
    ∙ put_back words n (omega arith)

-- where the words of an entry are
words-at :
    (es : List Entry) (rest : List ℕ) (i k : ℕ) (d : Entry) → k < entry_words → i < length es
    → get_or (all_words es ++ rest) (i * entry_words + k) 0 ≡ get_or (encoded_entry (get_or es i d)) k 0
words-at [] rest i k d p h = absurd (let no_place : ⊥ = omega arith in no_place)
words-at (e ∷ es) rest zero k d p h =
    ap (λ (m : ℕ). get_or (encoded_entry e ++ (all_words es ++ rest)) m 0) (zero-add k)
    ∙ get_or-append (encoded_entry e) (all_words es ++ rest) 0 k p
words-at (e ∷ es) rest (suc i) k d p h =
    let there : suc i * entry_words + k ≡ entry_words + (i * entry_words + k) = omega arith in
    ap (λ (m : ℕ). get_or (encoded_entry e ++ (all_words es ++ rest)) m 0) there
    ∙ get_or-append-add (encoded_entry e) (all_words es ++ rest) (i * entry_words + k) 0
    ∙ words-at es rest i k d p (omega arith)

-- the entry read at a place of what is written is the one written there
pub entry-within : (words : List ℕ) (es : List Entry) (i : ℕ) (d : Entry) → i < length es → entry_at (entries_written words es) i ≡ get_or es i d
entry-within words es i d h =
    let rest = drop (length es * entry_words) words in
    let first : get_or (entries_written words es) (i * entry_words) 0 ≡ (get_or es i d).bidder =
    ap (λ (m : ℕ). get_or (entries_written words es) m 0) (sym (add-zero (i * entry_words))) ∙ words-at es rest i 0 d (lit< tt) h
    in
    λ j. record {
      bidder = first j;
      path = words-at es rest i 1 d (lit< tt) h j;
      quantity = megawatts (words-at es rest i 2 d (lit< tt) h j);
      period =
          record {
            first = day_number (words-at es rest i 3 d (lit< tt) h j);
            last = day_number (words-at es rest i 4 d (lit< tt) h j);
          };
      state = words-at es rest i 5 d (lit< tt) h j;
    }

-- the entries that are read are those that were written
first_read : (words : List ℕ) (es : List Entry) (n : ℕ) (d : Entry) → n ≤ length es → entries_of (entries_written words es) n ≡ take n es
first_read words es zero d h = refl
first_read words es (suc n) d h =
    ap₂ (λ (l : List Entry) (e : Entry). l ++ (e ∷ [])) (first_read words es n d (omega arith)) (entry-within words es n d h)
    ∙ sym (take-suc es n d h)

pub entries-read : (words : List ℕ) (es : List Entry) → entries_of (entries_written words es) (length es) ≡ es
entries-read words es = first_read words es (length es) (entry_at words 0) (le_refl (length es)) ∙ take-length es
