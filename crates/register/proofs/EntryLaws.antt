-- Laws about what the register's loops do, one entry at a time.
use mathlib.Core.Path.{◌≡◌, refl, sym, ◌∙◌, ap, ap₂}
use mathlib.Core.Bool.{Bool, true, false, cond, ◌&&◌, ◌||◌}
use mathlib.Core.List.{List, [], ◌∷◌, ◌++◌, map}
use Prim.Native.Nat.{ℕ, ◌+◌, ◌≤◌, ◌<◌}
use native.Mathlib.Numerals.{add-one}
use native.Mathlib.Omega.{arith}
use lib.Dec.{leb, ltb, eqb}
use lib.ListN.{length, get_or, length-map}
use borrow.Author.Tests.{leb-true, ltb-true}
use Rattle.market.proofs.Every.{both_true, every-within}
use Rattle.market.proofs.Filled.{map_snoc}
use Rattle.market.proofs.Tests.{left-true, right-true}
use Rattle.market.specs.Books.{every}
use Rattle.market.specs.Limits.{bidder_limit, quantity_limit, pending, issued}
use Rattle.market.specs.Sound.{sound_period}
use Rattle.market.specs.declared.book.Entry.{Entry}
use Rattle.register.proofs.WordLaws.{put-appends, entry_past, entries-length, entries_at, length-snoc}
use Rattle.register.specs.Entries.{sound_entry, with_state, issued_to, goes, without}
use Rattle.register.specs.Words.{entry_at, entries_of, entry_put, entries_written}
use Rattle.register.specs.declared.Removal.{Removal}

-- counting one more entry
pub entries-more : (words : List ℕ) (i : ℕ) → entries_of words (i + 1) ≡ entries_of words i ++ (entry_at words i ∷ [])
entries-more words i = rw add-one

-- an entry put after the `k` entries that are written is appended to them
pub put_next : (words : List ℕ) (es : List Entry) (k : ℕ) (e : Entry) → length es ≡ k → entry_put (entries_written words es) k e ≡ entries_written words (es ++ (e ∷ []))
put_next words es k e h = ap (λ (n : ℕ). entry_put (entries_written words es) n e) (sym h) ∙ put-appends words es e

-- ---- entries changed one by one

module _ (f : Entry → Entry) (words₀ : List ℕ) (i : ℕ) where
  pub changed-length : length (map f (entries_of words₀ i)) ≡ i
  changed-length = length-map (entries_of words₀ i) f ∙ entries-length words₀ i

  -- the entry at the next place is read, changed and put back there
  pub change-next :
      (words :
      List ℕ) (e : Entry) → words ≡ entries_written words₀ (map f (entries_of words₀ i)) → e ≡ f (entry_at words i)
      → entry_put words i e ≡ entries_written words₀ (map f (entries_of words₀ (i + 1)))
  change-next words e now is =
      let es = entries_of words₀ i in
      let past : entry_at words i ≡ entry_at words₀ i =
      ap (λ (w : List ℕ). entry_at w i) now ∙ entry_past words₀ (map f es) i (omega (arith, changed-length))
      in
      ap₂ (λ (w : List ℕ) (x : Entry). entry_put w i x) now (is ∙ ap f past)
      ∙ put_next words₀ (map f es) i (f (entry_at words₀ i)) changed-length
      ∙ ap (entries_written words₀) (sym (map_snoc f es (entry_at words₀ i)) ∙ ap (map f) (sym (entries-more words₀ i)))

-- ---- entries removed

pub without-snoc : (what : Removal) (es : List Entry) (e : Entry) → without what (es ++ (e ∷ [])) ≡ cond (goes what e) (without what es) (without what es ++ (e ∷ []))
without-snoc what [] e = refl
without-snoc what (x ∷ es) e = go (goes what x) (goes what e) (without-snoc what es e)
  where
    go :
        (s t : Bool) {r : List Entry} → r ≡ cond t (without what es) (without what es ++ (e ∷ []))
        → cond s r (x ∷ r) ≡ cond t (cond s (without what es) (x ∷ without what es)) (cond s (without what es) (x ∷ without what es) ++ (e ∷ []))
    go true true h = h
    go true false h = h
    go false true h = ap (x ∷◌) h
    go false false h = ap (x ∷◌) h

pub without-length : (what : Removal) (es : List Entry) → length (without what es) ≤ length es
without-length what [] = omega arith
without-length what (x ∷ es) = go (goes what x) (without-length what es)
  where
    go : (s : Bool) → length (without what es) ≤ length es → length (cond s (without what es) (x ∷ without what es)) ≤ length (x ∷ es)
    go true h = omega arith
    go false h = omega arith

-- one turn looks at the entry at `i`, where `kept` of the entries before it have stayed
module _ (what : Removal) (words₀ words : List ℕ) (i kept : ℕ) (now : words ≡ entries_written words₀ (without what (entries_of words₀ i))) (long : kept ≡ length (without what (entries_of words₀ i)))
  where
    pub kept-within : kept ≤ i
    kept-within = omega (arith, without-length what (entries_of words₀ i), entries-length words₀ i)

    -- the next entry, read after what has been written, is the one that was there at the start
    next-entry : entry_at words i ≡ entry_at words₀ i
    next-entry = ap (λ (w : List ℕ). entry_at w i) now ∙ entry_past words₀ (without what (entries_of words₀ i)) i (omega (arith, kept-within))

    next-without : without what (entries_of words₀ (i + 1)) ≡ cond (goes what (entry_at words i)) (without what (entries_of words₀ i)) (without what (entries_of words₀ i) ++ (entry_at words i ∷ []))
    next-without =
        ap (without what) (entries-more words₀ i)
        ∙ without-snoc what (entries_of words₀ i) (entry_at words₀ i)
        ∙ ap (λ (e : Entry). cond (goes what e) (without what (entries_of words₀ i)) (without what (entries_of words₀ i) ++ (e ∷ []))) (sym next-entry)

    pub kept-count : cond (goes what (entry_at words i)) kept (kept + 1) ≡ length (without what (entries_of words₀ (i + 1)))
    kept-count = go (goes what (entry_at words i)) ∙ ap length (sym next-without)
      where
        es : List Entry
        es = without what (entries_of words₀ i)

        go : (t : Bool) → cond t kept (kept + 1) ≡ length (cond t es (es ++ (entry_at words i ∷ [])))
        go true = long
        go false = ap (λ (n : ℕ). n + 1) long ∙ sym (length-snoc es (entry_at words i))

    pub kept-words : cond (goes what (entry_at words i)) words (entry_put words kept (entry_at words i)) ≡ entries_written words₀ (without what (entries_of words₀ (i + 1)))
    kept-words = go (goes what (entry_at words i)) ∙ ap (entries_written words₀) (sym next-without)
      where
        es : List Entry
        es = without what (entries_of words₀ i)

        go : (t : Bool) → cond t words (entry_put words kept (entry_at words i)) ≡ entries_written words₀ (cond t es (es ++ (entry_at words i ∷ [])))
        go true = now
        go false = ap (λ (w : List ℕ). entry_put w kept (entry_at words i)) now ∙ put_next words₀ es kept (entry_at words i) (sym long)

-- the bounds of a sound entry
pub record EntryBounds (paths : ℕ) (e : Entry) : Type 0 where
  pub bidder : e.bidder < bidder_limit
  pub path : e.path < paths
  pub some : 1 ≤ e.quantity.0
  pub quantity : e.quantity.0 ≤ quantity_limit
  pub period : sound_period e.period ≡ true

pub entry-bounds : (paths : ℕ) (e : Entry) → sound_entry paths e ≡ true → EntryBounds paths e
entry-bounds paths e h =
    let bidder = ltb e.bidder bidder_limit in
    let path = ltb e.path paths in
    let some = leb 1 e.quantity.0 in
    let quantity = leb e.quantity.0 quantity_limit in
    let period = sound_period e.period in
    let state = eqb e.state pending || eqb e.state issued in
    let h₅ = left-true (bidder && path && some && quantity && period) state h in
    let h₄ = left-true (bidder && path && some && quantity) period h₅ in
    let h₃ = left-true (bidder && path && some) quantity h₄ in
    let h₂ = left-true (bidder && path) some h₃ in
    record {
      bidder = ltb-true e.bidder bidder_limit (left-true bidder path h₂);
      path = ltb-true e.path paths (right-true bidder path h₂);
      some = leb-true 1 e.quantity.0 (right-true (bidder && path) some h₃);
      quantity = leb-true e.quantity.0 quantity_limit (right-true (bidder && path && some) quantity h₄);
      period = right-true (bidder && path && some && quantity) period h₅;
    }

-- each counted entry of a sound register is within its bounds
pub each-bounds : (paths : ℕ) (words : List ℕ) (n i : ℕ) → every (sound_entry paths) (entries_of words n) ≡ true → i < n → EntryBounds paths (entry_at words i)
each-bounds paths words n i h below =
    let es = entries_of words n in
    let e = entry_at words i in
    let is : get_or es i e ≡ e = entries_at words n i e below in
    entry-bounds paths e
    (ap (sound_entry paths) (sym is) ∙ every-within (sound_entry paths) es i e (omega (arith, entries-length words n)) h)

-- ---- entries that stay sound

-- an entry that is issued
issued-state : (paths : ℕ) (e : Entry) → sound_entry paths e ≡ true → sound_entry paths (with_state e issued) ≡ true
issued-state paths e h =
    let rest =
    ltb e.bidder bidder_limit
    && ltb e.path paths
    && leb 1 e.quantity.0
    && leb e.quantity.0 quantity_limit
    && sound_period e.period
    in
    both_true {s = rest} {t = true} (left-true rest (eqb e.state pending || eqb e.state issued) h) refl

pub issued-sound : (paths bidder : ℕ) (e : Entry) → sound_entry paths e ≡ true → sound_entry paths (issued_to bidder e) ≡ true
issued-sound paths bidder e h = go (eqb e.bidder bidder)
  where
    go : (t : Bool) → sound_entry paths (cond t (with_state e issued) e) ≡ true
    go true = issued-state paths e h
    go false = h

-- where each entry passes a test, so does each entry that stays when some are removed
pub every-without : (test : Entry → Bool) (what : Removal) (es : List Entry) → every test es ≡ true → every test (without what es) ≡ true
every-without test what [] h = refl
every-without test what (e ∷ es) h =
    go (goes what e) (left-true (test e) (every test es) h) (every-without test what es (right-true (test e) (every test es) h))
  where
    go : (t : Bool) → test e ≡ true → every test (without what es) ≡ true → every test (cond t (without what es) (e ∷ without what es)) ≡ true
    go true first rest = rest
    go false first rest = both_true first rest
