-- What holds of every call whose rule is lawful.
use mathlib.Core.Path.{◌≡◌, refl, sym, ◌∙◌, ap, ap₂, subst}
use mathlib.Core.Bool.{Bool, true, false, cond, not, ◌&&◌, false≢true}
use mathlib.Core.List.{List, [], ◌∷◌, ◌++◌}
use Prim.Native.Nat.{ℕ, ◌≤◌}
use native.Mathlib.Omega.{arith}
use lib.Dec.{eqb}
use lib.ListN.{length}
use borrow.Author.Tests.{eq-eqb, le-ltb}
use Rattle.std.specs.Prelude.{Ok, Err}
use Rattle.market.proofs.Every.{every_append}
use Rattle.market.proofs.SoundLaws.{sound-parts}
use Rattle.market.proofs.Tables.{same_after}
use Rattle.market.proofs.Tests.{left-true, right-true}
use Rattle.market.specs.Answers.{Row, Verdict, no_refusal, first_of, refusal_number, answer_number, decided}
use Rattle.market.specs.Books.{every}
use Rattle.market.specs.Limits.{register_words, entry_limit}
use Rattle.market.specs.Sound.{sound_book}
use Rattle.market.specs.declared.answer.Refusal.{Refusal}
use Rattle.market.specs.declared.book.Book.{Book}
use Rattle.market.specs.declared.book.Entry.{Entry}
use Rattle.register.proofs.WordLaws.{written-length, entries-read}
use Rattle.register.specs.Refusals.{counted_entries, unsound_register}
use Rattle.register.specs.Words.{entries_of}
use Rattle.call_rules.proofs.Decides as decides
use Rattle.call_rules.proofs.Decides.{by_verdict, by-refusal, words_same, front_same, scratch-same, own_row, Known, cleared}
use Rattle.call_rules.proofs.Lawful.{Moved, FewBids, Lawful}
use Rattle.call_rules.specs.State.{SoundState, SoundMemory}
use Rattle.call_rules.proofs.Sums.{nothing-moved}
use Rattle.call_rules.specs.Money.{worth}
use Rattle.call_rules.specs.Rule.{Register, Front, Lists, Fronts, Ruling, Reply, Rule}
use Rattle.call_rules.specs.Rule.Register.{unlent, read, changed}
use Rattle.call_rules.specs.Rules.{unsound_row, rows_on, entries_by, list_by, lists_by, Effect, effect_by, ruled}
use Rattle.call_rules.specs.Steps.{register_rows, ruling_of, verdict_of, outcome_of, words_by, words_after, list_after, lists_after, ScratchBy, ScratchAfter}

-- ---- The same refusal over words and over entries: the register is long enough

rows_same :
    (register : Register) (b : Book) (words : List ℕ) (own : List Row) → register_words ≤ length words
    → first_of (register_rows register b words ++ own) ≡ first_of (unsound_row register b (counted_entries b words) ∷ own)
rows_same unlent b words own long = refl
rows_same read b words own long =
    ap (λ (short : Bool). cond short (Err Refusal.ShortBuffer) (first_of (unsound_register b (counted_entries b words) ∷ own))) (le-ltb (length words) register_words long)
rows_same (changed after) b words own long =
    ap (λ (short : Bool). cond short (Err Refusal.ShortBuffer) (first_of (unsound_register b (counted_entries b words) ∷ own))) (le-ltb (length words) register_words long)

-- ---- The words that hold the entries

-- an answered call leaves words in which its book counts the entries that it leaves
entries-left :
    (register : Register) (words : List ℕ) (n m : ℕ) → length (entries_by register no_refusal (entries_of words n)) ≡ m → length (entries_of words n) ≡ n
    → entries_of (words_by register no_refusal words) m ≡ entries_by register no_refusal (entries_of words n)
entries-left unlent words n m count all = ap (entries_of words) (sym count ∙ all)
entries-left read words n m count all = ap (entries_of words) (sym count ∙ all)
entries-left (changed after) words n m count all = ap (entries_of _) (sym count) ∙ entries-read words after

-- and as many words as there were
words_long :
    (register : Register) (v : Verdict) (words : List ℕ) (es : List Entry) → length (entries_by register no_refusal es) ≤ entry_limit → register_words ≤ length words
    → register_words ≤ length (words_by register v words)
words_long unlent v words es few long = long
words_long read v words es few long = long
words_long (changed after) (Ok done) words es few long = omega (arith, long, written-length words after (omega (arith, few, long)))
words_long (changed after) (Err r) words es few long = long

-- ---- A call that is refused leaves the entries and the lists

entries-same : (register : Register) (r : Refusal) (es : List Entry) → entries_by register (Err r) es ≡ es
entries-same unlent r es = refl
entries-same read r es = refl
entries-same (changed after) r es = refl

lists-same : (fronts : Fronts) (r : Refusal) (before : Lists) → lists_by fronts (Err r) before ≡ before
lists-same fronts r before = λ i. record {
  amounts = front_same fronts.amounts r before.amounts i;
  answers = front_same fronts.answers r before.answers i;
  results = front_same fronts.results r before.results i;
}

-- ---- 2 is the number of the state alone

-- the number of a verdict, 0 where nothing refuses
abbrev number_of : Verdict → ℕ
number_of (Ok done) = 0
number_of (Err r) = refusal_number r

never-two : (rows : List Row) → every own_row rows ≡ true → number_of (first_of rows) ≡ 2 → ⊥
never-two [] h is = absurd (let no : ⊥ = omega (arith, is) in no)
never-two (row ∷ rows) h is =
    let here = left-true (own_row row) (every own_row rows) h in
    let rest = right-true (own_row row) (every own_row rows) h in
    go row.0 row.1 here (never-two rows rest) is
  where
    go : (test : Bool) (r : Refusal) → not (eqb (refusal_number r) 2) ≡ true → (number_of (first_of rows) ≡ 2 → ⊥) → number_of (cond test (Err r) (first_of rows)) ≡ 2 → ⊥
    go true r other rest two = false≢true (sym (ap not (eq-eqb (refusal_number r) 2 two)) ∙ other)
    go false r other rest two = rest two

-- what is known where it does not hold
known-sound : (register : Register) (b : Book) (words : List ℕ) → Known register b words → sound_book b ≡ true
known-sound unlent b words known = known
known-sound read b words known = known.sound
known-sound (changed after) b words known = known.sound

-- in a sound state its row does not hold
state-silent : (register : Register) (b : Book) (es : List Entry) → SoundState b es → (unsound_row register b es).0 ≡ false
state-silent unlent b es state = ap not state.sound
state-silent read b es state = ap not (ap₂ ◌&&◌ state.sound state.entries)
state-silent (changed after) b es state = ap not (ap₂ ◌&&◌ state.sound state.entries)

not-two-after : (lent own : List Row) (row : Row) → every own_row lent ≡ true → every own_row own ≡ true → row.0 ≡ false → number_of (first_of (lent ++ (row ∷ own))) ≡ 2 → ⊥
not-two-after lent own row first last silent is =
    never-two (lent ++ own) (every_append own_row lent own first last)
    (ap number_of (sym (same_after lent (row ∷ own) own (ap (λ (t : Bool). cond t (Err row.1) (first_of own)) silent))) ∙ is)

-- ---- A lawful rule in a sound state

module _ (rule : Rule) (lists : Lists) (law : Lawful rule lists) (b : Book) (words : List ℕ) (memory : SoundMemory b words) where
  abbrev es : List Entry
  es = counted_entries b words

  abbrev ruling : Ruling
  ruling = ruling_of rule b words

  number_same : verdict_of rule b words ≡ first_of (rows_on ruling b es)
  unfolding verdict_of
  number_same =
      same_after ruling.lent (register_rows ruling.register b words ++ ruling.own) (unsound_row ruling.register b es ∷ ruling.own)
      (rows_same ruling.register b words ruling.own memory.long)

  -- where it is answered
  module _ (none : verdict_of rule b words ≡ no_refusal) where
    kept-answered : SoundState ruling.outcome.book (entries_by ruling.register no_refusal es)
    kept-answered = law.keeps b es memory.state (cleared rule b words none)

    read-answered : counted_entries ruling.outcome.book (words_by ruling.register no_refusal words) ≡ entries_by ruling.register no_refusal es
    read-answered = entries-left ruling.register words b.entries ruling.outcome.book.entries kept-answered.counted memory.state.counted

  -- the entries that the words hold after it
  read-after : counted_entries (outcome_of rule b words).book (words_after rule b words) ≡ entries_by ruling.register (verdict_of rule b words) es
  unfolding outcome_of words_after
  read-after =
      by_verdict (λ (v : Verdict). counted_entries (decided b v ruling.outcome).book (words_by ruling.register v words) ≡ entries_by ruling.register v es)
      (verdict_of rule b words) read-answered
      (λ r. ap (counted_entries b) (words_same ruling.register r words) ∙ sym (entries-same ruling.register r es))

  -- what the engine leaves is what the rules leave
  pub effect-same :
      ◌≡◌ {A = Effect}
      (record { outcome = outcome_of rule b words; entries = counted_entries (outcome_of rule b words).book (words_after rule b words); lists = lists_after rule b words lists })
      (ruled rule b es lists)
  unfolding outcome_of list_after
  effect-same =
      ap (λ (e : List Entry). record { outcome = outcome_of rule b words; entries = e; lists = lists_after rule b words lists }) read-after
      ∙ ap (λ (v : Verdict). effect_by ruling v b es lists) number_same

  -- the memory after it is sound
  state-kept : SoundState (outcome_of rule b words).book (counted_entries (outcome_of rule b words).book (words_after rule b words))
  unfolding outcome_of
  state-kept =
      subst (SoundState (outcome_of rule b words).book) (sym read-after)
      (by_verdict (λ (v : Verdict). SoundState (decided b v ruling.outcome).book (entries_by ruling.register v es)) (verdict_of rule b words)
      kept-answered (λ r. subst (SoundState b) (sym (entries-same ruling.register r es)) memory.state))

  long_kept : register_words ≤ length (words_after rule b words)
  unfolding words_after
  long_kept =
      by_verdict (λ (v : Verdict). register_words ≤ length (words_by ruling.register v words)) (verdict_of rule b words)
      (λ none.
      words_long ruling.register no_refusal words es
      (omega (arith, (kept-answered none).counted, (sound-parts ruling.outcome.book (kept-answered none).sound).entries)) memory.long)
      (λ r. subst (λ (w : List ℕ). register_words ≤ length w) (sym (words_same ruling.register r words)) memory.long)

  pub memory_kept : SoundMemory (outcome_of rule b words).book (words_after rule b words)
  memory_kept = record { long = long_kept; state = state-kept }

  -- 2 is not its answer
  pub not-two : answer_number (outcome_of rule b words).answer ≡ 2 → ⊥
  unfolding outcome_of
  not-two =
      by_verdict (λ (v : Verdict). (number_of v ≡ 2 → ⊥) → answer_number (decided b v ruling.outcome).answer ≡ 2 → ⊥) (verdict_of rule b words)
      (λ none other two. let no : ⊥ = omega (arith, law.answers b es, two) in no) (λ r other two. other two)
      (λ is.
      not-two-after ruling.lent ruling.own (unsound_row ruling.register b es) (law.lent-rows b es) (law.own-rows b es)
      (state-silent ruling.register b es memory.state) (ap number_of (sym number_same) ∙ is))

  -- the money moves by its reply
  abbrev replied : Reply
  replied = record { answer = (outcome_of rule b words).answer; lists = lists_after rule b words lists }

  pub money-moved : Moved b (outcome_of rule b words).book (rule.into replied) (rule.out replied)
  unfolding outcome_of list_after
  money-moved =
      by_verdict (λ (v : Verdict). Moved b (decided b v ruling.outcome).book (rule.into (reply_by v)) (rule.out (reply_by v)))
      (verdict_of rule b words)
      (λ none. law.moves b es memory.state (cleared rule b words none))
      (λ r. rw (lists-same ruling.fronts r lists) (rw (law.none_in r) (rw (law.none_out r) (nothing-moved (worth b)))))
    where
      reply_by : Verdict → Reply
      reply_by v = record { answer = (decided b v ruling.outcome).answer; lists = lists_by ruling.fronts v lists }

-- ---- A lawful rule in any state

module _ (rule : Rule) (lists : Lists) (law : Lawful rule lists) (b : Book) (words : List ℕ) where
  -- its answer tells of few bids
  pub few-bids : FewBids (outcome_of rule b words).answer lists.answers
  unfolding outcome_of
  few-bids =
      by_verdict (λ (v : Verdict). FewBids (decided b v (ruling_of rule b words).outcome).answer lists.answers) (verdict_of rule b words)
      (λ none.
      law.few b (counted_entries b words)
      (known-sound (ruling_of rule b words).register b words (decides.known rule b words none))
      (cleared rule b words none))
      (λ r. (omega arith, omega arith))

  -- its book has the same paths
  pub same-paths : (outcome_of rule b words).book.path_count ≡ b.path_count
  unfolding outcome_of
  same-paths =
      by_verdict (λ (v : Verdict). (decided b v (ruling_of rule b words).outcome).book.path_count ≡ b.path_count) (verdict_of rule b words)
      (λ none. law.paths b (counted_entries b words)) (λ r. refl)

-- ---- A call whose answer has another number than 0 leaves everything as it was

module _ (rule : Rule) (lists : Lists) (law : Lawful rule lists) (b : Book) (words : List ℕ) (no : answer_number (outcome_of rule b words).answer ≡ 0 → ⊥) where
  refusal-given : verdict_of rule b words ≡ no_refusal → ⊥
  unfolding outcome_of
  refusal-given none = no (ap (λ (v : Verdict). answer_number (decided b v (ruling_of rule b words).outcome).answer) none ∙ law.answers b (counted_entries b words))

  pub book-unchanged : (outcome_of rule b words).book ≡ b
  unfolding outcome_of
  book-unchanged = by-refusal (λ (v : Verdict). (decided b v (ruling_of rule b words).outcome).book ≡ b) (verdict_of rule b words) refusal-given (λ r. refl)

  pub words-unchanged : words_after rule b words ≡ words
  unfolding words_after
  words-unchanged =
      by-refusal (λ (v : Verdict). words_by (ruling_of rule b words).register v words ≡ words) (verdict_of rule b words) refusal-given
      (λ r. words_same (ruling_of rule b words).register r words)

  pub list-unchanged : (which : Fronts → Front) (before : List ℕ) → list_after which rule b words before ≡ before
  unfolding list_after
  list-unchanged which before =
      by-refusal (λ (v : Verdict). list_by (which (ruling_of rule b words).fronts) v before ≡ before) (verdict_of rule b words) refusal-given
      (λ r. front_same (which (ruling_of rule b words).fronts) r before)

  pub scratch-unchanged : (before after : List ℕ) → ScratchAfter rule b words before after → after ≡ before
  unfolding ScratchAfter
  scratch-unchanged before after =
      by-refusal (λ (v : Verdict). ScratchBy (ruling_of rule b words).fronts.free v before after → after ≡ before) (verdict_of rule b words) refusal-given
      (λ r. scratch-same (ruling_of rule b words).fronts.free r before after)
