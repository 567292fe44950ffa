-- A line that changes nothing leaves the words as they were; and lines one after another on the words are the journal's own run.
use mathlib.Core.Path.{◌≡◌, refl, sym, ◌∙◌, ap, ap₂, subst}
use mathlib.Core.Bool.{Bool, true, false, cond, not, ◌||◌}
use mathlib.Core.List.{List, [], ◌∷◌}
use Prim.Native.Nat.{ℕ, ◌≤◌, ◌<◌}
use native.Mathlib.Omega.{arith}
use lib.Dec.{leb, eqb, lit≤}
use lib.IntN.{ℤ, pos}
use lib.ListN.{length, drop}
use borrow.Author.Tests.{le-ltb, lt-ltb, leb-true, ne_eqb, not-false}
use Rattle.std.specs.Prelude.{Option, Some, None, Ok, Err}
use Rattle.market.proofs.Filled.{zeros}
use Rattle.market.proofs.Tables.{none-hold}
use Rattle.market.proofs.Tests.{left-true}
use Rattle.market.specs.Answers.{first_of, answered, decided, Verdict, no_refusal}
use Rattle.market.specs.Fresh.{fresh_refusals, fresh_book, no_book, fresh}
use Rattle.market.specs.Limits.{path_limit, register_words, zones}
use Rattle.market.specs.Sound.{sound_path_count}
use Rattle.market.specs.declared.book.Book.{Book}
use Rattle.market.specs.declared.book.Route.{Route}
use Rattle.text_numbers.specs.Put.{put_at}
use Rattle.text_numbers.proofs.PutLaws.{put-length}
use Rattle.call_rules.proofs.StepLaws.{same-paths}
use Rattle.engine.proofs.Laws.{lawful}
use Rattle.engine.specs.Lent.{Lent, lists_of}
use Rattle.engine.specs.Rules.{rule_of}
use Rattle.engine.specs.Step.{step}
use Rattle.engine.specs.declared.calls.Call.{Call}
use Rattle.journal_fresh_line.specs.FreshLines.{fresh_said}
use Rattle.journal_fresh_line.specs.declared.FreshLine.{FreshLine}
use Rattle.journal_call_line.specs.CallLine.{line_read, line_said, line_words, line_prices}
use Rattle.journal_call_line.specs.declared.CallLine.{CallLine}
use Rattle.journal_step.specs.LineStep.{line_bytes, Stepped, word_room, turned_away, call_step, fresh_state, fresh_by, fresh_step, said_step, call_line_step, fresh_word, is_fresh, line_step}
use Rattle.journal_step.specs.declared.Journal.{Journal}
use Rattle.library_book.specs.BookWords.{book_size, book_words, book_in, encodes_book, FitsBook}
use Rattle.library_book.proofs.WordLaws.{book-length}
use Rattle.library_book.proofs.ReadBack.{read_back, laid-stands, stands-laid, zeros-read, zeros-stand}
use Rattle.journal_reply.specs.Replies.{reply_room}
use Rattle.library_line.specs.LibraryLine.{Memory, Returned, short, taken, journal_of, HeldIn, step_on, line_run, line_on}
use Rattle.library_line.specs.LibraryLine.{Kept, Given, memory_of, kept_in, lines_on, JournalState, state_after, lines_by, Sized, AllSized}
use Rattle.library_line.proofs.LineLaws.{line-run}

-- ---- A line that changes nothing

-- the words and the account are as they were
pub same-words :
    (m :
    Memory) (line : List ℕ) → book_size ≤ length m.book → encodes_book m.book ≡ true
    → (line_step (journal_of (book_in m.book m.account)) m.register line).journal ≡ journal_of (book_in m.book m.account)
    → ((line_run m line).book ≡ m.book) × ((line_run m line).account ≡ m.account)
unfolding book_in
same-words m line room stood same = (
  ap (λ (j : Journal). put_at m.book 0 (book_words j.book)) same ∙ stands-laid m.book m.account room stood,
  ap (λ (j : Journal). j.book.account.0) same,
)

-- the empty line is malformed
empty-away : (j : Journal) (register : List ℕ) → line_step j register [] ≡ turned_away j register
unfolding line_step line_read
empty-away j register = refl

-- so a line that is too long is refused with 40, and changes nothing
pub long-away : (j : Journal) (register line : List ℕ) → line_bytes < length line → line_step j register (taken line) ≡ turned_away j register
long-away j register line h =
    ap (λ (t : Bool). line_step j register (cond t [] line)) (lt-ltb line_bytes (length line) h) ∙ empty-away j register

-- ---- There is a book exactly where it has a path

abbrev Ready : Journal → Type 0
Ready j = j.ready ≡ not (eqb j.book.path_count 0)

-- no call changes the count of the paths
step_count : (b : Book) (words : List ℕ) (call : Call) (l : Lent) → (step b words call l).outcome.book.path_count ≡ b.path_count
step_count b words call l = same-paths (rule_of call l) (lists_of l) (lawful call l) b words

-- a fresh book that is answered has a path
fresh-counted : (routes : List Route) (n : ℕ) → first_of (fresh_refusals routes n) ≡ no_refusal → true ≡ not (eqb n 0)
fresh-counted routes n h =
    let none = none-hold (fresh_refusals routes n) h in
    let some : 1 ≤ n = leb-true 1 n (left-true (leb 1 n) (leb n path_limit) (not-false (sound_path_count n) none.0)) in
    sym (ap not (ne_eqb n 0 (λ e. omega arith)))

fresh-ready :
    (j :
    Journal) (routes : List Route) (n : ℕ) (v : Verdict) → Ready j → first_of (fresh_refusals routes n) ≡ v
    → Ready (fresh_state j (decided no_book v (answered (fresh_book routes n))).answer (decided no_book v (answered (fresh_book routes n))).book)
unfolding fresh_book
fresh-ready j routes n (Ok done) h e = fresh-counted routes n e
fresh-ready j routes n (Err refusal) h e = h

module _ (j : Journal) (register : List ℕ) (h : Ready j) where
  of-fresh : (f : FreshLine) (t : Bool) → Ready (cond t (fresh_by j register (fresh f.routes f.count)) (turned_away j register)).journal
  unfolding fresh
  of-fresh f true = fresh-ready j f.routes f.count (first_of (fresh_refusals f.routes f.count)) h refl
  of-fresh f false = h

  of-call : (t : Bool) → j.ready ≡ t → (call : Call) (list : List ℕ) (prices : List ℤ) → Ready (call_step t j register call list prices).journal
  of-call true e call list prices =
      sym e
      ∙ h
      ∙ ap (λ (n : ℕ). not (eqb n 0)) (sym (step_count j.book register call _))
  of-call false e call list prices = h

  of-said : (said : Option CallLine) (list : List ℕ) (prices : List ℤ) → Ready (said_step j register said list prices).journal
  of-said None list prices = h
  of-said (Some l) list prices = of-call j.ready refl l.call list prices

  -- and so after each line
  pub line-ready : (line : List ℕ) → Ready (line_step j register line).journal
  unfolding line_step
  line-ready line = go (is_fresh line)
    where
      go :
          (t :
          Bool)
          → Ready
          (cond t (fresh_step j register (fresh_said (drop (length fresh_word) line))) (call_line_step j register line)).journal
      go true = of-fresh (fresh_said (drop (length fresh_word) line)) (fresh_said (drop (length fresh_word) line)).present
      go false = of-said (line_said word_room zones line) (line_words word_room zones line) (line_prices word_room zones line)

ready_of : (j : Journal) → Ready j → journal_of j.book ≡ j
ready_of j h = λ i. record { ready = sym h i; book = j.book }

-- after a line whose book fits its fields the words hold the journal's state
pub line-held : (m : Memory) (line : List ℕ) → FitsBook (step_on m line).journal.book → HeldIn (line_run m line).book (line_run m line).account (step_on m line).journal
line-held m line fits =
    let j = (step_on m line).journal in
    record {
      stood = laid-stands j.book fits m.book;
      read =
          ap journal_of (read_back j.book fits m.book)
          ∙ ready_of j (line-ready (journal_of (book_in m.book m.account)) m.register refl line);
    }

-- ---- Lines one after another

-- what a program keeps holds the state of a journal and its register
pub record Holds (k : Kept) (s : JournalState) : Type 0 where
  pub words : book_size ≤ length k.book
  pub state : HeldIn k.book k.account s.journal
  pub entries : k.register ≡ s.register

none-short : (book register room out : List ℕ) → book_size ≤ length book → register_words ≤ length register → word_room ≤ length room → reply_room ≤ length out → short book register room out ≡ false
none-short book register room out p q r t =
    ap₂ ◌||◌ (le-ltb (length book) book_size p)
    (ap₂ ◌||◌ (le-ltb (length register) register_words q) (ap₂ ◌||◌ (le-ltb (length room) word_room r) (le-ltb (length out) reply_room t)))

module _ (k : Kept) (s : JournalState) (g : Given) (holds : Holds k s) (sized : Sized s g) where
  abbrev now : Stepped
  now = line_step s.journal s.register (taken g.line)

  abbrev after : Memory
  after = line_run (memory_of k g) (taken g.line)

  by-rules : line_step (journal_of (book_in k.book k.account)) k.register (taken g.line) ≡ now
  by-rules = ap₂ (λ (j : Journal) (r : List ℕ). line_step j r (taken g.line)) holds.state.read holds.entries

  -- the line is answered
  pub line-answered : ◌≡◌ {A = Returned} (record { number = 0; memory = after }) (line_on (memory_of k g) g.line)
  line-answered =
      line-run (memory_of k g) g.line
      (none-short k.book k.register g.room g.out holds.words (subst (λ (r : List ℕ). register_words ≤ length r) (sym holds.entries) sized.register) sized.room sized.out)
      holds.state.stood

  -- and what is kept holds the journal's state after it
  pub line-holds : Holds (kept_in after) (state_after now)
  line-holds =
      let m = memory_of k g in
      let fits = subst (λ (x : Stepped). FitsBook x.journal.book) (sym by-rules) sized.book in
      let own = book_words (step_on m (taken g.line)).journal.book in
      let long = book-length (step_on m (taken g.line)).journal.book fits.paths fits.bidders in
      record {
        words = omega (arith, holds.words, put-length k.book 0 own (omega (arith, holds.words, long)));
        state = subst (λ (x : Stepped). HeldIn after.book after.account x.journal) by-rules (line-held m (taken g.line) fits);
        entries = ap (λ (x : Stepped). x.register) by-rules;
      }

-- a program starts with zeros, and with any register
pub start-holds : (register : List ℕ) → Holds (record {
  book =
      zeros book_size;
  account = pos 0;
  register = register;
}) (record { journal = record { ready = false; book = no_book }; register = register })
unfolding no_book
start-holds register = record { words = lit≤ tt; state = record { stood = zeros-stand; read = ap journal_of zeros-read }; entries = refl }

-- what is kept after lines holds the state that the journal's own rules give
pub lines-hold : (k : Kept) (s : JournalState) (gs : List Given) → Holds k s → AllSized s gs → Holds (lines_on k gs) (lines_by s gs)
lines-hold k s [] holds sized = holds
lines-hold k s (g ∷ gs) holds sized =
    lines-hold (kept_in (line_on (memory_of k g) g.line).memory) (state_after (line_step s.journal s.register (taken g.line))) gs
    (subst (λ (x : Returned). Holds (kept_in x.memory) (state_after (line_step s.journal s.register (taken g.line)))) (line-answered k s g holds sized.0)
    (line-holds k s g holds sized.0))
    sized.1
