-- What the promise asks of a call's rule, over entries. Each call's crate proves it of its own rule.
use mathlib.Core.Path.{◌≡◌}
use mathlib.Core.Bool.{true}
use mathlib.Core.List.{List}
use Prim.Native.Nat.{ℕ, ◌*◌, ◌≤◌}
use lib.IntN.{pos, ◌+ℤ◌, ◌-ℤ◌}
use lib.ListN.{length}
use Rattle.std.specs.Prelude.{Result, Err}
use Rattle.market.specs.Answers.{no_refusal, answer_number, bids_in}
use Rattle.market.specs.Books.{every}
use Rattle.market.specs.Limits.{bid_limit, bid_answer_size}
use Rattle.market.specs.Sound.{sound_book}
use Rattle.market.specs.declared.answer.Answer.{Answer}
use Rattle.market.specs.declared.answer.Refusal.{Refusal}
use Rattle.market.specs.declared.book.Book.{Book}
use Rattle.market.specs.declared.book.Entry.{Entry}
use Rattle.call_rules.proofs.Decides.{own_row, Cleared}
use Rattle.call_rules.specs.State.{SoundState}
use Rattle.call_rules.specs.Money.{worth}
use Rattle.call_rules.specs.Rule.{Lists, Ruling, Reply, Rule}
use Rattle.call_rules.specs.Rules.{entries_by, lists_by}

-- what came into a book and what went out of it account for the whole difference
abbrev pub Moved : Book → Book → ℕ → ℕ → Type 0
Moved before after into out = worth after ≡ worth before +ℤ pos into -ℤ pos out

-- the reply where the call is answered, and where it is refused
abbrev pub reply_to : Ruling → Lists → Reply
reply_to ruling before = record { answer = ruling.outcome.answer; lists = lists_by ruling.fronts no_refusal before }

abbrev pub refused_with : Refusal → Lists → Reply
refused_with refusal before = record { answer = Err refusal; lists = before }

-- an answer tells of no more bids than a round may have, and its list has room for their answers
abbrev pub FewBids : Result Answer Refusal → List ℕ → Type 0
FewBids answer answers = (bids_in answer ≤ bid_limit) × (bids_in answer * bid_answer_size ≤ length answers)

pub record Lawful (rule : Rule) (lists : Lists) : Type 0 where
  -- its own rows do not give 2
  pub lent-rows : (b : Book) (es : List Entry) → every own_row (rule.on b es).lent ≡ true
  pub own-rows : (b : Book) (es : List Entry) → every own_row (rule.on b es).own ≡ true
  -- the number of its answer is 0, and the book has the same paths
  pub answers : (b : Book) (es : List Entry) → answer_number (rule.on b es).outcome.answer ≡ 0
  pub paths : (b : Book) (es : List Entry) → (rule.on b es).outcome.book.path_count ≡ b.path_count
  -- no money moves with a refusal
  pub none_in : (r : Refusal) → rule.into (refused_with r lists) ≡ 0
  pub none_out : (r : Refusal) → rule.out (refused_with r lists) ≡ 0
  -- where it is answered on a sound book, few bids are told of
  pub few : (b : Book) (es : List Entry) → sound_book b ≡ true → Cleared (rule.on b es) → FewBids (rule.on b es).outcome.answer lists.answers
  -- where it is answered in a sound state, the state stays sound, and the money moves by its reply
  pub keeps :
      (b : Book) (es : List Entry) → SoundState b es → Cleared (rule.on b es)
      → SoundState (rule.on b es).outcome.book (entries_by (rule.on b es).register no_refusal es)
  pub moves :
      (b : Book) (es : List Entry) → SoundState b es → Cleared (rule.on b es)
      → Moved b (rule.on b es).outcome.book (rule.into (reply_to (rule.on b es) lists)) (rule.out (reply_to (rule.on b es) lists))
