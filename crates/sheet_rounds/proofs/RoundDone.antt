-- A round of a sheet that was answered: what the award sheet requires of its lists, and the state after it.
use mathlib.Core.Path.{◌≡◌, refl, sym, ◌∙◌, ap, subst}
use mathlib.Core.Bool.{true}
use mathlib.Core.List.{List, [], ◌∷◌}
use Prim.Native.Nat.{ℕ, zero, suc, ◌≤◌}
use native.Mathlib.Omega.{arith}
use lib.ListN.{length, drop, length-append, length-drop}
use Rattle.market.proofs.SoundLaws.{count-within, sound-parts}
use Rattle.market.specs.Answers.{answer_number, answered}
use Rattle.market.specs.Books.{every, with_front}
use Rattle.market.specs.Limits.{bidder_limit, path_limit, award_sheet_bytes}
use Rattle.market.specs.declared.answer.Outcome.{Outcome}
use Rattle.market.specs.declared.book.Book.{Book}
use Rattle.round_bids.specs.Bids.{bids_of}
use Rattle.call_round.proofs.ReadyLaws.{listed}
use Rattle.call_round.proofs.RoundLawful.{round-lawful}
use Rattle.call_round.specs.Round.{bid_answers_now, path_answers_now}
use Rattle.call_rules.specs.State.{SoundMemory}
use Rattle.call_rules.proofs.StepLaws.{memory_kept}
use Rattle.call_rules.specs.Steps.{outcome_of, words_after, list_after, to_answers, to_results}
use Rattle.engine.specs.Lent.{Lent, lent, lists_of}
use Rattle.promise.proofs.RoundAnswers.{opened, answers-are, results-are, same_count}
use Rattle.sheet_calls.specs.Calls.{empty_register}
use Rattle.award_sheet_round.specs.RoundLines.{RoundMade}
use Rattle.award_sheet_parts.specs.AwardSheet.{is_bidder, award_text, refused_text}
use Rattle.award_sheet.specs.Rounds.{made, Answered}
use Rattle.sheet_rounds.specs.Rounds.{Progress, answers_lent, results_lent, scratch_lent, round_with, sheet_round, rounds_output, ended, output_from}
use Rattle.award_sheet.proofs.AwardLength.{RoundSizes, award-fits}
use Rattle.sheet_rounds.proofs.RoundLength.{round-sizes}

-- rows written over a list do not make it shorter
laid-long : (before rows : List ℕ) → length before ≤ length (with_front rows before)
laid-long before rows =
    omega (arith, length-append rows (drop (length rows) before), length-drop (length rows) before)

module _ (b : Book) (words bids : List ℕ) where
  abbrev pub answer_of : Outcome
  answer_of = outcome_of (round_with bids) b words

  abbrev pub words_then : List ℕ
  words_then = words_after (round_with bids) b words

  abbrev pub bid_answers : List ℕ
  bid_answers = list_after to_answers (round_with bids) b words answers_lent

  abbrev pub path_answers : List ℕ
  path_answers = list_after to_results (round_with bids) b words results_lent

  abbrev pub made_by : RoundMade
  made_by = made bids bid_answers path_answers

  -- what the round is lent, among all that a call can be lent
  abbrev lent_for : Lent
  lent_for = lent [] bids [] [] [] [] [] [] answers_lent results_lent scratch_lent

  module _ (state : SoundMemory b words) (none : answer_number answer_of.answer ≡ 0) where
    pub state-after : SoundMemory answer_of.book words_then
    state-after = memory_kept (round_with bids) (lists_of lent_for) (round-lawful bids (lists_of lent_for) scratch_lent) b words state

    pub paths-same : answer_of.book.path_count ≡ b.path_count
    paths-same = same_count b words lent_for none

    pub sizes-after : RoundSizes b.path_count made_by
    sizes-after = round-sizes b words lent_for state.state.sound none

    pub lists-are : Answered bids bid_answers path_answers
    lists-are =
        let o = opened b words lent_for none in
        record {
          list = listed b words bids answers_lent results_lent scratch_lent o.early;
          answers-long = rw (answers-are b words lent_for none) (laid-long answers_lent (bid_answers_now b (bids_of bids)));
          results-long = rw (results-are b words lent_for none) (laid-long results_lent (path_answers_now b (bids_of bids)));
        }

-- ---- The award sheet fits

few-paths : (b : Book) (words : List ℕ) → SoundMemory b words → b.path_count ≤ path_limit
few-paths b words state = count-within b.path_count (sound-parts b state.state.sound).path-count

module _ (b : Book) (words bids listed : List ℕ) (state : SoundMemory b words) (none : answer_number (answer_of b words bids).answer ≡ 0) (few : length listed ≤ bidder_limit)
    (all : every is_bidder listed ≡ true) where
  sizes : RoundSizes (answer_of b words bids).book.path_count (made_by b words bids)
  sizes = subst (λ (n : ℕ). RoundSizes n (made_by b words bids)) (sym (paths-same b words bids state none)) (sizes-after b words bids state none)

  pub paths-within : (answer_of b words bids).book.path_count ≤ path_limit
  paths-within = few-paths (answer_of b words bids).book (words_then b words bids) (state-after b words bids state none)

  pub one-fits : length (award_text (made_by b words bids ∷ []) (answer_of b words bids).book listed) ≤ award_sheet_bytes
  one-fits =
      award-fits (made_by b words bids ∷ []) (answer_of b words bids).book listed (omega arith) (sizes, tt)
      (state-after b words bids state none).state.sound few all

-- ---- The output of a short auction

pub written-answered : (n : ℕ) (listed : List ℕ) (done : Progress) → n ≡ 0 → rounds_output n listed done ≡ award_text done.rounds done.outcome.book listed
written-answered zero listed done none = refl
written-answered (suc n) listed done none = absurd (let bad : ⊥ = omega (arith, none) in bad)

pub written-refused : (n : ℕ) (listed : List ℕ) (done : Progress) → (n ≡ 0 → ⊥) → rounds_output n listed done ≡ refused_text n
written-refused zero listed done some = absurd (some refl)
written-refused (suc n) listed done some = refl

module _ (b : Book) (bids listed : List ℕ) where
  one-output : output_from (answered b) listed (bids ∷ []) ≡ ended listed (sheet_round b empty_register [] bids)
  unfolding output_from
  one-output = refl

  pub one-refused : {n : ℕ} → n ≡ answer_number (answer_of b empty_register bids).answer → (n ≡ 0 → ⊥) → output_from (answered b) listed (bids ∷ []) ≡ refused_text n
  unfolding sheet_round
  one-refused is some =
      one-output
      ∙ written-refused (answer_number (answer_of b empty_register bids).answer) listed (sheet_round b empty_register [] bids) (λ none. some (is ∙ none))
      ∙ ap refused_text (sym is)

  one-answered :
      answer_number (answer_of b empty_register bids).answer ≡ 0
      → output_from (answered b) listed (bids ∷ []) ≡ award_text (made_by b empty_register bids ∷ []) (answer_of b empty_register bids).book listed
  unfolding sheet_round
  one-answered none = one-output ∙ written-answered (answer_number (answer_of b empty_register bids).answer) listed (sheet_round b empty_register [] bids) none

-- the round of a short auction, with the lists as they were filled: what its award sheet requires, and that it is the output
pub record OneDone (b : Book) (bids listed answers results : List ℕ) (after : Book) : Type 0 where
  pub lists : Answered bids answers results
  pub paths : after.path_count ≤ path_limit
  pub fits : length (award_text (made bids answers results ∷ []) after listed) ≤ award_sheet_bytes
  pub output : output_from (answered b) listed (bids ∷ []) ≡ award_text (made bids answers results ∷ []) after listed

module _ (b : Book) (bids listed : List ℕ) (state : SoundMemory b empty_register) (few : length listed ≤ bidder_limit) (all : every is_bidder listed ≡ true) where
  pub one-done :
      {o : Outcome} {answers results : List ℕ} → o ≡ answer_of b empty_register bids → answers ≡ bid_answers b empty_register bids → results ≡ path_answers b empty_register bids
      → answer_number o.answer ≡ 0 → OneDone b bids listed answers results o.book
  one-done {o} {answers} {results} is filled counted none =
      let none' : answer_number (answer_of b empty_register bids).answer ≡ 0 = ap (λ (x : Outcome). answer_number x.answer) (sym is) ∙ none in
      subst (λ (x : Book). OneDone b bids listed answers results x) (ap (λ (x : Outcome). x.book) (sym is))
      (subst (λ (l : List ℕ). OneDone b bids listed l results (answer_of b empty_register bids).book) (sym filled)
      (subst (λ (l : List ℕ). OneDone b bids listed (bid_answers b empty_register bids) l (answer_of b empty_register bids).book) (sym counted)
      (record {
        lists = lists-are b empty_register bids state none';
        paths = paths-within b empty_register bids listed state none' few all;
        fits = one-fits b empty_register bids listed state none' few all;
        output = one-answered b bids listed none';
      })))
