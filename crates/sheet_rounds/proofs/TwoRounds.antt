-- The output of a long auction: its second round follows the first.
use mathlib.Core.Path.{◌≡◌, refl, sym, ◌∙◌, ap, ap₂, subst}
use mathlib.Core.Bool.{true}
use mathlib.Core.List.{List, [], ◌∷◌}
use Prim.Native.Nat.{ℕ, zero, suc, ◌≤◌}
use native.Mathlib.Omega.{arith}
use lib.ListN.{length}
use Rattle.market.specs.Answers.{answer_number, answered}
use Rattle.market.specs.Books.{every}
use Rattle.market.specs.Limits.{bidder_limit, path_limit, award_sheet_bytes}
use Rattle.market.specs.declared.answer.Outcome.{Outcome}
use Rattle.market.specs.declared.book.Book.{Book}
use Rattle.call_rules.specs.State.{SoundMemory}
use Rattle.sheet_calls.specs.Calls.{empty_register}
use Rattle.award_sheet_round.specs.RoundLines.{RoundMade}
use Rattle.award_sheet_parts.specs.AwardSheet.{is_bidder, award_text, refused_text}
use Rattle.award_sheet.specs.Rounds.{made, Answered}
use Rattle.sheet_rounds.specs.Rounds.{Progress, sheet_round, unless_stopped, ended, output_from}
use Rattle.award_sheet.proofs.AwardLength.{RoundSizes, award-fits}
use Rattle.sheet_rounds.proofs.RoundDone.{answer_of, words_then, bid_answers, path_answers, made_by, state-after}
use Rattle.sheet_rounds.proofs.RoundDone.{paths-same, sizes-after, lists-are, paths-within, written-answered, written-refused}

pub stopped : (n : ℕ) (done next : Progress) → (n ≡ 0 → ⊥) → unless_stopped n done next ≡ done
stopped zero done next some = absurd (some refl)
stopped (suc n) done next some = refl

pub goes_on : (n : ℕ) (done next : Progress) → n ≡ 0 → unless_stopped n done next ≡ next
goes_on zero done next none = refl
goes_on (suc n) done next none = absurd (let bad : ⊥ = omega (arith, none) in bad)

-- the rounds of a long auction, with the lists as they were filled: what their award sheet requires, and that it is the output
pub record TwoDone (b : Book) (first second listed answers results later_answers later_results : List ℕ) (after : Book) : Type 0 where
  pub lists : Answered first answers results
  pub later-lists : Answered second later_answers later_results
  pub paths : after.path_count ≤ path_limit
  pub fits : length (award_text (made first answers results ∷ made second later_answers later_results ∷ []) after listed) ≤ award_sheet_bytes
  pub output : output_from (answered b) listed (first ∷ second ∷ []) ≡ award_text (made first answers results ∷ made second later_answers later_results ∷ []) after listed

module _ (b : Book) (first second : List ℕ) where
  -- the book and the register between the rounds
  abbrev book : Book
  book = (answer_of b empty_register first).book

  abbrev words : List ℕ
  words = words_then b empty_register first

  abbrev pub first_number : ℕ
  first_number = answer_number (answer_of b empty_register first).answer

  abbrev later : Outcome
  later = answer_of book words second

  abbrev later_number : ℕ
  later_number = answer_number later.answer

  abbrev rounds : List RoundMade
  rounds = made_by b empty_register first ∷ made_by book words second ∷ []

  abbrev one : Progress
  one = sheet_round b empty_register [] first

  abbrev two : Progress
  two = sheet_round book words (made_by b empty_register first ∷ []) second

  -- the second call is the rule's second round
  pub second_is : {o p : Outcome} {register : List ℕ} → o ≡ answer_of b empty_register first → register ≡ words → p ≡ answer_of o.book register second → p ≡ later
  second_is is kept e = e ∙ ap₂ (λ (x : Book) (w : List ℕ). answer_of x w second) (ap (λ (x : Outcome). x.book) is) kept

  module _ (listed : List ℕ) where
    two-output : output_from (answered b) listed (first ∷ second ∷ []) ≡ ended listed (unless_stopped first_number one two)
    unfolding output_from sheet_round
    two-output = refl

    pub first-refused : {n : ℕ} → n ≡ first_number → (n ≡ 0 → ⊥) → output_from (answered b) listed (first ∷ second ∷ []) ≡ refused_text n
    unfolding sheet_round
    first-refused is some =
        let refused : first_number ≡ 0 → ⊥ = λ none. some (is ∙ none) in
        two-output ∙ ap (ended listed) (stopped first_number one two refused) ∙ written-refused first_number listed one refused ∙ ap refused_text (sym is)

    module _ (none : first_number ≡ 0) where
      goes : output_from (answered b) listed (first ∷ second ∷ []) ≡ ended listed two
      goes = two-output ∙ ap (ended listed) (goes_on first_number one two none)

      pub second-refused : {n : ℕ} → n ≡ later_number → (n ≡ 0 → ⊥) → output_from (answered b) listed (first ∷ second ∷ []) ≡ refused_text n
      unfolding sheet_round
      second-refused is some = goes ∙ written-refused later_number listed two (λ fine. some (is ∙ fine)) ∙ ap refused_text (sym is)

      both-answered : later_number ≡ 0 → output_from (answered b) listed (first ∷ second ∷ []) ≡ award_text rounds later.book listed
      unfolding sheet_round
      both-answered fine = goes ∙ written-answered later_number listed two fine

    module _ (state : SoundMemory b empty_register) (few : length listed ≤ bidder_limit) (all : every is_bidder listed ≡ true) where
      module _ (none : first_number ≡ 0) (fine : later_number ≡ 0) where
        between : SoundMemory book words
        between = state-after b empty_register first state none

        same : later.book.path_count ≡ book.path_count
        same = paths-same book words second between fine

        first-sizes : RoundSizes later.book.path_count (made_by b empty_register first)
        first-sizes =
            subst (λ (n : ℕ). RoundSizes n (made_by b empty_register first)) (sym (same ∙ paths-same b empty_register first state none))
            (sizes-after b empty_register first state none)

        second-sizes : RoundSizes later.book.path_count (made_by book words second)
        second-sizes = subst (λ (n : ℕ). RoundSizes n (made_by book words second)) (sym same) (sizes-after book words second between fine)

        both-done : TwoDone b first second listed (bid_answers b empty_register first) (path_answers b empty_register first) (bid_answers book words second) (path_answers book words second) later.book
        both-done =
            record {
              lists = lists-are b empty_register first state none;
              later-lists = lists-are book words second between fine;
              paths = paths-within book words second listed between fine few all;
              fits =
                  award-fits rounds later.book listed (omega arith) (first-sizes, (second-sizes, tt))
                  (state-after book words second between fine).state.sound few all;
              output = both-answered none fine;
            }

      -- the same for the outcomes and the lists that the rounds gave
      pub two-done :
          {o p : Outcome} {register answers results later_answers later_results : List ℕ} → o ≡ answer_of b empty_register first → register ≡ words
          → answers ≡ bid_answers b empty_register first → results ≡ path_answers b empty_register first → p ≡ answer_of o.book register second
          → later_answers ≡ bid_answers o.book register second → later_results ≡ path_answers o.book register second
          → answer_number o.answer ≡ 0 → answer_number p.answer ≡ 0 → TwoDone b first second listed answers results later_answers later_results p.book
      two-done is kept filled counted is' filled' counted' none fine =
          let book-is = ap (λ (x : Outcome). x.book) is in
          let last = second_is is kept is' in
          let answers' = filled' ∙ ap₂ (λ (x : Book) (w : List ℕ). bid_answers x w second) book-is kept in
          let results' = counted' ∙ ap₂ (λ (x : Book) (w : List ℕ). path_answers x w second) book-is kept in
          rw (filled, counted, answers', results', last)
          (both-done (ap (λ (x : Outcome). answer_number x.answer) (sym is) ∙ none) (ap (λ (x : Outcome). answer_number x.answer) (sym last) ∙ fine))
