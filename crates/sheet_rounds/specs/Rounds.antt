-- The rounds of a sheet, one for each section of bids (rule 14.6), and what is printed after them (rules 14.7 and 14.9).
use Rattle.std.specs.Prelude.{List, [], ◌∷◌, ◌++◌, ℕ, zero, suc, replicate}
use Rattle.market.specs.Answers.{answer_number}
use Rattle.market.specs.Limits.{bid_answer_words, path_answer_words, scratch_words}
use Rattle.market.specs.declared.answer.Outcome.{Outcome}
use Rattle.market.specs.declared.book.Book.{Book}
use Rattle.call_rules.specs.Rule.{Rule}
use Rattle.call_rules.specs.Steps.{outcome_of, words_after, list_after, to_answers, to_results}
use Rattle.call_round.specs.Round.{round}
use Rattle.sheet_calls.specs.Calls.{empty_register}
use Rattle.award_sheet_round.specs.RoundLines.{RoundMade}
use Rattle.award_sheet_parts.specs.AwardSheet.{award_text, refused_text}
use Rattle.award_sheet.specs.Rounds.{made}

-- after some of the calls: the last outcome, the register, and the rounds called
pub record Progress : Type 0 where
  pub outcome : Outcome
  pub words : List ℕ
  pub rounds : List RoundMade

-- rule 14.6: the lists for bids and for paths and the scratch are new in each round, of the lengths of rule 13.1
abbrev pub answers_lent : List ℕ
answers_lent = replicate bid_answer_words 0

abbrev pub results_lent : List ℕ
results_lent = replicate path_answer_words 0

abbrev pub scratch_lent : List ℕ
scratch_lent = replicate scratch_words 0

-- a round, called with the words of its bids
abbrev pub round_with : List ℕ → Rule
round_with bids = round bids answers_lent results_lent scratch_lent

-- rule 14.6: one round more, over the book and the register that the calls before it left
unfoldable pub sheet_round : Book → List ℕ → List RoundMade → List ℕ → Progress
sheet_round b words before bids =
    record {
      outcome = outcome_of (round_with bids) b words;
      words = words_after (round_with bids) b words;
      rounds =
          before
          ++ (made bids (list_after to_answers (round_with bids) b words answers_lent) (list_after to_results (round_with bids) b words results_lent)
          ∷ []);
    }

-- rule 14.7: after a refused call no other is made
abbrev pub unless_stopped : ℕ → Progress → Progress → Progress
unless_stopped zero done next = next
unless_stopped (suc n) done next = done

-- rule 14.6: a round for each section, by the words of its bids
abbrev pub rounds_from : Progress → List (List ℕ) → Progress
rounds_from done [] = done
rounds_from done (bids ∷ more) =
    rounds_from
    (unless_stopped (answer_number done.outcome.answer) done
    (sheet_round done.outcome.book done.words done.rounds bids))
    more

-- before the first round
abbrev pub begun : Outcome → Progress
begun o = record { outcome = o; words = empty_register; rounds = [] }

-- ---- The output

-- rules 14.7 and 14.9: the award sheet; or the one line of the refusal, also where a round before it was answered
abbrev pub rounds_output : ℕ → List ℕ → Progress → List ℕ
rounds_output zero listed done = award_text done.rounds done.outcome.book listed
rounds_output (suc n) listed done = refused_text (suc n)

abbrev pub ended : List ℕ → Progress → List ℕ
ended listed done = rounds_output (answer_number done.outcome.answer) listed done

-- the output, from the outcome of the calls up to open, the bidders listed, and the words of the rounds
unfoldable pub output_from : Outcome → List ℕ → List (List ℕ) → List ℕ
output_from o listed rounds = ended listed (rounds_from (begun o) rounds)
