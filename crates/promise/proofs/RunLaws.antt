-- What holds of each call in a sound state holds along every list of calls.
use mathlib.Core.Path.{◌≡◌, refl, sym, ◌∙◌, ap, ap₂}
use mathlib.Core.List.{List, [], ◌∷◌}
use Prim.Native.Nat.{ℕ, ◌+◌}
use lib.IntN.{ℤ, pos, neg_ℤ, ◌+ℤ◌, ◌-ℤ◌, +ℤ_assoc, +ℤ_comm, neg_ℤ-+ℤ, pos-+ℤ-pos}
use Rattle.market.specs.declared.book.Book.{Book}
use Rattle.register.specs.Refusals.{counted_entries}
use Rattle.call_rules.proofs.StepLaws as steps
use Rattle.call_rules.proofs.Sums.{nothing-moved}
use Rattle.call_rules.specs.Money.{worth}
use Rattle.call_rules.specs.State.{SoundMemory}
use Rattle.engine.proofs.Laws.{lawful}
use Rattle.engine.specs.Lent.{lists_of}
use Rattle.engine.specs.Rules.{rule_of}
use Rattle.promise.specs.Promise.{EachCall, NotUnsound}
use Rattle.promise.specs.Runs.{Request, Made, made_with, engine_step, engine_made, engine_run, rules_made, rules_run}
use Rattle.promise.specs.Sums.{money_in, money_out, all_in, all_out, last_book}

-- ---- One call

module _ (b : Book) (words : List ℕ) (sound : SoundMemory b words) (r : Request) where
  abbrev after : Book
  after = (engine_step b words r).outcome.book

  abbrev words_then : List ℕ
  words_then = (engine_step b words r).words

  -- it keeps the memory sound
  pub step_keeps : SoundMemory after words_then
  step_keeps = steps.memory_kept (rule_of r.what r.lent) (lists_of r.lent) (lawful r.what r.lent) b words sound

  -- it is the rules'
  step_same : engine_made b words r ≡ rules_made b (counted_entries b words) r
  step_same =
      ap (made_with b r)
      (steps.effect-same (rule_of r.what r.lent) (lists_of r.lent) (lawful r.what r.lent) b words sound)

  -- 2 is not its answer
  pub step-not-unsound : NotUnsound (engine_made b words r)
  step-not-unsound =
      steps.not-two (rule_of r.what r.lent) (lists_of r.lent) (lawful r.what r.lent) b words sound

  -- the money in the book differs by what came in and what went out
  step-money : worth after ≡ worth b +ℤ pos (money_in (engine_made b words r)) -ℤ pos (money_out (engine_made b words r))
  step-money =
      steps.money-moved (rule_of r.what r.lent) (lists_of r.lent) (lawful r.what r.lent) b words sound

-- ---- Every call of a list

-- a fact of every call that is made in a sound state
pub each-call :
    (P : Made → Type 0) → ((b : Book) (words : List ℕ) → SoundMemory b words → (r : Request) → P (engine_made b words r)) → (b : Book) (words : List ℕ) → SoundMemory b words
    → (calls : List Request) → EachCall P (engine_run b words calls)
each-call P fact b words sound [] = tt
each-call P fact b words sound (r ∷ rs) =
    (fact b words sound r, each-call P fact (after b words sound r) (words_then b words sound r) (step_keeps b words sound r) rs)

-- the engine's run is the rules'
pub run-same : (b : Book) (words : List ℕ) → SoundMemory b words → (calls : List Request) → engine_run b words calls ≡ rules_run b (counted_entries b words) calls
run-same b words sound [] = refl
run-same b words sound (r ∷ rs) =
    ap₂ ◌∷◌ (step_same b words sound r)
    (run-same (after b words sound r) (words_then b words sound r) (step_keeps b words sound r) rs
    ∙ ap (λ (m : Made). rules_run m.book m.entries rs) (step_same b words sound r))

-- ---- The money

-- what moves with one call and what moves with the rest
sums-add : (z : ℤ) (i o more out : ℕ) → z +ℤ pos i -ℤ pos o +ℤ pos more -ℤ pos out ≡ z +ℤ pos (i + more) -ℤ pos (o + out)
sums-add z i o more out =
    ap (λ (k : ℤ). k -ℤ pos out)
    (+ℤ_assoc (z +ℤ pos i) (neg_ℤ (pos o)) (pos more)
    ∙ ap (λ (k : ℤ). z +ℤ pos i +ℤ k) (+ℤ_comm (neg_ℤ (pos o)) (pos more))
    ∙ sym (+ℤ_assoc (z +ℤ pos i) (pos more) (neg_ℤ (pos o))))
    ∙ +ℤ_assoc (z +ℤ pos i +ℤ pos more) (neg_ℤ (pos o)) (neg_ℤ (pos out))
    ∙ ap₂ ◌+ℤ◌
    (+ℤ_assoc z (pos i) (pos more) ∙ ap (λ (k : ℤ). z +ℤ k) (pos-+ℤ-pos i more))
    (sym (neg_ℤ-+ℤ (pos o) (pos out)) ∙ ap neg_ℤ (pos-+ℤ-pos o out))

pub run-money :
    (b : Book) (words : List ℕ) → SoundMemory b words → (calls : List Request)
    → worth (last_book b (engine_run b words calls)) ≡ worth b +ℤ pos (all_in (engine_run b words calls)) -ℤ pos (all_out (engine_run b words calls))
run-money b words sound [] = nothing-moved (worth b)
run-money b words sound (r ∷ rs) =
    run-money (after b words sound r) (words_then b words sound r) (step_keeps b words sound r) rs
    ∙ ap (λ (z : ℤ). z +ℤ pos (all_in rest) -ℤ pos (all_out rest)) (step-money b words sound r)
    ∙ sums-add (worth b) (money_in (engine_made b words r)) (money_out (engine_made b words r)) (all_in rest) (all_out rest)
  where
    rest : List Made
    rest = engine_run (after b words sound r) (words_then b words sound r) rs
