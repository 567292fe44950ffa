-- Laws about tables of refusals, and about a call that a table decides.
use mathlib.Core.Path.{◌≡◌, refl, sym, ◌∙◌, ap}
use mathlib.Core.Bool.{Bool, true, false, cond, false≢true}
use mathlib.Core.List.{List, [], ◌∷◌, ◌++◌}
use native.Mathlib.Omega.{arith}
use lib.Dec.{ltb}
use borrow.Author.Tests.{ltb-true}
use Rattle.std.specs.Prelude.{Result, Ok, Err, is_err, ℕ}
use Rattle.market.specs.Answers.{Row, Verdict, no_refusal, first_of, answer_number, numbered, refusal_number, decided, refused}
use Rattle.market.specs.declared.answer.Answer.{Answer}
use Rattle.market.specs.declared.answer.Outcome.{Outcome}
use Rattle.market.specs.declared.answer.Refusal.{Refusal}
use Rattle.market.specs.declared.book.Book.{Book}

positive : (r : Refusal) → ltb 0 (refusal_number r) ≡ true
positive Refusal.ShortBuffer = refl
positive Refusal.Unsound = refl
positive Refusal.Bidder = refl
positive Refusal.Amount = refl
positive Refusal.Withdrawal = refl
positive Refusal.Payment = refl
positive Refusal.Bid = refl
positive Refusal.SecondBid = refl
positive Refusal.Stamp = refl
positive Refusal.Stage = refl
positive Refusal.Days = refl
positive Refusal.BidList = refl
positive Refusal.RegisterFull = refl
positive Refusal.NothingDue = refl
positive Refusal.Quantity = refl
positive Refusal.ZonePrice = refl
positive Refusal.Account = refl
positive Refusal.Total = refl
positive Refusal.Columns = refl
positive Refusal.Form = refl

-- every refusal has a number above 0, which stands for none
pub number-above : (r : Refusal) → refusal_number r ≡ 0 → ⊥
number-above r is =
    let above = ltb-true 0 (refusal_number r) (positive r) in
    absurd (let no : ⊥ = omega (arith, is, above) in no)

-- what a call tells has its number: none where it is answered, and one above 0 where it is refused
abbrev number_in : Result Answer ℕ → ℕ
number_in (Ok answer) = 0
number_in (Err number) = number

number-told : (answer : Result Answer Refusal) → number_in (numbered answer) ≡ answer_number answer
number-told (Ok answer) = refl
number-told (Err refusal) = refl

pub told-number : (answer : Result Answer Refusal) {n : ℕ} → numbered answer ≡ Err n → n ≡ answer_number answer
told-number answer is = sym (ap number_in is) ∙ number-told answer

pub told-none : (answer : Result Answer Refusal) {done : Answer} → numbered answer ≡ Ok done → answer_number answer ≡ 0
told-none answer is = sym (number-told answer) ∙ ap number_in is

pub told-above : (answer : Result Answer Refusal) {n : ℕ} → numbered answer ≡ Err n → n ≡ 0 → ⊥
told-above (Ok answer) is none = false≢true (ap is_err is)
told-above (Err refusal) is none = number-above refusal (sym (told-number (Err refusal) is) ∙ none)

-- a refusal is not the verdict that nothing refuses
pub err-not-none : (r : Refusal) → ◌≡◌ {A = Verdict} (Err r) no_refusal → ⊥
err-not-none r is = false≢true (sym (ap is_err is))

-- where a call is answered, its table gives no refusal
pub none-refused : (b : Book) (v : Verdict) (taken : Outcome) → answer_number (decided b v taken).answer ≡ 0 → v ≡ no_refusal
none-refused b (Ok done) taken none = refl
none-refused b (Err r) taken none = absurd (number-above r none)

-- a function that first computes its table's verdict: what a refusal gives, and what none gives
module _ (b : Book) (table : List Row) (taken : Outcome) (v : Verdict) (is : v ≡ first_of table) where
  pub refuses : {r : Refusal} → v ≡ Err r → refused b r ≡ decided b (first_of table) taken
  refuses given = ap (λ (w : Verdict). decided b w taken) (sym given ∙ is)

  pub takes : v ≡ no_refusal → taken ≡ decided b (first_of table) taken
  takes none = ap (λ (w : Verdict). decided b w taken) (sym none ∙ is)

stands : (t : Bool) (k : Refusal) (a b : Verdict) → (cond t (Err k) b ≡ no_refusal → ⊥) → ((b ≡ no_refusal → ⊥) → a ≡ b) → cond t (Err k) a ≡ cond t (Err k) b
stands true k a b h same = refl
stands false k a b h same = same h

passes : (t : Bool) (k : Refusal) (a b c : Verdict) → cond t (Err k) b ≡ no_refusal → (b ≡ no_refusal → a ≡ c) → cond t (Err k) a ≡ c
passes true k a b c h same = absurd (err-not-none k h)
passes false k a b c h same = same h

-- a table in two parts: a refusal of the first part is the whole table's; if there is none, the second part decides
pub first-stands : (rows more : List Row) → (first_of rows ≡ no_refusal → ⊥) → first_of (rows ++ more) ≡ first_of rows
first-stands [] more h = absurd (h refl)
first-stands (row ∷ rows) more h =
    stands row.0 row.1 (first_of (rows ++ more)) (first_of rows) h (λ k. first-stands rows more k)

pub second-decides : (rows more : List Row) → first_of rows ≡ no_refusal → first_of (rows ++ more) ≡ first_of more
second-decides [] more h = refl
second-decides (row ∷ rows) more h =
    passes row.0 row.1 (first_of (rows ++ more)) (first_of rows) (first_of more) h (λ k. second-decides rows more k)

both : (t : Bool) (k : Refusal) (a b c : Verdict) → cond t (Err k) a ≡ no_refusal → (a ≡ no_refusal → (b ≡ no_refusal) × (c ≡ no_refusal)) → (cond t (Err k) b ≡ no_refusal) × (c ≡ no_refusal)
both true k a b c h rest = absurd (err-not-none k h)
both false k a b c h rest = rest h

-- if a table gives no refusal, the test of each row is false
abbrev pub NoneHold : List Row → Type 0
NoneHold [] = Unit {0}
NoneHold (row ∷ rows) = (row.0 ≡ false) × NoneHold rows

first-false : (t : Bool) (k : Refusal) (v : Verdict) → cond t (Err k) v ≡ no_refusal → (t ≡ false) × (v ≡ no_refusal)
first-false true k v h = absurd (err-not-none k h)
first-false false k v h = (refl, h)

pub none-hold : (rows : List Row) → first_of rows ≡ no_refusal → NoneHold rows
none-hold [] h = tt
none-hold (row ∷ rows) h =
    let first = first-false row.0 row.1 (first_of rows) h in
    (first.0, none-hold rows first.1)

-- if the whole table gives no refusal, neither part does
pub neither-holds : (rows more : List Row) → first_of (rows ++ more) ≡ no_refusal → (first_of rows ≡ no_refusal) × (first_of more ≡ no_refusal)
neither-holds [] more h = (refl, h)
neither-holds (row ∷ rows) more h =
    both row.0 row.1 (first_of (rows ++ more)) (first_of rows) (first_of more) h (λ k. neither-holds rows more k)

-- rows that give the same verdict, after the same rows
pub same_after : (rows one other : List Row) → first_of one ≡ first_of other → first_of (rows ++ one) ≡ first_of (rows ++ other)
same_after [] one other same = same
same_after (row ∷ rows) one other same = ap (cond row.0 (Err row.1)) (same_after rows one other same)
