-- What one deposit keeps of a book, whether it is answered or refused, deposits one after another keep: a sound book stays sound. And a book
-- that is not sound is refused at the first deposit that is asked for.
use mathlib.Core.Path.{◌≡◌, refl, sym, ◌∙◌, ap}
use mathlib.Core.Bool.{Bool, true, false, cond, ◌&&◌}
use mathlib.Core.List.{List, [], ◌∷◌}
use Prim.Native.Nat.{ℕ, zero, suc}
use native.Mathlib.Omega.{arith}
use lib.Dec.{eqb}
use borrow.Author.Tests.{ne_eqb}
use Rattle.std.specs.Prelude.{Result, Ok, Err}
use Rattle.market.specs.Answers.{answered, refused, decided, Verdict}
use Rattle.market.specs.Books.{every, cents, bidder_of, with_bidder}
use Rattle.market.specs.Sound.{sound_book}
use Rattle.market.specs.declared.answer.Answer.{Answer}
use Rattle.market.specs.declared.answer.Outcome.{Outcome}
use Rattle.market.specs.declared.answer.Refusal.{Refusal}
use Rattle.market.specs.declared.book.Book.{Book}
use Rattle.market.specs.declared.units.Cents.{Cents}
use Rattle.call_rules.proofs.Decides.{by_verdict, refuses, own-decide}
use Rattle.call_rules.proofs.SoundStates.{book-kept}
use Rattle.call_rules.specs.Steps.{no_register, verdict_of, outcome_of}
use Rattle.call_funding.specs.Deposit.{with_deposit, deposit_refusals, deposit}
use Rattle.call_funding.specs.Deposits.{unless_refused, and_then, deposit_if, bidder_deposits, list_deposits, no_deposit}
use Rattle.call_funding.specs.declared.BidderDeposits.{BidderDeposits}
use Rattle.call_funding.specs.declared.Funds.{Funds}
use Rattle.call_funding.specs.declared.Funds.TheVariants.{Cash, Letter}
use Rattle.call_funding.proofs.Cleared.{deposit-cleared}
use Rattle.call_funding.proofs.FundingLaws.{credited-sound}

-- ---- What deposits keep of a book

module _ (P : Book → Type 0) where
  pub next-keeps : (a : Result Answer Refusal) (done next : Outcome) → P done.book → P next.book → P (unless_refused a done next).book
  next-keeps (Ok answer) done next a b = b
  next-keeps (Err refusal) done next a b = a

  module _ (one : (b : Book) (i : ℕ) (to : Funds) (amount : Cents) → P b → P (outcome_of (deposit i to amount) b no_register).book) where
    pub deposit-if-keeps : (amount : ℕ) (b : Book) (i : ℕ) (to : Funds) → P b → P (deposit_if amount b i to).book
    deposit-if-keeps zero b i to h = h
    deposit-if-keeps (suc n) b i to h = one b i to (cents (suc n)) h

    pub both-keep : (b : Book) (x : BidderDeposits) → P b → P (bidder_deposits b x).book
    both-keep b x h =
        let cash = deposit_if x.cash.0 b x.bidder Cash in
        let first = deposit-if-keeps x.cash.0 b x.bidder Cash h in
        next-keeps cash.answer cash (deposit_if x.letter.0 cash.book x.bidder Letter) first
        (deposit-if-keeps x.letter.0 cash.book x.bidder Letter first)

    pub list-keeps : (b : Book) (xs : List BidderDeposits) → P b → P (list_deposits b xs).book
    list-keeps b [] h = h
    list-keeps b (x ∷ xs) h =
        let both = both-keep b x h in
        next-keeps (bidder_deposits b x).answer (bidder_deposits b x) (list_deposits (bidder_deposits b x).book xs) both
        (list-keeps (bidder_deposits b x).book xs both)

-- ---- A sound book

abbrev pub Sound : Book → Type 0
Sound b = sound_book b ≡ true

pub deposit-stays-sound : (b : Book) (i : ℕ) (to : Funds) (amount : Cents) → Sound b → Sound (outcome_of (deposit i to amount) b no_register).book
unfolding outcome_of verdict_of deposit
deposit-stays-sound b i to amount sound =
    let after = with_deposit (bidder_of b i) to amount in
    by_verdict (λ (v : Verdict). Sound (decided b v (answered (with_bidder b i after))).book) (verdict_of (deposit i to amount) b no_register)
    (λ none.
    book-kept b i after sound
    (credited-sound b i to amount sound
    (deposit-cleared b i to amount (sym (own-decide b (deposit_refusals b i to amount) sound) ∙ none)).1))
    (λ r. sound)

-- ---- A book that is not sound

module _ (b : Book) (unsound : sound_book b ≡ false) where
  -- nothing where no deposit is asked for, else 2
  abbrev asked : Bool → Outcome
  asked none = cond none (answered b) (refused b Refusal.Unsound)

  pub unsound-refused : (i : ℕ) (to : Funds) (amount : Cents) → refused b Refusal.Unsound ≡ outcome_of (deposit i to amount) b no_register
  unfolding verdict_of deposit
  unsound-refused i to amount = refuses (deposit i to amount) b no_register (Err Refusal.Unsound) (rw unsound) refl

  one-asked : (amount : ℕ) (i : ℕ) (to : Funds) → deposit_if amount b i to ≡ asked (eqb amount 0)
  one-asked zero i to = refl
  one-asked (suc n) i to = rw (ne_eqb (suc n) 0 (λ e. omega (arith, e))) (sym (unsound-refused i to (cents (suc n))))

  then-asked : (s t : Bool) (first : Outcome) (next : Book → Outcome) → first ≡ asked s → next b ≡ asked t → and_then first next ≡ asked (s && t)
  then-asked true t first next p q = ap (λ (o : Outcome). and_then o next) p ∙ q
  then-asked false t first next p q = ap (λ (o : Outcome). and_then o next) p

  both-asked : (x : BidderDeposits) → bidder_deposits b x ≡ asked (no_deposit x)
  both-asked x =
      then-asked (eqb x.cash.0 0) (eqb x.letter.0 0) (deposit_if x.cash.0 b x.bidder Cash) (λ after. deposit_if x.letter.0 after x.bidder Letter)
      (one-asked x.cash.0 x.bidder Cash) (one-asked x.letter.0 x.bidder Letter)

  pub list-asked : (xs : List BidderDeposits) → list_deposits b xs ≡ asked (every no_deposit xs)
  list-asked [] = refl
  list-asked (x ∷ xs) = then-asked (no_deposit x) (every no_deposit xs) (bidder_deposits b x) (λ after. list_deposits after xs) (both-asked x) (list-asked xs)
