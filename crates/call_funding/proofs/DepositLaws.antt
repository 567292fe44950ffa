-- Calls one after another, and deposits bidder by bidder, as `deposit_each` makes them.
use mathlib.Core.Path.{◌≡◌, refl, sym, ◌∙◌, ap}
use mathlib.Core.Bool.{Bool, true, false, false≢true}
use mathlib.Core.List.{List, ◌∷◌, map}
use Prim.Native.Nat.{ℕ, zero, suc, ◌+◌, ◌≤◌, ◌<◌, min}
use native.Mathlib.Numerals.{add-one}
use native.Mathlib.Omega.{arith}
use lib.Dec.{leb}
use lib.ListN.{length, get_or, take, drop, length-map, drop_of_length-le}
use lib.Seq.{length-take-le, take_all, drop-cons, get_or-take}
use borrow.Author.Tests.{leb-true, leb-false}
use Rattle.std.specs.Prelude.{Result, Ok, Err, is_err}
use Rattle.market.specs.Answers.{answered}
use Rattle.market.specs.Books.{cents}
use Rattle.market.specs.declared.answer.Answer.{Answer}
use Rattle.market.specs.declared.answer.Outcome.{Outcome}
use Rattle.market.specs.declared.answer.Refusal.{Refusal}
use Rattle.market.specs.declared.book.Book.{Book}
use Rattle.call_rules.specs.Steps.{no_register, outcome_of}
use Rattle.call_funding.specs.Deposit.{deposit}
use Rattle.call_funding.specs.Deposits.{unless_refused, and_then, deposit_if, bidder_deposits, list_deposits}
use Rattle.call_funding.specs.declared.BidderDeposits.{BidderDeposits}
use Rattle.call_funding.specs.declared.Funds.{Funds}
use Rattle.call_funding.specs.declared.Funds.TheVariants.{Cash, Letter}

-- ---- A call after others

unless-refused : (a : Result Answer Refusal) (done next : Outcome) → is_err a ≡ true → done ≡ unless_refused a done next
unless-refused (Ok answer) done next some = absurd (false≢true some)
unless-refused (Err refusal) done next some = refl

unless-answered : (a : Result Answer Refusal) (done next : Outcome) → is_err a ≡ false → next ≡ unless_refused a done next
unless-answered (Ok answer) done next none = refl
unless-answered (Err refusal) done next none = absurd (false≢true (sym none))

module _ (done first : Outcome) (made : done ≡ first) (next : Book → Outcome) where
  abbrev made_then : unless_refused done.answer done (next done.book) ≡ and_then first next
  made_then = ap (λ (o : Outcome). and_then o next) made

  -- a call that is refused ends them
  pub then-refused : is_err done.answer ≡ true → done ≡ and_then first next
  then-refused some = unless-refused done.answer done (next done.book) some ∙ made_then

  -- after one that is answered the next is made
  pub then_next : is_err done.answer ≡ false → next done.book ≡ and_then first next
  then_next none = unless-answered done.answer done (next done.book) none ∙ made_then

-- ---- A deposit

pub none-deposited : (amount : ℕ) (b : Book) (bidder : ℕ) (to : Funds) → amount ≡ 0 → answered b ≡ deposit_if amount b bidder to
none-deposited zero b bidder to none = refl
none-deposited (suc n) b bidder to none = absurd (let clash : ⊥ = omega (arith, none) in clash)

pub some-deposited : (amount : ℕ) (b : Book) (bidder : ℕ) (to : Funds) → (amount ≡ 0 → ⊥) → outcome_of (deposit bidder to (cents amount)) b no_register ≡ deposit_if amount b bidder to
some-deposited zero b bidder to some = absurd (some refl)
some-deposited (suc n) b bidder to some = refl

-- ---- The deposits of a bidder

module _ (b : Book) (x : BidderDeposits) (o : Outcome) (made : o ≡ deposit_if x.cash.0 b x.bidder Cash) where
  abbrev letter : Book → Outcome
  letter after = deposit_if x.letter.0 after x.bidder Letter

  pub cash-refused : is_err o.answer ≡ true → o ≡ bidder_deposits b x
  cash-refused some = then-refused o (deposit_if x.cash.0 b x.bidder Cash) made letter some

  pub cash-made : is_err o.answer ≡ false → letter o.book ≡ bidder_deposits b x
  cash-made none = then_next o (deposit_if x.cash.0 b x.bidder Cash) made letter none

-- ---- Bidder by bidder

-- a bidder that asks for nothing, which is read past the end of a list
abbrev pub nothing_asked : BidderDeposits
nothing_asked = record { bidder = 0; cash = cents 0; letter = cents 0 }

-- the deposits of the bidders passed are made, and those of the others are still to come
pub record DepositsTo (b : Book) (bidders : List BidderDeposits) (count : ℕ) (now : Book) (i : ℕ) : Type 0 where
  pub within : i ≤ count
  pub room : count ≤ length bidders
  pub rest : list_deposits b (take count bidders) ≡ list_deposits now (drop i (take count bidders))

pub none_made : (b : Book) (bidders : List BidderDeposits) (count : ℕ) → count ≤ length bidders → DepositsTo b bidders count b 0
none_made b bidders count room = record { within = omega arith; room = room; rest = refl }

module _ (b : Book) (bidders : List BidderDeposits) (count : ℕ) (now : Book) (i : ℕ) (s : DepositsTo b bidders count now i) where
  -- every bidder is passed
  pub all_made : count ≤ i → answered now ≡ list_deposits b (take count bidders)
  all_made end =
      sym
      (s.rest
      ∙ ap (list_deposits now)
      (drop_of_length-le (take count bidders) (let e : length (take count bidders) ≤ i = omega (arith, length-take-le count bidders s.room) in e)))

  module _ (d : BidderDeposits) (o : Outcome) (made : o ≡ bidder_deposits now (get_or bidders i d)) (below : i < count) where
    one : list_deposits b (take count bidders) ≡ and_then (bidder_deposits now (get_or bidders i d)) (λ (after : Book). list_deposits after (drop (i + 1) (take count bidders)))
    one =
        s.rest
        ∙ ap (list_deposits now)
        (drop-cons (take count bidders) i d (omega (arith, length-take-le count bidders s.room))
        ∙ ap (λ (x : BidderDeposits). x ∷ drop (suc i) (take count bidders)) (get_or-take count bidders i d below)
        ∙ ap (λ (k : ℕ). get_or bidders i d ∷ drop k (take count bidders)) (sym (add-one i)))

    -- a deposit of the bidder here is refused
    pub bidder-refused : is_err o.answer ≡ true → o ≡ list_deposits b (take count bidders)
    bidder-refused some = then-refused o (bidder_deposits now (get_or bidders i d)) made (λ (after : Book). list_deposits after (drop (i + 1) (take count bidders))) some ∙ sym one

    -- the bidder here is passed
    pub bidder-done : is_err o.answer ≡ false → DepositsTo b bidders count o.book (i + 1)
    bidder-done none =
        record {
          within = omega arith;
          room = s.room;
          rest = one ∙ sym (then_next o (bidder_deposits now (get_or bidders i d)) made (λ (after : Book). list_deposits after (drop (i + 1) (take count bidders))) none);
        }

-- ---- The bidders listed

-- a list is as long as the list of the images of its elements
pub as_long : (A B : Type 0) (f : A → B) (xs : List A) (n : ℕ) → length (map f xs) ≡ n → length xs ≡ n
as_long A B f xs n long = sym (length-map xs f) ∙ long

-- counting at most as many as there are takes the same
pub take-listed : {A : Type 0} (l : List A) (count n : ℕ) → length l ≡ n → take (min count n) l ≡ take count l
take-listed l count n long = go (leb count n) refl
  where
    go : (t : Bool) → leb count n ≡ t → take (min count n) l ≡ take count l
    go true p =
        let few : count ≤ n = leb-true count n p in
        ap (λ (k : ℕ). take k l) (let e : min count n ≡ count = omega arith in e)
    go false p =
        let more : n < count = leb-false count n p in
        take_all (min count n) l (omega (arith, long)) ∙ sym (take_all count l (omega (arith, long)))
