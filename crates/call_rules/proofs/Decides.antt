-- A function that first works out whether it is refused: what it returns, and what it leaves of what it is lent.
use mathlib.Core.Path.{◌≡◌, refl, sym, ◌∙◌, ap, subst}
use mathlib.Core.Bool.{Bool, true, false, cond, not}
use mathlib.Core.List.{List, ◌∷◌, ◌++◌}
use Prim.Native.Nat.{ℕ}
use lib.Dec.{eqb}
use borrow.Author.Tests.{not-false}
use Rattle.std.specs.Prelude.{Ok, Err}
use Rattle.market.proofs.Tables.{none-hold, neither-holds, first-stands, err-not-none}
use Rattle.market.specs.Answers.{Row, Verdict, no_refusal, refusal_number, decided, first_of, refused}
use Rattle.market.specs.Sound.{sound_book}
use Rattle.market.specs.declared.answer.Refusal.{Refusal}
use Rattle.market.specs.declared.book.Book.{Book}
use Rattle.register.proofs.Cleared.{register-cleared}
use Rattle.register.specs.Refusals.{register_refusals, LentRegister}
use Rattle.call_rules.specs.Rule.{Register, Front, Fronts, Ruling, Rule}
use Rattle.call_rules.specs.Rule.Register.{unlent, read, changed}
use Rattle.call_rules.specs.Rule.Front.{kept, put}
use Rattle.call_rules.specs.Rules.{unsound_book, list_by}
use Rattle.call_rules.specs.Steps.{register_rows, ruling_of, verdict_of, outcome_of, words_by, words_after, list_after, ScratchBy, ScratchAfter}

-- whether a call is answered or refused
pub by_verdict : (P : Verdict → Type 0) (v : Verdict) → (v ≡ no_refusal → P no_refusal) → ((r : Refusal) → P (Err r)) → P v
by_verdict P (Ok done) answered refused = answered refl
by_verdict P (Err r) answered refused = refused r

-- that it is refused
pub by-refusal : (P : Verdict → Type 0) (v : Verdict) → (v ≡ no_refusal → ⊥) → ((r : Refusal) → P (Err r)) → P v
by-refusal P v some refused = by_verdict P v (λ none. absurd (some none)) refused

-- a refusal leaves the words, a lent list and the scratch as they were
pub words_same : (register : Register) (r : Refusal) (words : List ℕ) → words_by register (Err r) words ≡ words
words_same unlent r words = refl
words_same read r words = refl
words_same (changed after) r words = refl

pub front_same : (front : Front) (r : Refusal) (before : List ℕ) → list_by front (Err r) before ≡ before
front_same kept r before = refl
front_same (put words) r before = refl

pub scratch-same : (free : Bool) (r : Refusal) (before after : List ℕ) → ScratchBy free (Err r) before after → after ≡ before
scratch-same false r before after holds = holds
scratch-same true r before after holds = holds

-- a scratch that was not touched is as it may be
scratch-untouched : (free : Bool) (v : Verdict) (before : List ℕ) → ScratchBy free v before before
scratch-untouched false v before = refl
scratch-untouched true (Ok done) before = refl
scratch-untouched true (Err r) before = refl

module _ (rule : Rule) (b : Book) (words : List ℕ) (v : Verdict) (is : v ≡ verdict_of rule b words) where
  module _ {r : Refusal} (given : v ≡ Err r) where
    pub refuses : refused b r ≡ outcome_of rule b words
    unfolding outcome_of
    refuses = ap (λ (w : Verdict). decided b w (ruling_of rule b words).outcome) (sym given ∙ is)

    pub words-stay : words ≡ words_after rule b words
    unfolding words_after
    words-stay =
        let register = (ruling_of rule b words).register in
        sym (words_same register r words) ∙ ap (λ (w : Verdict). words_by register w words) (sym given ∙ is)

    pub list-stays : (which : Fronts → Front) (before : List ℕ) → before ≡ list_after which rule b words before
    unfolding list_after
    list-stays which before =
        let front = which (ruling_of rule b words).fronts in
        sym (front_same front r before) ∙ ap (λ (w : Verdict). list_by front w before) (sym given ∙ is)

    pub scratch-stays : (before : List ℕ) → ScratchAfter rule b words before before
    unfolding ScratchAfter
    scratch-stays before = scratch-untouched (ruling_of rule b words).fronts.free (verdict_of rule b words) before

  module _ (none : v ≡ no_refusal) where
    pub takes : (ruling_of rule b words).outcome ≡ outcome_of rule b words
    unfolding outcome_of
    takes = ap (λ (w : Verdict). decided b w (ruling_of rule b words).outcome) (sym none ∙ is)

    pub words-change : words_by (ruling_of rule b words).register no_refusal words ≡ words_after rule b words
    unfolding words_after
    words-change = ap (λ (w : Verdict). words_by (ruling_of rule b words).register w words) (sym none ∙ is)

    pub list-changes : (which : Fronts → Front) (before : List ℕ) → list_by (which (ruling_of rule b words).fronts) no_refusal before ≡ list_after which rule b words before
    unfolding list_after
    list-changes which before = ap (λ (w : Verdict). list_by (which (ruling_of rule b words).fronts) w before) (sym none ∙ is)

    pub scratch-changes :
        (before after : List ℕ) → ScratchBy (ruling_of rule b words).fronts.free no_refusal before after → ScratchAfter rule b words before after
    unfolding ScratchAfter
    scratch-changes before after holds =
        subst (λ (w : Verdict). ScratchBy (ruling_of rule b words).fronts.free w before after) (sym none ∙ is) holds

-- ---- What is known where there is no refusal

-- a row that a call may have of its own: its number is not 2, which is that of the state
abbrev pub own_row : Row → Bool
own_row row = not (eqb (refusal_number row.1) 2)

-- neither the rows of the lent lists nor the call's own hold
pub record Cleared (ruling : Ruling) : Type 0 where
  pub lent : first_of ruling.lent ≡ no_refusal
  pub own : first_of ruling.own ≡ no_refusal

-- the book is sound, and so is the register where it is lent
abbrev pub Known : Register → Book → List ℕ → Type 0
Known unlent b words = sound_book b ≡ true
Known read b words = LentRegister b words
Known (changed after) b words = LentRegister b words

own-known : (register : Register) (b : Book) (words : List ℕ) (own : List Row) → first_of (register_rows register b words ++ own) ≡ no_refusal → Known register b words × (first_of own ≡ no_refusal)
own-known unlent b words own h =
    let both = neither-holds (register_rows unlent b words) own h in
    (not-false (sound_book b) (none-hold (register_rows unlent b words) both.0).0, both.1)
own-known read b words own h =
    let both = neither-holds (register_refusals b words) own h in (register-cleared b words both.0, both.1)
own-known (changed after) b words own h =
    let both = neither-holds (register_refusals b words) own h in (register-cleared b words both.0, both.1)

module _ (rule : Rule) (b : Book) (words : List ℕ) (none : verdict_of rule b words ≡ no_refusal) where
  parts : (first_of (ruling_of rule b words).lent ≡ no_refusal) × (first_of (register_rows (ruling_of rule b words).register b words ++ (ruling_of rule b words).own) ≡ no_refusal)
  unfolding verdict_of
  parts =
      let ruling = ruling_of rule b words in
      neither-holds ruling.lent (register_rows ruling.register b words ++ ruling.own) none

  known-own : Known (ruling_of rule b words).register b words × (first_of (ruling_of rule b words).own ≡ no_refusal)
  known-own = own-known (ruling_of rule b words).register b words (ruling_of rule b words).own parts.1

  pub known : Known (ruling_of rule b words).register b words
  known = known-own.0

  pub cleared : Cleared (ruling_of rule b words)
  cleared = record { lent = parts.0; own = known-own.1 }

-- where a call is lent nothing and the book is sound, its own rows decide
pub own-decide : (b : Book) (own : List Row) → sound_book b ≡ true → first_of (unsound_book b ∷ own) ≡ first_of own
own-decide b own sound = ap (λ (t : Bool). cond (not t) (Err Refusal.Unsound) (first_of own)) sound

-- ---- A table in two parts of which the first is worked out first

-- a refusal of the first part is the whole table's
pub first-refuses : (rows more : List Row) {r : Refusal} → first_of rows ≡ Err r → Err r ≡ first_of (rows ++ more)
first-refuses rows more {r} is = sym is ∙ sym (first-stands rows more (λ none. err-not-none r (sym is ∙ none)))
