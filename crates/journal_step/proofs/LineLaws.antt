-- Laws about a line of a journal: what a call is lent, and the line of a fresh book.
use mathlib.Core.Path.{◌≡◌, refl, sym, ◌∙◌, ap}
use mathlib.Core.Bool.{Bool, true, false, cond, false≢true}
use mathlib.Core.List.{List, []}
use mathlib.Core.Logic.{◌⊎◌, ⊎_elim}
use Prim.Native.Nat.{ℕ}
use lib.IntN.{ℤ}
use Rattle.std.specs.Prelude.{Result, is_err, Ok, Err}
use Rattle.market.specs.declared.answer.Answer.{Answer}
use Rattle.market.specs.declared.answer.Answer.TheVariants.{Done, Drawn, Bids}
use lib.ListN.{length, drop, replicate}
use Rattle.market.specs.Answers.{bids_in, first_of, decided, answered, numbered, Verdict}
use Rattle.market.specs.Fresh.{fresh_refusals, fresh_book, no_book, fresh}
use Rattle.market.specs.Limits.{bidder_limit, bid_answer_words, path_answer_words, scratch_words}
use Rattle.market.specs.declared.book.Book.{Book}
use Rattle.market.specs.declared.book.Route.{Route}
use Rattle.market.specs.declared.answer.Outcome.{Outcome}
use Rattle.market.specs.Books.{paths_of}
use Rattle.market.specs.declared.answer.Refusal.{Refusal}
use Rattle.engine.specs.Lent.{lent}
use Rattle.call_rules.specs.Steps.{Left}
use Rattle.engine.specs.Step.{step}
use Rattle.engine.specs.declared.calls.Call.{Call}
use Rattle.journal_reply.specs.Replies.{reply_text}
use Rattle.journal_reply.specs.declared.Told.{Told}
use Rattle.journal_reply.specs.declared.Told.TheVariants.{Nothing, Listed}
use Rattle.journal_fresh_line.specs.FreshLines.{fresh_said}
use Rattle.journal_fresh_line.specs.declared.FreshLine.{FreshLine}
use Rattle.journal_step.specs.declared.Journal.{Journal}
use Rattle.journal_step.specs.declared.answers.Tell.{Tell}
use Rattle.journal_step.specs.declared.answers.Tell.TheVariants as tells
use Rattle.journal_step.specs.LineStep.{column, lent_with, is_round, left_by, offers_of, tell_by, text_by, call_text}
use Rattle.journal_step.specs.LineStep.{Stepped, turned_away, fresh_state, fresh_by, fresh_step, call_line_step, fresh_word, is_fresh, line_step}

pub lent_same :
    (list :
    List ℕ) (prices : List ℤ) (amounts answers results scratch p q r s : List ℕ) → p ≡ column 0 list → q ≡ column 1 list → r ≡ column 2 list → s ≡ column 3 list
    → lent list list prices p q r s amounts answers results scratch ≡ lent_with list prices amounts answers results scratch
lent_same list prices amounts answers results scratch p q r s a b c d = rw (a, b, c, d)

-- what a call leaves where its lists are as long as it takes them; `t` says whether it is a round
pub left-same :
    (b :
    Book) (register : List ℕ) (call : Call) (list : List ℕ) (prices : List ℤ) (t : Bool) → is_round (tell_by call) ≡ t
    → step b register call (lent_with list prices (replicate bidder_limit 0) (replicate (cond t bid_answer_words 0) 0) (replicate path_answer_words 0) (replicate (cond t scratch_words 0) 0))
    ≡ left_by b register call list prices
left-same b register call list prices t e =
    ap (λ (x : Bool). step b register call (lent_with list prices (replicate bidder_limit 0) (replicate (cond x bid_answer_words 0) 0)
    (replicate path_answer_words 0) (replicate (cond x scratch_words 0) 0)))
    (sym e)

-- a refusal's number tells of no bids either
pub bids-numbered : (answer : Result Answer Refusal) → bids_in (numbered answer) ≡ bids_in answer
bids-numbered (Ok Done) = refl
bids-numbered (Ok (Drawn draw)) = refl
bids-numbered (Ok (Bids bids)) = refl
bids-numbered (Err refusal) = refl

-- a fresh book tells of no bids
decided-none : (v : Verdict) (b : Book) → bids_in (decided no_book v (answered b)).answer ≡ 0
decided-none (Ok done) b = refl
decided-none (Err refusal) b = refl

pub fresh-none : (routes : List Route) (n : ℕ) → bids_in (fresh routes n).answer ≡ 0
unfolding fresh
fresh-none routes n = decided-none (first_of (fresh_refusals routes n)) (fresh_book routes n)

module _ (j : Journal) (register : List ℕ) (f : FreshLine) where
  abbrev either : Bool → Stepped
  either t = cond t (fresh_by j register (fresh f.routes f.count)) (turned_away j register)

  pub fresh-away : f.present ≡ false → fresh_step j register f ≡ turned_away j register
  fresh-away e = ap either e

  pub fresh-made : f.present ≡ true → fresh_step j register f ≡ fresh_by j register (fresh f.routes f.count)
  fresh-made e = ap either e

pub fresh_kept : (j : Journal) (answer : Result Answer Refusal) (b : Book) → is_err answer ≡ true → fresh_state j answer b ≡ j
fresh_kept j (Ok answer) b h = absurd (false≢true h)
fresh_kept j (Err refusal) b h = refl

pub fresh-taken : (j : Journal) (answer : Result Answer Refusal) (b : Book) → is_err answer ≡ false → fresh_state j answer b ≡ record { ready = true; book = b }
fresh-taken j (Ok answer) b h = refl
fresh-taken j (Err refusal) b h = absurd (false≢true (sym h))

-- the reply to a call, by what it tells
module _
    (o : Outcome) (amounts answers results : List ℕ) (count : ℕ) (e : count ≡ length (paths_of o.book)) (tell : Tell) (said : Result Answer ℕ) (s : said ≡ numbered o.answer)
  where
    told : (t : Tell) → tell ≡ t → text_by t o amounts answers results ≡ text_by tell o amounts answers results
    told t is = ap (λ (x : Tell). text_by x o amounts answers results) (sym is)

    counted : (how : Told) (list : List ℕ) → reply_text said how list answers count results ≡ reply_text (numbered o.answer) how list answers (length (paths_of o.book)) results
    counted how list =
        ap (λ (n : ℕ). reply_text said how list answers n results) e
        ∙ ap (λ (a : Result Answer ℕ). reply_text a how list answers (length (paths_of o.book)) results) s

    -- the first arm is that of its two cases without a list
    pub text-bare : (tell ≡ tells.Nothing) ⊎ (tell ≡ tells.Awards) → reply_text said Nothing [] answers count results ≡ text_by tell o amounts answers results
    text-bare one = counted Nothing [] ∙ ⊎_elim (told tells.Nothing) (told tells.Awards) one

    pub text-offers : tell ≡ tells.Offers → (list : List ℕ) → list ≡ offers_of o.book → reply_text said Listed list answers count results ≡ text_by tell o amounts answers results
    text-offers is list l =
        ap (λ (x : List ℕ). reply_text said Listed x answers count results) l
        ∙ counted Listed (offers_of o.book)
        ∙ told tells.Offers is

    pub text-amounts : tell ≡ tells.Amounts → reply_text said Listed amounts answers count results ≡ text_by tell o amounts answers results
    text-amounts is = counted Listed amounts ∙ told tells.Amounts is

-- the reply to a call is made of what the call left
pub call-text :
    (call : Call) (now left : Left) (tell : Tell) → tell ≡ tell_by call → now ≡ left
    → text_by tell now.outcome now.lists.amounts now.lists.answers now.lists.results ≡ call_text call left
call-text call now left tell is same =
    ap (λ (t : Tell). text_by t now.outcome now.lists.amounts now.lists.answers now.lists.results) is ∙ ap (call_text call) same

-- the line of a fresh book does not look at the register, and leaves it as it was
module _ (j : Journal) (register : List ℕ) (f : FreshLine) where
  abbrev step_of : List ℕ → Bool → Stepped
  step_of words t = cond t (fresh_by j words (fresh f.routes f.count)) (turned_away j words)

  pub fresh-journal : (fresh_step j [] f).journal ≡ (fresh_step j register f).journal
  fresh-journal = go f.present
    where
      go : (t : Bool) → (step_of [] t).journal ≡ (step_of register t).journal
      go true = refl
      go false = refl

  pub fresh-text : (fresh_step j [] f).text ≡ (fresh_step j register f).text
  fresh-text = go f.present
    where
      go : (t : Bool) → (step_of [] t).text ≡ (step_of register t).text
      go true = refl
      go false = refl

  pub fresh-register : register ≡ (fresh_step j register f).register
  fresh-register = go f.present
    where
      go : (t : Bool) → register ≡ (step_of register t).register
      go true = refl
      go false = refl

-- the line of a fresh book, and any other line
module _ (j : Journal) (register line : List ℕ) where
  abbrev as_fresh : Stepped
  as_fresh = fresh_step j register (fresh_said (drop (length fresh_word) line))

  pub line-fresh : is_fresh line ≡ true → as_fresh ≡ line_step j register line
  unfolding line_step
  line-fresh e = ap (λ (t : Bool). cond t as_fresh (call_line_step j register line)) (sym e)

  pub line-said : is_fresh line ≡ false → call_line_step j register line ≡ line_step j register line
  unfolding line_step
  line-said e = ap (λ (t : Bool). cond t as_fresh (call_line_step j register line)) (sym e)
