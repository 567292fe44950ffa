-- The tables of the awards are the rule's, since the marks are the rule's padded with 0 and padding changes no award
-- (`awards-are`). With that put in, each callee's result is the rule's part, and `RoundBounds` gives the bounds on MW
-- and prices that the callees require.
use Rattle.std.specs.Prelude.{Ok}
use Rattle.market.specs.declared.answer.Outcome.{Outcome}
use Rattle.market.specs.Books.{every, in_cents, in_megawatts, with_front}
use Rattle.market.specs.Sound.{sound_book, period_of, sound_quantity}
use Rattle.market.specs.declared.answer.Answer.TheVariants.{Bids}
use Rattle.market.specs.declared.book.Book.{Book}
use Rattle.call_round.specs.declared.worked.Worked.{Worked}
use native.Mathlib.Omega.{arith}
use mathlib.Core.Path.{◌≡◌, ◌∙◌, ap, ap₂}
use mathlib.Core.Bool.{true}
use mathlib.Core.List.{List}
use Prim.Native.Nat.{ℕ, ◌+◌}
use lib.ListN.{length}
use Rattle.round_bids.specs.Bids.{Bid, bids_of}
use Rattle.round_bids.specs.Encoding.{right_bids}
use Rattle.round_awards.specs.Tables.{won_table, sold_table, price_table}
use Rattle.round_awards.specs.declared.Awarded.{Awarded}
use Rattle.round_charges.specs.Charges.{sound_clearing_price, bid_rows}
use Rattle.round_entries.specs.Entries.{new_entries}
use Rattle.round_paths.specs.PathRows.{path_rows}
use Rattle.call_round.specs.Padded.{padded}
use Rattle.call_round.specs.Ready.{RightList, WorkedOut, AwardedOut, awards_from}
use Rattle.call_round.specs.Round.{marks_now, awards_now, won_now, sold_now, prices_now, book_with, bid_answers_now, path_answers_now, round_outcome}
use Rattle.call_round.proofs.ReadyLaws.{right, right-list, marks-long, awards-are, paths-few}
use Rattle.call_round.proofs.RoundBounds.{won-quantities, sold-quantities, price-bounds}
use Rattle.call_round.proofs.RoundLaws.{padded-at, rows_same}
use Rattle.call_round.proofs.answered.Goals as goal

-- the outcome of an answered round
abbrev made : ℕ → Book → Outcome
made n after = record { answer = Ok (Bids n); book = after }

-- what is known at the start
module _
    (b : Book) (bid_words : List ℕ) (w : Worked) (award : Awarded) (ok : sound_book b ≡ true) (list : RightList b bid_words) (worked : WorkedOut b bid_words w)
    (out : AwardedOut w bid_words award)
  where
    abbrev bids : List Bid
    bids = bids_of bid_words

    good : right_bids b.path_count bids ≡ true
    good = right b _ ok list

    are : awards_from w bid_words ≡ awards_now b bids
    are = awards-are b _ ok list _ worked

    -- what the awards are, by the rule
    won : in_megawatts award.won ≡ won_now b bids
    won = out.won ∙ ap won_table are

    sold : in_megawatts award.sold ≡ sold_now b bids
    sold = out.sold ∙ ap sold_table are

    prices : in_cents award.prices ≡ prices_now b bids
    prices = out.prices ∙ ap price_table are

    won-sound : every sound_quantity (in_megawatts award.won) ≡ true
    won-sound = ap (every sound_quantity) won ∙ won-quantities b bids ok good

    sold-sound : every sound_quantity (in_megawatts award.sold) ≡ true
    sold-sound = ap (every sound_quantity) sold ∙ sold-quantities b bids ok good

    prices-sound : every sound_clearing_price (in_cents award.prices) ≡ true
    prices-sound = ap (every sound_clearing_price) prices ∙ price-bounds b bids ok good

    -- what the book, the answers of bids and those of paths are, by the rule
    book-is :
        (n : ℕ) → n ≡ b.entries + length (new_entries (period_of b.stage) (in_megawatts award.won) bids) → (after : Book)
        → after ≡ book_with b (in_megawatts award.won) (in_megawatts award.sold) (in_cents award.prices) bids n
        → made w.bids after ≡ round_outcome b bids
    book-is n count after is =
        ap₂ made worked.count
        (is
        ∙ ap (λ (l : List ℕ). book_with b l (in_megawatts award.sold) (in_cents award.prices) bids n) won
        ∙ ap (λ (l : List ℕ). book_with b (won_now b bids) l (in_cents award.prices) bids n) sold
        ∙ ap₂ (λ (l : List ℕ) (m : ℕ). book_with b (won_now b bids) (sold_now b bids) l bids m) prices
        (count ∙ ap (λ (l : List ℕ). b.entries + length (new_entries (period_of b.stage) l bids)) won))

    bids-are :
        (answers : List ℕ)
        → with_front (bid_rows w.marks (in_megawatts award.won) (in_cents award.prices) bids) answers ≡ with_front (bid_answers_now b bids) answers
    bids-are answers =
        ap₂ (λ (l m : List ℕ). with_front (bid_rows w.marks l m bids) answers) won prices
        ∙ ap (λ (l : List ℕ). with_front (bid_rows l (won_now b bids) (prices_now b bids) bids) answers) worked.marks
        ∙ ap (λ (l : List ℕ). with_front l answers)
        (rows_same (padded (marks_now b bids) (length bids)) (marks_now b bids) (padded-at (marks_now b bids) (length bids)) (won_now b bids) (prices_now b bids) 0 bids)

    paths-are :
        (results : List ℕ)
        → with_front (path_rows (in_megawatts w.offered) (in_megawatts award.sold) (in_cents award.prices) b.path_count) results
        ≡ with_front (path_answers_now b bids) results
    paths-are results =
        ap₂ (λ (l m : List ℕ). with_front (path_rows (in_megawatts w.offered) l m b.path_count) results) sold prices
        ∙ ap (λ (l : List ℕ). with_front (path_rows l (sold_now b bids) (prices_now b bids) b.path_count) results) worked.offers

pub add_winners-count-requires : goal.add_winners-count-requires
add_winners-count-requires c =
    let r = c.requires in
    let b = c.args.book in
    let is = won b c.args.bids.now c.args.worked c.args.awarded r.lent_register.sound r.right_list r.worked_out r.awarded_out in
    let same = ap (λ (l : List ℕ). length (new_entries (period_of b.stage) l (bids_of c.args.bids.now))) is in
    record {
      bid_list = right-list b _ r.lent_register.sound r.right_list;
      bids_bound = omega (arith, same, r.bids_bound);
      register_words_in_bounds = r.lent_register.long;
    }

pub write_answers-requires : goal.write_answers-requires
write_answers-requires c =
    let r = c.requires in
    let b = c.args.book in
    let ok = r.lent_register.sound in
    record {
      paths_le_path_limit = paths-few b _ ok r.right_list;
      bid_list = right-list b _ ok r.right_list;
      marks_len = marks-long b _ ok r.right_list _ r.worked_out;
      won_value = won-sound b c.args.bids.now c.args.worked c.args.awarded ok r.right_list r.worked_out r.awarded_out;
      prices_value = prices-sound b c.args.bids.now c.args.worked c.args.awarded ok r.right_list r.worked_out r.awarded_out;
      bid_answer_words_in_bounds = r.bid_answer_words_in_bounds;
      path_answer_words_in_bounds = r.path_answer_words_in_bounds;
    }

pub book_with-requires : goal.book_with-requires
book_with-requires c =
    let r = c.requires in
    let b = c.args.book in
    let ok = r.lent_register.sound in
    record {
      book_value = ok;
      bid_list = right-list b _ ok r.right_list;
      won_value = won-sound b c.args.bids.now c.args.worked c.args.awarded ok r.right_list r.worked_out r.awarded_out;
      sold_value = sold-sound b c.args.bids.now c.args.worked c.args.awarded ok r.right_list r.worked_out r.awarded_out;
      prices_value = prices-sound b c.args.bids.now c.args.worked c.args.awarded ok r.right_list r.worked_out r.awarded_out;
    }

pub returns : goal.returns
returns c =
    let r = c.requires in
    let a = c.args in
    let ok = r.lent_register.sound in
    let is = won a.book a.bids.now a.worked a.awarded ok r.right_list r.worked_out r.awarded_out in
    let add = c.add_winners-count.ensures in
    record {
      outcome = book-is a.book a.bids.now a.worked a.awarded ok r.right_list r.worked_out r.awarded_out _ add.count _ c.book_with.ensures;
      register = add.words ∙ rw is;
      bids = c.write_answers.ensures.bids ∙ bids-are a.book a.bids.now a.worked a.awarded ok r.right_list r.worked_out r.awarded_out a.answers.now;
      paths = c.write_answers.ensures.paths ∙ paths-are a.book a.bids.now a.worked a.awarded ok r.right_list r.worked_out r.awarded_out a.results.now;
    }
