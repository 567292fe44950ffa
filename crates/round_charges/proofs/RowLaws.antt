-- The answers of bids written over a lent list one by one, as `write_bids` does.
use mathlib.Core.Path.{◌≡◌, refl, sym, ◌∙◌, ap, ap₂}
use mathlib.Core.Bool.{true}
use mathlib.Core.List.{List, [], ◌∷◌, ◌++◌, append_assoc, append-nil}
use Prim.Native.Nat.{ℕ, ◌+◌, ◌*◌, ◌≤◌, ◌<◌}
use native.Mathlib.Omega.{arith}
use lib.ListN.{length, get_or, take, drop, length-append, length-drop}
use lib.Seq.{take-append_seam, drop-append-add, drop-drop}
use Rattle.market.specs.Limits.{bid_answer_size, path_limit}
use Rattle.round_bids.proofs.Walk.{Walk, left, walk_start, left-start, walk-on, walk-done, left-splits}
use Rattle.round_bids.specs.BidRefusals.{sound_list}
use Rattle.round_bids.specs.Bids.{Bid, bid_at, bid_end, bids_of, bid_value}
use Rattle.round_charges.specs.Charges.{charge_at, bid_row, bid_rows_from, bid_rows}
use Rattle.market.specs.Books.{with_front}

-- one row more after rows that are written over a list
pub lay-next : (before rows row : List ℕ) → take (length rows) (with_front rows before) ++ row ++ drop (length rows + length row) (with_front rows before) ≡ with_front (rows ++ row) before
lay-next before rows row =
    ap₂ (λ (x y : List ℕ). x ++ row ++ y) (take-append_seam rows (drop (length rows) before))
    (drop-append-add rows (drop (length rows) before) (length row) ∙ drop-drop (length row) (length rows) before)
    ∙ ap (λ (n : ℕ). rows ++ row ++ drop n before) (sym (length-append rows row))

-- the rows of the first `k` bids are written, and those of the rest are still to come
pub record LaidTo (words marks won prices before answers : List ℕ) (k at : ℕ) : Type 0 where
  pub walk : Walk path_limit words k at
  pub rows : List ℕ
  pub long : length rows ≡ k * bid_answer_size
  pub stored : answers ≡ with_front rows before
  pub rest : bid_rows marks won prices (bids_of words) ≡ rows ++ bid_rows_from marks won prices k (left walk)

pub none-laid : (words marks won prices before : List ℕ) → sound_list path_limit words ≡ true → LaidTo words marks won prices before before 0 0
none-laid words marks won prices before ok =
    record {
      walk = walk_start path_limit words ok;
      rows = [];
      long = refl;
      stored = refl;
      rest = ap (bid_rows_from marks won prices 0) (sym (left-start path_limit words ok));
    }

module _ {words marks won prices before answers : List ℕ} {k at : ℕ} (s : LaidTo words marks won prices before answers k at) where
  -- every bid has its row
  pub all_laid : length words ≤ at → answers ≡ with_front (bid_rows marks won prices (bids_of words)) before
  all_laid end =
      let whole : bid_rows marks won prices (bids_of words) ≡ s.rows =
      s.rest ∙ ap (λ (l : List Bid). s.rows ++ bid_rows_from marks won prices k l) (walk-done path_limit words k at s.walk end) ∙ append-nil s.rows in
      s.stored ∙ ap (λ (l : List ℕ). with_front l before) (sym whole)

  module _ (inside : at < length words) where
    abbrev bid : Bid
    bid = bid_at words at

    -- the list after a row of four words is put at its place
    abbrev put : List ℕ → List ℕ
    put row = take (k * bid_answer_size) answers ++ row ++ drop (k * bid_answer_size + bid_answer_size) answers

    laid_next : (row : List ℕ) → length row ≡ bid_answer_size → put row ≡ with_front (s.rows ++ row) before
    laid_next row four =
        ap₂ (λ (n m : ℕ). take n answers ++ row ++ drop (n + m) answers) (sym s.long) (sym four)
        ∙ ap (λ (l : List ℕ). take (length s.rows) l ++ row ++ drop (length s.rows + length row) l) s.stored
        ∙ lay-next before s.rows row

    exactly : LaidTo words marks won prices before (put (bid_row marks won prices k bid)) (k + 1) (bid_end words at)
    exactly =
        let row = bid_row marks won prices k bid in
        record {
          walk = walk-on path_limit words k at s.walk inside;
          rows = s.rows ++ row;
          long = length-append s.rows row ∙ (let e : length s.rows + 4 ≡ (k + 1) * bid_answer_size = omega (arith, s.long) in e);
          stored = laid_next row refl;
          rest = s.rest
              ∙ ap (λ (l : List Bid). s.rows ++ bid_rows_from marks won prices k l) (left-splits path_limit words k at s.walk inside)
              ∙ sym (append_assoc s.rows row (bid_rows_from marks won prices (k + 1) (left (walk-on path_limit words k at s.walk inside))));
        }

    -- the bid here has its row
    pub one-laid :
        (value path taken charge : ℕ) → value ≡ bid_value bid → path ≡ bid.path → taken ≡ get_or won k 0 → charge ≡ get_or prices path 0 * taken
        → LaidTo words marks won prices before (put (get_or marks k 0 ∷ value ∷ taken ∷ charge ∷ [])) (k + 1) (bid_end words at)
    one-laid value path taken charge ev ep et ec =
        let is : charge ≡ charge_at won prices k bid = ec ∙ ap₂ (λ (p m : ℕ). get_or prices p 0 * m) ep et in
        rw (ev, et, is) exactly

    -- the list is as long as before
    pub laid-length : k * bid_answer_size ≤ length before → length answers ≡ length before
    laid-length fits =
        ap (λ (l : List ℕ). length l) s.stored ∙ length-append s.rows (drop (length s.rows) before)
        ∙ (let n = length-drop (length s.rows) before in let same : length s.rows + length (drop (length s.rows) before) ≡ length before = omega (arith, n, s.long) in same)
