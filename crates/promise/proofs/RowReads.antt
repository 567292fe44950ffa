-- The words of a round's two lists, read back: each row is at its bid's or its path's place.
use mathlib.Core.Path.{◌≡◌, refl, sym, ◌∙◌, ap}
use mathlib.Core.Bool.{Bool, true, false}
use mathlib.Core.List.{List, [], ◌∷◌, ◌++◌, append_assoc}
use Prim.Native.Nat.{ℕ, zero, suc, ◌+◌, ◌*◌, ◌<◌}
use native.Mathlib.Omega.{arith}
use lib.Dec.{eqb}
use lib.ListN.{length, get_or, drop, get_or-append}
use lib.Seq.{get_or-append-add}
use borrow.Author.Tests.{eqb-true, eqb-false}
use Rattle.market.specs.Limits.{bid_answer_size, path_answer_size}
use Rattle.round_bids.specs.Bids.{Bid, bid_value}
use Rattle.round_charges.specs.Charges.{charge_at, bid_row, bid_rows_from, bid_rows}
use Rattle.market.specs.Books.{with_front}
use Rattle.round_paths.proofs.PathRowLaws.{rows-length}
use Rattle.round_paths.specs.PathRows.{path_row, path_rows}
use Rattle.call_round.specs.Answers.{value_in, won_in, charge_in, offered_in, sold_in, price_in}

-- ---- Bids

row_at :
    (marks won prices : List ℕ) (n : ℕ) (bs : List Bid) (rest : List ℕ) (k j : ℕ) (d : Bid) → k < length bs → j < bid_answer_size
    → get_or (bid_rows_from marks won prices n bs ++ rest) (k * bid_answer_size + j) 0 ≡ get_or (bid_row marks won prices (n + k) (get_or bs k d)) j 0
row_at marks won prices n [] rest k j d below inside = absurd (let no : ⊥ = omega arith in no)
row_at marks won prices n (b ∷ bs) rest zero j d below inside =
    ap (λ (i : ℕ). get_or (bid_row marks won prices n b ++ bid_rows_from marks won prices (n + 1) bs ++ rest) i 0) (let e : 0 * bid_answer_size + j ≡ j = omega arith in e)
    ∙ get_or-append (bid_row marks won prices n b) (bid_rows_from marks won prices (n + 1) bs ++ rest) 0 j inside
    ∙ ap (λ (i : ℕ). get_or (bid_row marks won prices i b) j 0) (let e : n ≡ n + 0 = omega arith in e)
row_at marks won prices n (b ∷ bs) rest (suc k) j d below inside =
    ap (λ (i : ℕ). get_or (bid_row marks won prices n b ++ bid_rows_from marks won prices (n + 1) bs ++ rest) i 0)
    (let e : suc k * bid_answer_size + j ≡ suc (suc (suc (suc (k * bid_answer_size + j)))) = omega arith in e)
    ∙ row_at marks won prices (n + 1) bs rest k j d (omega arith) inside
    ∙ ap (λ (i : ℕ). get_or (bid_row marks won prices i (get_or bs k d)) j 0) (let e : n + 1 + k ≡ n + suc k = omega arith in e)

module _ (marks won prices : List ℕ) (bids : List Bid) (before : List ℕ) (k : ℕ) (d : Bid) (below : k < length bids) where
  word_at : (j : ℕ) → j < bid_answer_size → get_or (with_front (bid_rows marks won prices bids) before) (k * bid_answer_size + j) 0 ≡ get_or (bid_row marks won prices k (get_or bids k d)) j 0
  word_at j inside =
      row_at marks won prices 0 bids (drop (length (bid_rows marks won prices bids)) before) k j d below inside
      ∙ ap (λ (i : ℕ). get_or (bid_row marks won prices i (get_or bids k d)) j 0) (let e : 0 + k ≡ k = omega arith in e)

  pub value_read : value_in (with_front (bid_rows marks won prices bids) before) k ≡ bid_value (get_or bids k d)
  value_read = word_at 1 (omega arith)

  pub won-read : won_in (with_front (bid_rows marks won prices bids) before) k ≡ get_or won k 0
  won-read = word_at 2 (omega arith)

  pub charge-read : charge_in (with_front (bid_rows marks won prices bids) before) k ≡ charge_at won prices k (get_or bids k d)
  charge-read = word_at 3 (omega arith)

-- ---- Paths

path-at :
    (offered sold prices : List ℕ) (n : ℕ) (rest : List ℕ) (path j : ℕ) → path < n → j < path_answer_size
    → get_or (path_rows offered sold prices n ++ rest) (path * path_answer_size + j) 0 ≡ get_or (path_row offered sold prices path) j 0
path-at offered sold prices zero rest path j below inside = absurd (let none : ⊥ = omega arith in none)
path-at offered sold prices (suc n) rest path j below inside =
    ap (λ (l : List ℕ). get_or l (path * path_answer_size + j) 0) (append_assoc (path_rows offered sold prices n) row rest)
    ∙ go (eqb path n) refl (λ less. path-at offered sold prices n (row ++ rest) path j less inside)
  where
    row : List ℕ
    row = path_row offered sold prices n

    go :
        (t :
        Bool) → eqb path n ≡ t → (path < n → get_or (path_rows offered sold prices n ++ (row ++ rest)) (path * path_answer_size + j) 0 ≡ get_or (path_row offered sold prices path) j 0)
        → get_or (path_rows offered sold prices n ++ (row ++ rest)) (path * path_answer_size + j) 0 ≡ get_or (path_row offered sold prices path) j 0
    go true e earlier =
        let same : path ≡ n = eqb-true path n e in
        let rows = path_rows offered sold prices n in
        ap (λ (i : ℕ). get_or (rows ++ (row ++ rest)) i 0) (let at : path * path_answer_size + j ≡ length rows + j = omega (arith, rows-length offered sold prices n, same) in at)
        ∙ get_or-append-add rows (row ++ rest) j 0
        ∙ get_or-append row rest 0 j inside
        ∙ ap (λ (i : ℕ). get_or (path_row offered sold prices i) j 0) (sym same)
    go false e earlier = earlier (omega (arith, eqb-false path n e))

module _ (offered sold prices : List ℕ) (n : ℕ) (before : List ℕ) (path : ℕ) (below : path < n) where
  path-word : (j : ℕ) → j < path_answer_size → get_or (with_front (path_rows offered sold prices n) before) (path * path_answer_size + j) 0 ≡ get_or (path_row offered sold prices path) j 0
  path-word j inside = path-at offered sold prices n (drop (length (path_rows offered sold prices n)) before) path j below inside

  pub offered-read : offered_in (with_front (path_rows offered sold prices n) before) path ≡ get_or offered path 0
  offered-read =
      ap (λ (i : ℕ). get_or (with_front (path_rows offered sold prices n) before) i 0) (let e : path * path_answer_size ≡ path * path_answer_size + 0 = omega arith in e)
      ∙ path-word 0 (omega arith)

  pub sold-read : sold_in (with_front (path_rows offered sold prices n) before) path ≡ get_or sold path 0
  sold-read = path-word 1 (omega arith)

  pub price-read : price_in (with_front (path_rows offered sold prices n) before) path ≡ get_or prices path 0
  price-read = path-word 2 (omega arith)
