-- Laws about rows written one by one.
use mathlib.Core.Path.{◌≡◌, refl, sym, ◌∙◌, ap}
use mathlib.Core.List.{List, ◌++◌}
use Prim.Native.Nat.{ℕ, zero, suc, ◌+◌, ◌*◌}
use native.Mathlib.Omega.{arith}
use lib.ListN.{length, take, drop, length-append}
use Rattle.market.specs.Limits.{path_answer_size}
use Rattle.round_charges.proofs.RowLaws.{lay-next}
use Rattle.market.specs.Books.{with_front}
use Rattle.round_paths.specs.PathRows.{path_row, path_rows}

module _ (offered sold prices : List ℕ) where
  -- each row has three words
  pub rows-length : (n : ℕ) → length (path_rows offered sold prices n) ≡ n * path_answer_size
  rows-length zero = refl
  rows-length (suc n) =
      let more = rows-length n in
      let one = length-append (path_rows offered sold prices n) (path_row offered sold prices n) in
      omega (arith, more, one)

  -- the row of one path more
  pub row_next :
      (before answers : List ℕ) (i : ℕ) → answers ≡ with_front (path_rows offered sold prices i) before
      → take (i * path_answer_size) answers ++ path_row offered sold prices i ++ drop (i * path_answer_size + path_answer_size) answers ≡ with_front (path_rows offered sold prices (i + 1)) before
  row_next before answers i is =
      let rows = path_rows offered sold prices i in
      let row = path_row offered sold prices i in
      ap (λ (n : ℕ). take n answers ++ row ++ drop (n + path_answer_size) answers) (sym (rows-length i))
      ∙ ap (λ (l : List ℕ). take (length rows) l ++ row ++ drop (length rows + path_answer_size) l) is
      ∙ lay-next before rows row
      ∙ ap (λ (n : ℕ). with_front (path_rows offered sold prices n) before) (let next : suc i ≡ i + 1 = omega arith in next)
