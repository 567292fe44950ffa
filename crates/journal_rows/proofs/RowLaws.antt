-- Laws about rows, piece by piece, and how long they are at most.
use mathlib.Core.Path.{◌≡◌, sym, ◌∙◌, ap}
use mathlib.Core.Bool.{Bool, true, false, cond}
use mathlib.Core.List.{List, [], ◌∷◌, ◌++◌}
use Prim.Native.Nat.{ℕ, zero, suc, ◌+◌, ◌*◌, ◌-◌, ◌/◌, ◌%◌, ◌≤◌, ◌<◌}
use native.Mathlib.Nat.{suc-mul}
use native.Mathlib.Numerals.{add-one}
use native.Mathlib.Omega.{arith}
use lib.Dec.{ltb}
use lib.ListN.{length, get_or, take, drop, length-append, length-take, drop_of_length-le}
use lib.Seq.{drop-cons, drop-drop}
use Rattle.text_numbers.specs.Decimal.{decimal, decimal_to, zero_byte, decimal_digits}
use Rattle.text_fields.specs.Fields.{space, newline}
use Rattle.journal_rows.specs.Rows.{spaced_numbers, row, last_row, rows}

-- ---- Pieces

-- the number at a place of a list, and those after it
pub spaced-next : (ns : List ℕ) (i : ℕ) → i < length ns → spaced_numbers (drop i ns) ≡ (space ∷ decimal (get_or ns i 0)) ++ spaced_numbers (drop (i + 1) ns)
spaced-next ns i h =
    ap spaced_numbers (drop-cons ns i 0 h ∙ ap (λ (k : ℕ). get_or ns i 0 ∷ drop k ns) (sym (add-one i)))

pub spaced-none : (ns : List ℕ) (i : ℕ) → length ns ≤ i → spaced_numbers (drop i ns) ≡ []
spaced-none ns i h = ap spaced_numbers (drop_of_length-le ns h)

-- the row at a place of a list, and those after it
pub rows_next :
    (mark :
    List ℕ) (size count : ℕ) (list : List ℕ) (k from : ℕ) → k < count
    → rows mark size (count - k) (drop from list) ≡ row mark (take (from + size - from) (drop from list)) ++ rows mark size (count - (k + 1)) (drop (from + size) list)
rows_next mark size count list k from h =
    let more : count - k ≡ suc (count - (k + 1)) = omega arith in
    let same : size ≡ from + size - from = omega arith in
    ap (λ (n : ℕ). rows mark size n (drop from list)) more
    ∙ ap (λ (n : ℕ). row mark (take n (drop from list)) ++ rows mark size (count - (k + 1)) (drop size (drop from list))) same
    ∙ ap (λ (l : List ℕ). row mark (take (from + size - from) (drop from list)) ++ rows mark size (count - (k + 1)) l) (drop-drop size from list)

pub rows_none : (mark : List ℕ) (size count : ℕ) (list : List ℕ) (k from : ℕ) → count ≤ k → rows mark size (count - k) (drop from list) ≡ []
rows_none mark size count list k from h =
    let none : count - k ≡ 0 = omega arith in ap (λ (n : ℕ). rows mark size n (drop from list)) none

-- the numbers of the rows to come are those of one row and of the rows after it
pub one_less : (size count k : ℕ) → k < count → (count - k) * size ≡ size + (count - (k + 1)) * size
one_less size count k h =
    let more : count - k ≡ suc (count - (k + 1)) = omega arith in omega (arith, ap (λ (n : ℕ). n * size) more, suc-mul (count - (k + 1)) size)

-- ---- How long a row is at most

digits-most : (k n : ℕ) → length (decimal_to k n) ≤ k
digits-most zero n = omega arith
digits-most (suc k) n = go (ltb n 10) (digits-most k (n / 10))
  where
    go : (t : Bool) → length (decimal_to k (n / 10)) ≤ k → length (cond t ((zero_byte + n) ∷ []) (decimal_to k (n / 10) ++ ((zero_byte + n % 10) ∷ []))) ≤ suc k
    go true h = omega arith
    go false h = omega (arith, length-append (decimal_to k (n / 10)) ((zero_byte + n % 10) ∷ []))

-- any number
pub decimal-most : (n : ℕ) → length (decimal n) ≤ decimal_digits
unfolding decimal
decimal-most n = digits-most decimal_digits n

-- numbers with a space before each
pub spaced-most : (ns : List ℕ) → length (spaced_numbers ns) ≤ length ns * (decimal_digits + 1)
spaced-most [] = omega arith
spaced-most (n ∷ ns) = omega (arith, spaced-most ns, decimal-most n, length-append (decimal n) (spaced_numbers ns))

pub row-most : (mark ns : List ℕ) → length (row mark ns) ≤ length mark + length ns * (decimal_digits + 1)
row-most mark ns = omega (arith, spaced-most ns, length-append mark (spaced_numbers ns))

pub last-row-most : (mark ns : List ℕ) → length (last_row mark ns) ≤ length mark + length ns * (decimal_digits + 1) + 1
last-row-most mark ns = omega (arith, row-most mark ns, length-append (row mark ns) (newline ∷ []))

-- `k` rows, each at most `most` bytes long
pub rows-most : (mark : List ℕ) (size most : ℕ) → length mark + size * (decimal_digits + 1) ≤ most → (k : ℕ) (list : List ℕ) → length (rows mark size k list) ≤ k * most
rows-most mark size most h zero list = omega arith
rows-most mark size most h (suc k) list =
    let one = take size list in
    let few : length one ≤ size = omega (arith, length-take size list) in
    omega
    (arith, h, few, row-most mark one, rows-most mark size most h k (drop size list), suc-mul k most, length-append (row mark one) (rows mark size k (drop size list)))
