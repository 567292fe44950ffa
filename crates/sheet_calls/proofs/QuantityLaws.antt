-- Words that a loop puts from the front, four for each slot, as `quantities` does.
use mathlib.Core.Path.{◌≡◌, refl, sym, ◌∙◌, ap}
use mathlib.Core.List.{List, [], ◌∷◌, ◌++◌, append_assoc, append-nil}
use Prim.Native.Nat.{ℕ, ◌+◌, ◌*◌, ◌-◌, ◌≤◌, ◌<◌}
use native.Mathlib.Numerals.{add-one}
use native.Mathlib.Omega.{arith}
use lib.ListN.{length, get_or, take, set, replicate, length-append}
use lib.Seq.{length-take-le, take_all, take-suc}
use Rattle.market.proofs.Filled.{fill-snoc}
use Rattle.market.specs.Limits.{path_limit, quantity_words}
use Rattle.sheet_form.specs.declared.rows.PathLine.{PathLine}
use Rattle.sheet_calls.specs.Calls.{quantities_of}
use Rattle.sheet_calls.proofs.SlotLaws.{quantities-length, quantities-append}

-- a word stored after the first ones
put_next : (front : List ℕ) (n k m x : ℕ) → length front ≡ k → k < n → m ≡ k + 1 → set (front ++ replicate (n - k) 0) k x ≡ (front ++ (x ∷ [])) ++ replicate (n - m) 0
put_next front n k m x long below next =
    fill-snoc front n k 0 x long below
    ∙ ap (λ (j : ℕ). (front ++ (x ∷ [])) ++ replicate (n - j) 0) (sym next)

snoc-length : (front : List ℕ) (x k m : ℕ) → length front ≡ k → m ≡ k + 1 → length (front ++ (x ∷ [])) ≡ m
snoc-length front x k m long next = length-append front (x ∷ []) ∙ (let e : length front + 1 ≡ m = omega (arith, long, next) in e)

-- four words stored after the first ones
put_four :
    (front :
    List ℕ) (n k a b c d : ℕ) → length front ≡ k → k + 4 ≤ n
    → set (set (set (set (front ++ replicate (n - k) 0) k a) (k + 1) b) (k + 2) c) (k + 3) d ≡ (front ++ (a ∷ b ∷ c ∷ d ∷ [])) ++ replicate (n - (k + 4)) 0
put_four front n k a b c d long room =
    let one = front ++ (a ∷ []) in
    let two = one ++ (b ∷ []) in
    let three = two ++ (c ∷ []) in
    let at-two : k + 2 ≡ k + 1 + 1 = omega arith in
    let at-three : k + 3 ≡ k + 2 + 1 = omega arith in
    let at-four : k + 4 ≡ k + 3 + 1 = omega arith in
    let long-one = snoc-length front a k (k + 1) long refl in
    let long-two = snoc-length one b (k + 1) (k + 2) long-one at-two in
    let long-three = snoc-length two c (k + 2) (k + 3) long-two at-three in
    ap (λ (l : List ℕ). set (set (set l (k + 1) b) (k + 2) c) (k + 3) d) (put_next front n k (k + 1) a long (omega arith) refl)
    ∙ ap (λ (l : List ℕ). set (set l (k + 2) c) (k + 3) d) (put_next one n (k + 1) (k + 2) b long-one (omega arith) at-two)
    ∙ ap (λ (l : List ℕ). set l (k + 3) d) (put_next two n (k + 2) (k + 3) c long-two (omega arith) at-three)
    ∙ put_next three n (k + 3) (k + 4) d long-three (omega arith) at-four
    ∙ ap (λ (l : List ℕ). l ++ replicate (n - (k + 4)) 0) (let e : (three ++ (d ∷ [])) ≡ front ++ (a ∷ b ∷ c ∷ d ∷ []) = simp append_assoc in e)

abbrev quantities_to : List PathLine → ℕ → List ℕ
quantities_to lines i = quantities_of (take i lines) ++ replicate (path_limit * quantity_words - i * quantity_words) 0

-- the quantities of the first `i` lines, and 0 in each place after them
pub record QuantitiesTo (lines : List PathLine) (words : List ℕ) (i : ℕ) : Type 0 where
  pub within : i ≤ path_limit
  pub is : words ≡ quantities_to lines i

pub none-put : (lines : List PathLine) → QuantitiesTo lines (replicate (path_limit * quantity_words) 0) 0
none-put lines = record { within = omega arith; is = refl }

module _ (lines : List PathLine) (words : List ℕ) (i : ℕ) (s : QuantitiesTo lines words i) (long : length lines ≡ path_limit) where
  pub one-put :
      (p d : PathLine) → p ≡ get_or lines i d → i < path_limit
      → QuantitiesTo lines (set (set (set (set words (i * quantity_words) p.base) (i * quantity_words + 1) p.upper) (i * quantity_words + 2) p.first) (i * quantity_words + 3) p.second) (i + 1)
  one-put p d is below =
      let k = i * quantity_words in
      let front = quantities_of (take i lines) in
      let four : List ℕ = p.base ∷ p.upper ∷ p.first ∷ p.second ∷ [] in
      let before : length front ≡ k = quantities-length (take i lines) ∙ ap (λ (n : ℕ). n * quantity_words) (length-take-le i lines (omega (arith, long))) in
      let next : quantities_of (take (i + 1) lines) ≡ front ++ four =
      ap (λ (n : ℕ). quantities_of (take n lines)) (add-one i)
      ∙ ap quantities_of (take-suc lines i d (omega (arith, long)))
      ∙ quantities-append (take i lines) (get_or lines i d ∷ [])
      ∙ ap (λ (q : PathLine). front ++ (q.base ∷ q.upper ∷ q.first ∷ q.second ∷ [])) (sym is) in
      record {
        within = omega arith;
        is =
            ap (λ (l : List ℕ). set (set (set (set l k p.base) (k + 1) p.upper) (k + 2) p.first) (k + 3) p.second) s.is
            ∙ put_four front (path_limit * quantity_words) k p.base p.upper p.first p.second before (omega arith)
            ∙ ap (λ (l : List ℕ). l ++ replicate (path_limit * quantity_words - (k + 4)) 0) (sym next)
            ∙ ap (λ (n : ℕ). quantities_of (take (i + 1) lines) ++ replicate n 0)
            (let e : path_limit * quantity_words - (k + 4) ≡ path_limit * quantity_words - (i + 1) * quantity_words = omega arith in e);
      }

  pub all-put : path_limit ≤ i → words ≡ quantities_of lines
  all-put end =
      s.is
      ∙ ap (quantities_to lines) (let e : i ≡ path_limit = omega (arith, s.within) in e)
      ∙ append-nil (quantities_of (take path_limit lines))
      ∙ ap quantities_of (take_all path_limit lines (omega (arith, long)))
