-- Laws about words that encode a book, tested one by one and part by part.
use mathlib.Core.Path.{◌≡◌, refl, sym, ◌∙◌, ap, ap₂}
use mathlib.Core.Bool.{Bool, true, ◌&&◌, and_assoc}
use mathlib.Core.List.{List, [], ◌∷◌, ◌++◌}
use Prim.Native.Nat.{ℕ, zero, suc, ◌+◌, ◌*◌, ◌≤◌}
use native.Mathlib.Numerals.{add-one}
use native.Mathlib.Omega.{arith}
use lib.Dec.{eqb}
use lib.IntN.{pos}
use lib.ListN.{length, get_or, take, drop, length-drop}
use lib.Seq.{drop-cons, drop-drop, take-add, length-take-le}
use Rattle.market.specs.Limits.{path_limit, bidder_limit}
use Rattle.market.specs.declared.book.Book.{Book}
use Rattle.library_book.specs.BookWords.{front_size, path_size, bidder_size, bidders_from, book_size, path_words, bidder_words, stage_words, front_words, each}
use Rattle.library_book.specs.BookWords.{book_words, stage_at, gathered, path_in, bidder_in, book_in, same_words, encodes_book}
use Rattle.library_book.proofs.ReadBack.{same_self}
use Rattle.library_book.proofs.WordLaws.{gathered-length, each-length, each_snoc, front_length, up-to-paths}

-- ---- Words one after another

same-append : (xs us ys vs : List ℕ) → length xs ≡ length ys → same_words (xs ++ us) (ys ++ vs) ≡ (same_words xs ys && same_words us vs)
same-append [] us [] vs e = refl
same-append [] us (y ∷ ys) vs e = absurd (let none : ⊥ = omega arith in none)
same-append (x ∷ xs) us [] vs e = absurd (let none : ⊥ = omega arith in none)
same-append (x ∷ xs) us (y ∷ ys) vs e =
    ap (eqb x y &&◌) (same-append xs us ys vs (omega arith)) ∙ sym (and_assoc (eqb x y) (same_words xs ys) (same_words us vs))

module _ (words : List ℕ) (at : ℕ) where
  -- `n` words from the place `at + k` on, spelled out
  abbrev spelled : ℕ → ℕ → List ℕ
  spelled k zero = []
  spelled k (suc n) = get_or words (at + k) 0 ∷ spelled (suc k) n

  spell : (k n : ℕ) → at + k + n ≤ length words → take n (drop (at + k) words) ≡ spelled k n
  spell k zero room = refl
  spell k (suc n) room =
      let next : suc (at + k) ≡ at + suc k = omega arith in
      ap (take (suc n)) (drop-cons words (at + k) 0 (omega arith))
      ∙ ap (get_or words (at + k) 0 ∷◌) (ap (λ (m : ℕ). take n (drop m words)) next ∙ spell (suc k) n (omega arith))

  -- from the place itself on
  spell-from : (n : ℕ) → at + suc n ≤ length words → take (suc n) (drop at words) ≡ get_or words at 0 ∷ spelled 1 n
  spell-from n room =
      let here : at ≡ at + 0 = omega arith in
      ap (λ (m : ℕ). take (suc n) (drop m words)) here
      ∙ spell 0 (suc n) (omega arith)
      ∙ ap (λ (m : ℕ). get_or words m 0 ∷ spelled 1 n) (sym here)

-- ---- Parts of one kind, one after another

module _ {X : Type 0} (words_of : X → List ℕ) (size : ℕ) (sized : (x : X) → length (words_of x) ≡ size) (words : List ℕ) (from : ℕ) (f : ℕ → X) where
  -- the words of the first `i` parts are those of the parts that they are read as
  abbrev pub StandTo : ℕ → Bool
  StandTo i = same_words (take (i * size) (drop from words)) (each words_of (gathered f i))

  pub stand-none : true ≡ StandTo 0
  stand-none = ap (λ (n : ℕ). same_words (take n (drop from words)) []) (let nothing : 0 ≡ 0 * size = omega arith in nothing)

  pub stand-next :
      (i :
      ℕ) (stand here : Bool) → from + (i + 1) * size ≤ length words → stand ≡ StandTo i → here ≡ same_words (take size (drop (from + i * size) words)) (words_of (f i))
      → (stand && here) ≡ StandTo (i + 1)
  stand-next i stand here room so is =
      let rest = drop from words in
      let more : (i + 1) * size ≡ i * size + size = omega arith in
      let long : length (take (i * size) rest) ≡ length (each words_of (gathered f i)) =
      length-take-le (i * size) rest (omega (arith, length-drop from words))
      ∙ sym (each-length words_of size sized (gathered f i) ∙ ap (λ (n : ℕ). n * size) (gathered-length f i))
      in
      ap₂ ◌&&◌ so is
      ∙ sym (ap₂ same_words (ap (λ (n : ℕ). take n rest) more ∙ take-add (i * size) size rest ∙ ap (λ (l : List ℕ). take (i * size) rest ++ take size l) (drop-drop (i * size) from words))
      (ap (λ (n : ℕ). each words_of (gathered f n)) (add-one i) ∙ each_snoc words_of size sized (gathered f i) (f i))
      ∙ same-append (take (i * size) rest) (take size (drop (from + i * size) words)) (each words_of (gathered f i)) (words_of (f i)) long)

-- ---- The book

module _ (words : List ℕ) (room : book_size ≤ length words) where
  abbrev b : Book
  b = book_in words (pos 0)

  abbrev counts : List ℕ
  counts = get_or words 0 0 ∷ get_or words 1 0 ∷ []

  abbrev stage_stands : Bool
  stage_stands = same_words (take 5 (drop 2 words)) (stage_words (stage_at words))

  abbrev paths_stand : Bool
  paths_stand = StandTo path_words path_size (λ p. refl) words front_size (path_in words) path_limit

  abbrev bidders_stand : Bool
  bidders_stand = StandTo bidder_words bidder_size (λ x. refl) words bidders_from (bidder_in words) bidder_limit

  -- the counts are read unchanged
  front_same : same_words (take front_size words) (front_words b) ≡ stage_stands
  unfolding book_in
  front_same =
      ap (λ (l : List ℕ). same_words l (counts ++ stage_words (stage_at words))) (take-add 2 5 words)
      ∙ same-append (take 2 words) (take 5 (drop 2 words)) counts (stage_words (stage_at words)) (length-take-le 2 words (omega arith))
      ∙ ap (◌&& stage_stands) (ap (λ (l : List ℕ). same_words l counts) (spell-from words 0 1 (omega arith)) ∙ same_self counts)

  pub book-same : (stage_stands && paths_stand && bidders_stand) ≡ encodes_book words
  unfolding encodes_book book_in book_words
  book-same =
      let up_to = front_words b ++ each path_words b.paths in
      let paths-many = gathered-length (path_in words) path_limit in
      let bidders-many = gathered-length (bidder_in words) bidder_limit in
      sym (ap (λ (l : List ℕ). same_words l (book_words b)) (take-add bidders_from (bidder_limit * bidder_size) words)
      ∙ same-append (take bidders_from words) (take (bidder_limit * bidder_size) (drop bidders_from words)) up_to (each bidder_words b.bidders)
      (length-take-le bidders_from words (omega arith) ∙ sym (up-to-paths b paths-many bidders-many))
      ∙ ap (◌&& bidders_stand)
      (ap (λ (l : List ℕ). same_words l up_to) (take-add front_size (path_limit * path_size) words)
      ∙ same-append (take front_size words) (take (path_limit * path_size) (drop front_size words)) (front_words b) (each path_words b.paths)
      (length-take-le front_size words (omega arith) ∙ sym (front_length b paths-many bidders-many))
      ∙ ap (◌&& paths_stand) front_same))
