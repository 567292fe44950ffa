-- Laws about parts that are gathered from words, about words that it writes one after another, and about the words of a book.
use mathlib.Core.Path.{◌≡◌, refl, sym, ◌∙◌, ap, ap₂, subst}
use mathlib.Core.Bool.{Bool, true, false}
use mathlib.Core.List.{List, [], ◌∷◌, ◌++◌, append_assoc, append-nil}
use Prim.Native.Nat.{ℕ, zero, suc, ◌+◌, ◌*◌, ◌≤◌, ◌<◌}
use native.Mathlib.Numerals.{add-one}
use native.Mathlib.Omega.{arith}
use lib.Dec.{ltb}
use lib.ListN.{length, get_or, take, set, length-append, drop_of_length-le}
use lib.Seq.{sets-eq, take-suc, take-length, take_all, length-take-le}
use denote.Param.Members.{Mut, Called}
use borrow.Author.Tests.{ltb-true, ltb-false}
use Rattle.std.specs.Array.{IsFromFnResult, IsFromFnResultFrom}
use Rattle.market.specs.Limits.{path_limit, bidder_limit}
use Rattle.market.specs.declared.book.Book.{Book}
use Rattle.market.specs.declared.book.Stage.{Stage}
use Rattle.market.specs.declared.book.Stage.TheVariants.{Idle, Open}
use Rattle.text_numbers.specs.Put.{put_at}
use Rattle.text_numbers.proofs.PutLaws.{put-none}
use Rattle.text_writing.proofs.PutLaws.{put-behind}
use Rattle.library_book.specs.BookWords.{front_size, path_size, bidder_size, bidders_from, book_size, path_words, bidder_words, stage_words, front_words, each, book_words, gathered}

-- ---- Parts gathered one by one

module _ {X : Type 0} (f : ℕ → X) where
  pub gathered-length : (i : ℕ) → length (gathered f i) ≡ i
  gathered-length zero = refl
  gathered-length (suc i) = omega (arith, length-append (gathered f i) (f i ∷ []), gathered-length i)

-- where a function gives the element at each place of a list, what it gathers is the list
gathered-take : {X : Type 0} (f : ℕ → X) (xs : List X) (d : X) (n : ℕ) → n ≤ length xs → ((i : ℕ) → i < n → f i ≡ get_or xs i d) → gathered f n ≡ take n xs
gathered-take f xs d zero within is = refl
gathered-take f xs d (suc n) within is =
    ap₂ (λ (l : List _) (x : _). l ++ (x ∷ [])) (gathered-take f xs d n (omega arith) (λ i h. is i (omega arith))) (is n (omega arith))
    ∙ sym (take-suc xs n d (omega arith))

pub gathered-is : {X : Type 0} (f : ℕ → X) (xs : List X) (d : X) (n : ℕ) → length xs ≡ n → ((i : ℕ) → i < n → f i ≡ get_or xs i d) → gathered f n ≡ xs
gathered-is f xs d n long is =
    gathered-take f xs d n (omega arith) is ∙ ap (λ (k : ℕ). take k xs) (sym long) ∙ take-length xs

-- what an array is made of by calls that give a function's values, and leave the closure as it was
module _ {F X : Type 0} (g : Mut F (ℕ × Unit {0}) X) (made : F) (f : ℕ → X) (calls : (i : ℕ) (x : X) (q : F) → Called g made (i, tt) x q → (q ≡ made) × (x ≡ f i)) (xs : List X) where
  each-made : (i n : ℕ) (q : F) → q ≡ made → IsFromFnResultFrom g q xs i n → (k : ℕ) (d : X) → i ≤ k → k < i + n → f k ≡ get_or xs k d
  each-made i zero q same from k d low high = absurd (omega arith)
  each-made i (suc n) q same from k d low high =
      let one = calls i from.1 from.0 (subst (λ (s : F). Called g s (i, tt) from.1 from.0) same from.3) in
      go (ltb i k) refl (λ (e : X). from.2.1 e ∙ one.1) (λ below. each-made (i + 1) n from.0 one.0 from.4 k d (omega arith) (omega arith))
    where
      go : (t : Bool) → ltb i k ≡ t → ((e : X) → get_or xs i e ≡ f i) → (i < k → f k ≡ get_or xs k d) → f k ≡ get_or xs k d
      go true e here rest = rest (ltb-true i k e)
      go false e here rest =
          let last : i ≡ k = omega (arith, ltb-false i k e) in
          subst (λ (j : ℕ). f j ≡ get_or xs j d) last (sym (here d))

  pub made-gathered : (n : ℕ) → IsFromFnResult g made xs n → xs ≡ gathered f n
  made-gathered n result = sym (gathered-is f xs (f 0) n result.long (λ k h. each-made 0 n made refl result.each k (f 0) (omega arith) (omega arith)))

-- ---- The words of each element of a list, written one after another

module _ {X : Type 0} (words : X → List ℕ) (size : ℕ) (sized : (x : X) → length (words x) ≡ size) where
  pub each-length : (xs : List X) → length (each words xs) ≡ length xs * size
  each-length [] = omega arith
  each-length (x ∷ xs) =
      length-append (words x) (each words xs)
      ∙ ap₂ ◌+◌ (sized x) (each-length xs)
      ∙ (let more : size + length xs * size ≡ suc (length xs) * size = omega arith in more)

  pub each_snoc : (xs : List X) (x : X) → each words (xs ++ (x ∷ [])) ≡ each words xs ++ words x
  each_snoc [] x = append-nil (words x)
  each_snoc (y ∷ xs) x = ap (words y ++◌) (each_snoc xs x) ∙ sym (append_assoc (words y) (each words xs) (words x))

  module _ (before : List ℕ) (from : ℕ) (xs : List X) where
    abbrev pub laid_to : ℕ → List ℕ
    laid_to i = put_at before from (each words (take i xs))

    -- nothing yet
    pub lay-none : before ≡ laid_to 0
    lay-none = sym (put-none before from)

    -- one more
    pub lay-next : (i : ℕ) (d : X) → i < length xs → from + i * size ≤ length before → put_at (laid_to i) (from + i * size) (words (get_or xs i d)) ≡ laid_to (i + 1)
    lay-next i d below room =
        let long : length (each words (take i xs)) ≡ i * size =
        each-length (take i xs) ∙ ap (λ (k : ℕ). k * size) (length-take-le i xs (omega arith))
        in
        ap (λ (k : ℕ). put_at (laid_to i) (from + k) (words (get_or xs i d))) (sym long)
        ∙ put-behind before from (each words (take i xs)) (words (get_or xs i d)) (omega arith)
        ∙ ap (put_at before from)
        (sym (each_snoc (take i xs) (get_or xs i d))
        ∙ ap (each words) (sym (take-suc xs i d below) ∙ ap (λ (k : ℕ). take k xs) (sym (add-one i))))

    -- all of them
    pub all_laid : (i : ℕ) → length xs ≤ i → laid_to i ≡ put_at before from (each words xs)
    all_laid i end = ap (λ (l : List X). put_at before from (each words l)) (take_all i xs end)

-- words written over equally many words leave none of those
pub laid-whole : (words laid : List ℕ) → length words ≡ length laid → put_at words 0 laid ≡ laid
laid-whole words laid long =
    ap (laid ++◌) (drop_of_length-le words (let all : length words ≤ 0 + length laid = omega arith in all)) ∙ append-nil laid

-- ---- The words of a book

pub stage-length : (s : Stage) → length (stage_words s) ≡ 5
stage-length Idle = refl
stage-length (Open kind round period) = refl

module _ (b : Book) (paths : length b.paths ≡ path_limit) (bidders : length b.bidders ≡ bidder_limit) where
  pub front_length : length (front_words b) ≡ front_size
  front_length = ap (λ (n : ℕ). suc (suc n)) (stage-length b.stage)

  paths-length : length (each path_words b.paths) ≡ path_limit * path_size
  paths-length = each-length path_words path_size (λ p. refl) b.paths ∙ ap (λ (n : ℕ). n * path_size) paths

  bidders-length : length (each bidder_words b.bidders) ≡ bidder_limit * bidder_size
  bidders-length = each-length bidder_words bidder_size (λ x. refl) b.bidders ∙ ap (λ (n : ℕ). n * bidder_size) bidders

  abbrev pub up_to_paths : List ℕ
  up_to_paths = front_words b ++ each path_words b.paths

  pub up-to-paths : length up_to_paths ≡ bidders_from
  up-to-paths = length-append (front_words b) (each path_words b.paths) ∙ ap₂ ◌+◌ front_length paths-length

  parts : up_to_paths ++ each bidder_words b.bidders ≡ book_words b
  unfolding book_words
  parts = refl

  -- how many words a book has
  pub book-length : length (book_words b) ≡ book_size
  book-length =
      ap length (sym parts) ∙ length-append up_to_paths (each bidder_words b.bidders) ∙ ap₂ ◌+◌ up-to-paths bidders-length

  module _ (words : List ℕ) (room : book_size ≤ length words) where
    front-laid : put_at (set (set words 0 b.path_count) 1 b.entries) 2 (stage_words b.stage) ≡ put_at words 0 (front_words b)
    front-laid =
        let counts = b.path_count ∷ b.entries ∷ [] in
        ap (λ (l : List ℕ). put_at l 2 (stage_words b.stage)) (sets-eq counts words 0 (omega arith))
        ∙ put-behind words 0 counts (stage_words b.stage) (omega arith)

    -- a book's parts, written one after another, are the book written at once
    pub book-laid :
        put_at (put_at (put_at (set (set words 0 b.path_count) 1 b.entries) 2 (stage_words b.stage)) front_size (each path_words b.paths)) bidders_from (each bidder_words b.bidders)
        ≡ put_at words 0 (book_words b)
    book-laid =
        ap (λ (l : List ℕ). put_at (put_at l front_size (each path_words b.paths)) bidders_from (each bidder_words b.bidders)) front-laid
        ∙ ap (λ (l : List ℕ). put_at l bidders_from (each bidder_words b.bidders))
        (ap (λ (n : ℕ). put_at (put_at words 0 (front_words b)) n (each path_words b.paths)) (let at : front_size ≡ 0 + length (front_words b) = omega (arith, front_length) in at)
        ∙ put-behind words 0 (front_words b) (each path_words b.paths) (omega (arith, front_length)))
        ∙ ap (λ (n : ℕ). put_at (put_at words 0 up_to_paths) n (each bidder_words b.bidders)) (let at : bidders_from ≡ 0 + length up_to_paths = omega (arith, up-to-paths) in at)
        ∙ put-behind words 0 up_to_paths (each bidder_words b.bidders) (omega (arith, up-to-paths))
        ∙ ap (put_at words 0) parts
