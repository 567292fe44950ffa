-- A book written in words is read back; its words encode a book; and words that encode a book are those of the book that they are
-- read as.
use mathlib.Core.Path.{◌≡◌, refl, sym, ◌∙◌, ap, ap₂}
use mathlib.Core.Bool.{true, ◌&&◌, false≢true}
use mathlib.Core.List.{List, [], ◌∷◌, ◌++◌, append_assoc}
use Prim.Native.Nat.{ℕ, zero, suc, ◌+◌, ◌*◌, ◌^◌, ◌≤◌, ◌<◌}
use native.Mathlib.Omega.{arith}
use lib.Dec.{eqb, lit<}
use lib.IntN.{ℤ, pos}
use lib.ListN.{length, get_or, take, drop, take-append-drop, get_or-append}
use lib.Seq.{get_or-append-add, take_at, length-take-le}
use borrow.Author.Tests.{eq-eqb, eqb-true, ltb-true}
use Rattle.market.proofs.Every.{every-within}
use Rattle.market.proofs.Filled.{zeros}
use Rattle.market.proofs.Tests.{left-true, right-true}
use Rattle.market.specs.Books.{cents, megawatts, day_number, no_path, no_bidder, with_account}
use Rattle.market.specs.Fresh.{no_book}
use Rattle.market.specs.Limits.{path_limit, bidder_limit}
use Rattle.market.specs.declared.book.Book.{Book}
use Rattle.market.specs.declared.book.Direction.{Direction}
use Rattle.market.specs.declared.book.Direction.TheVariants.{Export, Import}
use Rattle.market.specs.declared.book.Kind.{Kind}
use Rattle.market.specs.declared.book.Kind.TheVariants.{Short, Long}
use Rattle.market.specs.declared.book.Stage.{Stage}
use Rattle.market.specs.declared.book.Stage.TheVariants.{Idle, Open}
use Rattle.text_numbers.specs.Put.{put_at}
use Rattle.library_book.specs.BookWords.{front_size, path_size, bidder_size, bidders_from, book_size, direction_number, kind_number}
use Rattle.library_book.specs.BookWords.{path_words, bidder_words, stage_words, front_words, each, book_words, narrow}
use Rattle.library_book.specs.BookWords.{direction_in, kind_in, stage_at, path_in, bidder_in, book_in, same_words, encodes_book, fits32, fits_path, fits_bidder, fits_stage, FitsBook}
use Rattle.library_book.proofs.WordLaws.{gathered-is, front_length, up-to-paths, book-length, laid-whole}

-- ---- Numbers

narrow-fits : (n : ℕ) → fits32 n ≡ true → narrow n ≡ n
narrow-fits n h = omega (arith, ltb-true n (2 ^ 32) h)

direction-back : (d : Direction) → direction_in (direction_number d) ≡ d
direction-back Export = refl
direction-back Import = refl

kind-back : (k : Kind) → kind_in (kind_number k) ≡ k
kind-back Short = refl
kind-back Long = refl

-- ---- Slots

module _ {X : Type 0} (words : X → List ℕ) (size : ℕ) (sized : (x : X) → length (words x) ≡ size) (d : X) (k : ℕ) (below : k < size) where
  -- where the words of an element are
  each_at : (xs : List X) (rest : List ℕ) (i : ℕ) → i < length xs → get_or (each words xs ++ rest) (i * size + k) 0 ≡ get_or (words (get_or xs i d)) k 0
  each_at [] rest i h = absurd (let no_place : ⊥ = omega arith in no_place)
  each_at (x ∷ xs) rest zero h =
      ap₂ (λ (l : List ℕ) (m : ℕ). get_or l m 0) (append_assoc (words x) (each words xs) rest)
      (let here : zero * size + k ≡ k = omega arith in here)
      ∙ get_or-append (words x) (each words xs ++ rest) 0 k (omega (arith, sized x))
  each_at (x ∷ xs) rest (suc i) h =
      ap₂ (λ (l : List ℕ) (m : ℕ). get_or l m 0) (append_assoc (words x) (each words xs) rest)
      (let there : suc i * size + k ≡ length (words x) + (i * size + k) = omega (arith, sized x) in there)
      ∙ get_or-append-add (words x) (each words xs ++ rest) (i * size + k) 0
      ∙ each_at xs rest i (omega arith)

  -- the same after other words
  part_at :
      (front :
      List ℕ) (n : ℕ) → length front ≡ n → (xs : List X) (rest : List ℕ) (i m : ℕ) → m ≡ n + i * size + k → i < length xs
      → get_or ((front ++ each words xs) ++ rest) m 0 ≡ get_or (words (get_or xs i d)) k 0
  part_at front n long xs rest i m place h =
      ap₂ (λ (l : List ℕ) (j : ℕ). get_or l j 0) (append_assoc front (each words xs) rest)
      (let there : m ≡ length front + (i * size + k) = omega arith in there)
      ∙ get_or-append-add front (each words xs ++ rest) (i * size + k) 0
      ∙ each_at xs rest i h

-- ---- The book

module _ (b : Book) (fits : FitsBook b) (words : List ℕ) where
  abbrev laid : List ℕ
  laid = put_at words 0 (book_words b)

  abbrev past : List ℕ
  past = drop (0 + length (book_words b)) words

  abbrev up_to : List ℕ
  up_to = front_words b ++ each path_words b.paths

  behind-paths : laid ≡ up_to ++ (each bidder_words b.bidders ++ past)
  unfolding book_words
  behind-paths = append_assoc up_to (each bidder_words b.bidders) past

  behind-bidders : laid ≡ (up_to ++ each bidder_words b.bidders) ++ past
  unfolding book_words
  behind-bidders = refl

  path-word : (i k m : ℕ) → k < path_size → m ≡ front_size + i * path_size + k → i < path_limit → get_or laid m 0 ≡ get_or (path_words (get_or b.paths i no_path)) k 0
  path-word i k m below place h =
      ap (λ (l : List ℕ). get_or l m 0) behind-paths
      ∙ part_at path_words path_size (λ p. refl) no_path k below (front_words b) front_size (front_length b fits.paths fits.bidders) b.paths (each bidder_words b.bidders ++ past) i m place
      (omega (arith, fits.paths))

  bidder-word : (i k m : ℕ) → k < bidder_size → m ≡ bidders_from + i * bidder_size + k → i < bidder_limit → get_or laid m 0 ≡ get_or (bidder_words (get_or b.bidders i no_bidder)) k 0
  bidder-word i k m below place h =
      ap (λ (l : List ℕ). get_or l m 0) behind-bidders
      ∙ part_at bidder_words bidder_size (λ x. refl) no_bidder k below up_to bidders_from (up-to-paths b fits.paths fits.bidders) b.bidders past i m place (omega (arith, fits.bidders))

  path-back : (i : ℕ) → i < path_limit → path_in laid i ≡ get_or b.paths i no_path
  path-back i h =
      let p = get_or b.paths i no_path in
      let each-Fits = every-within fits_path b.paths i no_path (omega (arith, fits.paths)) fits.each-path in
      let zone = left-true (fits32 p.zone) (fits32 p.offer.0 && fits32 p.sold.0) each-Fits in
      let both = right-true (fits32 p.zone) (fits32 p.offer.0 && fits32 p.sold.0) each-Fits in
      let offer = left-true (fits32 p.offer.0) (fits32 p.sold.0) both in
      let sold = right-true (fits32 p.offer.0) (fits32 p.sold.0) both in
      let at = front_size + i * path_size in
      let first = ap direction_in (path-word i 0 at (lit< tt) (omega arith) h) ∙ direction-back p.direction in
      let second = ap narrow (path-word i 1 (at + 1) (lit< tt) refl h) ∙ narrow-fits p.zone zone in
      let third = ap narrow (path-word i 2 (at + 2) (lit< tt) refl h) ∙ narrow-fits p.offer.0 offer in
      let fourth = ap narrow (path-word i 3 (at + 3) (lit< tt) refl h) ∙ narrow-fits p.sold.0 sold in
      λ j. record {
        direction = first j;
        zone = second j;
        offer = megawatts (third j);
        sold = megawatts (fourth j);
      }

  bidder-back : (i : ℕ) → i < bidder_limit → bidder_in laid i ≡ get_or b.bidders i no_bidder
  bidder-back i h =
      let x = get_or b.bidders i no_bidder in
      let at = bidders_from + i * bidder_size in
      let first = bidder-word i 0 at (lit< tt) (omega arith) h in
      let last =
      ap narrow (bidder-word i 5 (at + 5) (lit< tt) refl h)
      ∙ narrow-fits x.step (every-within fits_bidder b.bidders i no_bidder (omega (arith, fits.bidders)) fits.each-bidder)
      in
      λ j. record {
        cash = cents (first j);
        applied = cents (bidder-word i 1 (at + 1) (lit< tt) refl h j);
        letter = cents (bidder-word i 2 (at + 2) (lit< tt) refl h j);
        hold = cents (bidder-word i 3 (at + 3) (lit< tt) refl h j);
        owed = cents (bidder-word i 4 (at + 4) (lit< tt) refl h j);
        step = last j;
      }

  stage-of : (n m : ℕ) (s : Stage) (rest : List ℕ) → fits_stage s ≡ true → stage_at ((n ∷ m ∷ stage_words s) ++ rest) ≡ s
  stage-of n m Idle rest h = refl
  stage-of n m (Open kind round period) rest h =
      let first = period.first.0 in
      let last = period.last.0 in
      let both = right-true (fits32 round) (fits32 first && fits32 last) h in
      let r = narrow-fits round (left-true (fits32 round) (fits32 first && fits32 last) h) in
      let f = narrow-fits first (left-true (fits32 first) (fits32 last) both) in
      let l = narrow-fits last (right-true (fits32 first) (fits32 last) both) in
      λ j. Open (kind-back kind j) (r j) (record { first = day_number (f j); last = day_number (l j) })

  stage-back : stage_at laid ≡ b.stage
  stage-back =
      ap stage_at (behind-paths ∙ append_assoc (front_words b) (each path_words b.paths) (each bidder_words b.bidders ++ past))
      ∙ stage-of b.path_count b.entries b.stage (each path_words b.paths ++ (each bidder_words b.bidders ++ past)) fits.stage

  -- the book that was written is read back, with any account
  pub read-with : (account : ℤ) → book_in laid account ≡ with_account b account
  unfolding book_words book_in
  read-with account =
      let paths = gathered-is (path_in laid) b.paths no_path path_limit fits.paths path-back in
      let bidders = gathered-is (bidder_in laid) b.bidders no_bidder bidder_limit fits.bidders bidder-back in
      λ j. record {
        paths = paths j;
        path_count = b.path_count;
        bidders = bidders j;
        account = record { 0 = account };
        entries = b.entries;
        stage = stage-back j;
      }

  -- the same with its own account: the book itself is read back
  pub read_back : book_in laid b.account.0 ≡ b
  read_back = read-with b.account.0

-- ---- Words that encode a book

pub same_self : (xs : List ℕ) → same_words xs xs ≡ true
same_self [] = refl
same_self (x ∷ xs) = ap₂ ◌&&◌ (eq-eqb x x refl) (same_self xs)

same_true : (xs ys : List ℕ) → same_words xs ys ≡ true → xs ≡ ys
same_true [] [] h = refl
same_true [] (y ∷ ys) h = absurd (false≢true h)
same_true (x ∷ xs) [] h = absurd (false≢true h)
same_true (x ∷ xs) (y ∷ ys) h =
    ap₂ ◌∷◌ (eqb-true x y (left-true (eqb x y) (same_words xs ys) h)) (same_true xs ys (right-true (eqb x y) (same_words xs ys) h))

-- the account is not among the words
pub words-account : (b : Book) (account : ℤ) → book_words (with_account b account) ≡ book_words b
unfolding book_words
words-account b account = refl

-- where a book fits its fields, its words encode a book, over whatever words they are written
pub laid-stands : (b : Book) → FitsBook b → (words : List ℕ) → encodes_book (put_at words 0 (book_words b)) ≡ true
unfolding encodes_book
laid-stands b fits words =
    let laid = put_at words 0 (book_words b) in
    ap₂ same_words (take_at (book_words b) (drop (0 + length (book_words b)) words) book_size (book-length b fits.paths fits.bidders))
    (ap book_words (read-with b fits words (pos 0)) ∙ words-account b (pos 0))
    ∙ same_self (book_words b)

-- where words encode a book, writing that book over them again changes nothing
pub stands-laid : (words : List ℕ) (account : ℤ) → book_size ≤ length words → encodes_book words ≡ true → put_at words 0 (book_words (book_in words account)) ≡ words
unfolding encodes_book book_in book_words
stands-laid words account room h =
    let own = book_words (book_in words account) in
    let is : take book_size words ≡ own = same_true (take book_size words) own h in
    let long : 0 + length (take book_size words) ≡ book_size = omega (arith, length-take-le book_size words room) in
    ap (λ (l : List ℕ). put_at words 0 l) (sym is)
    ∙ ap (λ (n : ℕ). take book_size words ++ drop n words) long
    ∙ take-append-drop book_size words

-- as many zeros as a book has words encode the book that has no path
pub zeros-words : book_words no_book ≡ zeros book_size
unfolding book_words no_book
zeros-words = refl

no-book-fits : FitsBook no_book
unfolding no_book
no-book-fits = record { paths = refl; bidders = refl; each-path = refl; each-bidder = refl; stage = refl }

pub zeros-read : book_in (zeros book_size) (pos 0) ≡ no_book
unfolding no_book
zeros-read =
    ap (λ (l : List ℕ). book_in l (pos 0)) (sym (laid-whole (zeros book_size) (book_words no_book) (ap length (sym zeros-words)) ∙ zeros-words))
    ∙ read_back no_book no-book-fits (zeros book_size)

pub zeros-stand : encodes_book (zeros book_size) ≡ true
zeros-stand =
    ap encodes_book (sym (laid-whole (zeros book_size) (book_words no_book) (ap length (sym zeros-words)) ∙ zeros-words))
    ∙ laid-stands no_book no-book-fits (zeros book_size)
