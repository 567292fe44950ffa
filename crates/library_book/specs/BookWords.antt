-- A book written in 64-bit words, and read back (rule 16.3), and which words are no book (rule 16.4). The account, which is signed, is kept
-- beside the words.
use Rattle.std.specs.Prelude.{◌≡◌, Bool, true, false, cond, ◌&&◌, List, [], ◌∷◌, ◌++◌, ℕ, zero, suc, ◌+◌, ◌*◌, ◌%◌, ◌^◌, ltb, eqb, ℤ, pos, length, get_or, take}
use Rattle.market.specs.Books.{every, cents, megawatts, day_number, balance}
use Rattle.market.specs.Limits.{path_limit, bidder_limit}
use Rattle.market.specs.declared.book.Bidder.{Bidder}
use Rattle.market.specs.declared.book.Book.{Book}
use Rattle.market.specs.declared.book.Direction.{Direction}
use Rattle.market.specs.declared.book.Direction.TheVariants.{Export, Import}
use Rattle.market.specs.declared.book.Kind.{Kind}
use Rattle.market.specs.declared.book.Kind.TheVariants.{Short, Long}
use Rattle.market.specs.declared.book.Path.{Path}
use Rattle.market.specs.declared.book.Stage.{Stage}
use Rattle.market.specs.declared.book.Stage.TheVariants.{Idle, Open}

-- ---- How many words: seven in front, four for each slot of a path, six for each bidder

-- rule 16.3: 7 words for counts and stage, 4 for each path, 6 for each bidder
abbrev pub front_size : ℕ
front_size = 7

abbrev pub path_size : ℕ
path_size = 4

abbrev pub bidder_size : ℕ
bidder_size = 6

-- rule 16.3: the bidders' words begin at 71
abbrev pub bidders_from : ℕ
bidders_from = front_size + path_limit * path_size

-- rule 16.2: 263 in all
abbrev pub book_size : ℕ
book_size = bidders_from + bidder_limit * bidder_size

-- ---- The words of a book

-- rule 16.3: 0 for X, and 1 for M
abbrev pub direction_number : Direction → ℕ
direction_number Export = 0
direction_number Import = 1

-- rule 16.3: 0 for S, and 1 for L
abbrev pub kind_number : Kind → ℕ
kind_number Short = 0
kind_number Long = 1

-- rule 16.3: direction, zone, offer, sold
abbrev pub path_words : Path → List ℕ
path_words p = direction_number p.direction ∷ p.zone ∷ p.offer.0 ∷ p.sold.0 ∷ []

-- rule 16.3: cash, applied, letter, hold, owed, step
abbrev pub bidder_words : Bidder → List ℕ
bidder_words x =
    x.cash.0 ∷ x.applied.0 ∷ x.letter.0 ∷ x.hold.0 ∷ x.owed.0 ∷ x.step ∷ []

-- rule 16.3: stage (0 idle, 1 open), kind, next round, first day, last day; all 0 when the book is idle
abbrev pub five : ℕ → ℕ → ℕ → ℕ → ℕ → List ℕ
five stage kind round first last = stage ∷ kind ∷ round ∷ first ∷ last ∷ []

abbrev pub stage_words : Stage → List ℕ
stage_words Idle = five 0 0 0 0 0
stage_words (Open kind round period) = five 1 (kind_number kind) round period.first.0 period.last.0

-- rule 16.3: number of paths, number of entries, and the stage
abbrev pub front_words : Book → List ℕ
front_words b = b.path_count ∷ b.entries ∷ stage_words b.stage

-- the words of each element of a list, one after another
abbrev pub each : {X : Type 0} → (X → List ℕ) → List X → List ℕ
each words [] = []
each words (x ∷ xs) = words x ++ each words xs

-- rule 16.3: the words of a book
unfoldable pub book_words : Book → List ℕ
book_words b = front_words b ++ each path_words b.paths ++ each bidder_words b.bidders

-- ---- The book that words are read as, whatever they are

-- the low 32 bits of a number, for a field of 32 bits
abbrev pub narrow : ℕ → ℕ
narrow n = n % 2 ^ 32

-- any number but 0 is the second case
abbrev pub direction_in : ℕ → Direction
direction_in n = cond (eqb n 0) Export Import

abbrev pub kind_in : ℕ → Kind
kind_in n = cond (eqb n 0) Short Long

-- rule 16.3: the path whose words begin at a place
abbrev pub path_at : List ℕ → ℕ → Path
path_at words at =
    record {
      direction = direction_in (get_or words at 0);
      zone = narrow (get_or words (at + 1) 0);
      offer = megawatts (narrow (get_or words (at + 2) 0));
      sold = megawatts (narrow (get_or words (at + 3) 0));
    }

-- rule 16.3: the bidder whose words begin at a place
abbrev pub bidder_at : List ℕ → ℕ → Bidder
bidder_at words at =
    record {
      cash = cents (get_or words at 0);
      applied = cents (get_or words (at + 1) 0);
      letter = cents (get_or words (at + 2) 0);
      hold = cents (get_or words (at + 3) 0);
      owed = cents (get_or words (at + 4) 0);
      step = narrow (get_or words (at + 5) 0);
    }

-- rule 16.3: the stage, from words 2 to 6
abbrev pub stage_at : List ℕ → Stage
stage_at words =
    cond (eqb (get_or words 2 0) 0) Idle
    (Open (kind_in (get_or words 3 0)) (narrow (get_or words 4 0))
    (record { first = day_number (narrow (get_or words 5 0)); last = day_number (narrow (get_or words 6 0)) }))

-- what a function gives for the numbers from 0 on, as many as are asked for
abbrev pub gathered : {X : Type 0} → (ℕ → X) → ℕ → List X
gathered f zero = []
gathered f (suc n) = gathered f n ++ (f n ∷ [])

-- rule 16.3: the path, and the bidder, with a given number
abbrev pub path_in : List ℕ → ℕ → Path
path_in words i = path_at words (front_size + i * path_size)

abbrev pub bidder_in : List ℕ → ℕ → Bidder
bidder_in words i = bidder_at words (bidders_from + i * bidder_size)

-- rule 16.3: the book that words are read as, with the account beside them
unfoldable pub book_in : List ℕ → ℤ → Book
book_in words account =
    record {
      paths = gathered (path_in words) path_limit;
      path_count = get_or words 0 0;
      bidders = gathered (bidder_in words) bidder_limit;
      account = balance account;
      entries = get_or words 1 0;
      stage = stage_at words;
    }

-- ---- Words that encode a book

-- two lists have the same words
abbrev pub same_words : List ℕ → List ℕ → Bool
same_words [] [] = true
same_words [] (y ∷ ys) = false
same_words (x ∷ xs) [] = false
same_words (x ∷ xs) (y ∷ ys) = eqb x y && same_words xs ys

-- rule 16.4: the first words are those of the book that they are read as: where another number stands for a stage, a kind or a direction, one of
-- 2^32 or more for a field of 32 bits, or an idle stage is not all 0, they are no book
unfoldable pub encodes_book : List ℕ → Bool
encodes_book words = same_words (take book_size words) (book_words (book_in words (pos 0)))

-- ---- A book that words can hold: it has exactly the slots, and its numbers fit their fields

-- the fields of 32 bits: zone, offer and sold of a path, the step of a bidder, round and days of a stage
abbrev pub fits32 : ℕ → Bool
fits32 n = ltb n (2 ^ 32)

abbrev pub fits_path : Path → Bool
fits_path p = fits32 p.zone && (fits32 p.offer.0 && fits32 p.sold.0)

abbrev pub fits_bidder : Bidder → Bool
fits_bidder x = fits32 x.step

abbrev pub fits_auction : ℕ → ℕ → ℕ → Bool
fits_auction round first last = fits32 round && (fits32 first && fits32 last)

abbrev pub fits_stage : Stage → Bool
fits_stage Idle = true
fits_stage (Open kind round period) = fits_auction round period.first.0 period.last.0

-- a book that words can hold
pub record FitsBook (b : Book) : Type 0 where
  pub paths : length b.paths ≡ path_limit
  pub bidders : length b.bidders ≡ bidder_limit
  pub each-path : every fits_path b.paths ≡ true
  pub each-bidder : every fits_bidder b.bidders ≡ true
  pub stage : fits_stage b.stage ≡ true
