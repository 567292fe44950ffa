-- The three sorts of line: bidders', paths' and bids'.
use mathlib.Core.Path.{◌≡◌, refl, ap, ap₂}
use mathlib.Core.Bool.{Bool, true, ◌&&◌}
use mathlib.Core.List.{List, [], ◌∷◌, ◌++◌}
use Prim.Native.Nat.{ℕ, ◌+◌, ◌≤◌}
use native.Mathlib.Omega.{arith}
use lib.Dec.{leb}
use lib.ListN.{length}
use borrow.Author.Tests.{leb-true, le-leb}
use Rattle.market.proofs.Tests.{left-true, right-true}
use Rattle.market.specs.Books.{every}
use Rattle.round_bids.specs.Bids.{Bid}
use Rattle.text_fields.proofs.FieldLaws.{line-text, text-some}
use Rattle.text_fields.specs.Fields.{newline, word_top}
use Rattle.sheet_lines.specs.Lines.{line_at}
use Rattle.sheet_lines.specs.declared.part.Part.TheVariants.{Bidders, Paths, Bids}
use Rattle.sheet_form.specs.Reading.{bidder_line_at, path_line_at, bid_in}
use Rattle.sheet_form.specs.declared.rows.BidderLine.{BidderLine}
use Rattle.sheet_form.specs.declared.rows.PathLine.{PathLine}
use Rattle.sheet_form.specs.Sheet.{bidder_line, path_line, bid_line, bidder_lines, path_lines, bid_lines, right_bidders, right_path, right_bid}
use Rattle.sheet_form.proofs.BidLineLaws.{bid-some, bid-written, bid-again, bid-line-read}
use Rattle.sheet_form.proofs.LineLaws.{right_bidder, bidder-number, bidder-again, bidder-written, bidder-read, path-some, path-again, path-written, path-read}
use Rattle.sheet_form.proofs.SectionLaws.{Sort, write_all, right_all, Written, Stands}

-- ---- Bidders: a number above the one before

abbrev pub bidder_sort : Sort BidderLine
bidder_sort =
    record {
      part = Bidders;
      write = λ least x. bidder_line x;
      next = λ least x. x.bidder + 1;
      right = right_bidder;
      read = bidder_line_at;
    }

pub bidder-in : (least : ℕ) (x : BidderLine) (rest : List ℕ) → right_bidder least x ≡ true → Written bidder_sort least x rest
bidder-in least x rest right =
    record {
      some = omega (arith, text-some newline x.bidder (x.cash ∷ x.letter ∷ []), ap length (line-text x.bidder (x.cash ∷ x.letter ∷ [])));
      step =
          ap₂ (λ (u n : ℕ). record { used = u; next = n + 1 }) (bidder-written least x rest right) (bidder-number least x rest right);
      again = bidder-again least x rest right;
    }

pub bidder-out : (least : ℕ) (text : List ℕ) → 1 ≤ (line_at Bidders least text).used → Stands bidder_sort least text
bidder-out least text used =
    let r = bidder-read least text used in
    record { front = r.front; long = r.long; after = refl; right = r.right }

pub bidders-text : (xs : List BidderLine) (least : ℕ) → write_all bidder_sort least xs ≡ bidder_lines xs
bidders-text [] least = refl
bidders-text (x ∷ xs) least = ap (λ (l : List ℕ). bidder_line x ++ l) (bidders-text xs (x.bidder + 1))

pub bidders-right : (xs : List BidderLine) (least : ℕ) → right_all bidder_sort least xs ≡ right_bidders least xs
bidders-right [] least = refl
bidders-right (x ∷ xs) least = ap (λ (t : Bool). right_bidder least x && t) (bidders-right xs (x.bidder + 1))

-- ---- Paths: numbered from 0

abbrev pub path_sort : Sort PathLine
path_sort =
    record {
      part = Paths;
      write = path_line;
      next = λ number p. number + 1;
      right = λ number p. leb number word_top && right_path p;
      read = path_line_at;
    }

pub path-in : (number : ℕ) (p : PathLine) (rest : List ℕ) → (leb number word_top && right_path p) ≡ true → Written path_sort number p rest
path-in number p rest right =
    let most = leb-true number word_top (left-true (leb number word_top) (right_path p) right) in
    let good = right-true (leb number word_top) (right_path p) right in
    record {
      some = path-some number p;
      step = ap (λ (u : ℕ). record { used = u; next = number + 1 }) (path-written number p rest most good);
      again = path-again number p rest most good;
    }

pub path-out : (number : ℕ) (text : List ℕ) → 1 ≤ (line_at Paths number text).used → Stands path_sort number text
path-out number text used =
    let r = path-read number text used in
    record {
      front = r.front;
      long = r.long;
      after = refl;
      right = ap₂ ◌&&◌ (le-leb number word_top r.most) r.right;
    }

pub paths-text : (ps : List PathLine) (number : ℕ) → write_all path_sort number ps ≡ path_lines number ps
paths-text [] number = refl
paths-text (p ∷ ps) number = ap (λ (l : List ℕ). path_line number p ++ l) (paths-text ps (number + 1))

pub paths-right : (ps : List PathLine) (number : ℕ) → number + length ps ≤ word_top → every right_path ps ≡ true → right_all path_sort number ps ≡ true
paths-right [] number most right = refl
paths-right (p ∷ ps) number most right =
    ap₂ ◌&&◌ (ap₂ ◌&&◌ (le-leb number word_top (omega arith)) (left-true (right_path p) (every right_path ps) right))
    (paths-right ps (number + 1) (omega arith) (right-true (right_path p) (every right_path ps) right))

pub right-paths : (ps : List PathLine) (number : ℕ) → right_all path_sort number ps ≡ true → every right_path ps ≡ true
right-paths [] number right = refl
right-paths (p ∷ ps) number right =
    let here = leb number word_top && right_path p in
    ap₂ ◌&&◌ (right-true (leb number word_top) (right_path p) (left-true here (right_all path_sort (number + 1) ps) right))
    (right-paths ps (number + 1) (right-true here (right_all path_sort (number + 1) ps) right))

-- ---- Bids

abbrev pub bid_sort : Sort Bid
bid_sort =
    record { part = Bids; write = λ state b. bid_line b; next = λ state b. state; right = λ state b. right_bid b; read = bid_in }

pub bid-in : (state : ℕ) (b : Bid) (rest : List ℕ) → right_bid b ≡ true → Written bid_sort state b rest
bid-in state b rest right =
    record {
      some = bid-some b;
      step = ap (λ (u : ℕ). record { used = u; next = state }) (bid-written b rest right);
      again = bid-again b rest right;
    }

pub bid-out : (state : ℕ) (text : List ℕ) → 1 ≤ (line_at Bids state text).used → Stands bid_sort state text
bid-out state text used =
    let r = bid-line-read text used in
    record { front = r.front; long = r.long; after = refl; right = r.right }

pub bids-text : (bs : List Bid) (state : ℕ) → write_all bid_sort state bs ≡ bid_lines bs
bids-text [] state = refl
bids-text (b ∷ bs) state = ap (λ (l : List ℕ). bid_line b ++ l) (bids-text bs state)

pub bids-right : (bs : List Bid) (state : ℕ) → right_all bid_sort state bs ≡ every right_bid bs
bids-right [] state = refl
bids-right (b ∷ bs) state = ap (λ (t : Bool). right_bid b && t) (bids-right bs state)
