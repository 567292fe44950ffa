-- Every award sheet fits an output buffer of 65,536 bytes (rule 14.11).
use mathlib.Core.Path.{◌≡◌}
use mathlib.Core.Bool.{Bool, true, false, cond}
use mathlib.Core.List.{List, [], ◌∷◌, ◌++◌}
use Prim.Native.Nat.{ℕ, zero, suc, ◌+◌, ◌*◌, ◌≤◌, ◌<◌, ◌^◌}
use native.Mathlib.Omega.{arith}
use lib.Dec.{eqb, ltb}
use lib.ListN.{length, length-append}
use borrow.Author.Tests.{ltb-true}
use Rattle.market.proofs.SoundLaws.{bidder-within}
use Rattle.market.proofs.Tests.{left-true, right-true, kept-at-most}
use Rattle.market.specs.Books.{every, bidder_of}
use Rattle.market.specs.Limits.{bidder_limit, path_limit, admitted, award_sheet_bytes}
use Rattle.market.specs.Sound.{sound_book, BidderBounds}
use Rattle.market.specs.declared.book.Bidder.{Bidder}
use Rattle.market.specs.declared.book.Book.{Book}
use Rattle.text_numbers.proofs.DecimalLaws.{decimal-length}
use Rattle.text_numbers.specs.Decimal.{decimal}
use Rattle.text_fields.specs.Fields.{newline, space, line, count_line}
use Rattle.sheet_lines.specs.Lines.{part_word}
use Rattle.sheet_lines.specs.declared.part.Part.TheVariants.{Bidders, Paths, Bids}
use Rattle.round_bids.specs.Bids.{Bid}
use Rattle.round_award_rules.proofs.RoundClaims.{EachBid}
use Rattle.call_round.specs.Answers.{mark_in, value_in, won_in, charge_in, offered_in, sold_in, price_in}
use Rattle.award_sheet_round.specs.RoundLines.{mark_word, award_bid_line, award_bid_lines, price_field, award_path_line, award_path_lines, award_line, award_lines, winners, RoundMade, round_text}
use Rattle.award_sheet_round.specs.Phrases.{awards_word, admitted_word, over_word, no_price_mark}
use Rattle.market.specs.Answers.{form_refusal}
use Rattle.award_sheet_parts.specs.AwardSheet.{award_title_line, rounds_text, is_bidder, award_bidder_line, award_bidder_lines, award_text, refused_line, refused_text}
use Rattle.award_sheet_parts.specs.Phrases.{rounds_word, refused_word, line_word}

-- ---- A line

abbrev sizes : List (List ℕ) → ℕ
sizes [] = 0
sizes (f ∷ fs) = length f + 1 + sizes fs

line-size : (f : List ℕ) (fs : List (List ℕ)) → length (line (f ∷ fs)) ≤ sizes (f ∷ fs)
line-size f [] = omega (arith, length-append f (newline ∷ []))
line-size f (g ∷ fs) = omega (arith, length-append f (space ∷ line (g ∷ fs)), line-size g fs)

-- ---- A round

-- how large the numbers of an answered bid are, and those of a path
pub record BidSizes (answers : List ℕ) (bid : ℕ) (b : Bid) : Type 0 where
  pub place : bid < bidder_limit * path_limit
  pub bidder : b.bidder < bidder_limit
  pub path : b.path < path_limit
  pub value : value_in answers bid < 10 ^ 14
  pub won : won_in answers bid < 10 ^ 4
  pub charge : charge_in answers bid < 10 ^ 12

pub record PathSizes (results : List ℕ) (path : ℕ) : Type 0 where
  pub place : path < path_limit
  pub offered : offered_in results path < 10 ^ 4
  pub sold : sold_in results path < 10 ^ 4
  pub price : price_in results path < 10 ^ 9

mark-size : (mark : ℕ) → length (mark_word mark) ≤ 8
mark-size mark = go (eqb mark admitted)
  where
    go : (t : Bool) → length (cond t admitted_word over_word) ≤ 8
    go true = omega arith
    go false = omega arith

bid-size : (answers : List ℕ) (bid : ℕ) (b : Bid) → BidSizes answers bid b → length (award_bid_line answers bid b) ≤ 34
bid-size answers bid b s =
    omega (
      arith,
      line-size (decimal (bid + 1)) (decimal b.bidder ∷ decimal b.path ∷ mark_word (mark_in answers bid) ∷ decimal (value_in answers bid) ∷ []),
      decimal-length 3 (bid + 1) (omega arith) (omega arith) (omega (arith, s.place)),
      decimal-length 2 b.bidder (omega arith) (omega arith) (omega (arith, s.bidder)),
      decimal-length 2 b.path (omega arith) (omega arith) (omega (arith, s.path)),
      mark-size (mark_in answers bid),
      decimal-length 14 (value_in answers bid) (omega arith) (omega arith) s.value,
    )

award-size : (answers : List ℕ) (bid : ℕ) (b : Bid) → BidSizes answers bid b → length (award_line answers bid b) ≤ 24
award-size answers bid b s =
    omega (
      arith,
      line-size (decimal b.bidder) (decimal b.path ∷ decimal (won_in answers bid) ∷ decimal (charge_in answers bid) ∷ []),
      decimal-length 2 b.bidder (omega arith) (omega arith) (omega (arith, s.bidder)),
      decimal-length 2 b.path (omega arith) (omega arith) (omega (arith, s.path)),
      decimal-length 4 (won_in answers bid) (omega arith) (omega arith) s.won,
      decimal-length 12 (charge_in answers bid) (omega arith) (omega arith) s.charge,
    )

price-size : (price : ℕ) → price < 10 ^ 9 → length (price_field price) ≤ 9
price-size price small = go (eqb price 0)
  where
    go : (t : Bool) → length (cond t no_price_mark (decimal price)) ≤ 9
    go true = omega arith
    go false = decimal-length 9 price (omega arith) (omega arith) small

path-size : (results : List ℕ) (path : ℕ) → PathSizes results path → length (award_path_line results path) ≤ 23
path-size results path s =
    omega (
      arith,
      line-size (decimal path) (decimal (offered_in results path) ∷ decimal (sold_in results path) ∷ price_field (price_in results path) ∷ []),
      decimal-length 2 path (omega arith) (omega arith) (omega (arith, s.place)),
      decimal-length 4 (offered_in results path) (omega arith) (omega arith) s.offered,
      decimal-length 4 (sold_in results path) (omega arith) (omega arith) s.sold,
      price-size (price_in results path) s.price,
    )

abbrev pub AllSizes : List ℕ → ℕ → List Bid → Type 0
AllSizes answers bid bs = EachBid (BidSizes answers) bid bs

bids-size : (answers : List ℕ) (bid : ℕ) (bs : List Bid) → AllSizes answers bid bs → length (award_bid_lines answers bid bs) ≤ length bs * 34
bids-size answers bid [] s = omega arith
bids-size answers bid (b ∷ bs) s =
    omega (arith, length-append (award_bid_line answers bid b) (award_bid_lines answers (bid + 1) bs), bid-size answers bid b s.0, bids-size answers (bid + 1) bs s.1)

awards-size : (answers : List ℕ) (bid : ℕ) (bs : List Bid) → AllSizes answers bid bs → length (award_lines answers bid bs) ≤ length bs * 24
awards-size answers bid [] s = omega arith
awards-size answers bid (b ∷ bs) s =
    let here = cond (ltb 0 (won_in answers bid)) (award_line answers bid b) [] in
    omega (arith, length-append here (award_lines answers (bid + 1) bs), one (ltb 0 (won_in answers bid)), awards-size answers (bid + 1) bs s.1)
  where
    one : (t : Bool) → length (cond t (award_line answers bid b) []) ≤ 24
    one true = award-size answers bid b s.0
    one false = omega arith

winners-few : (answers : List ℕ) (bid : ℕ) (bs : List Bid) → winners answers bid bs ≤ length bs
winners-few answers bid [] = omega arith
winners-few answers bid (b ∷ bs) =
    omega (arith, kept-at-most (ltb 0 (won_in answers bid)) 1, winners-few answers (bid + 1) bs)

paths-size : (results : List ℕ) (n : ℕ) → ((path : ℕ) → path < n → PathSizes results path) → length (award_path_lines results n) ≤ n * 23
paths-size results zero s = omega arith
paths-size results (suc n) s =
    omega (
      arith,
      length-append (award_path_lines results n) (award_path_line results n),
      path-size results n (s n (omega arith)),
      paths-size results n (λ path less. s path (omega arith)),
    )

pub count-size : (word : List ℕ) (k n : ℕ) → 1 ≤ k → k ≤ 20 → n < 10 ^ k → length (count_line word n) ≤ length word + k + 2
count-size word k n one most small = omega (arith, line-size word (decimal n ∷ []), decimal-length k n one most small)

pub record RoundSizes (paths : ℕ) (r : RoundMade) : Type 0 where
  pub few : length r.bids ≤ bidder_limit * path_limit
  pub bids : AllSizes r.answers 0 r.bids
  pub few-paths : paths ≤ path_limit
  pub each : (path : ℕ) → path < paths → PathSizes r.results path

round-size : (paths : ℕ) (r : RoundMade) → RoundSizes paths r → length (round_text paths r) ≤ 30100
unfolding round_text
round-size paths r s =
    let a = count_line (part_word Bids) (length r.bids) in
    let b = award_bid_lines r.answers 0 r.bids in
    let c = count_line (part_word Paths) paths in
    let d = award_path_lines r.results paths in
    let e = count_line awards_word (winners r.answers 0 r.bids) in
    let f = award_lines r.answers 0 r.bids in
    omega (
      arith,
      length-append ((a ++ b) ++ (c ++ d)) (e ++ f),
      length-append (a ++ b) (c ++ d),
      length-append a b,
      length-append c d,
      length-append e f,
      count-size (part_word Bids) 3 (length r.bids) (omega arith) (omega arith) (omega (arith, s.few)),
      count-size (part_word Paths) 2 paths (omega arith) (omega arith) (omega (arith, s.few-paths)),
      count-size awards_word 3 (winners r.answers 0 r.bids) (omega arith) (omega arith) (omega (arith, s.few, winners-few r.answers 0 r.bids)),
      bids-size r.answers 0 r.bids s.bids,
      awards-size r.answers 0 r.bids s.bids,
      paths-size r.results paths s.each,
      s.few,
      s.few-paths,
    )

-- ---- The bidders

bidder-size : (number : ℕ) (x : Bidder) → number < bidder_limit → BidderBounds x → length (award_bidder_line number x) ≤ 75
bidder-size number x few s =
    omega (
      arith,
      line-size (decimal number) (decimal x.cash.0 ∷ decimal x.applied.0 ∷ decimal x.letter.0 ∷ decimal x.hold.0 ∷ decimal x.owed.0 ∷ []),
      decimal-length 2 number (omega arith) (omega arith) (omega arith),
      decimal-length 13 x.cash.0 (omega arith) (omega arith) (omega (arith, s.held)),
      decimal-length 13 x.applied.0 (omega arith) (omega arith) (omega (arith, s.held)),
      decimal-length 13 x.letter.0 (omega arith) (omega arith) (omega (arith, s.letter)),
      decimal-length 13 x.hold.0 (omega arith) (omega arith) (omega (arith, s.letter, s.hold)),
      decimal-length 15 x.owed.0 (omega arith) (omega arith) (omega (arith, s.owed)),
    )

bidders-size : (b : Book) (listed : List ℕ) → sound_book b ≡ true → every is_bidder listed ≡ true → length (award_bidder_lines b listed) ≤ length listed * 75
bidders-size b [] sound all = omega arith
bidders-size b (n ∷ ns) sound all =
    omega (
      arith,
      length-append (award_bidder_line n (bidder_of b n)) (award_bidder_lines b ns),
      bidder-size n (bidder_of b n) (ltb-true n bidder_limit (left-true (is_bidder n) (every is_bidder ns) all)) (bidder-within b n sound),
      bidders-size b ns sound (right-true (is_bidder n) (every is_bidder ns) all),
    )

-- ---- The sheet

abbrev pub EachRound : ℕ → List RoundMade → Type 0
EachRound paths [] = Unit {0}
EachRound paths (r ∷ rs) = RoundSizes paths r × EachRound paths rs

rounds-size : (paths : ℕ) (rounds : List RoundMade) → EachRound paths rounds → length (rounds_text paths rounds) ≤ length rounds * 30100
rounds-size paths [] all = omega arith
rounds-size paths (r ∷ rs) all =
    omega (arith, length-append (round_text paths r) (rounds_text paths rs), round-size paths r all.0, rounds-size paths rs all.1)

title-size : length award_title_line ≤ 28
unfolding decimal
title-size = omega arith

-- an award sheet fits if it has at most two rounds, each of at most 512 bids, and a sound book with at most 32 bidders listed
pub award-fits :
    (rounds :
    List RoundMade) (b : Book) (listed : List ℕ) → length rounds ≤ 2 → EachRound b.path_count rounds → sound_book b ≡ true → length listed ≤ bidder_limit → every is_bidder listed ≡ true
    → length (award_text rounds b listed) ≤ award_sheet_bytes
unfolding award_text
award-fits rounds b listed two each sound few all =
    let t = award_title_line in
    let r = count_line rounds_word (length rounds) in
    let m = rounds_text b.path_count rounds in
    let c = count_line (part_word Bidders) (length listed) in
    let l = award_bidder_lines b listed in
    omega (
      arith,
      length-append (t ++ r ++ m) (c ++ l),
      length-append (t ++ r) m,
      length-append t r,
      length-append c l,
      title-size,
      count-size rounds_word 1 (length rounds) (omega arith) (omega arith) (omega (arith, two)),
      count-size (part_word Bidders) 2 (length listed) (omega arith) (omega arith) (omega (arith, few)),
      rounds-size b.path_count rounds each,
      bidders-size b listed sound all,
    )

-- ---- Refusals

-- the lines that take the place of an award sheet fit too
pub refused-fits : (number : ℕ) → number < 2 ^ 32 → length (refused_text number) ≤ award_sheet_bytes
refused-fits number small =
    omega (arith, count-size refused_word 10 number (omega arith) (omega arith) (omega (arith, small)))

pub faulty-fits : (at : ℕ) → at < 2 ^ 32 → length (refused_line form_refusal at) ≤ award_sheet_bytes
faulty-fits at small =
    omega (
      arith,
      line-size refused_word (decimal form_refusal ∷ line_word ∷ decimal at ∷ []),
      decimal-length 2 form_refusal (omega arith) (omega arith) (omega arith),
      decimal-length 10 at (omega arith) (omega arith) (omega (arith, small)),
    )
