-- A list of words is not refused exactly if it encodes bids that a round takes, and reading and encoding undo each
-- other.
use mathlib.Core.Path.{◌≡◌, refl, sym, ◌∙◌, ap, ap₂}
use mathlib.Core.Bool.{Bool, true, false, cond, not, ◌&&◌}
use mathlib.Core.List.{List, [], ◌∷◌, ◌++◌}
use Prim.Native.Nat.{ℕ, zero, suc, ◌+◌, ◌*◌, ◌-◌, ◌≤◌}
use native.Mathlib.Omega.{arith}
use lib.Dec.{leb, ltb}
use lib.ListN.{length, get_or, drop, length-append, length-drop, drop_of_length-le}
use lib.Seq.{drop-cons, get_or-drop, drop-drop, drop-append_seam}
use borrow.Author.Tests.{le-leb, lt-leb, leb-true, le-ltb, ltb-false, not-true, not-false}
use Rattle.std.specs.Prelude.{Err}
use Rattle.market.proofs.Every.{both_true}
use Rattle.market.proofs.Tests.{left-true, right-true}
use Rattle.market.proofs.Tables.{none-hold, neither-holds}
use Rattle.market.specs.Answers.{Row, first_of, no_refusal}
use Rattle.market.specs.Limits.{header_words, pair_words}
use Rattle.market.specs.declared.answer.Refusal.{Refusal}
use Rattle.round_bids.specs.Bids.{Bid, header_at, laminations_at, pairs_from, bid_end, bid_at, bids_from, bids_of}
use Rattle.round_bids.specs.Encoding.{pairs_encoded, bid_encoded, encoded, right_after, right_bids}
use Rattle.round_bids.specs.BidRefusals.{sound_bid, whole_at, has_bid, stamp_of, bid_refusals, refusals_from, list_refusals, sound_bid_at}
use Rattle.round_bids.specs.declared.Lamination.{Lamination}
use Rattle.round_bids.proofs.BidLaws.{fits-list, laminations-count}

-- ---- What is read encodes back

module _ (words : List ℕ) where
  -- the pairs that are read at a place encode to the words there
  pairs-back : (n at : ℕ) → at + n * pair_words ≤ length words → pairs_encoded (laminations_at words at n) ++ drop (at + n * pair_words) words ≡ drop at words
  pairs-back zero at fits = ap (λ (p : ℕ). drop p words) (let same : at + 0 * pair_words ≡ at = omega arith in same)
  pairs-back (suc n) at fits =
      let next : at + suc n * pair_words ≡ at + pair_words + n * pair_words = omega arith in
      let two : suc (suc at) ≡ at + pair_words = omega arith in
      let one : at + 1 ≡ suc at = omega arith in
      ap
      (λ (l : List ℕ). get_or words at 0 ∷ get_or words (at + 1) 0 ∷ l)
      (ap (λ (p : ℕ). pairs_encoded (laminations_at words (at + pair_words) n) ++ drop p words) next
      ∙ pairs-back n (at + pair_words) (omega arith)
      ∙ ap (λ (p : ℕ). drop p words) (sym two))
      ∙ ap (λ (p : ℕ). get_or words at 0 ∷ get_or words p 0 ∷ drop (suc (suc at)) words) one
      ∙ ap (get_or words at 0 ∷◌) (sym (drop-cons words (suc at) 0 (omega arith)))
      ∙ sym (drop-cons words at 0 (omega arith))

  -- and so does the header
  header-back :
      (at : ℕ) → at + header_words ≤ length words
      → get_or words at 0 ∷ get_or words (at + 1) 0 ∷ get_or words (at + 2) 0 ∷ get_or words (at + 3) 0 ∷ drop (at + header_words) words ≡ drop at words
  header-back at fits =
      let e1 : at + 1 ≡ suc at = omega arith in
      let e2 : at + 2 ≡ suc (suc at) = omega arith in
      let e3 : at + 3 ≡ suc (suc (suc at)) = omega arith in
      let e4 : at + header_words ≡ suc (suc (suc (suc at))) = omega arith in
      ap₂ (λ (p q : ℕ). get_or words at 0 ∷ get_or words p 0 ∷ get_or words q 0 ∷ get_or words (at + 3) 0 ∷ drop (at + header_words) words) e1 e2
      ∙ ap₂ (λ (p q : ℕ). get_or words at 0 ∷ get_or words (suc at) 0 ∷ get_or words (suc (suc at)) 0 ∷ get_or words p 0 ∷ drop q words) e3 e4
      ∙ ap (λ (l : List ℕ). get_or words at 0 ∷ get_or words (suc at) 0 ∷ get_or words (suc (suc at)) 0 ∷ l) (sym (drop-cons words (suc (suc (suc at))) 0 (omega arith)))
      ∙ ap (λ (l : List ℕ). get_or words at 0 ∷ get_or words (suc at) 0 ∷ l) (sym (drop-cons words (suc (suc at)) 0 (omega arith)))
      ∙ ap (get_or words at 0 ∷◌) (sym (drop-cons words (suc at) 0 (omega arith)))
      ∙ sym (drop-cons words at 0 (omega arith))

  -- a whole bid that is read at a place encodes to the words there
  pub bid-back : (at : ℕ) → bid_end words at ≤ length words → bid_encoded (bid_at words at) ++ drop (bid_end words at) words ≡ drop at words
  bid-back at fits =
      ap (λ (n : ℕ). get_or words at 0 ∷ get_or words (at + 1) 0 ∷ get_or words (at + 2) 0 ∷ n ∷ (pairs_encoded (bid_at words at).laminations ++ drop (bid_end words at) words))
      (laminations-count words (pairs_from at) (header_at words at).count)
      ∙ ap (λ (l : List ℕ). get_or words at 0 ∷ get_or words (at + 1) 0 ∷ get_or words (at + 2) 0 ∷ get_or words (at + 3) 0 ∷ l)
      (pairs-back (header_at words at).count (pairs_from at) fits)
      ∙ header-back at (omega arith)

-- what is known of the bid at a place where none of its rows refuses it
module _ (paths : ℕ) (words : List ℕ) (at : ℕ) (earlier : List Bid) where
  pub record RightAt : Type 0 where
    pub good : sound_bid_at paths words at ≡ true
    pub first : has_bid (bid_at words at).bidder (bid_at words at).path earlier ≡ false
    pub rises : ltb (bid_at words at).stamp (stamp_of earlier) ≡ false

  pub right-at : (rest : List Row) → first_of (bid_refusals paths words at earlier ++ rest) ≡ no_refusal → RightAt × (first_of rest ≡ no_refusal)
  right-at rest h =
      let parts = neither-holds (bid_refusals paths words at earlier) rest h in
      let none = none-hold (bid_refusals paths words at earlier) parts.0 in
      (record { good = not-false (sound_bid_at paths words at) none.0; first = none.1.0; rises = none.1.1.0 }, parts.1)

module _ (paths : ℕ) (words : List ℕ) where
  abbrev after-rows : ℕ → ℕ → List Bid → List Row
  after-rows more at earlier = refusals_from more paths words (bid_end words at) (bid_at words at ∷ earlier)

  abbrev bids-if : Bool → ℕ → ℕ → List Bid
  bids-if end more at = cond end [] (bid_at words at ∷ bids_from more words (bid_end words at))

  -- the words from a place on, where nothing refuses them: they encode the bids read there, and a round takes these bids
  reads :
      (more at : ℕ) (earlier : List Bid) → at ≤ length words → length words ≤ more + at → first_of (refusals_from more paths words at earlier) ≡ no_refusal
      → (encoded (bids_from more words at) ≡ drop at words) × (right_after paths earlier (bids_from more words at) ≡ true)
  reads zero at earlier within enough h = (sym (drop_of_length-le words {i = at} (omega arith)), refl)
  reads (suc more) at earlier within enough h =
      go (leb (length words) at) refl h
      (λ fits k. reads more (bid_end words at) (bid_at words at ∷ earlier) fits (omega arith) k)
    where
      go :
          (t :
          Bool) → leb (length words) at ≡ t → first_of (cond t [] (bid_refusals paths words at earlier ++ after-rows more at earlier)) ≡ no_refusal
          →
          (bid_end words at ≤ length words → first_of (after-rows more at earlier) ≡ no_refusal
          → (encoded (bids_from more words (bid_end words at)) ≡ drop (bid_end words at) words) × (right_after paths (bid_at words at ∷ earlier) (bids_from more words (bid_end words at)) ≡ true))
          → (encoded (bids-if t more at) ≡ drop at words) × (right_after paths earlier (bids-if t more at) ≡ true)
      go true e k next = (sym (drop_of_length-le words (leb-true (length words) at e)), refl)
      go false e k next =
          let here = right-at paths words at earlier (after-rows more at earlier) k in
          let fits = fits-list paths words at here.0.good in
          let after = next fits here.1 in (
            ap (bid_encoded (bid_at words at) ++◌) after.0 ∙ bid-back words at fits,
            both_true (both_true (both_true (right-true (whole_at words at) (sound_bid paths (bid_at words at)) here.0.good) (ap not here.0.first))
                (le-leb (stamp_of earlier) (bid_at words at).stamp (ltb-false (bid_at words at).stamp (stamp_of earlier) here.0.rises)))
                after.1,
          )

  -- a list that is not refused encodes its bids, and a round takes these bids
  pub encodes-back : first_of (list_refusals paths words) ≡ no_refusal → encoded (bids_of words) ≡ words
  encodes-back h = (reads (length words) 0 [] (omega arith) (omega arith) h).0

  pub bids-right : first_of (list_refusals paths words) ≡ no_refusal → right_bids paths (bids_of words) ≡ true
  bids-right h = (reads (length words) 0 [] (omega arith) (omega arith) h).1

-- ---- What is encoded is read

-- the words of pairs are read as these pairs
pairs-read : (words rest : List ℕ) (ls : List Lamination) (at : ℕ) → drop at words ≡ pairs_encoded ls ++ rest → laminations_at words at (length ls) ≡ ls
pairs-read words rest [] at is = refl
pairs-read words rest (l ∷ ls) at is =
    let zeroth : get_or words at 0 ≡ l.price.0 =
    ap (λ (i : ℕ). get_or words i 0) (let same : at ≡ at + 0 = omega arith in same) ∙ sym (get_or-drop at words 0 0) ∙ ap (λ (k : List ℕ). get_or k 0 0) is in
    let first : get_or words (at + 1) 0 ≡ l.quantity.0 = sym (get_or-drop at words 1 0) ∙ ap (λ (k : List ℕ). get_or k 1 0) is in
    ap₂ (λ (p q : ℕ). record { price = record { 0 = p }; quantity = record { 0 = q } } ∷ laminations_at words (at + pair_words) (length ls)) zeroth first
    ∙ ap (l ∷◌) (pairs-read words rest ls (at + pair_words) (sym (drop-drop pair_words at words) ∙ ap (drop pair_words) is))

-- the number of words of some pairs
pub pairs-length : (ls : List Lamination) → length (pairs_encoded ls) ≡ length ls * pair_words
pairs-length [] = refl
pairs-length (l ∷ ls) =
    let more = pairs-length ls in
    omega (arith, more)

-- the words of a bid are read as this bid
module _ (words rest : List ℕ) (b : Bid) (at : ℕ) (is : drop at words ≡ bid_encoded b ++ rest) where
  word : (k : ℕ) → get_or words (at + k) 0 ≡ get_or (bid_encoded b ++ rest) k 0
  word k = sym (get_or-drop at words k 0) ∙ ap (λ (l : List ℕ). get_or l k 0) is

  count-read : (header_at words at).count ≡ length b.laminations
  count-read = word 3

  pairs-there : drop (pairs_from at) words ≡ pairs_encoded b.laminations ++ rest
  pairs-there = sym (drop-drop header_words at words) ∙ ap (drop header_words) is

  pub bid-read : bid_at words at ≡ b
  bid-read =
      let zeroth : get_or words at 0 ≡ b.bidder = ap (λ (i : ℕ). get_or words i 0) (let same : at ≡ at + 0 = omega arith in same) ∙ word 0 in
      let pairs : laminations_at words (pairs_from at) (header_at words at).count ≡ b.laminations =
      ap (laminations_at words (pairs_from at)) count-read ∙ pairs-read words rest b.laminations (pairs_from at) pairs-there in
      ap₂ (λ (x y : ℕ). record { bidder = x; path = y; stamp = get_or words (at + 2) 0; laminations = (bid_at words at).laminations }) zeroth (word 1)
      ∙ ap₂ (λ (x : ℕ) (y : List Lamination). record { bidder = b.bidder; path = b.path; stamp = x; laminations = y }) (word 2) pairs

  end_read : bid_end words at ≡ at + header_words + length b.laminations * pair_words
  end_read = ap (λ (n : ℕ). at + header_words + n * pair_words) count-read

  rest-there : drop (bid_end words at) words ≡ rest
  rest-there =
      ap (λ (p : ℕ). drop p words) (end_read ∙ (let e : at + header_words + length b.laminations * pair_words ≡ pairs_from at + length (pairs_encoded b.laminations) =
      omega (arith, pairs-length b.laminations) in e))
      ∙ sym (drop-drop (length (pairs_encoded b.laminations)) (pairs_from at) words)
      ∙ ap (drop (length (pairs_encoded b.laminations))) pairs-there
      ∙ drop-append_seam (pairs_encoded b.laminations) rest

  end-within : at ≤ length words → bid_end words at ≤ length words
  end-within below =
      let long : length words - at ≡ suc (suc (suc (suc (length (pairs_encoded b.laminations ++ rest))))) = sym (length-drop at words) ∙ ap (λ (l : List ℕ). length l) is in
      let both = length-append (pairs_encoded b.laminations) rest in
      omega (arith, end_read, long, both, pairs-length b.laminations)

module _ (paths : ℕ) (words : List ℕ) where
  -- the words from a place on, where they encode bids that a round takes: nothing refuses them, and these bids are read
  reads-right :
      (bids :
      List Bid) (more at : ℕ) (earlier : List Bid) → drop at words ≡ encoded bids → at ≤ length words → length words ≤ more + at → right_after paths earlier bids ≡ true
      → (first_of (refusals_from more paths words at earlier) ≡ no_refusal) × (bids_from more words at ≡ bids)
  reads-right [] more at earlier is within enough h = go more
    where
      ends : leb (length words) at ≡ true
      ends =
          let none : length words - at ≡ 0 = sym (length-drop at words) ∙ ap (λ (l : List ℕ). length l) is in
          le-leb (length words) at (omega (arith, none))

      go : (n : ℕ) → (first_of (refusals_from n paths words at earlier) ≡ no_refusal) × (bids_from n words at ≡ [])
      go zero = (refl, refl)
      go (suc n) = (
        ap (λ (t : Bool). first_of (cond t [] (bid_refusals paths words at earlier ++ after-rows paths words n at earlier))) ends,
        ap (λ (t : Bool). bids-if paths words t n at) ends,
      )
  reads-right (b ∷ bids) zero at earlier is within enough h =
      let e = end-within words (encoded bids) b at is within in
      absurd (let no : ⊥ = omega (arith, e) in no)
  reads-right (b ∷ bids) (suc more) at earlier is within enough h =
      let whole = end-within words (encoded bids) b at is within in
      let read = bid-read words (encoded bids) b at is in
      let t1 = sound_bid paths b in
      let t2 = not (has_bid b.bidder b.path earlier) in
      let t3 = leb (stamp_of earlier) b.stamp in
      let t4 = right_after paths (b ∷ earlier) bids in
      let s3 = left-true (t1 && t2 && t3) t4 h in
      let s2 = left-true (t1 && t2) t3 s3 in
      let good : sound_bid_at paths words at ≡ true = ap₂ ◌&&◌ (le-leb (bid_end words at) (length words) whole) (ap (sound_bid paths) read ∙ left-true t1 t2 s2) in
      let first : has_bid (bid_at words at).bidder (bid_at words at).path earlier ≡ false =
      ap (λ (k : Bid). has_bid k.bidder k.path earlier) read ∙ not-true (has_bid b.bidder b.path earlier) (right-true t1 t2 s2) in
      let rises : ltb (bid_at words at).stamp (stamp_of earlier) ≡ false =
      ap (λ (k : Bid). ltb k.stamp (stamp_of earlier)) read ∙ le-ltb b.stamp (stamp_of earlier) (leb-true (stamp_of earlier) b.stamp (right-true (t1 && t2) t3 s3)) in
      let ends : leb (length words) at ≡ false = lt-leb (length words) at (omega (arith, whole)) in
      let next = reads-right bids more (bid_end words at) (b ∷ earlier) (rest-there words (encoded bids) b at is) whole (omega arith) (right-true (t1 && t2 && t3) t4 h) in (
        ap (λ (t : Bool). first_of (cond t [] (bid_refusals paths words at earlier ++ after-rows paths words more at earlier))) ends
            ∙ ap
            (λ (t : Bool). cond (not t) (Err Refusal.Bid)
            (cond (has_bid (bid_at words at).bidder (bid_at words at).path earlier) (Err Refusal.SecondBid)
            (cond (ltb (bid_at words at).stamp (stamp_of earlier)) (Err Refusal.Stamp) (first_of (after-rows paths words more at earlier)))))
            good
            ∙ ap₂ (λ (s t : Bool). cond s (Err Refusal.SecondBid) (cond t (Err Refusal.Stamp) (first_of (after-rows paths words more at earlier)))) first rises
            ∙ ap (λ (k : Bid). first_of (refusals_from more paths words (bid_end words at) (k ∷ earlier))) read
            ∙ next.0,
        ap (λ (t : Bool). bids-if paths words t more at) ends ∙ ap₂ ◌∷◌ read next.1,
      )

-- the words of bids that a round takes are not refused, and are read as these bids
pub taken-read : (paths : ℕ) (bids : List Bid) → right_bids paths bids ≡ true → (first_of (list_refusals paths (encoded bids)) ≡ no_refusal) × (bids_of (encoded bids) ≡ bids)
taken-read paths bids h = reads-right paths (encoded bids) bids (length (encoded bids)) 0 [] refl (omega arith) (omega arith) h
