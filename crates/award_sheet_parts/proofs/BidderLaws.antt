-- Laws about the lines of the bidders listed, piece by piece.
use mathlib.Core.Path.{◌≡◌, sym, ◌∙◌, ap}
use mathlib.Core.List.{List, [], ◌++◌}
use Prim.Native.Nat.{ℕ, ◌+◌, ◌≤◌, ◌<◌}
use lib.ListN.{length, get_or, drop, drop_of_length-le}
use Rattle.market.specs.Books.{bidder_of}
use Rattle.market.specs.declared.book.Bidder.{Bidder}
use Rattle.market.specs.declared.book.Book.{Book}
use Rattle.text_writing.proofs.PieceLaws.{from-here}
use Rattle.award_sheet_parts.specs.AwardSheet.{award_bidder_line, award_bidder_lines}

module _ (b : Book) (listed : List ℕ) (i : ℕ) where
  pub bidders-next :
      {x : Bidder} → x ≡ bidder_of b (get_or listed i 0) → i < length listed
      → award_bidder_lines b (drop i listed) ≡ award_bidder_line (get_or listed i 0) x ++ award_bidder_lines b (drop (i + 1) listed)
  bidders-next is h =
      ap (award_bidder_lines b) (from-here listed i h)
      ∙ sym (ap (λ (x : Bidder). award_bidder_line (get_or listed i 0) x ++ award_bidder_lines b (drop (i + 1) listed)) is)

  pub bidders-none : length listed ≤ i → award_bidder_lines b (drop i listed) ≡ []
  bidders-none end = ap (award_bidder_lines b) (drop_of_length-le listed end)
