use native.Mathlib.Omega.{arith}
use mathlib.Core.Path.{◌≡◌, sym, ap}
use mathlib.Core.List.{List, [], ◌∷◌}
use Prim.Native.Nat.{ℕ}
use lib.ListN.{length}
use Rattle.market.specs.declared.book.Bidder.{Bidder}
use Rattle.text_numbers.proofs.PutLaws.{put_is}
use Rattle.text_fields.specs.Fields.{newline, numbers_text}
use Rattle.text_fields.proofs.FieldLaws.{line-text}
use Rattle.award_sheet_parts.specs.AwardSheet.{award_bidder_line}
use Rattle.award_sheet_parts.proofs.bidder_lines.put_bidder_line.Goals as goal

abbrev amounts : Bidder → List ℕ
amounts x = x.cash.0 ∷ x.applied.0 ∷ x.letter.0 ∷ x.hold.0 ∷ x.owed.0 ∷ []

same : (number : ℕ) (x : Bidder) → award_bidder_line number x ≡ numbers_text newline (number ∷ amounts x)
same number x = sym (line-text number (amounts x))

pub put_numbers-requires : goal.put_numbers-requires
put_numbers-requires c =
    let a = c.args in record {
      in_bounds = omega arith;
      numbers_in_bounds = omega (arith, c.requires, ap length (same a.number a.bidder));
    }

pub returns : goal.returns
returns c = put_is (same c.args.number c.args.bidder) c.put_numbers.ensures
