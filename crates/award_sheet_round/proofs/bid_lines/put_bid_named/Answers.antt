-- One call writes the whole text. The bidder and the path come from the header that was read, which is the bid's
-- (`header_at`), so the numbers written are those of the rule (`same`).
use native.Mathlib.Omega.{arith}
use mathlib.Core.Path.{sym, ap}
use mathlib.Core.List.{List, [], ◌∷◌}
use Prim.Native.Nat.{ℕ, ◌+◌}
use lib.ListN.{length}
use Rattle.text_numbers.proofs.PutLaws.{put_is}
use Rattle.text_fields.specs.Fields.{space, numbers_text}
use Rattle.round_bids.specs.declared.Header.{Header}
use Rattle.award_sheet_round.proofs.bid_lines.put_bid_named.Goals as goal

abbrev text : ℕ → Header → List ℕ
text bid h = numbers_text space ((bid + 1) ∷ h.bidder ∷ h.path ∷ [])

pub put_numbers-requires : goal.put_numbers-requires
put_numbers-requires c =
    let same = sym (ap (text c.args.bid) c.header_at-header.ensures) in record {
      in_bounds = omega arith;
      numbers_in_bounds = omega (arith, c.requires.place_in_bounds, ap length same);
    }

pub returns : goal.returns
returns c = put_is (sym (ap (text c.args.bid) c.header_at-header.ensures)) c.put_numbers.ensures
