-- One call writes the whole line (`line-text`). The bidder and the path come from the header that was read, which is
-- the bid's (`header_at`); MW and charge are read from the bid's own answers.
use native.Mathlib.Omega.{arith}
use mathlib.Core.Path.{◌≡◌, sym, ◌∙◌, ap}
use mathlib.Core.List.{List, [], ◌∷◌}
use Prim.Native.Nat.{ℕ}
use lib.ListN.{length}
use Rattle.text_numbers.proofs.PutLaws.{put_is}
use Rattle.text_fields.specs.Fields.{newline, numbers_text}
use Rattle.text_fields.proofs.FieldLaws.{line-text}
use Rattle.round_bids.specs.Bids.{bid_at, header_at}
use Rattle.round_bids.specs.declared.Header.{Header}
use Rattle.call_round.specs.Answers.{won_in, charge_in}
use Rattle.award_sheet_round.specs.RoundLines.{award_line}
use Rattle.award_sheet_round.proofs.award_lines.put_award_line.Goals as goal

abbrev rest : List ℕ → ℕ → Header → List ℕ
rest answers bid h = h.path ∷ won_in answers bid ∷ charge_in answers bid ∷ []

abbrev text : List ℕ → ℕ → Header → List ℕ
text answers bid h = numbers_text newline (h.bidder ∷ rest answers bid h)

same :
    (answers words : List ℕ) (bid place : ℕ) {h : Header} → h ≡ header_at words place
    → award_line answers bid (bid_at words place) ≡ text answers bid h
same answers words bid place e =
    let h = header_at words place in sym (ap (text answers bid) e ∙ line-text h.bidder (rest answers bid h))

pub put_numbers-requires : goal.put_numbers-requires
put_numbers-requires c =
    let a = c.args in record {
      in_bounds = omega arith;
      numbers_in_bounds = omega (arith, c.requires.place_in_bounds, ap length (same a.answers.now a.words.now a.bid a.place c.header_at-header.ensures));
    }

pub returns : goal.returns
returns c =
    let a = c.args in put_is (same a.answers.now a.words.now a.bid a.place c.header_at-header.ensures) c.put_numbers.ensures
