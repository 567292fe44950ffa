-- Every row is computed: both sides of an equation come to the same numbers.
use mathlib.Core.Path.{refl}
use Rattle.market.specs.Fresh.{fresh, fresh_book}
use Rattle.market.specs.Sound.{sound_book}
use Rattle.text_numbers.specs.Decimal.{decimal}
use Rattle.pool_sharing.specs.Sharing.{pool_shares}
use Rattle.pool_columns.specs.Pools.{shares_of}
use Rattle.call_funding.specs.Deposit.{deposit}
use Rattle.call_open.specs.Open.{«open»}
use Rattle.call_pay.specs.Pay.{pay}
use Rattle.call_default.specs.Default.{default}
use Rattle.call_rent.specs.Rent.{rent}
use Rattle.call_payout.specs.Payout.{amounts_of, payout}
use Rattle.call_disburse.specs.Disbursement.{settle}
use Rattle.round_award_rules.specs.Awards.{awards_of}
use Rattle.call_round.specs.Round.{awards_now, round}
use Rattle.call_rules.specs.Steps.{verdict_of, outcome_of, words_after, list_after}
use Rattle.sheet_form.specs.Form.{form_of}
use Rattle.sheet_form.specs.Reading.{sheet_in}
use Rattle.award_sheet_round.specs.RoundLines.{round_text}
use Rattle.award_sheet_parts.specs.AwardSheet.{award_text}
use Rattle.sheet_calls.specs.Calls.{opened}
use Rattle.sheet_rounds.specs.Rounds.{sheet_round, output_from}
use Rattle.sheet_output.specs.Output.{sheet_output, output_of}
use Rattle.promise_cases.specs.SheetText.{SheetText}
use Rattle.promise_cases.specs.Cases.{NoBids, SheetCase, LongRounds, Offers, Admission, Defaults, Earnings, Shares, Starred}

no-bids : NoBids
unfolding fresh_book sound_book deposit «open» round awards_now awards_of pay default
no-bids = record { answered = refl; path = refl; idle-after = refl }

sheet : SheetCase
unfolding fresh_book sound_book deposit «open» round awards_now awards_of pay default
sheet = record { answered = refl; bids = refl; path = refl; bidder-3 = refl; bidder-7 = refl; pending = refl }

sheet-text : SheetText
unfolding output_of sheet_output output_from sheet_round opened form_of sheet_in decimal award_text round_text verdict_of outcome_of words_after list_after deposit
    fresh fresh_book «open» sound_book round awards_now awards_of
sheet-text = record { award = refl; refused = refl }

long-rounds : LongRounds
unfolding fresh_book sound_book deposit «open» round awards_now awards_of pay default
long-rounds = record { offer = refl; if-50-sold = refl; if-10-sold = refl }

offers : Offers
unfolding fresh_book sound_book deposit «open» round awards_now awards_of pay default
offers = record { long = refl; out = refl; long-with-out = refl; short-with-out = refl }

admission : Admission
unfolding fresh_book sound_book deposit «open» round awards_now awards_of pay default
admission = record { at-limit = refl; over-limit = refl }

defaults : Defaults
unfolding fresh_book sound_book deposit «open» round awards_now awards_of pay default
defaults = record { forfeit-3 = refl; cash-3 = refl; draw-7 = refl }

earnings : Earnings
unfolding fresh_book sound_book deposit «open» round awards_now awards_of pay payout amounts_of
earnings = record { X-above = refl; M-above = refl; M-below = refl }

shares : Shares
unfolding fresh_book sound_book rent settle shares_of pool_shares
shares = record { shared-out = refl }

pub starred : Starred
starred =
    record {
      no-bids = no-bids;
      sheet = sheet;
      sheet-text = sheet-text;
      long-rounds = long-rounds;
      offers = offers;
      admission = admission;
      defaults = defaults;
      earnings = earnings;
      shares = shares;
    }
