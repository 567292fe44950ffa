-- By cases: the calls up to open are refused (`run-refused`), or the auction is short (`run_short`) or long
-- (`run_long`); these laws say what the output is, from what was read. Where open was answered its book is sound
-- (`run-state`), as the rounds require.
use borrow.Author.Rules.{rules}
use mathlib.Core.Path.{◌≡◌, sym, ◌∙◌}
use native.Mathlib.Omega.{arith}
use lib.ListN.{length}
use Rattle.market.proofs.Tables.{told-number, told-none, told-above}
use Rattle.text_numbers.proofs.PutLaws.{put_is}
use Rattle.sheet_form.proofs.SheetLaws.{form-is-short}
use Rattle.sheet_output.proofs.RunLaws.{paths-inside, bidders-inside, count-few, days-inside, Read, rows_few, all-rows, run-refused, Opened, run-state, listed-all, listed-few, run_short, run_long}
use Rattle.sheet_output.proofs.SheetRun.{counted-front}
use Rattle.sheet_output.proofs.sheet.run.Goals as goal

pub bidders_of-bidders-requires : goal.bidders_of-bidders-requires
bidders_of-bidders-requires c =
    let p = c.requires in
    record { at_in_bounds = bidders-inside p.bytes_value p.places_are; bytes_bound = count-few p.bytes_value p.places_are }

pub paths_of-paths-requires : goal.paths_of-paths-requires
paths_of-paths-requires c = paths-inside c.requires.bytes_value c.requires.places_are

pub kind_in-kind-requires : goal.kind_in-kind-requires
kind_in-kind-requires c = days-inside c.requires.bytes_value c.requires.places_are

pub period_in-requires : goal.period_in-requires
period_in-requires c = days-inside c.requires.bytes_value c.requires.places_are

pub opened-start-requires : goal.opened-start-requires
opened-start-requires c =
    let a = c.args in
    let p = c.requires in
    let rows = c.bidders_of-bidders in
    let slots = c.paths_of-paths in
    let kind = c.kind_in-kind in
    let days = c.period_in in
    let read : Read a.bytes.now a.found rows.result slots.result kind.result days.result =
    record {
      form = p.bytes_value;
      places = p.places_are;
      rows_are = rows.ensures;
      slots-are = slots.ensures;
      kind-is = kind.ensures;
      days-are = days.ensures;
    } in
    all-rows read

pub returns-in-Err : goal.returns-in-Err
returns-in-Err c =
    let a = c.args in
    let p = c.requires in
    let rows = c.bidders_of-bidders in
    let slots = c.paths_of-paths in
    let kind = c.kind_in-kind in
    let days = c.period_in in
    let read : Read a.bytes.now a.found rows.result slots.result kind.result days.result =
    record {
      form = p.bytes_value;
      places = p.places_are;
      rows_are = rows.ensures;
      slots-are = slots.ensures;
      kind-is = kind.ensures;
      days-are = days.ensures;
    } in
    let answer = c.opened-start.result.answer in
    let told = sym c.numbered.ensures ∙ c.in-Err.is in
    put_is (run-refused read c.opened-start.ensures (told-number answer told) (told-above answer told)) c.refused.ensures

pub numbers-numbers-requires : goal.numbers-numbers-requires
numbers-numbers-requires c =
    let a = c.args in
    let p = c.requires in
    let rows = c.bidders_of-bidders in
    let slots = c.paths_of-paths in
    let kind = c.kind_in-kind in
    let days = c.period_in in
    let read : Read a.bytes.now a.found rows.result slots.result kind.result days.result =
    record {
      form = p.bytes_value;
      places = p.places_are;
      rows_are = rows.ensures;
      slots-are = slots.ensures;
      kind-is = kind.ensures;
      days-are = days.ensures;
    } in
    all-rows read

pub slice_bounds-numbers-end : goal.slice_bounds-numbers-end
slice_bounds-numbers-end c =
    let a = c.args in
    let p = c.requires in
    let rows = c.bidders_of-bidders in
    let slots = c.paths_of-paths in
    let kind = c.kind_in-kind in
    let days = c.period_in in
    let read : Read a.bytes.now a.found rows.result slots.result kind.result days.result =
    record {
      form = p.bytes_value;
      places = p.places_are;
      rows_are = rows.ensures;
      slots-are = slots.ensures;
      kind-is = kind.ensures;
      days-are = days.ensures;
    } in
    let long : length c.numbers-numbers.result ≡ 32 = search rules in
    omega (arith, long, rows_few read)

pub slice_bounds-listed-end : goal.slice_bounds-listed-end
slice_bounds-listed-end c =
    let a = c.args in
    let p = c.requires in
    let rows = c.bidders_of-bidders in
    let slots = c.paths_of-paths in
    let kind = c.kind_in-kind in
    let days = c.period_in in
    let read : Read a.bytes.now a.found rows.result slots.result kind.result days.result =
    record {
      form = p.bytes_value;
      places = p.places_are;
      rows_are = rows.ensures;
      slots-are = slots.ensures;
      kind-is = kind.ensures;
      days-are = days.ensures;
    } in
    let long : length c.numbers-numbers.result ≡ 32 = search rules in
    counted-front c.numbers-numbers.result rows.result.count (omega (arith, long, rows_few read))

pub run_short-requires : goal.run_short-requires
run_short-requires c =
    let a = c.args in
    let p = c.requires in
    let rows = c.bidders_of-bidders in
    let slots = c.paths_of-paths in
    let kind = c.kind_in-kind in
    let days = c.period_in in
    let read : Read a.bytes.now a.found rows.result slots.result kind.result days.result =
    record {
      form = p.bytes_value;
      places = p.places_are;
      rows_are = rows.ensures;
      slots-are = slots.ensures;
      kind-is = kind.ensures;
      days-are = days.ensures;
    } in
    let opened : Opened a.bytes.now a.found rows.result slots.result kind.result days.result c.opened-start.result c.numbers-numbers.result =
    record {
      read = read;
      opens = c.opened-start.ensures;
      none = told-none c.opened-start.result.answer (sym c.numbered.ensures ∙ c.in_default.is);
      numbers-are = c.numbers-numbers.ensures;
    } in
    record {
      bytes_len_bound = form-is-short a.bytes.now p.bytes_value;
      places_are = p.places_are;
      sound_memory = run-state opened;
      listed_value = listed-all opened;
      listed_len_bound = listed-few opened;
      award_sheet_bytes_in_bounds = p.award_sheet_bytes_in_bounds;
    }

pub run_long-requires : goal.run_long-requires
run_long-requires c =
    let a = c.args in
    let p = c.requires in
    let rows = c.bidders_of-bidders in
    let slots = c.paths_of-paths in
    let kind = c.kind_in-kind in
    let days = c.period_in in
    let read : Read a.bytes.now a.found rows.result slots.result kind.result days.result =
    record {
      form = p.bytes_value;
      places = p.places_are;
      rows_are = rows.ensures;
      slots-are = slots.ensures;
      kind-is = kind.ensures;
      days-are = days.ensures;
    } in
    let opened : Opened a.bytes.now a.found rows.result slots.result kind.result days.result c.opened-start.result c.numbers-numbers.result =
    record {
      read = read;
      opens = c.opened-start.ensures;
      none = told-none c.opened-start.result.answer (sym c.numbered.ensures ∙ c.in_default.is);
      numbers-are = c.numbers-numbers.ensures;
    } in
    record {
      bytes_len_bound = form-is-short a.bytes.now p.bytes_value;
      places_are = p.places_are;
      sound_memory = run-state opened;
      listed_value = listed-all opened;
      listed_len_bound = listed-few opened;
      award_sheet_bytes_in_bounds = p.award_sheet_bytes_in_bounds;
    }

pub returns-in-Short : goal.returns-in-Short
returns-in-Short c =
    let a = c.args in
    let p = c.requires in
    let rows = c.bidders_of-bidders in
    let slots = c.paths_of-paths in
    let kind = c.kind_in-kind in
    let days = c.period_in in
    let read : Read a.bytes.now a.found rows.result slots.result kind.result days.result =
    record {
      form = p.bytes_value;
      places = p.places_are;
      rows_are = rows.ensures;
      slots-are = slots.ensures;
      kind-is = kind.ensures;
      days-are = days.ensures;
    } in
    let opened : Opened a.bytes.now a.found rows.result slots.result kind.result days.result c.opened-start.result c.numbers-numbers.result =
    record {
      read = read;
      opens = c.opened-start.ensures;
      none = told-none c.opened-start.result.answer (sym c.numbered.ensures ∙ c.in_default.is);
      numbers-are = c.numbers-numbers.ensures;
    } in
    put_is (run_short opened c.in-Short.is) c.run_short.ensures

pub returns-in-Long : goal.returns-in-Long
returns-in-Long c =
    let a = c.args in
    let p = c.requires in
    let rows = c.bidders_of-bidders in
    let slots = c.paths_of-paths in
    let kind = c.kind_in-kind in
    let days = c.period_in in
    let read : Read a.bytes.now a.found rows.result slots.result kind.result days.result =
    record {
      form = p.bytes_value;
      places = p.places_are;
      rows_are = rows.ensures;
      slots-are = slots.ensures;
      kind-is = kind.ensures;
      days-are = days.ensures;
    } in
    let opened : Opened a.bytes.now a.found rows.result slots.result kind.result days.result c.opened-start.result c.numbers-numbers.result =
    record {
      read = read;
      opens = c.opened-start.ensures;
      none = told-none c.opened-start.result.answer (sym c.numbered.ensures ∙ c.in_default.is);
      numbers-are = c.numbers-numbers.ensures;
    } in
    put_is (run_long opened c.in-Long.is) c.run_long.ensures
