-- Three pieces, the title, the round and the bidders (`one-pieces`): the first two are added by `on_next`, which leaves
-- the room that the next one needs, and the last by `on_all`.
use mathlib.Core.Path.{refl}
use Rattle.text_writing.proofs.PutLaws.{written-room, written-fits}
use Rattle.award_sheet_parts.specs.AwardSheet.{title_text}
use Rattle.award_sheet_writer.specs.Written.{answered_text}
use Rattle.award_sheet.specs.Rounds.{made}
use Rattle.award_sheet.proofs.Pieces.{one-pieces}
use Rattle.award_sheet.proofs.WriterLaws.{on_start, on_next, on_all}
use Rattle.award_sheet.proofs.written.one.Goals as goal

pub title-titled-requires : goal.title-titled-requires
title-titled-requires c =
    let a = c.args in
    let pieces = one-pieces (made a.bids.now a.answers.now a.results.now) a.book a.listed.now in
    let begun = on_start c.start.ensures pieces c.requires.listed_in_bounds in
    written-fits begun.to (title_text 1) _ refl

pub round-first-requires-clause-results_in_bounds :
    goal.round-first-requires-clause-results_in_bounds
round-first-requires-clause-results_in_bounds c =
    let a = c.args in
    let pieces = one-pieces (made a.bids.now a.answers.now a.results.now) a.book a.listed.now in
    let begun = on_start c.start.ensures pieces c.requires.listed_in_bounds in
    let titled = on_next (title_text 1) begun c.title-titled.ensures in
    written-fits titled.to (answered_text a.book.path_count a.bids.now a.answers.now a.results.now) _ refl

pub bidders-requires-clause-listed_in_bounds : goal.bidders-requires-clause-listed_in_bounds
bidders-requires-clause-listed_in_bounds c =
    let a = c.args in
    let pieces = one-pieces (made a.bids.now a.answers.now a.results.now) a.book a.listed.now in
    let begun = on_start c.start.ensures pieces c.requires.listed_in_bounds in
    let first = on_next (answered_text a.book.path_count a.bids.now a.answers.now a.results.now) (on_next (title_text 1) begun c.title-titled.ensures) c.round-first.ensures in
    written-room first.to

pub returns : goal.returns
returns c =
    let a = c.args in
    let pieces = one-pieces (made a.bids.now a.answers.now a.results.now) a.book a.listed.now in
    let begun = on_start c.start.ensures pieces c.requires.listed_in_bounds in
    let first = on_next (answered_text a.book.path_count a.bids.now a.answers.now a.results.now) (on_next (title_text 1) begun c.title-titled.ensures) c.round-first.ensures in
    on_all first c.bidders.ensures
