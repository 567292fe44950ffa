-- One case for each way out: a header cut short (`not-whole`), a bad header (`bad-header`) or pairs cut short
-- (`cut_short`) make the rule's test false; otherwise the header is sound and all words are present, and the pairs
-- decide (`pairs_decide`).
use Rattle.round_bids.proofs.BidLaws.{not-whole, cut_short, bad-header, pairs_decide}
use native.Mathlib.Omega.{arith}
use mathlib.Core.Path.{sym, ◌∙◌, ap}
use Rattle.round_bids.specs.Bids.{laminations_at, pairs_from}
use Rattle.round_bids.specs.BidRefusals.{sound_laminations, above_prices}
use Rattle.round_bids.specs.declared.Header.{Header}
use Rattle.round_bid_refusals.proofs.sound_bid.Goals as goal

pub returns-then-left-lt-HEADER_WORDS : goal.returns-then-left-lt-HEADER_WORDS
returns-then-left-lt-HEADER_WORDS c = let a = c.args in
    sym (not-whole a.paths a.words.now a.at (omega arith))

pub returns-then-not-sound_header : goal.returns-then-not-sound_header
returns-then-not-sound_header c = let a = c.args in
    let h = c.header_at-header in
    let s = c.sound_header in
    sym (bad-header a.paths a.words.now a.at h.result h.ensures (sym s.ensures ∙ c.if-not-sound_header.true))

pub returns-then-left-pair_words : goal.returns-then-left-pair_words
returns-then-left-pair_words c = let a = c.args in
    let h = c.header_at-header in
    sym (cut_short a.paths a.words.now a.at h.result h.ensures (omega (arith, c.pair_words.ensures)))

pub returns : goal.returns
returns c = let a = c.args in
    let h = c.header_at-header in
    let s = c.sound_header in
    c.sound_laminations.ensures
    ∙ ap (λ (k : Header). sound_laminations above_prices (laminations_at a.words.now (pairs_from a.at) k.count)) h.ensures
    ∙ sym
    (pairs_decide a.paths a.words.now a.at h.result h.ensures (sym s.ensures ∙ c.if-not-sound_header.false)
    (omega (arith, c.pair_words.ensures)))
