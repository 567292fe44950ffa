-- By cases on what is told: in each arm put_reply writes the rule's text of that case (text-bare, text-offers,
-- text-amounts). The list of offers and its length are the book's, by offers_of's contract.
use borrow.Author.Rules.{rules}
use native.Mathlib.Omega.{arith}
use mathlib.Core.Path.{sym, ◌∙◌, ap}
use lib.ListN.{length, take, length-take, length-map}
use Rattle.market.specs.Books.{paths_of, offer_of}
use Rattle.text_numbers.proofs.PutLaws.{put_is}
use Rattle.journal_step.proofs.LineLaws.{text-bare, text-offers, text-amounts}
use Rattle.journal_step.proofs.answers.put_answer.Goals as goal

pub slice_bounds-slots-end : goal.slice_bounds-slots-end
slice_bounds-slots-end c =
    let o = c.args.outcome in
    let offers = c.offers_of-offers in
    let long = ap length offers.ensures.offers ∙ length-map (paths_of o.book) offer_of in
    omega (arith, length-take offers.result.count offers.result.slots, long, offers.ensures.count)

pub slice_bounds-put_reply-end-in-Offers : goal.slice_bounds-put_reply-end-in-Offers
slice_bounds-put_reply-end-in-Offers c =
    let o = c.args.outcome in
    let offers = c.offers_of-offers in
    let long = ap length offers.ensures.offers ∙ length-map (paths_of o.book) offer_of in
    offers.ensures.count ∙ sym long

pub put_reply-requires-in-Offers : goal.put_reply-requires-in-Offers
put_reply-requires-in-Offers c =
    let o = c.args.outcome in
    let offers = c.offers_of-offers in
    let long = ap length offers.ensures.offers ∙ length-map (paths_of o.book) offer_of in
    record {
      reply_room_in_bounds = search rules;
      list_len_bound = omega (arith, long, offers.ensures.count, offers.ensures.few);
      answer_bound = (search rules, search rules);
      paths_le_path_limit = (search rules, search rules);
    }

pub returns-in-Nothing : goal.returns-in-Nothing
returns-in-Nothing c =
    let a = c.args in
    let offers = c.offers_of-offers in
    let put = c.put_reply in
    let same =
    text-bare a.outcome a.amounts.now a.answers.now a.results.now offers.result.count offers.ensures.count a.tell
    c.numbered-answer.result c.numbered-answer.ensures c.in-Nothing.is in
    put_is (sym same) put.ensures

pub returns-in-Offers : goal.returns-in-Offers
returns-in-Offers c =
    let a = c.args in
    let offers = c.offers_of-offers in
    let put = c.put_reply-in-Offers in
    let same =
    text-offers a.outcome a.amounts.now a.answers.now a.results.now offers.result.count offers.ensures.count a.tell
    c.numbered-answer.result c.numbered-answer.ensures c.in-Offers.is (take offers.result.count offers.result.slots) offers.ensures.offers in
    put_is (sym same) put.ensures

pub returns-in-Amounts : goal.returns-in-Amounts
returns-in-Amounts c =
    let a = c.args in
    let offers = c.offers_of-offers in
    let put = c.put_reply-in-Amounts in
    let same =
    text-amounts a.outcome a.amounts.now a.answers.now a.results.now offers.result.count offers.ensures.count a.tell
    c.numbered-answer.result c.numbered-answer.ensures c.in-Amounts.is in
    put_is (sym same) put.ensures
