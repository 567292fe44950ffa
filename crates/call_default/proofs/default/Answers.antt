-- By cases on the verdict: a refusal is the rule's and leaves the words (refuses, words-stay); none gives its answer, with
-- the pending entries removed (takes, words-change). Where no row holds, default-cleared gives what the callees require.
use mathlib.Core.Path.{sym, ◌∙◌, ap, ap₂}
use Prim.Native.Nat.{ℕ}
use Rattle.market.proofs.SoundLaws.{bidder-within}
use Rattle.market.specs.Answers.{drawn}
use Rattle.market.specs.Books.{cents, with_entries}
use Rattle.market.specs.declared.book.Bidder.{Bidder}
use Rattle.market.specs.declared.book.Book.{Book}
use Rattle.market.specs.declared.units.Cents.{Cents}
use Rattle.call_rules.proofs.Decides.{refuses, words-stay, takes, words-change}
use Rattle.call_default.proofs.Cleared.{default-cleared}
use Rattle.call_default.specs.Default.{draw_of, default}
use Rattle.call_default.proofs.default.Goals as goal

pub returns-in-Err : goal.returns-in-Err
returns-in-Err c =
    let a = c.args in
    let is = c.check.ensures in record {
      outcome = refuses (default a.bidder) a.book a.words.now _ is c.in-Err.is;
      words = words-stay (default a.bidder) a.book a.words.now _ is c.in-Err.is;
    }

pub draw-drawn-requires : goal.draw-drawn-requires
draw-drawn-requires c =
    let a = c.args in
    rw c.bidder.ensures (bidder-within a.book a.bidder (default-cleared c.args.book c.args.words.now c.args.bidder (sym c.check.ensures ∙ c.in_default.is)).0.sound)

pub returns : goal.returns
unfolding default
returns c =
    let a = c.args in
    let is = c.check.ensures in
    let draw = c.draw-drawn.ensures ∙ ap (λ (x : Bidder). cents (draw_of x)) c.bidder.ensures in
    let book = c.with_entries.ensures ∙ ap₂ (λ (b : Book) (k : ℕ). with_entries b k) c.book_forfeited.ensures c.remove-left.ensures.kept in record {
      outcome = ap₂ (λ (d : Cents) (b : Book). drawn d.0 b) draw book ∙ takes (default a.bidder) a.book a.words.now _ is c.in_default.is;
      words = c.remove-left.ensures.words ∙ words-change (default a.bidder) a.book a.words.now _ is c.in_default.is;
    }

pub bidder-requires : goal.bidder-requires
bidder-requires c =
    (default-cleared c.args.book c.args.words.now c.args.bidder (sym c.check.ensures ∙ c.in_default.is)).1

pub remove-left-requires : goal.remove-left-requires
remove-left-requires c =
    (default-cleared c.args.book c.args.words.now c.args.bidder (sym c.check.ensures ∙ c.in_default.is)).0.room

pub book_forfeited-requires : goal.book_forfeited-requires
book_forfeited-requires c =
    let clear = default-cleared c.args.book c.args.words.now c.args.bidder (sym c.check.ensures ∙ c.in_default.is) in record {
      book_value = clear.0.sound;
      bidder_lt_bidder_limit = clear.1;
    }
