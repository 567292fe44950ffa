-- The reply is that of the number of a text which is not of its form.
use borrow.Author.Rules.{rules}
use mathlib.Core.Path.{◌∙◌, ap}
use mathlib.Core.List.{List, []}
use Prim.Native.Nat.{ℕ}
use lib.ListN.{length}
use Rattle.std.specs.Prelude.{Err}
use Rattle.text_numbers.specs.Put.{put_at}
use Rattle.text_writing.proofs.PutLaws.{put_front}
use Rattle.journal_reply.specs.Replies.{reply_text}
use Rattle.journal_reply.specs.declared.Told.TheVariants.{Nothing}
use Rattle.journal_step.proofs.turn_away.Goals as goal

abbrev reply_of : ℕ → List ℕ
reply_of number = reply_text (Err number) Nothing [] [] 0 []

pub returns : goal.returns
returns c =
    let put = c.put_reply-used in record {
      journal = search rules;
      used = put_front put.ensures ∙ ap (λ (n : ℕ). length (reply_of n)) c.number.ensures;
      bytes = put.ensures.bytes ∙ ap (λ (n : ℕ). put_at c.args.out.now 0 (reply_of n)) c.number.ensures;
    }
