-- Writing the counted entries back where they were changes nothing (written_back), so the words are those entries
-- written, and a put right after them appends one entry (put_next).
use mathlib.Core.Path.{sym, ◌∙◌, ap}
use Prim.Native.Nat.{ℕ}
use native.Mathlib.Omega.{arith}
use mathlib.Core.List.{List}
use Rattle.register.specs.Words.{entries_of, entry_put}
use Rattle.register.proofs.WordLaws.{written_back, entries-length}
use Rattle.register.proofs.EntryLaws.{put_next}
use Rattle.register.proofs.append.Goals as goal

pub returns : goal.returns
returns c =
    let a = c.args in
    let w = a.words.now in
    let es = entries_of w a.count in
    c.put.ensures
    ∙ ap (λ (l : List ℕ). entry_put l a.count a.entry) (sym (written_back w a.count (omega arith)))
    ∙ put_next w es a.count a.entry (entries-length w a.count)
