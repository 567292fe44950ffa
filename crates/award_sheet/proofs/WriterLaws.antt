-- Texts written on a writer one after another.
use mathlib.Core.Path.{◌≡◌, refl, sym, ◌∙◌, ap, ap₂, subst}
use mathlib.Core.List.{List, ◌++◌}
use Prim.Native.Nat.{ℕ, ◌≤◌}
use native.Mathlib.Omega.{arith}
use lib.ListN.{length}
use denote.Ref.{MutBor, at_last}
use Rattle.text_numbers.specs.Put.{Put}
use Rattle.text_writing.proofs.PutLaws.{WrittenTo, written_from, written_next, written_all}
use Rattle.award_sheet_writer.specs.declared.Writer.{Writer}
use Rattle.award_sheet_writer.specs.Written.{empty_writer, writer_after}

-- a text on a writer is a text in its buffer, from where that was filled, and the buffer is the same
put_on : (w v : Writer) (text : List ℕ) → v ≡ writer_after w text → Put w.out.now w.filled text v.out.now v.filled
put_on w v text e = record { place = ap (λ (x : Writer). x.filled) e; bytes = ap (λ (x : Writer). x.out.now) e }

same_on : (w v : Writer) (text : List ℕ) → v ≡ writer_after w text → v.out ≡ at_last w.out v.out.now
same_on w v text e =
    ap (λ (x : Writer). x.out) e ∙ ap (at_last w.out) (sym (ap (λ (x : Writer). x.out.now) e))

-- a text being written on the writer `begun`: `rest` is what is still to be written of it, on `w`
pub record OnWriter (begun : Writer) (whole rest : List ℕ) (w : Writer) : Type 0 where
  pub to : WrittenTo begun.out.now begun.filled whole rest w.filled w.out.now
  pub same : w.out ≡ at_last begun.out w.out.now

-- nothing is written, and the text is said in pieces
pub on_start :
    {out : MutBor (List ℕ)} {w : Writer} {whole rest : List ℕ} → w ≡ empty_writer out → whole ≡ rest → length whole ≤ length out.now
    → OnWriter (empty_writer out) whole rest w
on_start {out} {w} {whole} {rest} e parts room =
    subst (OnWriter (empty_writer out) whole rest) (sym e)
    (record { to = written_from parts (omega arith); same = refl })

-- the first of the pieces that are left is written
pub on_next :
    {begun w v : Writer} {whole more : List ℕ} (piece : List ℕ) → OnWriter begun whole (piece ++ more) w → v ≡ writer_after w piece → OnWriter begun whole more v
on_next {begun} {w} {v} piece s e =
    record { to = written_next s.to (put_on w v piece e); same = same_on w v piece e ∙ ap (λ (o : MutBor (List ℕ)). at_last o v.out.now) s.same }

-- the last piece is written
pub on_all :
    {begun w v : Writer} {whole rest : List ℕ} → OnWriter begun whole rest w → v ≡ writer_after w rest → v ≡ writer_after begun whole
on_all {begun} {w} {v} {whole} {rest} s e =
    let put = written_all s.to (put_on w v rest e) in
    ap₂ (λ (o : MutBor (List ℕ)) (n : ℕ). record { out = o; filled = n })
    (same_on w v rest e ∙ ap (λ (o : MutBor (List ℕ)). at_last o v.out.now) s.same ∙ ap (at_last begun.out) put.bytes)
    put.place
