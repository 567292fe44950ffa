-- Texts put into a buffer one after another.
use mathlib.Core.Path.{◌≡◌, refl, sym, ◌∙◌, ap, ap₂}
use mathlib.Core.List.{List, [], ◌∷◌, ◌++◌, append_assoc, append-nil}
use Prim.Native.Nat.{ℕ, ◌+◌, ◌≤◌}
use native.Mathlib.Omega.{arith}
use lib.ListN.{length, set, take, drop, length-append}
use lib.Seq.{take-append_seam, drop-append-add, drop-drop, length-take-le}
use Rattle.text_numbers.proofs.PutLaws.{put-length, put-none, put-before}
use Rattle.text_numbers.specs.Put.{put_at, Put}

-- to put a text, and then another directly after it, is to put both at once
pub put-behind : (out : List ℕ) (at : ℕ) (x y : List ℕ) → at + length x ≤ length out → put_at (put_at out at x) (at + length x) y ≡ put_at out at (x ++ y)
put-behind out at x y room =
    let front = take at out ++ x in
    let back = drop (at + length x) out in
    let long : at + length x ≡ length front = sym (length-append (take at out) x ∙ ap (λ (n : ℕ). n + length x) (length-take-le at out (omega arith))) in
    let same : at + length x + length y ≡ at + length (x ++ y) = omega (arith, length-append x y) in
    ap₂ (λ (a b : List ℕ). a ++ y ++ b)
    (ap (λ (n : ℕ). take n (front ++ back)) long ∙ take-append_seam front back)
    (ap (λ (n : ℕ). drop (n + length y) (front ++ back)) long ∙ drop-append-add front back (length y) ∙ drop-drop (length y) (at + length x) out)
    ∙ ap₂ (λ (a : List ℕ) (n : ℕ). a ++ drop n out) (append_assoc (take at out) x y) same

-- to set a byte is to put it
pub put_byte : (out : List ℕ) (at b : ℕ) → at + 1 ≤ length out → set out at b ≡ put_at out at (b ∷ [])
put_byte out at b room =
    ap (λ (l : List ℕ). set l at b) (sym (put-none out (at + 1))) ∙ put-before out at b [] (omega arith)

-- a text being written from the place `at` on: `rest` is what is still to be written of it, from `place` on
pub record WrittenTo (before : List ℕ) (at : ℕ) (whole rest : List ℕ) (place : ℕ) (out : List ℕ) : Type 0 where
  pub room : at + length whole ≤ length before
  pub done : List ℕ
  pub parts : whole ≡ done ++ rest
  pub behind : place ≡ at + length done
  pub bytes : out ≡ put_at before at done

-- nothing is written, and the text is said in pieces
pub written_from : {before : List ℕ} {at : ℕ} {whole rest : List ℕ} → whole ≡ rest → at + length whole ≤ length before → WrittenTo before at whole rest at before
written_from {before} {at} e room =
    record {
      room = room;
      done = [];
      parts = e;
      behind = omega arith;
      bytes = sym (put-none before at);
    }

pub written_none : (before : List ℕ) (at : ℕ) (whole : List ℕ) → at + length whole ≤ length before → WrittenTo before at whole whole at before
written_none before at whole room = written_from refl room

module _ {before : List ℕ} {at : ℕ} {whole rest : List ℕ} {place : ℕ} {out : List ℕ} (to : WrittenTo before at whole rest place out) where
  long : length whole ≡ length to.done + length rest
  long = ap length to.parts ∙ length-append to.done rest

  pub written_same : length out ≡ length before
  written_same = ap length to.bytes ∙ put-length before at to.done (omega (arith, long, to.room))

  pub written-room : place + length rest ≤ length out
  written-room = omega (arith, long, written_same, to.behind, to.room)

  -- there is room for its next piece
  pub written-fits : (piece more : List ℕ) → rest ≡ piece ++ more → place + length piece ≤ length out
  written-fits piece more e = omega (arith, written-room, ap length e ∙ length-append piece more)

  -- and the piece is written
  pub written_on :
      (piece more : List ℕ) → rest ≡ piece ++ more → {r : ℕ} {next : List ℕ} → Put out place piece next r → WrittenTo before at whole more r next
  written_on piece more e {r} {next} put =
      let done = to.done ++ piece in
      record {
        room = to.room;
        done = done;
        parts = to.parts ∙ ap (λ (l : List ℕ). to.done ++ l) e ∙ sym (append_assoc to.done piece more);
        behind = omega (arith, put.place, to.behind, length-append to.done piece);
        bytes =
            put.bytes
            ∙ ap₂ (λ (l : List ℕ) (n : ℕ). put_at l n piece) to.bytes to.behind
            ∙ put-behind before at to.done piece (omega (arith, long, to.room));
      }

  -- nothing is left to write
  pub written-done : rest ≡ [] → Put before at whole out place
  written-done none =
      let all : to.done ≡ whole = sym (to.parts ∙ ap (λ (l : List ℕ). to.done ++ l) none ∙ append-nil to.done) in
      record {
        place = to.behind ∙ ap (λ (l : List ℕ). at + length l) all;
        bytes = to.bytes ∙ ap (put_at before at) all;
      }

-- the last piece is written
pub written_all :
    {before : List ℕ} {at : ℕ} {whole rest : List ℕ} {place : ℕ} {out : List ℕ} → WrittenTo before at whole rest place out
    → {r : ℕ} {next : List ℕ} → Put out place rest next r → Put before at whole next r
written_all {before} {at} {whole} {rest} to put =
    written-done (written_on to rest [] (sym (append-nil rest)) put) refl

-- the first of the pieces that are left is written
pub written_next :
    {before : List ℕ} {at : ℕ} {whole piece more : List ℕ} {place : ℕ} {out : List ℕ} → WrittenTo before at whole (piece ++ more) place out
    → {r : ℕ} {next : List ℕ} → Put out place piece next r → WrittenTo before at whole more r next
written_next {piece} {more} to put = written_on to piece more refl put

-- at the front of a buffer the place after a text is its length
pub put_front : {before text after : List ℕ} {end : ℕ} → Put before 0 text after end → end ≡ length text
put_front put = omega (arith, put.place)
