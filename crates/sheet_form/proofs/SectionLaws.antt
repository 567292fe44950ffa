-- The lines of a section, of any sort: if written one after another they are read, and if read they are in the text as written.
use mathlib.Core.Path.{◌≡◌, refl, sym, ◌∙◌, ap, ap₂, subst}
use mathlib.Core.Bool.{Bool, true, ◌&&◌}
use mathlib.Core.List.{List, [], ◌∷◌, ◌++◌, append_assoc}
use Prim.Native.Nat.{ℕ, zero, suc, ◌+◌, ◌≤◌}
use native.Mathlib.Omega.{arith}
use lib.ListN.{length, drop, length-append}
use lib.Seq.{drop-append_seam}
use Rattle.market.proofs.Tests.{left-true, right-true}
use Rattle.text_fields.proofs.FieldLaws.{Front, front-both}
use Rattle.sheet_lines.specs.Lines.{line_at}
use Rattle.sheet_lines.specs.declared.part.Part.{Part}
use Rattle.sheet_lines.specs.declared.part.Step.{Step}
use Rattle.sheet_form.specs.Form.{line_then, lines_at}
use Rattle.sheet_form.specs.Reading.{lines_in}
use Rattle.sheet_form.specs.declared.form.Read.{Read}

-- a sort of line: how one is written and read in the state that the lines before it leave, its next state, and when it is right
pub record Sort (X : Type 0) : Type 0 where
  pub part : Part
  pub write : ℕ → X → List ℕ
  pub next : ℕ → X → ℕ
  pub right : ℕ → X → Bool
  pub read : List ℕ → X

-- lines one after another
abbrev pub write_all : {X : Type 0} → Sort X → ℕ → List X → List ℕ
write_all s state [] = []
write_all s state (x ∷ xs) = s.write state x ++ write_all s (s.next state x) xs

abbrev pub right_all : {X : Type 0} → Sort X → ℕ → List X → Bool
right_all s state [] = true
right_all s state (x ∷ xs) = s.right state x && right_all s (s.next state x) xs

-- what a line that is written, and one that is read, must satisfy
pub record Written {X : Type 0} (s : Sort X) (state : ℕ) (x : X) (rest : List ℕ) : Type 0 where
  pub some : 1 ≤ length (s.write state x)
  pub step : line_at s.part state (s.write state x ++ rest) ≡ record { used = length (s.write state x); next = s.next state x }
  pub again : s.read (s.write state x ++ rest) ≡ x

pub record Stands {X : Type 0} (s : Sort X) (state : ℕ) (text : List ℕ) : Type 0 where
  pub front : Front (s.write state (s.read text)) text
  pub long : (line_at s.part state text).used ≡ length (s.write state (s.read text))
  pub after : (line_at s.part state text).next ≡ s.next state (s.read text)
  pub right : s.right state (s.read text) ≡ true

-- what is known of a text in which lines are read
pub record AllStand {X : Type 0} (s : Sort X) (k state : ℕ) (text : List ℕ) : Type 0 where
  pub front : Front (write_all s state (lines_in s.part s.read k state text)) text
  pub long : (lines_at s.part k state text).used ≡ length (write_all s state (lines_in s.part s.read k state text))
  pub count : length (lines_in s.part s.read k state text) ≡ k
  pub right : right_all s state (lines_in s.part s.read k state text) ≡ true

pub then_some : (n : ℕ) (more : Read) → 1 ≤ n → line_then n more ≡ record { lines = 1 + more.lines; used = n + more.used }
then_some zero more h = absurd (let none : ⊥ = omega arith in none)
then_some (suc n) more h = refl

-- if a line is counted, the first one is right
pub then-counted : (n : ℕ) (more : Read) (k : ℕ) → (line_then n more).lines ≡ suc k → (1 ≤ n) × (more.lines ≡ k)
then-counted zero more k h = absurd (let none : ⊥ = omega (arith, h) in none)
then-counted (suc n) more k h = (omega arith, omega (arith, h))

-- a line that is right, and those after it
one_more :
    {X :
    Type 0} (s : Sort X) (k state : ℕ) (text : List ℕ) → 1 ≤ (line_at s.part state text).used → Stands s state text
    → AllStand s k (line_at s.part state text).next (drop (line_at s.part state text).used text) → AllStand s (suc k) state text
one_more s k state text some here more =
    let p = line_at s.part state text in
    let rest = drop p.used text in
    let x = s.read text in
    let w = s.write state x in
    let xs = lines_in s.part s.read k p.next rest in
    let v = write_all s p.next xs in
    record {
      front =
          subst (λ (m : ℕ). Front (w ++ write_all s m xs) text) here.after
          (front-both w v text here.front (subst (λ (n : ℕ). Front v (drop n text)) here.long more.front));
      long =
          ap (λ (r : Read). r.used) (then_some p.used (lines_at s.part k p.next rest) some)
          ∙ ap₂ ◌+◌ here.long more.long
          ∙ sym (length-append w v)
          ∙ ap (λ (m : ℕ). length (w ++ write_all s m xs)) here.after;
      count = ap suc more.count;
      right = ap₂ ◌&&◌ here.right (ap (λ (m : ℕ). right_all s m xs) (sym here.after) ∙ more.right);
    }

module _ {X : Type 0} (s : Sort X) (written : (state : ℕ) (x : X) (rest : List ℕ) → s.right state x ≡ true → Written s state x rest)
    (present : (state : ℕ) (text : List ℕ) → 1 ≤ (line_at s.part state text).used → Stands s state text) where
  pub lines-written :
      (xs :
      List X) (state : ℕ) (rest : List ℕ) → right_all s state xs ≡ true
      → lines_at s.part (length xs) state (write_all s state xs ++ rest) ≡ record { lines = length xs; used = length (write_all s state xs) }
  lines-written [] state rest right = refl
  lines-written (x ∷ xs) state rest right =
      let w = s.write state x in
      let n = s.next state x in
      let more = write_all s n xs in
      let part = s.part in
      let here = written state x (more ++ rest) (left-true (s.right state x) (right_all s n xs) right) in
      ap (lines_at part (suc (length xs)) state) (append_assoc w more rest)
      ∙ ap (λ (p : Step). line_then p.used (lines_at part (length xs) p.next (drop p.used (w ++ (more ++ rest))))) here.step
      ∙ ap (λ (l : List ℕ). line_then (length w) (lines_at part (length xs) n l)) (drop-append_seam w (more ++ rest))
      ∙ ap (line_then (length w)) (lines-written xs n rest (right-true (s.right state x) (right_all s n xs) right))
      ∙ then_some (length w) (record { lines = length xs; used = length more }) here.some
      ∙ ap₂ (λ (a b : ℕ). record { lines = a; used = b }) (let one : 1 + length xs ≡ suc (length xs) = omega arith in one) (sym (length-append w more))

  pub lines-again : (xs : List X) (state : ℕ) (rest : List ℕ) → right_all s state xs ≡ true → lines_in s.part s.read (length xs) state (write_all s state xs ++ rest) ≡ xs
  lines-again [] state rest right = refl
  lines-again (x ∷ xs) state rest right =
      let w = s.write state x in
      let n = s.next state x in
      let more = write_all s n xs in
      let part = s.part in
      let here = written state x (more ++ rest) (left-true (s.right state x) (right_all s n xs) right) in
      ap (lines_in part s.read (suc (length xs)) state) (append_assoc w more rest)
      ∙ ap₂ ◌∷◌ here.again
      (ap (λ (p : Step). lines_in part s.read (length xs) p.next (drop p.used (w ++ (more ++ rest)))) here.step
      ∙ ap (lines_in part s.read (length xs) n) (drop-append_seam w (more ++ rest))
      ∙ lines-again xs n rest (right-true (s.right state x) (right_all s n xs) right))

  pub lines-stand : (k state : ℕ) (text : List ℕ) → (lines_at s.part k state text).lines ≡ k → AllStand s k state text
  lines-stand zero state text all = record { front = refl; long = refl; count = refl; right = refl }
  lines-stand (suc k) state text all =
      let p = line_at s.part state text in
      let rest = drop p.used text in
      let parts = then-counted p.used (lines_at s.part k p.next rest) k all in
      one_more s k state text parts.0 (present state text parts.0) (lines-stand k p.next rest parts.1)
