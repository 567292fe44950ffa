-- What a line says, read field by field.
use mathlib.Core.Path.{◌≡◌, sym, ◌∙◌, ap, ap₂}
use mathlib.Core.List.{List, [], ◌∷◌}
use Prim.Native.Nat.{ℕ, suc, ◌+◌, ◌-◌, ◌≤◌, ◌<◌}
use native.Mathlib.Omega.{arith}
use lib.ListN.{length, get_or, drop, length-drop, drop_of_length-le, get_or-eq_default}
use lib.Seq.{drop-drop, get_or-drop}
use borrow.Author.Tests.{eq-eqb, ne_eqb}
use Rattle.market.specs.Books.{day_number}
use Rattle.market.specs.declared.book.Direction.{Direction}
use Rattle.market.specs.declared.book.Period.{Period}
use Rattle.market.specs.declared.book.Direction.TheVariants.{Export, Import}
use Rattle.text_fields.specs.Fields.{space, newline, word_top, amount_top, field_at, numbers_said}
use Rattle.text_fields.specs.declared.Field.{Field}
use Rattle.sheet_lines.specs.Lines.{days_place, direction_byte}
use Rattle.sheet_form.specs.declared.rows.PathLine.{PathLine}
use Rattle.sheet_form.specs.Reading.{bidder_line_of, bidder_line_at, import_if, direction_of, path_line_of, route_in, path_line_at, days_in}
use Rattle.sheet_reading.specs.declared.Word.{Word}

-- ---- Numbers one after another

module _ (limit last : ℕ) (bytes : List ℕ) (at value : ℕ) where
  -- the last number
  pub said-last : value ≡ (field_at limit last (drop at bytes)).value → value ∷ [] ≡ numbers_said limit last 1 (drop at bytes)
  said-last is = ap (λ (v : ℕ). v ∷ []) is

  -- a number with others after it
  pub said_more :
      (k used : ℕ) (vs : List ℕ) → value ≡ (field_at limit space (drop at bytes)).value → used ≡ (field_at limit space (drop at bytes)).used → vs
      ≡ numbers_said limit last (suc k) (drop (at + used) bytes)
      → value ∷ vs ≡ numbers_said limit last (suc (suc k)) (drop at bytes)
  said_more k used vs is long rest =
      ap₂ (λ (v : ℕ) (ws : List ℕ). v ∷ ws) is
      (rest
      ∙ ap (numbers_said limit last (suc k)) (sym (drop-drop used at bytes) ∙ ap (λ (n : ℕ). drop n (drop at bytes)) long))

-- the three numbers of a bidder's line
pub bidder-said :
    (bytes :
    List ℕ) (at : ℕ) (f g h : Field) → f ≡ field_at amount_top space (drop at bytes) → g ≡ field_at amount_top space (drop (at + f.used) bytes)
    → h ≡ field_at amount_top newline (drop (at + f.used + g.used) bytes) → record { bidder = f.value; cash = g.value; letter = h.value } ≡ bidder_line_at (drop at bytes)
bidder-said bytes at f g h first second third =
    let value : Field → ℕ = λ (e : Field). e.value in
    let used : Field → ℕ = λ (e : Field). e.used in
    ap bidder_line_of
    (said_more amount_top newline bytes at f.value 1 f.used (g.value ∷ h.value ∷ []) (ap value first) (ap used first)
    (said_more amount_top newline bytes (at + f.used) g.value 0 g.used (h.value ∷ []) (ap value second) (ap used second)
    (said-last amount_top newline bytes (at + f.used + g.used) h.value (ap value third))))

-- the two days of a title
abbrev days_of : List ℕ → Period
days_of said = record { first = day_number (get_or said 0 0); last = day_number (get_or said 1 0) }

pub days-said :
    (bytes :
    List ℕ) (v w : Word) → v.value ≡ (field_at word_top space (drop days_place bytes)).value → v.used ≡ (field_at word_top space (drop days_place bytes)).used
    → w.value ≡ (field_at word_top newline (drop (days_place + v.used) bytes)).value → days_of (v.value ∷ w.value ∷ []) ≡ days_of (days_in bytes)
days-said bytes v w first long second =
    ap days_of
    (said_more word_top newline bytes days_place v.value 0 v.used (w.value ∷ []) first long
    (said-last word_top newline bytes (days_place + v.used) w.value second))

module _ (bytes : List ℕ) where
  -- a word at a place
  abbrev pub WordHere : ℕ → ℕ → Word → Type 0
  WordHere stop at w = (w.value ≡ (field_at word_top stop (drop at bytes)).value) × (w.used ≡ (field_at word_top stop (drop at bytes)).used)

  -- the five numbers of a path's line, after its direction
  pub path-said :
      (way :
      Direction) (at : ℕ) (a b c d e : Word) → WordHere space at a → WordHere space (at + a.used) b → WordHere space (at + a.used + b.used) c
      → WordHere space (at + a.used + b.used + c.used) d → WordHere newline (at + a.used + b.used + c.used + d.used) e
      → record { direction = way; zone = a.value; base = b.value; upper = c.value; first = d.value; second = e.value } ≡ path_line_of way (numbers_said word_top newline 5 (drop at bytes))
  path-said way at a b c d e first second third fourth fifth =
      ap (path_line_of way)
      (more at a (b.value ∷ c.value ∷ d.value ∷ e.value ∷ []) 3 first
      (more (at + a.used) b (c.value ∷ d.value ∷ e.value ∷ []) 2 second
      (more (at + a.used + b.used) c (d.value ∷ e.value ∷ []) 1 third
      (more (at + a.used + b.used + c.used) d (e.value ∷ []) 0 fourth
      (said-last word_top newline bytes (at + a.used + b.used + c.used + d.used) e.value fifth.0)))))
    where
      more :
          (at :
          ℕ) (w : Word) (vs : List ℕ) (k : ℕ) → WordHere space at w → vs ≡ numbers_said word_top newline (suc k) (drop (at + w.used) bytes)
          → w.value ∷ vs ≡ numbers_said word_top newline (suc (suc k)) (drop at bytes)
      more at w vs k here rest = said_more word_top newline bytes at w.value k w.used vs here.0 here.1 rest

-- ---- A path's line

module _ (bytes : List ℕ) (at : ℕ) where
  first_byte : get_or (drop at bytes) 0 0 ≡ get_or bytes at 0
  first_byte = get_or-drop at bytes 0 0 ∙ ap (λ (k : ℕ). get_or bytes k 0) (let same : at + 0 ≡ at = omega arith in same)

  -- its direction
  pub import-here : get_or bytes at 0 ≡ direction_byte Import → Import ≡ direction_of (get_or (drop at bytes) 0 0)
  import-here is = sym (ap direction_of first_byte ∙ ap import_if (eq-eqb (get_or bytes at 0) (direction_byte Import) is))

  pub export-here : (get_or bytes at 0 ≡ direction_byte Import → ⊥) → Export ≡ direction_of (get_or (drop at bytes) 0 0)
  export-here other = sym (ap direction_of first_byte ∙ ap import_if (ne_eqb (get_or bytes at 0) (direction_byte Import) other))

  pub export-past : at ≡ length bytes → Export ≡ direction_of (get_or (drop at bytes) 0 0)
  export-past end =
      let over : length bytes ≤ at = omega arith in
      let none : get_or bytes at 0 ≡ 0 = get_or-eq_default bytes 0 over in
      export-here (λ (is : get_or bytes at 0 ≡ direction_byte Import). omega (arith, none, is))

  -- fewer than two bytes are left
  pub end_on : length bytes - at < 2 → drop (length bytes) bytes ≡ drop 2 (drop at bytes)
  end_on short =
      let whole : length bytes ≤ length bytes = omega arith in
      let over : length (drop at bytes) ≤ 2 = omega (arith, length-drop at bytes) in
      drop_of_length-le bytes whole ∙ sym (drop_of_length-le (drop at bytes) over)

  -- its numbers, read at the place after the direction
  pub route-said :
      (way :
      Direction) (place : ℕ) (line : PathLine) → way ≡ direction_of (get_or (drop at bytes) 0 0) → drop place bytes ≡ drop 2 (drop at bytes)
      → line ≡ path_line_of way (numbers_said word_top newline 5 (drop place bytes)) → line ≡ route_in (drop at bytes)
  route-said way place line is there said =
      said ∙ ap₂ (λ (d : Direction) (l : List ℕ). path_line_of d (numbers_said word_top newline 5 l)) is there

  -- what comes after its number
  pub behind-number : (f : Field) (line : PathLine) → f ≡ field_at word_top space (drop at bytes) → line ≡ route_in (drop (at + f.used) bytes) → line ≡ path_line_at (drop at bytes)
  behind-number f line is route =
      route
      ∙ ap route_in
      (sym (drop-drop f.used at bytes) ∙ ap (λ (g : Field). drop g.used (drop at bytes)) is)
