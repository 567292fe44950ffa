-- Laws about the form: lines counted one by one, as `lines_from` does, the sections, the end and the whole sheet.
use mathlib.Core.Path.{◌≡◌, refl, sym, ◌∙◌, ap, ap₂, subst}
use mathlib.Core.Bool.{Bool, true, false, ◌&&◌}
use mathlib.Core.List.{List, [], ◌∷◌}
use Prim.Native.Nat.{ℕ, suc, ◌+◌, ◌*◌, ◌-◌, ◌≤◌, ◌<◌}
use native.Mathlib.Omega.{arith}
use lib.Dec.{leb, eqb}
use lib.ListN.{length, drop, get_or, replicate, length-drop}
use lib.Seq.{drop-drop}
use borrow.Author.Tests.{le-leb, lt-leb, eqb-true, eqb-false, eq-eqb, ne_eqb}
use Rattle.std.specs.Prelude.{Err}
use Rattle.market.specs.Limits.{bidder_limit, sheet_bytes}
use Rattle.market.specs.declared.book.Kind.{Kind}
use Rattle.market.specs.declared.book.Kind.TheVariants.{Short, Long}
use Rattle.text_fields.specs.Fields.{space, newline, word_top, starts_with, word_spaced, numbers_used}
use Rattle.sheet_lines.proofs.LineLaws.{line-next}
use Rattle.sheet_lines.specs.Lines.{title_word, kind_byte, is_kind, long_if, kind_place, days_place, title_used, count_used, count_said, line_at}
use Rattle.sheet_lines.specs.declared.part.Part.{Part}
use Rattle.sheet_lines.specs.declared.part.Part.TheVariants.{Bidders, Paths, Bids}
use Rattle.sheet_lines.specs.declared.part.Step.{Step}
use Rattle.sheet_form.specs.Form.{SheetForm, well_formed, faulty_at, line_then, lines_at, section_at, section_whole, parts_of, if_whole, form_from, sheet_kind, form_of, SectionIs, FaultIn}
use Rattle.sheet_form.specs.Sheet.{rounds_of}
use Rattle.sheet_form.specs.declared.form.Read.{Read}
use Rattle.sheet_form.specs.declared.form.FaultyLine.{FaultyLine}
use Rattle.sheet_form.specs.declared.place.Place.{Place}
use Rattle.sheet_form.proofs.LineLaws.{behind-read}
use Rattle.sheet_form.proofs.SectionLaws.{then_some}

-- ---- Lines that were read, and the rest

abbrev after : ℕ → ℕ → Read → Read
after lines used r = record { lines = lines + r.lines; used = used + r.used }

pub record LinesTo (part : Part) (bytes : List ℕ) (at count lines used state left : ℕ) : Type 0 where
  pub rest : lines_at part count 0 (drop at bytes) ≡ after lines used (lines_at part left state (drop (at + used) bytes))
  pub fits : at + used ≤ length bytes
  pub few : lines ≤ used
  pub bound : state ≤ lines * bidder_limit

same_read : {a b c d : ℕ} → a ≡ c → b ≡ d → after a b (record { lines = 0; used = 0 }) ≡ record { lines = c; used = d }
same_read {a} {b} {c} {d} p q =
    ap₂ (λ (x y : ℕ). let r : Read = record { lines = x; used = y } in r)
    (let e : a + 0 ≡ c = omega (arith, p) in e) (let e : b + 0 ≡ d = omega (arith, q) in e)

pub none_read : (part : Part) (bytes : List ℕ) (at count : ℕ) → at ≤ length bytes → LinesTo part bytes at count 0 0 0 count
none_read part bytes at count inside =
    let r = lines_at part count 0 (drop at bytes) in
    record {
      rest =
          ap₂ (λ (x y : ℕ). let s : Read = record { lines = x; used = y } in s)
          (let e : r.lines ≡ 0 + r.lines = omega arith in e) (let e : r.used ≡ 0 + r.used = omega arith in e)
          ∙ ap (λ (n : ℕ). after 0 0 (lines_at part count 0 (drop n bytes))) (let e : at ≡ at + 0 = omega arith in e);
      fits = omega arith;
      few = omega arith;
      bound = omega arith;
    }

module _ (part : Part) (bytes : List ℕ) (at count lines used state left : ℕ) (s : LinesTo part bytes at count lines used state left) where
  abbrev here : Step
  here = line_at part state (drop (at + used) bytes)

  -- no line is left to read
  pub all_read : left ≤ 0 → record { lines = lines; used = used } ≡ lines_at part count 0 (drop at bytes)
  all_read end =
      let none : left ≡ 0 = omega arith in
      sym (s.rest ∙ ap (λ (n : ℕ). after lines used (lines_at part n state (drop (at + used) bytes))) none ∙ same_read refl refl)

  module _ (inside : 0 < left) where
    abbrev k : ℕ
    k = left - 1

    more : left ≡ suc k
    more = omega arith

    one : lines_at part count 0 (drop at bytes) ≡ after lines used (line_then here.used (lines_at part k here.next (drop here.used (drop (at + used) bytes))))
    one = s.rest ∙ ap (λ (n : ℕ). after lines used (lines_at part n state (drop (at + used) bytes))) more

    -- the line here is faulty
    pub line-faulty : (step : Step) → step ≡ here → step.used ≡ 0 → record { lines = lines; used = used } ≡ lines_at part count 0 (drop at bytes)
    line-faulty step is zeroth =
        let none : here.used ≡ 0 = ap (λ (p : Step). p.used) (sym is) ∙ zeroth in
        sym
        (one
        ∙ ap (λ (n : ℕ). after lines used (line_then n (lines_at part k here.next (drop here.used (drop (at + used) bytes))))) none
        ∙ same_read refl refl)

    -- the line here is right
    pub line_read : (step : Step) → step ≡ here → (step.used ≡ 0 → ⊥) → at + used + step.used ≤ length bytes → LinesTo part bytes at count (lines + 1) (used + step.used) step.next k
    line_read step is some fits =
        subst (λ (p : Step). LinesTo part bytes at count (lines + 1) (used + p.used) p.next k) (sym is)
        (stood (subst (λ (p : Step). 1 ≤ p.used) is (let e : 1 ≤ step.used = omega (arith, some) in e)) (subst (λ (p : Step). at + used + p.used ≤ length bytes) is fits))
      where
        stood : 1 ≤ here.used → at + used + here.used ≤ length bytes → LinesTo part bytes at count (lines + 1) (used + here.used) here.next k
        stood good room =
            let further = lines_at part k here.next (drop (at + (used + here.used)) bytes) in
            record {
              rest =
                  one
                  ∙ ap (λ (l : List ℕ). after lines used (line_then here.used (lines_at part k here.next l)))
                  (drop-drop here.used (at + used) bytes ∙ ap (λ (n : ℕ). drop n bytes) (let e : at + used + here.used ≡ at + (used + here.used) = omega arith in e))
                  ∙ ap (after lines used) (then_some here.used further good)
                  ∙ ap₂ (λ (x y : ℕ). let r : Read = record { lines = x; used = y } in r)
                  (let e : lines + (1 + further.lines) ≡ lines + 1 + further.lines = omega arith in e)
                  (let e : used + (here.used + further.used) ≡ used + here.used + further.used = omega arith in e);
              fits = omega (arith, room);
              few = omega (arith, s.few, good);
              bound = omega (arith, line-next part state (drop (at + used) bytes) good, s.bound);
            }

-- ---- A section

eqb-next : (a b : ℕ) → eqb (1 + a) (1 + b) ≡ eqb a b
eqb-next a b = go (eqb a b) refl
  where
    go : (t : Bool) → eqb a b ≡ t → eqb (1 + a) (1 + b) ≡ t
    go true e = eq-eqb (1 + a) (1 + b) (ap (λ (n : ℕ). 1 + n) (eqb-true a b e))
    go false e = ne_eqb (1 + a) (1 + b) (λ (same : 1 + a ≡ 1 + b). eqb-false a b e (omega (arith, same)))

module _ (part : Part) (bytes : List ℕ) (at used value : ℕ) (taken : used ≡ count_used part (drop at bytes)) (said : value ≡ count_said part (drop at bytes)) where
  abbrev text : List ℕ
  text = drop at bytes

  -- its count line is faulty
  module _ (none : used ≡ 0) where
    section-none : section_at part text ≡ record { lines = 0; used = 0 }
    section-none = ap (λ (n : ℕ). line_then n (lines_at part (count_said part text) 0 (drop (count_used part text) text))) (sym taken ∙ none)

    pub none-stands : false ≡ section_whole part text
    none-stands =
        sym
        (ap (λ (r : Read). eqb r.lines (1 + count_said part text)) section-none
        ∙ ne_eqb 0 (1 + count_said part text) (λ (same : 0 ≡ 1 + count_said part text). omega (arith, same)))

    pub none-lines : 0 ≡ (section_at part text).lines
    none-lines = ap (λ (r : Read). r.lines) (sym section-none)

    pub none-used : 0 ≡ (section_at part text).used
    none-used = ap (λ (r : Read). r.used) (sym section-none)

  -- its count line is right, and so are these lines after it
  module _ (some : used ≡ 0 → ⊥) (more : Read) (read : more ≡ lines_at part value 0 (drop (at + used) bytes)) where
    section-some : record { lines = 1 + more.lines; used = used + more.used } ≡ section_at part text
    section-some =
        sym (then_some used more (omega (arith, some)))
        ∙ ap (line_then used) (read ∙ ap₂ (λ (n : ℕ) (l : List ℕ). lines_at part n 0 l) said (sym (drop-drop used at bytes)))
        ∙ ap (λ (n : ℕ). line_then n (lines_at part (count_said part text) 0 (drop n text))) taken

    pub some-stands : eqb more.lines value ≡ section_whole part text
    some-stands =
        sym (eqb-next more.lines value)
        ∙ ap₂ (λ (r : Read) (n : ℕ). eqb r.lines (1 + n)) section-some said

    pub some-lines : 1 + more.lines ≡ (section_at part text).lines
    some-lines = ap (λ (r : Read). r.lines) section-some

    pub some-used : used + more.used ≡ (section_at part text).used
    some-used = ap (λ (r : Read). r.used) section-some

-- ---- The end

pub at-end : (bytes : List ℕ) (at line : ℕ) → at ≡ length bytes → well_formed ≡ form_from [] line (drop at bytes)
at-end bytes at line end =
    sym
    (ap (λ (t : Bool). if_whole t line well_formed)
    (eq-eqb (length (drop at bytes)) 0 (length-drop at bytes ∙ (let e : length bytes - at ≡ 0 = omega (arith, end) in e))))

pub before-end : (bytes : List ℕ) (at line : ℕ) → at ≤ length bytes → (at ≡ length bytes → ⊥) → faulty_at line ≡ form_from [] line (drop at bytes)
before-end bytes at line inside other =
    sym
    (ap (λ (t : Bool). if_whole t line well_formed)
    (ne_eqb (length (drop at bytes)) 0 (λ (none : length (drop at bytes) ≡ 0). other (let e : at ≡ length bytes = omega (arith, length-drop at bytes, none) in e))))

-- ---- A section before others

-- a line of it is faulty: the form is the first such line
pub form-faulty :
    {part : Part} {bytes : List ℕ} {from : Place} {fault : FaultyLine} (parts : List Part) → FaultIn part bytes from fault → Err fault ≡ form_from (part ∷ parts) from.line (drop from.at bytes)
form-faulty {part} {bytes} {from} parts is =
    let text = drop from.at bytes in
    let next = from.line + (section_at part text).lines in
    ap faulty_at is.line
    ∙ ap (λ (t : Bool). if_whole t next (form_from parts next (drop (section_at part text).used text))) (sym is.whole)

-- all its lines are right: the form is that of what follows
pub form-on :
    {part : Part} {bytes : List ℕ} {from next : Place} (parts : List Part) → SectionIs part bytes from next
    → form_from parts next.line (drop next.at bytes) ≡ form_from (part ∷ parts) from.line (drop from.at bytes)
form-on {part} {bytes} {from} parts is =
    let text = drop from.at bytes in
    let next = from.line + (section_at part text).lines in
    ap₂ (form_from parts) is.line (ap (λ (n : ℕ). drop n bytes) is.place ∙ sym (drop-drop (section_at part text).used from.at bytes))
    ∙ ap (λ (t : Bool). if_whole t next (form_from parts next (drop (section_at part text).used text))) (sym is.whole)

-- the sections of a sheet of this kind: bidders, paths, and those of bids
pub parts-of : (kind : Kind) → Bidders ∷ Paths ∷ replicate (rounds_of kind) Bids ≡ parts_of kind
parts-of Short = refl
parts-of Long = refl

-- bidders and paths that are right, and then the sections of bids
pub form-sections :
    {bytes : List ℕ} {from paths first : Place} {form : SheetForm} (kind : Kind) → SectionIs Bidders bytes from paths → SectionIs Paths bytes paths first
    → form ≡ form_from (replicate (rounds_of kind) Bids) first.line (drop first.at bytes) → form ≡ form_from (parts_of kind) from.line (drop from.at bytes)
form-sections {bytes} {from} kind bidders paths is =
    let rounds = replicate (rounds_of kind) Bids in
    is ∙ form-on rounds paths ∙ form-on (Paths ∷ rounds) bidders ∙ ap (λ (parts : List Part). form_from parts from.line (drop from.at bytes)) (parts-of kind)

-- ---- The whole

pub long-kind : (bytes : List ℕ) → get_or bytes kind_place 0 ≡ kind_byte Long → Long ≡ sheet_kind bytes
long-kind bytes is = sym (ap long_if (eq-eqb (get_or bytes kind_place 0) (kind_byte Long) is))

pub short-kind : (bytes : List ℕ) → (get_or bytes kind_place 0 ≡ kind_byte Long → ⊥) → Short ≡ sheet_kind bytes
short-kind bytes other = sym (ap long_if (ne_eqb (get_or bytes kind_place 0) (kind_byte Long) other))

-- a title is longer than the part before its days
pub title-long : (bytes : List ℕ) (title : ℕ) → title ≡ title_used bytes → (title ≡ 0 → ⊥) → title ≤ length bytes → 6 ≤ length bytes
title-long bytes title is some fits =
    let word = starts_with (word_spaced title_word) bytes in
    let kind = is_kind (get_or bytes kind_place 0) in
    let gap = eqb (get_or bytes (kind_place + 1) 0) space in
    let parts = behind-read (word && kind && gap) days_place (numbers_used word_top newline 2 (drop days_place bytes)) (omega (arith, is, some)) in
    omega (arith, is, parts.2)

module _ (bytes : List ℕ) where
  abbrev titled : SheetForm
  titled = if_whole (leb 1 (title_used bytes)) 1 (form_from (parts_of (sheet_kind bytes)) 2 (drop (title_used bytes) bytes))

  pub too_long : sheet_bytes < length bytes → faulty_at 0 ≡ form_of bytes
  unfolding form_of
  too_long long = sym (ap (λ (t : Bool). if_whole t 0 titled) (lt-leb (length bytes) sheet_bytes long))

  pub no-title : length bytes ≤ sheet_bytes → title_used bytes ≡ 0 → faulty_at 1 ≡ form_of bytes
  unfolding form_of
  no-title short none =
      sym
      (ap (λ (t : Bool). if_whole t 0 titled) (le-leb (length bytes) sheet_bytes short)
      ∙ ap (λ (t : Bool). if_whole t 1 (form_from (parts_of (sheet_kind bytes)) 2 (drop (title_used bytes) bytes))) (lt-leb 1 (title_used bytes) (omega (arith, none))))

  pub with-title :
      (form : SheetForm) → length bytes ≤ sheet_bytes → (title_used bytes ≡ 0 → ⊥) → form ≡ form_from (parts_of (sheet_kind bytes)) 2 (drop (title_used bytes) bytes) → form ≡ form_of bytes
  unfolding form_of
  with-title form short some is =
      is
      ∙ sym
      (ap (λ (t : Bool). if_whole t 0 titled) (le-leb (length bytes) sheet_bytes short)
      ∙ ap (λ (t : Bool). if_whole t 1 (form_from (parts_of (sheet_kind bytes)) 2 (drop (title_used bytes) bytes))) (le-leb 1 (title_used bytes) (omega (arith, some))))
