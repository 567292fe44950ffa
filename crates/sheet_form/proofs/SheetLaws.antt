-- A text is a well-formed sheet exactly if it is how a right sheet is written. What is read in it is that sheet.
use mathlib.Core.Path.{◌≡◌, refl, sym, ◌∙◌, ap, ap₂, subst}
use mathlib.Core.Bool.{Bool, true, false, ◌&&◌, false≢true}
use mathlib.Core.List.{List, [], ◌∷◌, ◌++◌, append_assoc}
use Prim.Native.Nat.{ℕ, zero, suc, ◌+◌, ◌-◌, ◌≤◌}
use native.Mathlib.Omega.{arith}
use lib.Dec.{leb, ltb, eqb}
use lib.ListN.{length, get_or, drop, replicate}
use lib.Seq.{drop-append_seam}
use borrow.Author.Tests.{leb-true, le-leb, ltb-true, eqb-true, eq-eqb}
use Rattle.std.specs.Prelude.{Ok, Err}
use Rattle.market.proofs.Tests.{left-true, right-true}
use Rattle.market.specs.Books.{every}
use Rattle.market.specs.Limits.{bidder_limit, sheet_bytes}
use Rattle.market.specs.declared.book.Kind.{Kind}
use Rattle.market.specs.declared.book.Kind.TheVariants.{Short, Long}
use Rattle.round_bids.specs.Bids.{Bid}
use Rattle.text_fields.proofs.FieldLaws.{within}
use Rattle.text_fields.specs.Fields.{count_line, word_top}
use Rattle.sheet_lines.specs.Lines.{title_used, part_word, line_at}
use Rattle.sheet_lines.specs.declared.part.Part.{Part}
use Rattle.sheet_lines.specs.declared.part.Part.TheVariants.{Bidders, Paths, Bids}
use Rattle.sheet_form.specs.Form.{SheetForm, well_formed, section_at, section_whole, parts_of, if_whole, form_from, sheet_kind, form_of}
use Rattle.sheet_form.specs.Reading.{bidder_line_at, path_line_at, bid_in, section_says, after_part, rounds_at, at_bidders, at_paths, at_rounds, days_in, sheet_in}
use Rattle.sheet_form.specs.declared.rows.BidderLine.{BidderLine}
use Rattle.sheet_form.specs.declared.rows.PathLine.{PathLine}
use Rattle.sheet_form.specs.Sheet.{Sheet, rounds_of, title_line, bidder_lines, path_lines, bid_section, bid_sections, sheet_text}
use Rattle.sheet_form.specs.Sheet.{fits_word, fits_amount, right_bidders, right_path, right_bid, right_section, right_sheet}
use Rattle.sheet_form.specs.declared.form.Read.{Read}
use Rattle.sheet_form.proofs.CountedLaws.{section_text, SectionRead, section-written, section-stands, section-again, section-read}
use Rattle.sheet_form.proofs.LineLaws.{right_bidder}
use Rattle.sheet_form.proofs.SectionLaws.{Sort, right_all, Written, Stands}
use Rattle.sheet_form.proofs.Sorts.{bidder_sort, bidder-in, bidder-out, bidders-text, bidders-right, path_sort, path-in, path-out}
use Rattle.sheet_form.proofs.Sorts.{paths-text, paths-right, right-paths, bid_sort, bid-in, bid-out, bids-text, bids-right}
use Rattle.sheet_form.proofs.TitleLaws.{title_text, title-some, title-kind, title-days, title-written, TitleRead, title-read}

-- ---- Form

abbrev is_right : SheetForm → Bool
is_right (Ok found) = true
is_right (Err line) = false

-- if the form is right, then the test was true and the rest is right
pub stands-right : (t : Bool) (line : ℕ) (rest : SheetForm) → if_whole t line rest ≡ well_formed → (t ≡ true) × (rest ≡ well_formed)
stands-right true line rest h = (refl, h)
stands-right false line rest h = absurd (false≢true (ap is_right h))

-- ---- A section that is written, with other text after it

record Placed {X : Type 0} (part : Part) (read : List ℕ → X) (w rest : List ℕ) (xs : List X) : Type 0 where
  present : section_whole part (w ++ rest) ≡ true
  used : (section_at part (w ++ rest)).used ≡ length w
  again : section_says part read (w ++ rest) ≡ xs

placed :
    {X :
    Type 0} (s : Sort X) → ((state : ℕ) (x : X) (rest : List ℕ) → s.right state x ≡ true → Written s state x rest)
    → ((state : ℕ) (text : List ℕ) → 1 ≤ (line_at s.part state text).used → Stands s state text) → (xs : List X) (rest : List ℕ) → right_all s 0 xs ≡ true → length xs ≤ word_top
    → Placed s.part s.read (section_text s xs) rest xs
placed s in-text out-text xs rest right most =
    record {
      present = section-stands s in-text out-text xs rest right most;
      used = ap (λ (r : Read). r.used) (section-written s in-text out-text xs rest right most);
      again = section-again s in-text out-text xs rest right most;
    }

behind-placed : {X : Type 0} (part : Part) (read : List ℕ → X) (w rest : List ℕ) (xs : List X) → Placed part read w rest xs → after_part part (w ++ rest) ≡ rest
behind-placed part read w rest xs p = ap (λ (n : ℕ). drop n (w ++ rest)) p.used ∙ drop-append_seam w rest

form-more :
    {X :
    Type 0} (part : Part) (read : List ℕ → X) (w rest : List ℕ) (xs : List X) → Placed part read w rest xs → (parts : List Part) → ((line : ℕ) → form_from parts line rest ≡ well_formed) → (line : ℕ)
    → form_from (part ∷ parts) line (w ++ rest) ≡ well_formed
form-more part read w rest xs p parts more line =
    let next = line + (section_at part (w ++ rest)).lines in
    ap (λ (t : Bool). if_whole t next (form_from parts next (after_part part (w ++ rest)))) p.present
    ∙ ap (form_from parts next) (behind-placed part read w rest xs p)
    ∙ more next

-- the sections as the sheet has them
abbrev bidder_section : List BidderLine → List ℕ
bidder_section xs = count_line (part_word Bidders) (length xs) ++ bidder_lines xs

abbrev path_section : List PathLine → List ℕ
path_section ps = count_line (part_word Paths) (length ps) ++ path_lines 0 ps

bidders-same : (xs : List BidderLine) → section_text bidder_sort xs ≡ bidder_section xs
bidders-same xs = ap (λ (l : List ℕ). count_line (part_word Bidders) (length xs) ++ l) (bidders-text xs 0)

paths-same : (ps : List PathLine) → section_text path_sort ps ≡ path_section ps
paths-same ps = ap (λ (l : List ℕ). count_line (part_word Paths) (length ps) ++ l) (paths-text ps 0)

pub bids-same : (bids : List Bid) → section_text bid_sort bids ≡ bid_section bids
bids-same bids = ap (λ (l : List ℕ). count_line (part_word Bids) (length bids) ++ l) (bids-text bids 0)

-- ---- Rounds

round-placed : (bids : List Bid) (rest : List ℕ) → right_section bids ≡ true → Placed Bids bid_in (bid_section bids) rest bids
round-placed bids rest right =
    subst (λ (w : List ℕ). Placed Bids bid_in w rest bids) (bids-same bids)
    (placed bid_sort bid-in bid-out bids rest
    (bids-right bids 0 ∙ right-true (fits_word (length bids)) (every right_bid bids) right)
    (leb-true (length bids) word_top (left-true (fits_word (length bids)) (every right_bid bids) right)))

rounds-form : (rounds : List (List Bid)) → every right_section rounds ≡ true → (line : ℕ) → form_from (replicate (length rounds) Bids) line (bid_sections rounds) ≡ well_formed
rounds-form [] right line = refl
rounds-form (bids ∷ more) right line =
    form-more Bids bid_in (bid_section bids) (bid_sections more) bids
    (round-placed bids (bid_sections more) (left-true (right_section bids) (every right_section more) right))
    (replicate (length more) Bids) (λ next. rounds-form more (right-true (right_section bids) (every right_section more) right) next) line

rounds-again : (rounds : List (List Bid)) → every right_section rounds ≡ true → rounds_at (length rounds) (bid_sections rounds) ≡ rounds
rounds-again [] right = refl
rounds-again (bids ∷ more) right =
    let p = round-placed bids (bid_sections more) (left-true (right_section bids) (every right_section more) right) in
    ap₂ ◌∷◌ p.again
    (ap (rounds_at (length more)) (behind-placed Bids bid_in (bid_section bids) (bid_sections more) bids p)
    ∙ rounds-again more (right-true (right_section bids) (every right_section more) right))

-- ---- Written sheets are read

-- a sheet made of its parts
abbrev made : Kind → ℕ → ℕ → List BidderLine → List PathLine → List (List Bid) → Sheet
made kind first last bidders paths rounds =
    record { kind = kind; first = first; last = last; bidders = bidders; paths = paths; rounds = rounds }

made-same :
    {k k' : Kind} {f f' l l' : ℕ} {b b' : List BidderLine} {p p' : List PathLine} {r r' : List (List Bid)} → k ≡ k' → f ≡ f' → l ≡ l' → b ≡ b' → p ≡ p' → r ≡ r'
    → made k f l b p r ≡ made k' f' l' b' p' r'
made-same {k} {k'} {f} {f'} {l} {l'} {b} {b'} {p} {p'} {r} {r'} ek ef el eb ep er =
    ap₂ (λ (kind : Kind) (first : ℕ). made kind first l b p r) ek ef
    ∙ ap₂ (λ (last : ℕ) (bidders : List BidderLine). made k' f' last bidders p r) el eb
    ∙ ap₂ (λ (paths : List PathLine) (rounds : List (List Bid)). made k' f' l' b' paths rounds) ep er

-- the sections of a sheet of this kind, with as many sections of bids as it has rounds
parts_are : (kind : Kind) → parts_of kind ≡ Bidders ∷ Paths ∷ replicate (rounds_of kind) Bids
parts_are Short = refl
parts_are Long = refl

record RightParts (s : Sheet) : Type 0 where
  days : every (within word_top) (s.first ∷ s.last ∷ []) ≡ true
  bidders : right_all bidder_sort 0 s.bidders ≡ true
  few-bidders : length s.bidders ≤ word_top
  paths : right_all path_sort 0 s.paths ≡ true
  few-paths : length s.paths ≤ word_top
  count : length s.rounds ≡ rounds_of s.kind
  rounds : every right_section s.rounds ≡ true

-- there are few bidders, since their numbers rise
bidders-few : (xs : List BidderLine) (least : ℕ) → right_bidders least xs ≡ true → length xs ≤ bidder_limit - least
bidders-few [] least right = omega arith
bidders-few (x ∷ xs) least right =
    let here = right_bidder least x in
    let rest = bidders-few xs (x.bidder + 1) (right-true here (right_bidders (x.bidder + 1) xs) right) in
    let a = leb least x.bidder in
    let b = ltb x.bidder bidder_limit in
    let c = fits_amount x.cash in
    let d = fits_amount x.letter in
    let two = left-true (a && b) c (left-true (a && b && c) d (left-true here (right_bidders (x.bidder + 1) xs) right)) in
    let from = leb-true least x.bidder (left-true a b two) in
    let to = ltb-true x.bidder bidder_limit (right-true a b two) in
    omega (arith, rest, from, to)

right-parts : (s : Sheet) → right_sheet s ≡ true → RightParts s
unfolding right_sheet
right-parts s h =
    let a = fits_word s.first in
    let b = fits_word s.last in
    let c = right_bidders 0 s.bidders in
    let d = fits_word (length s.paths) in
    let e = every right_path s.paths in
    let f = eqb (length s.rounds) (rounds_of s.kind) in
    let g = every right_section s.rounds in
    let six = left-true (a && b && c && d && e && f) g h in
    let five = left-true (a && b && c && d && e) f six in
    let four = left-true (a && b && c && d) e five in
    let three = left-true (a && b && c) d four in
    let two = left-true (a && b) c three in
    let good = right-true (a && b) c three in
    let few = leb-true (length s.paths) word_top (right-true (a && b && c) d four) in
    record {
      days = ap₂ ◌&&◌ (left-true a b two) (ap₂ ◌&&◌ (right-true a b two) refl);
      bidders = bidders-right s.bidders 0 ∙ good;
      few-bidders = omega (arith, bidders-few s.bidders 0 good);
      paths = paths-right s.paths 0 (omega (arith, few)) (right-true (a && b && c && d) e five);
      few-paths = few;
      count = eqb-true (length s.rounds) (rounds_of s.kind) (right-true (a && b && c && d && e) f six);
      rounds = right-true (a && b && c && d && e && f) g h;
    }

parts-right : (s : Sheet) → RightParts s → right_sheet s ≡ true
unfolding right_sheet
parts-right s p =
    let first = left-true (fits_word s.first) (fits_word s.last && true) p.days in
    let last = left-true (fits_word s.last) true (right-true (fits_word s.first) (fits_word s.last && true) p.days) in
    ap₂ ◌&&◌
    (ap₂ ◌&&◌
    (ap₂ ◌&&◌
    (ap₂ ◌&&◌ (ap₂ ◌&&◌ (ap₂ ◌&&◌ first last) (sym (bidders-right s.bidders 0) ∙ p.bidders)) (le-leb (length s.paths) word_top p.few-paths))
    (right-paths s.paths 0 p.paths))
    (eq-eqb (length s.rounds) (rounds_of s.kind) p.count))
    p.rounds

module _ (s : Sheet) (right : RightParts s) where
  abbrev T : List ℕ
  T = title_line s

  abbrev A : List ℕ
  A = bidder_section s.bidders

  abbrev B : List ℕ
  B = path_section s.paths

  abbrev R : List ℕ
  R = bid_sections s.rounds

  text-is : sheet_text s ≡ T ++ (A ++ (B ++ R))
  unfolding sheet_text
  text-is = append_assoc (T ++ A) B R ∙ append_assoc T A (B ++ R)

  bidders-placed : Placed Bidders bidder_line_at A (B ++ R) s.bidders
  bidders-placed =
      subst (λ (w : List ℕ). Placed Bidders bidder_line_at w (B ++ R) s.bidders) (bidders-same s.bidders)
      (placed bidder_sort bidder-in bidder-out s.bidders (B ++ R) right.bidders right.few-bidders)

  paths-placed : Placed Paths path_line_at B R s.paths
  paths-placed =
      subst (λ (w : List ℕ). Placed Paths path_line_at w R s.paths) (paths-same s.paths)
      (placed path_sort path-in path-out s.paths R right.paths right.few-paths)

  sections-form : (line : ℕ) → form_from (parts_of s.kind) line (A ++ (B ++ R)) ≡ well_formed
  sections-form line =
      ap (λ (parts : List Part). form_from parts line (A ++ (B ++ R))) (parts_are s.kind)
      ∙ ap (λ (k : ℕ). form_from (Bidders ∷ Paths ∷ replicate k Bids) line (A ++ (B ++ R))) (sym right.count)
      ∙ form-more Bidders bidder_line_at A (B ++ R) s.bidders bidders-placed (Paths ∷ replicate (length s.rounds) Bids)
      (form-more Paths path_line_at B R s.paths paths-placed (replicate (length s.rounds) Bids) (rounds-form s.rounds right.rounds)) line

  whole-title : title_used (T ++ (A ++ (B ++ R))) ≡ length T
  whole-title = title-written s.kind s.first s.last (A ++ (B ++ R)) right.days

  at-bidders : at_bidders (T ++ (A ++ (B ++ R))) ≡ A ++ (B ++ R)
  at-bidders = ap (λ (n : ℕ). drop n (T ++ (A ++ (B ++ R)))) whole-title ∙ drop-append_seam T (A ++ (B ++ R))

  form-whole : length (T ++ (A ++ (B ++ R))) ≤ sheet_bytes → form_of (T ++ (A ++ (B ++ R))) ≡ well_formed
  unfolding form_of
  form-whole short =
      let text = T ++ (A ++ (B ++ R)) in
      let inner = if_whole (leb 1 (title_used text)) 1 (form_from (parts_of (sheet_kind text)) 2 (at_bidders text)) in
      ap (λ (t : Bool). if_whole t 0 inner) (le-leb (length text) sheet_bytes short)
      ∙ ap (λ (t : Bool). if_whole t 1 (form_from (parts_of (sheet_kind text)) 2 (at_bidders text))) (le-leb 1 (title_used text) (omega (arith, whole-title, title-some s.kind s.first s.last)))
      ∙ ap₂ (λ (kind : Kind) (rest : List ℕ). form_from (parts_of kind) 2 rest) (title-kind s.kind s.first s.last (A ++ (B ++ R)) right.days) at-bidders
      ∙ sections-form 2

  at-paths : at_paths (T ++ (A ++ (B ++ R))) ≡ B ++ R
  at-paths = ap (after_part Bidders) at-bidders ∙ behind-placed Bidders bidder_line_at A (B ++ R) s.bidders bidders-placed

  at-rounds : at_rounds (T ++ (A ++ (B ++ R))) ≡ R
  at-rounds = ap (after_part Paths) at-paths ∙ behind-placed Paths path_line_at B R s.paths paths-placed

  again-whole : sheet_in (T ++ (A ++ (B ++ R))) ≡ s
  unfolding sheet_in
  again-whole =
      let text = T ++ (A ++ (B ++ R)) in
      let kind = title-kind s.kind s.first s.last (A ++ (B ++ R)) right.days in
      let days = title-days s.kind s.first s.last (A ++ (B ++ R)) right.days in
      made-same kind (ap (λ (l : List ℕ). get_or l 0 0) days) (ap (λ (l : List ℕ). get_or l 1 0) days)
      (ap (section_says Bidders bidder_line_at) at-bidders ∙ bidders-placed.again)
      (ap (section_says Paths path_line_at) at-paths ∙ paths-placed.again)
      (ap₂ rounds_at (ap rounds_of kind ∙ sym right.count) at-rounds ∙ rounds-again s.rounds right.rounds)

-- every right sheet that is short enough is well formed when it is written, and what is read in it is that sheet
pub written-has-form : (s : Sheet) → right_sheet s ≡ true → length (sheet_text s) ≤ sheet_bytes → form_of (sheet_text s) ≡ well_formed
written-has-form s right short =
    let p = right-parts s right in
    let same = text-is s p in
    ap form_of same ∙ form-whole s p (subst (λ (l : List ℕ). length l ≤ sheet_bytes) same short)

pub written-is-read : (s : Sheet) → right_sheet s ≡ true → sheet_in (sheet_text s) ≡ s
written-is-read s right =
    let p = right-parts s right in
    ap sheet_in (text-is s p) ∙ again-whole s p

-- ---- A well-formed text is how its sheet is written

-- a section whose lines are right, and what follows it
whole-section : {X : Type 0} (s : Sort X) (text : List ℕ) → SectionRead s text → text ≡ section_text s (section_says s.part s.read text) ++ after_part s.part text
whole-section s text r =
    r.front ∙ ap (λ (n : ℕ). section_text s (section_says s.part s.read text) ++ drop n text) (sym r.long)

no_bytes : (text : List ℕ) → eqb (length text) 0 ≡ true → text ≡ []
no_bytes [] h = refl
no_bytes (c ∷ text) h = absurd (let none : ⊥ = omega (arith, eqb-true (length (c ∷ text)) 0 h) in none)

record RoundsRead (k : ℕ) (text : List ℕ) : Type 0 where
  written : text ≡ bid_sections (rounds_at k text)
  count : length (rounds_at k text) ≡ k
  right : every right_section (rounds_at k text) ≡ true

rounds-read : (k line : ℕ) (text : List ℕ) → form_from (replicate k Bids) line text ≡ well_formed → RoundsRead k text
rounds-read zero line text h =
    record { written = no_bytes text (stands-right (eqb (length text) 0) line well_formed h).0; count = refl; right = refl }
rounds-read (suc k) line text h =
    let next = line + (section_at Bids text).lines in
    let rest = after_part Bids text in
    let parts = stands-right (section_whole Bids text) next (form_from (replicate k Bids) next rest) h in
    let r = section-read bid_sort bid-in bid-out text parts.0 in
    let more = rounds-read k next rest parts.1 in
    let bids = section_says Bids bid_in text in
    record {
      written =
          whole-section bid_sort text r
          ∙ ap₂ ◌++◌ (bids-same bids) more.written;
      count = ap suc more.count;
      right =
          ap₂ ◌&&◌ (ap₂ ◌&&◌ (le-leb (length bids) word_top r.most) (sym (bids-right bids 0) ∙ r.right)) more.right;
    }

module _ (text : List ℕ) (form : form_of text ≡ well_formed) where
  outer : (leb (length text) sheet_bytes ≡ true) × (if_whole (leb 1 (title_used text)) 1 (form_from (parts_of (sheet_kind text)) 2 (at_bidders text)) ≡ well_formed)
  unfolding form_of
  outer = stands-right (leb (length text) sheet_bytes) 0 (if_whole (leb 1 (title_used text)) 1 (form_from (parts_of (sheet_kind text)) 2 (at_bidders text))) form

  pub inner : (leb 1 (title_used text) ≡ true) × (form_from (parts_of (sheet_kind text)) 2 (at_bidders text) ≡ well_formed)
  inner = stands-right (leb 1 (title_used text)) 1 (form_from (parts_of (sheet_kind text)) 2 (at_bidders text)) outer.1

  title : TitleRead text
  title = title-read text (leb-true 1 (title_used text) inner.0)

  abbrev second : ℕ
  second = 2 + (section_at Bidders (at_bidders text)).lines

  abbrev pub third : ℕ
  third = second + (section_at Paths (at_paths text)).lines

  abbrev later : List Part
  later = replicate (rounds_of (sheet_kind text)) Bids

  from-bidders : (section_whole Bidders (at_bidders text) ≡ true) × (form_from (Paths ∷ later) second (at_paths text) ≡ well_formed)
  from-bidders =
      stands-right (section_whole Bidders (at_bidders text)) second (form_from (Paths ∷ later) second (at_paths text))
      (ap (λ (parts : List Part). form_from parts 2 (at_bidders text)) (sym (parts_are (sheet_kind text))) ∙ inner.1)

  pub from-paths : (section_whole Paths (at_paths text) ≡ true) × (form_from later third (at_rounds text) ≡ well_formed)
  from-paths = stands-right (section_whole Paths (at_paths text)) third (form_from later third (at_rounds text)) from-bidders.1

  pub bidders : SectionRead bidder_sort (at_bidders text)
  bidders = section-read bidder_sort bidder-in bidder-out (at_bidders text) from-bidders.0

  paths : SectionRead path_sort (at_paths text)
  paths = section-read path_sort path-in path-out (at_paths text) from-paths.0

  rounds : RoundsRead (rounds_of (sheet_kind text)) (at_rounds text)
  rounds = rounds-read (rounds_of (sheet_kind text)) third (at_rounds text) from-paths.1

  abbrev xs : List BidderLine
  xs = section_says Bidders bidder_line_at (at_bidders text)

  abbrev ps : List PathLine
  ps = section_says Paths path_line_at (at_paths text)

  abbrev rs : List (List Bid)
  rs = rounds_at (rounds_of (sheet_kind text)) (at_rounds text)

  abbrev titled : List ℕ
  titled = title_text (sheet_kind text) (get_or (days_in text) 0 0) (get_or (days_in text) 1 0)

  -- title, bidders, paths, rounds
  whole : text ≡ titled ++ (bidder_section xs ++ (path_section ps ++ bid_sections rs))
  whole =
      title.front
      ∙ ap (λ (n : ℕ). titled ++ drop n text) (sym title.long)
      ∙ ap (λ (l : List ℕ). titled ++ l)
      (whole-section bidder_sort (at_bidders text) bidders
      ∙ ap₂ ◌++◌ (bidders-same xs) (whole-section path_sort (at_paths text) paths ∙ ap₂ ◌++◌ (paths-same ps) rounds.written))

  -- and short enough
  pub form-is-short : length text ≤ sheet_bytes
  form-is-short = leb-true (length text) sheet_bytes outer.0

  -- a well-formed text is how a right sheet is written
  pub form-is-right : right_sheet (sheet_in text) ≡ true
  unfolding sheet_in
  form-is-right =
      parts-right (sheet_in text)
      (record {
        days = title.right;
        bidders = bidders.right;
        few-bidders = bidders.most;
        paths = paths.right;
        few-paths = paths.most;
        count = rounds.count;
        rounds = rounds.right;
      })

  pub form-is-written : sheet_text (sheet_in text) ≡ text
  unfolding sheet_text sheet_in
  form-is-written =
      append_assoc (titled ++ bidder_section xs) (path_section ps) (bid_sections rs)
      ∙ append_assoc titled (bidder_section xs) (path_section ps ++ bid_sections rs)
      ∙ sym whole
