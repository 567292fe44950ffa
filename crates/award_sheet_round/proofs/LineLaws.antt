-- Laws about the lines of a round, piece by piece.
use mathlib.Core.Path.{◌≡◌, sym, ◌∙◌, ap}
use mathlib.Core.Bool.{Bool, cond}
use mathlib.Core.List.{List, [], ◌∷◌, ◌++◌, append_assoc, append-nil}
use Prim.Native.Nat.{ℕ, zero, suc, ◌+◌, ◌-◌, ◌≤◌, ◌<◌}
use native.Mathlib.Numerals.{add-one}
use native.Mathlib.Omega.{arith}
use borrow.Author.Tests.{lt-ltb, le-ltb, eq-eqb, ne_eqb}
use Rattle.market.specs.Limits.{admitted}
use Rattle.text_numbers.specs.Decimal.{decimal}
use Rattle.text_fields.specs.Fields.{space, newline, field_text}
use Rattle.round_bids.specs.Bids.{Bid}
use Rattle.call_round.specs.Answers.{won_in}
use Rattle.award_sheet_round.specs.RoundLines.{mark_word, price_field, award_path_line, award_path_lines, award_line, award_part, RoundMade, bids_part, paths_part, awards_part, round_text}
use Rattle.award_sheet_round.specs.Phrases as words

-- ---- Fields by cases

pub mark-admitted : (mark : ℕ) → mark ≡ admitted → mark_word mark ++ (space ∷ []) ≡ words.admitted_word ++ (space ∷ [])
mark-admitted mark is =
    ap (λ (t : Bool). cond t words.admitted_word words.over_word ++ (space ∷ [])) (eq-eqb mark admitted is)

pub mark-over : (mark : ℕ) → (mark ≡ admitted → ⊥) → mark_word mark ++ (space ∷ []) ≡ words.over_word ++ (space ∷ [])
mark-over mark other =
    ap (λ (t : Bool). cond t words.admitted_word words.over_word ++ (space ∷ [])) (ne_eqb mark admitted other)

pub price-none : (price : ℕ) → price ≡ 0 → price_field price ++ (newline ∷ []) ≡ words.no_price_mark ++ (newline ∷ [])
price-none price is =
    ap (λ (t : Bool). cond t words.no_price_mark (decimal price) ++ (newline ∷ [])) (eq-eqb price 0 is)

pub price-some : (price : ℕ) → (price ≡ 0 → ⊥) → price_field price ++ (newline ∷ []) ≡ field_text price newline
price-some price other =
    ap (λ (t : Bool). cond t words.no_price_mark (decimal price) ++ (newline ∷ [])) (ne_eqb price 0 other)

pub award-won : (answers : List ℕ) (bid : ℕ) (b : Bid) → 0 < won_in answers bid → award_part answers bid b ≡ award_line answers bid b
award-won answers bid b won =
    ap (λ (t : Bool). cond t (award_line answers bid b) []) (lt-ltb 0 (won_in answers bid) won)

pub award-lost : (answers : List ℕ) (bid : ℕ) (b : Bid) → won_in answers bid ≤ 0 → award_part answers bid b ≡ []
award-lost answers bid b lost =
    ap (λ (t : Bool). cond t (award_line answers bid b) []) (le-ltb 0 (won_in answers bid) lost)

-- ---- Lines one after another

-- the lines of the paths from `path` on, as many as the last argument says
abbrev pub paths_from : List ℕ → ℕ → ℕ → List ℕ
paths_from results path zero = []
paths_from results path (suc n) = award_path_line results path ++ paths_from results (path + 1) n

paths-split : (results : List ℕ) (path n : ℕ) → award_path_lines results (path + n) ≡ award_path_lines results path ++ paths_from results path n
paths-split results path zero =
    let same : path + 0 ≡ path = omega arith in ap (award_path_lines results) same ∙ sym (append-nil (award_path_lines results path))
paths-split results path (suc n) =
    let on : path + suc n ≡ path + 1 + n = omega arith in
    ap (award_path_lines results) on
    ∙ paths-split results (path + 1) n
    ∙ ap (λ (k : ℕ). award_path_lines results k ++ paths_from results (path + 1) n) (add-one path)
    ∙ append_assoc (award_path_lines results path) (award_path_line results path) (paths_from results (path + 1) n)

pub paths-all : (results : List ℕ) (paths : ℕ) → award_path_lines results paths ≡ paths_from results 0 (paths - 0)
paths-all results paths =
    let same : paths ≡ 0 + paths = omega arith in
    let all : paths ≡ paths - 0 = omega arith in
    ap (award_path_lines results) same ∙ paths-split results 0 paths ∙ ap (paths_from results 0) all

pub paths-next : (results : List ℕ) (path paths : ℕ) → path < paths → paths_from results path (paths - path) ≡ award_path_line results path ++ paths_from results (path + 1) (paths - (path + 1))
paths-next results path paths below =
    let more : paths - path ≡ suc (paths - (path + 1)) = omega arith in ap (paths_from results path) more

pub paths-none : (results : List ℕ) (path paths : ℕ) → paths ≤ path → paths_from results path (paths - path) ≡ []
paths-none results path paths end =
    let none : paths - path ≡ 0 = omega arith in ap (paths_from results path) none

-- ---- A round

pub round-pieces : (paths : ℕ) (r : RoundMade) → round_text paths r ≡ bids_part r.answers r.bids ++ (paths_part r.results paths ++ awards_part r.answers r.bids)
unfolding round_text
round-pieces paths r = append_assoc (bids_part r.answers r.bids) (paths_part r.results paths) (awards_part r.answers r.bids)
