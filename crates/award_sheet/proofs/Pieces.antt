-- An award sheet is its title, its rounds and its bidders, one after another.
use mathlib.Core.Path.{◌≡◌, ◌∙◌, ap}
use mathlib.Core.List.{[], List, ◌∷◌, ◌++◌, append_assoc, append-nil}
use Prim.Native.Nat.{ℕ}
use lib.ListN.{length}
use Rattle.market.specs.declared.book.Book.{Book}
use Rattle.award_sheet_round.specs.RoundLines.{RoundMade, round_text}
use Rattle.award_sheet_parts.specs.AwardSheet.{title_text, rounds_text, bidders_text, award_text}

award-pieces : (rounds : List RoundMade) (b : Book) (listed : List ℕ) → award_text rounds b listed ≡ title_text (length rounds) ++ (rounds_text b.path_count rounds ++ bidders_text b listed)
unfolding award_text
award-pieces rounds b listed =
    append_assoc (title_text (length rounds)) (rounds_text b.path_count rounds) (bidders_text b listed)

-- one round
one-round : (paths : ℕ) (r : RoundMade) → rounds_text paths (r ∷ []) ≡ round_text paths r
one-round paths r = append-nil (round_text paths r)

pub one-pieces : (r : RoundMade) (b : Book) (listed : List ℕ) → award_text (r ∷ []) b listed ≡ title_text 1 ++ (round_text b.path_count r ++ bidders_text b listed)
one-pieces r b listed =
    award-pieces (r ∷ []) b listed
    ∙ ap (λ (l : List ℕ). title_text 1 ++ (l ++ bidders_text b listed)) (one-round b.path_count r)

-- two rounds
pub two-pieces : (r s : RoundMade) (b : Book) (listed : List ℕ)
    → award_text (r ∷ s ∷ []) b listed ≡ title_text 2 ++ (round_text b.path_count r ++ (round_text b.path_count s ++ bidders_text b listed))
two-pieces r s b listed =
    award-pieces (r ∷ s ∷ []) b listed
    ∙ ap (λ (l : List ℕ). title_text 2 ++ l)
    (append_assoc (round_text b.path_count r) (rounds_text b.path_count (s ∷ [])) (bidders_text b listed)
    ∙ ap (λ (l : List ℕ). round_text b.path_count r ++ (l ++ bidders_text b listed)) (one-round b.path_count s))
