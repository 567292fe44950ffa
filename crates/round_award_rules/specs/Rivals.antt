-- Rival awards and their total bid value, and the engine's own award as one of them: rules 12.5 and 12.6.
use Rattle.std.specs.Prelude.{cond, List, [], ◌∷◌, ℕ, ◌+◌, ◌*◌, ◌-◌, ◌≤◌, min, eqb, ltb, get_or}
use Rattle.market.specs.Limits.{header_words, pair_words}
use Rattle.round_bids.specs.Bids.{Bid}
use Rattle.round_bids.specs.declared.Lamination.{Lamination}
use Rattle.round_award_rules.specs.Awards.{Claim, next_at, sum_of}

-- a fact of each claim
abbrev pub Each : (Claim → Type 0) → List Claim → Type 0
Each holds [] = Unit {0}
Each holds (l ∷ ls) = holds l × Each holds ls

-- rule 12.5: a rival award: the MW that it gives to the pair at each place of the list
abbrev pub Rival : Type 0
Rival = ℕ → ℕ

-- rule 12.5: what it gives on a path
abbrev pub given_on : Rival → ℕ → List Claim → ℕ
given_on gives path claims = sum_of (λ (l : Claim). cond (eqb l.path path) (gives l.place) 0) claims

-- rule 12.5: no pair has more than its MW, and no path more than the round offers
pub record Legal (offered : List ℕ) (claims : List Claim) (gives : Rival) : Type 0 where
  pub own : Each (λ l. gives l.place ≤ l.quantity) claims
  pub shared : (path : ℕ) → given_on gives path claims ≤ get_or offered path 0

-- rule 12.5: the total bid value of a rival award
abbrev pub rival_value : Rival → List Claim → ℕ
rival_value gives claims = sum_of (λ (l : Claim). l.price * gives l.place) claims

-- rule 12.6: the bid value of a bid that won `won` MW, where each pair is filled before the next
abbrev pub filled_value : ℕ → List Lamination → ℕ
filled_value won [] = 0
filled_value won (l ∷ ls) =
    l.price.0 * min l.quantity.0 won + filled_value (won - min l.quantity.0 won) ls

-- rules 12.5 and 12.6: the total bid value of bids with these MW won, from a number on, and of all bids
abbrev pub total_value_from : (ℕ → ℕ) → ℕ → List Bid → ℕ
total_value_from won bid [] = 0
total_value_from won bid (b ∷ bs) = filled_value (won bid) b.laminations + total_value_from won (bid + 1) bs

abbrev pub total_value : (ℕ → ℕ) → List Bid → ℕ
total_value won bids = total_value_from won 0 bids

-- rule 12.6: the engine's award as a rival award. Of one bid: what the pair at `place` gets, where the first pair is at `first`
abbrev pub filled_at : ℕ → ℕ → List Lamination → Rival
filled_at won first [] place = 0
filled_at won first (l ∷ ls) place =
    cond (eqb place first) (min l.quantity.0 won) (filled_at (won - min l.quantity.0 won) (first + pair_words) ls place)

-- rule 12.6: of bids from a number on, the first of which begins at a place; then of all bids
abbrev pub filled_from : (ℕ → ℕ) → ℕ → ℕ → List Bid → Rival
filled_from won bid at [] place = 0
filled_from won bid at (b ∷ bs) place =
    cond (ltb place (next_at at b)) (filled_at (won bid) (at + header_words) b.laminations place)
    (filled_from won (bid + 1) (next_at at b) bs place)

abbrev pub filled_award : (ℕ → ℕ) → List Bid → Rival
filled_award won bids = filled_from won 0 0 bids
