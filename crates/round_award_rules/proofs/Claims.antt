-- Laws about facts that hold of each claim, or of each award.
use mathlib.Core.List.{List, [], ◌∷◌, ◌++◌}
use Rattle.round_award_rules.specs.Awards.{Claim, Award}
use Rattle.round_award_rules.specs.Rivals.{Each}

-- a fact that follows from another, of each claim
pub each_map : {P Q : Claim → Type 0} → ((l : Claim) → P l → Q l) → (ls : List Claim) → Each P ls → Each Q ls
each_map f [] h = tt
each_map f (l ∷ ls) h = (f l h.0, each_map f ls h.1)

pub each_append : (P : Claim → Type 0) (ls ms : List Claim) → Each P ls → Each P ms → Each P (ls ++ ms)
each_append P [] ms h k = k
each_append P (l ∷ ls) ms h k = (h.0, each_append P ls ms h.1 k)

-- a fact of each award
abbrev pub EachAward : (Award → Type 0) → List Award → Type 0
EachAward holds [] = Unit {0}
EachAward holds (a ∷ awards) = holds a × EachAward holds awards

pub award-map : {P Q : Award → Type 0} → ((a : Award) → P a → Q a) → (awards : List Award) → EachAward P awards → EachAward Q awards
award-map f [] h = tt
award-map f (a ∷ awards) h = (f a h.0, award-map f awards h.1)
