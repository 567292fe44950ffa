-- How a pool is shared by weights, to the cent: rules 11.4 to 11.6.
use Rattle.std.specs.List.{zip}
use Rattle.std.specs.Prelude.{sum, cond, List, [], ◌∷◌, map, ℕ, zero, suc, ◌+◌, ◌-◌, ◌*◌, ◌/◌, ◌%◌, max, leb, ltb, get_or, set}

-- the sum of a column
abbrev pub total : List ℕ → ℕ
total xs = sum xs

-- rule 11.4: a participant weighs its energy if it has a charge above 0 and else nothing; of one participant, and of all
abbrev pub weight_of : ℕ → ℕ → ℕ
weight_of charge energy = cond (ltb 0 charge) energy 0

abbrev pub eligible : List ℕ → List ℕ → List ℕ
eligible charges energy = map (λ p. weight_of p.0 p.1) (zip charges energy)

-- rule 11.5: the whole cents of a weight, and the remainder of that division; of one weight, and of all
abbrev pub floor_of : ℕ → ℕ → ℕ → ℕ
floor_of pool whole weight = pool * weight / whole

abbrev pub remainder_of : ℕ → ℕ → ℕ → ℕ
remainder_of pool whole weight = pool * weight % whole

abbrev pub floors : ℕ → List ℕ → List ℕ
floors pool weights = map (floor_of pool (total weights)) weights

abbrev pub remainders : ℕ → List ℕ → List ℕ
remainders pool weights = map (remainder_of pool (total weights)) weights

-- rule 11.6: how many cents are left over
abbrev pub left : ℕ → List ℕ → ℕ
left pool weights = pool - total (floors pool weights)

-- the largest number of a list
abbrev pub biggest : List ℕ → ℕ
biggest [] = 0
biggest (x ∷ xs) = max x (biggest xs)

-- rule 11.6: who is next: the participant with the largest remainder, and of equal ones that with the lower number
abbrev pub largest : List ℕ → ℕ
largest [] = 0
largest (x ∷ xs) = cond (leb (biggest xs) x) 0 (suc (largest xs))

-- rule 11.6: one cent more for a participant, and its remainder set to 0, so that it is not next again
abbrev pub one_more : List ℕ → ℕ → List ℕ
one_more shares place = set shares place (get_or shares place 0 + 1)

abbrev pub spent : List ℕ → ℕ → List ℕ
spent rems place = set rems place 0

-- rule 11.6: the cents left over go out one by one
abbrev pub hand_out : ℕ → List ℕ → List ℕ → List ℕ
hand_out zero rems shares = shares
hand_out (suc cents) rems shares = hand_out cents (spent rems (largest rems)) (one_more shares (largest rems))

-- rules 11.5 and 11.6: the cents of each participant in a pool
unfoldable pub pool_shares : ℕ → List ℕ → List ℕ
pool_shares pool weights = hand_out (left pool weights) (remainders pool weights) (floors pool weights)
