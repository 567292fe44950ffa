-- Examples of pools shared by the rule, computed.
use mathlib.Core.Path.{◌≡◌, refl}
use mathlib.Core.List.{[], ◌∷◌}
use Rattle.pool_sharing.specs.Sharing.{eligible, pool_shares}

-- 166.5 and 499.5 cents: of two equal remainders the participant with the lower number gets the cent
tie-to-lower : pool_shares 666 (1 ∷ 3 ∷ []) ≡ 167 ∷ 499 ∷ []
unfolding pool_shares
tie-to-lower = refl

one-alone : pool_shares 334 (5 ∷ []) ≡ 334 ∷ []
unfolding pool_shares
one-alone = refl

-- 33 1/3, 0 and 66 2/3 cents: the participant with the larger remainder gets the cent
larger-first : pool_shares 100 (eligible (7 ∷ 0 ∷ 9 ∷ []) (1 ∷ 5 ∷ 2 ∷ [])) ≡ 33 ∷ 0 ∷ 67 ∷ []
unfolding pool_shares
larger-first = refl
