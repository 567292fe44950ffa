-- Laws about the numbers of a list whose elements have a kind: amounts in cents, quantities in megawatts.
use mathlib.Core.Path.{◌≡◌, refl, sym, ◌∙◌, ap}
use mathlib.Core.Bool.{Bool, true}
use mathlib.Core.List.{List, [], ◌∷◌, map}
use Prim.Native.Nat.{ℕ, zero, suc, ◌+◌}
use lib.ListN.{length, set, replicate, take, get_or, length-map, get_or-map}
use Rattle.market.proofs.Every.{every-at-any}
use Rattle.market.specs.Books.{cents, megawatts, in_cents, in_megawatts, every}
use Rattle.market.specs.declared.units.Cents.{Cents}
use Rattle.market.specs.declared.units.Megawatts.{Megawatts}

module _ {A B : Type 0} (f : A → B) where
  pub map-set : (l : List A) (i : ℕ) (x : A) → map f (set l i x) ≡ set (map f l) i (f x)
  map-set [] i x = refl
  map-set (y ∷ l) zero x = refl
  map-set (y ∷ l) (suc i) x = ap (f y ∷◌) (map-set l i x)

  pub map-replicate : (n : ℕ) (x : A) → map f (replicate n x) ≡ replicate n (f x)
  map-replicate zero x = refl
  map-replicate (suc n) x = ap (f x ∷◌) (map-replicate n x)

  pub map-take : (n : ℕ) (l : List A) → map f (take n l) ≡ take n (map f l)
  map-take zero l = refl
  map-take (suc n) [] = refl
  map-take (suc n) (x ∷ l) = ap (f x ∷◌) (map-take n l)

-- the number at an index is that of the amount, or quantity, there
pub cents-at : (l : List Cents) (i : ℕ) → get_or (in_cents l) i 0 ≡ (get_or l i (cents 0)).0
cents-at l i = get_or-map (λ x. x.0) l i (cents 0)

pub megawatts-at : (l : List Megawatts) (i : ℕ) → get_or (in_megawatts l) i 0 ≡ (get_or l i (megawatts 0)).0
megawatts-at l i = get_or-map (λ x. x.0) l i (megawatts 0)

-- one element of the list made another, whose number is given by the number that was there
pub map-change :
    {A : Type 0} (f : A → ℕ) (l : List A) (i : ℕ) (d x : A) (g : ℕ → ℕ) → f x ≡ g (f (get_or l i d))
    → map f (set l i x) ≡ set (map f l) i (g (get_or (map f l) i (f d)))
map-change f l i d x g e = map-set f l i x ∙ ap (set (map f l) i) (e ∙ ap g (sym (get_or-map f l i d)))

-- cents added to one of a list of amounts
pub cents-added : (l : List Cents) (i more : ℕ) → in_cents (set l i (cents ((get_or l i (cents 0)).0 + more))) ≡ set (in_cents l) i (get_or (in_cents l) i 0 + more)
cents-added l i more = map-change (λ x. x.0) l i (cents 0) (cents ((get_or l i (cents 0)).0 + more)) (◌+ more) refl

-- a list of amounts has as many numbers as amounts
pub numbers-long : (l : List Cents) (n : ℕ) → length l ≡ n → length (in_cents l) ≡ n
numbers-long l n long = length-map l (λ (x : Cents). x.0) ∙ long

-- where every number of a list passes a test, so does that of what is read at any index; past the end it is the default's
pub number-at-any : {A : Type 0} (f : A → ℕ) (test : ℕ → Bool) (l : List A) (i : ℕ) (d : A) → every test (map f l) ≡ true → test (f d) ≡ true → test (f (get_or l i d)) ≡ true
number-at-any f test l i d h e = rw (get_or-map f l i d) at (every-at-any test (map f l) i (f d) h e)
