-- Laws about a test of every element of a list.
use mathlib.Core.Path.{◌≡◌, refl, ap₂}
use mathlib.Core.Bool.{Bool, true, ◌&&◌}
use mathlib.Core.List.{List, [], ◌∷◌, ◌++◌, map}
use Prim.Native.Nat.{ℕ, zero, suc, ◌<◌}
use native.Mathlib.Omega.{arith}
use lib.ListN.{length, get_or, take, set, replicate}
use Rattle.market.proofs.Tests.{left-true, right-true}
use Rattle.market.specs.Books.{every}

pub both_true : {s t : Bool} → s ≡ true → t ≡ true → (s && t) ≡ true
both_true p q = ap₂ ◌&&◌ p q

module _ {A : Type 0} (test : A → Bool) where
  -- if every element passes the test, so does what is read at any index; past the end that is the default, which passes too
  pub every-at-any : (l : List A) (i : ℕ) (d : A) → every test l ≡ true → test d ≡ true → test (get_or l i d) ≡ true
  every-at-any [] i d h e = e
  every-at-any (x ∷ l) zero d h e = left-true (test x) (every test l) h
  every-at-any (x ∷ l) (suc i) d h e = every-at-any l i d (right-true (test x) (every test l) h) e

  -- if every element passes the test, so does the element at an index within the list
  pub every-within : (l : List A) (i : ℕ) (d : A) → i < length l → every test l ≡ true → test (get_or l i d) ≡ true
  every-within [] i d below h = absurd (let no_place : ⊥ = omega arith in no_place)
  every-within (x ∷ l) zero d below h = left-true (test x) (every test l) h
  every-within (x ∷ l) (suc i) d below h = every-within l i d (omega arith) (right-true (test x) (every test l) h)

  -- a list passes the test if the element at each index does
  pub every-all : (l : List A) (d : A) → ((i : ℕ) → i < length l → test (get_or l i d) ≡ true) → every test l ≡ true
  every-all [] d h = refl
  every-all (x ∷ l) d h = both_true (h zero (omega arith)) (every-all l d (λ i below. h (suc i) (omega arith)))

  pub every_append : (l r : List A) → every test l ≡ true → every test r ≡ true → every test (l ++ r) ≡ true
  every_append [] r h k = k
  every_append (x ∷ l) r h k =
      both_true (left-true (test x) (every test l) h)
      (every_append l r (right-true (test x) (every test l) h) k)

  pub every_take : (n : ℕ) (l : List A) → every test l ≡ true → every test (take n l) ≡ true
  every_take zero l h = refl
  every_take (suc n) [] h = refl
  every_take (suc n) (x ∷ l) h =
      both_true (left-true (test x) (every test l) h) (every_take n l (right-true (test x) (every test l) h))

  pub every-replicate : (n : ℕ) (x : A) → test x ≡ true → every test (replicate n x) ≡ true
  every-replicate zero x h = refl
  every-replicate (suc n) x h = both_true h (every-replicate n x h)

  pub every_set : (l : List A) (i : ℕ) (x : A) → every test l ≡ true → test x ≡ true → every test (set l i x) ≡ true
  every_set [] i x h e = refl
  every_set (y ∷ l) zero x h e = both_true e (right-true (test y) (every test l) h)
  every_set (y ∷ l) (suc i) x h e =
      both_true (left-true (test y) (every test l) h) (every_set l i x (right-true (test y) (every test l) h) e)

-- if the image of each element that passes one test passes another, so do the images of a list
pub every_map : {A B : Type 0} (f : A → B) (test : B → Bool) (given : A → Bool) → ((a : A) → given a ≡ true → test (f a) ≡ true) → (l : List A) → every given l ≡ true → every test (map f l) ≡ true
every_map f test given follows [] h = refl
every_map f test given follows (x ∷ l) h =
    both_true (follows x (left-true (given x) (every given l) h))
    (every_map f test given follows l (right-true (given x) (every given l) h))

-- one element more that passes a test, set after first ones that pass it
pub every-next : {A : Type 0} (test : A → Bool) (l : List A) (k : ℕ) (v : A) → every test (take k l) ≡ true → test v ≡ true → every test (take (suc k) (set l k v)) ≡ true
every-next test [] k v h e = refl
every-next test (x ∷ l) zero v h e = both_true e refl
every-next test (x ∷ l) (suc k) v h e =
    both_true (left-true (test x) (every test (take k l)) h) (every-next test l k v (right-true (test x) (every test (take k l)) h) e)

-- where a third test follows from two, it holds of each element
pub every_two : {A : Type 0} (f g h : A → Bool) → ((x : A) → f x ≡ true → g x ≡ true → h x ≡ true) → (l : List A) → every f l ≡ true → every g l ≡ true → every h l ≡ true
every_two f g h follows [] p q = refl
every_two f g h follows (x ∷ l) p q =
    both_true (follows x (left-true (f x) (every f l) p) (left-true (g x) (every g l) q))
    (every_two f g h follows l (right-true (f x) (every f l) p) (right-true (g x) (every g l) q))
