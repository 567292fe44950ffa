-- Claims that take in order of falling prices have at least the bid value of any rival award.
use mathlib.Core.Path.{◌≡◌, refl, sym, ◌∙◌, ap}
use mathlib.Core.Bool.{Bool, true, false, cond}
use mathlib.Core.List.{List, [], ◌∷◌}
use Prim.Native.Nat.{ℕ, ◌+◌, ◌*◌, ◌-◌, ◌≤◌}
use native.Mathlib.Omega.{arith}
use native.Mathlib.Nat.{mul-add, add-mul, mul-le-mul_left, min-le_right}
use lib.Dec.{eqb}
use lib.ListN.{get_or}
use borrow.Author.Tests.{eq-eqb, eqb-true}
use Rattle.round_award_rules.specs.Awards.{Claim, Award, taken_of, left_after, walk, sum_of}
use Rattle.round_award_rules.specs.Rivals.{Each, Rival, given_on, Legal, rival_value}
use Rattle.round_award_rules.proofs.LeftLaws.{total, less, less-at, less-total, AtMost, total-most}
use Rattle.round_award_rules.proofs.OrderLaws.{FallingFrom}

-- the bid value of awards, which is the sum of price × MW
abbrev pub value_of : List Award → ℕ
value_of awards = sum_of (λ (a : Award). a.claim.price * a.taken) awards

-- ---- One claim

-- One claim's part of the sum: `e` is what it takes and `r` what a rival gives it. Each MW that either has left
-- has at most the claim's price as its value from here on, and at most a higher price before.
weigh :
    (p top e r value later left left' rivals rivals' : ℕ) → p ≤ top → left' + e ≡ left → rivals' + r ≡ rivals → left ≤ rivals → later + p * left' ≤ value + p * rivals'
    → (p * r + later) + top * left ≤ (p * e + value) + top * rivals
weigh p top e r value later left left' rivals rivals' falls is is_r most h =
    let d = top - p in
    let top-is : top ≡ p + d = omega arith in
    let pe : p * left ≡ p * left' + p * e = ap (p *◌) (sym is) ∙ mul-add p left' e in
    let pr : p * rivals ≡ p * rivals' + p * r = ap (p *◌) (sym is_r) ∙ mul-add p rivals' r in
    let te : top * left ≡ p * left + d * left = ap (◌* left) top-is ∙ add-mul p d left in
    let tr : top * rivals ≡ p * rivals + d * rivals = ap (◌* rivals) top-is ∙ add-mul p d rivals in
    let more : d * left ≤ d * rivals = mul-le-mul_left d most in
    omega (arith, pe, pr, te, tr, more, h)

-- A claim takes what it can, of what the claims before it left; a rival gives it some, of what it left itself. Then the rival
-- still has at least as much left of every path.
still-most : (left rivals : List ℕ) (l : Claim) (given : ℕ) → AtMost left rivals → given ≤ l.quantity → given ≤ get_or rivals l.path 0 → AtMost (left_after left l) (less rivals l.path given)
still-most left rivals l given most own there path =
    go (eqb l.path path) refl
    (less-at left l.path (taken_of left l) path (min-le_right l.quantity (get_or left l.path 0)))
    (less-at rivals l.path given path there)
  where
    go :
        (t :
        Bool) → eqb l.path path ≡ t → cond t (taken_of left l) 0 + get_or (left_after left l) path 0 ≡ get_or left path 0
        → cond t given 0 + get_or (less rivals l.path given) path 0 ≡ get_or rivals path 0 → get_or (left_after left l) path 0 ≤ get_or (less rivals l.path given) path 0
    go true p e r =
        let same = eqb-true l.path path p in
        omega (arith, most path, ap (λ (i : ℕ). get_or left i 0) same)
    go false p e r = omega (arith, most path)

-- what a rival gives on each path, after one claim
given-on : (gives : Rival) (rivals : List ℕ) (l : Claim) (ls : List Claim) → ((path : ℕ) → given_on gives path (l ∷ ls) ≤ get_or rivals path 0) → gives l.place ≤ get_or rivals l.path 0
given-on gives rivals l ls shared =
    let here : cond (eqb l.path l.path) (gives l.place) 0 ≡ gives l.place = ap (λ (t : Bool). cond t (gives l.place) 0) (eq-eqb l.path l.path refl) in
    omega (arith, here, shared l.path)

-- ---- All claims

-- The bid value of what a rival gives, plus what the claims have left at any price not below theirs, is at most the value of
-- what the claims take, plus what the rival has left at that price.
pub at-least-rival :
    (gives :
    Rival) (top : ℕ) (left rivals : List ℕ) (claims : List Claim) → FallingFrom top claims → AtMost left rivals → Each (λ l. gives l.place ≤ l.quantity) claims
    → ((path : ℕ) → given_on gives path claims ≤ get_or rivals path 0) → rival_value gives claims + top * total left ≤ value_of (walk left claims) + top * total rivals
at-least-rival gives top left rivals [] falls most own shared =
    let h = mul-le-mul_left top (total-most left rivals most) in
    omega (arith, h)
at-least-rival gives top left rivals (l ∷ ls) falls most own shared =
    let given = gives l.place in
    let there = given-on gives rivals l ls shared in
    let next =
    at-least-rival gives l.price (left_after left l) (less rivals l.path given) ls falls.1
    (still-most left rivals l given most own.0 there) own.1
    (λ path. omega (arith, shared path, less-at rivals l.path given path there)) in
    weigh l.price top (taken_of left l) given (value_of (walk (left_after left l) ls)) (rival_value gives ls) (total left) (total (left_after left l)) (total rivals)
    (total (less rivals l.path given)) falls.0
    (less-total left l.path (taken_of left l) (min-le_right l.quantity (get_or left l.path 0)))
    (less-total rivals l.path given there) (total-most left rivals most) next

-- so claims in order of falling prices have at least the bid value of any legal rival
pub best-in-order : (gives : Rival) (top : ℕ) (left : List ℕ) (claims : List Claim) → FallingFrom top claims → Legal left claims gives → rival_value gives claims ≤ value_of (walk left claims)
best-in-order gives top left claims falls legal =
    omega (arith, at-least-rival gives top left left claims falls (λ path. omega arith) legal.own legal.shared)
