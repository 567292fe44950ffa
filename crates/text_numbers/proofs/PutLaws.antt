-- Laws about bytes that are put into a list at a place.
use mathlib.Core.Path.{◌≡◌, refl, sym, ◌∙◌, ap, ap₂}
use mathlib.Core.Bool.{Bool, true, false}
use mathlib.Core.List.{List, [], ◌∷◌, ◌++◌, append_assoc, append-nil}
use Prim.Native.Nat.{ℕ, suc, ◌+◌, ◌*◌, ◌-◌, ◌/◌, ◌%◌, ◌^◌, ◌≤◌, ◌<◌}
use native.Mathlib.Nat.{pow-le-pow_right}
use native.Mathlib.Numerals.{add-one}
use native.Mathlib.Omega.{arith}
use lib.Dec.{ltb}
use lib.ListN.{length, get_or, take, drop, set, length-append, length-take, length-drop}
use lib.Seq.{take-suc, length-take-le, set_at, paste-zero}
use borrow.Author.Tests.{ltb-true, ltb-false}
use Rattle.text_numbers.specs.Decimal.{zero_byte, decimal}
use Rattle.text_numbers.specs.Put.{put_at, Put}
use Rattle.text_numbers.proofs.DecimalLaws.{decimal-one, decimal-more, decimal-some, decimal-length, decimal-value, decimal-digits, value-below}

-- bytes put where there is room do not change the length of the list
pub put-length : (out : List ℕ) (at : ℕ) (bytes : List ℕ) → at + length bytes ≤ length out → length (put_at out at bytes) ≡ length out
put-length out at bytes room = simp (length-append, length-take, length-drop) (omega arith)

-- to put no bytes changes nothing
pub put-none : (out : List ℕ) (at : ℕ) → put_at out at [] ≡ out
put-none out at = sym (paste-zero out at [])

-- a text said otherwise
pub put_is : {text other before : List ℕ} {at : ℕ} {after : List ℕ} {end : ℕ} → text ≡ other → Put before at other after end → Put before at text after end
put_is same put = rw same put

-- a byte set directly before those that were put counts as put with them
pub put-before : (out : List ℕ) (i b : ℕ) (bytes : List ℕ) → i + 1 + length bytes ≤ length out → set (put_at out (i + 1) bytes) i b ≡ put_at out i (b ∷ bytes)
put-before out i b bytes room =
    let was = get_or out i 0 in
    let rest = drop (i + 1 + length bytes) out in
    let front : take (i + 1) out ≡ take i out ++ (was ∷ []) = ap (λ (k : ℕ). take k out) (add-one i) ∙ take-suc out i 0 (omega arith) in
    let same : i + 1 + length bytes ≡ i + suc (length bytes) = omega arith in
    ap (λ (l : List ℕ). set l i b)
    (ap (λ (l : List ℕ). l ++ bytes ++ rest) front
    ∙ append_assoc (take i out ++ (was ∷ [])) bytes rest
    ∙ append_assoc (take i out) (was ∷ []) (bytes ++ rest))
    ∙ set_at (take i out) was (bytes ++ rest) b i (length-take-le i out (omega arith))
    ∙ sym (append_assoc (take i out) (b ∷ bytes) rest)
    ∙ ap (λ (k : ℕ). take i out ++ (b ∷ bytes) ++ drop k out) same

-- a number put from its last digit to its first: `left` is what is left to put, and `i` is the place of its last digit
pub record PutTo (before : List ℕ) (at n left i : ℕ) (out : List ℕ) : Type 0 where
  pub back : List ℕ
  pub fewer : left ≤ n
  pub whole : decimal n ≡ decimal left ++ back
  pub place : i + 1 ≡ at + length (decimal left)
  pub bytes : out ≡ put_at before (i + 1) back

module _ (before : List ℕ) (at n : ℕ) (small : n < 10 ^ 20) (room : at + length (decimal n) ≤ length before) where
  pub put-nothing : (digits : ℕ) → digits ≡ length (decimal n) → PutTo before at n n (at + digits - 1) before
  put-nothing digits e =
      record {
        back = [];
        fewer = omega arith;
        whole = sym (append-nil (decimal n));
        place = omega (arith, decimal-some n);
        bytes = sym (put-none before (at + digits - 1 + 1));
      }

  module _ (left i : ℕ) (out : List ℕ) (to : PutTo before at n left i out) where
    fits : i + 1 + length to.back ≤ length before
    fits = omega (arith, room, ap length to.whole ∙ length-append (decimal left) to.back)

    pub put_same : length out ≡ length before
    put_same = ap length to.bytes ∙ put-length before (i + 1) to.back fits

    pub put-within : i < length out
    put-within = omega (arith, fits, put_same)

    pub put-above : 10 ≤ left → at + 1 ≤ i
    put-above more =
        omega (arith, to.place, decimal-some (left / 10), ap length (decimal-more left more (omega arith)) ∙ length-append (decimal (left / 10)) ((zero_byte + left % 10) ∷ []))

    pub put_one : 10 ≤ left → PutTo before at n (left / 10) (i - 1) (set out i (zero_byte + left % 10))
    put_one more =
        let b = zero_byte + left % 10 in
        let e : decimal left ≡ decimal (left / 10) ++ (b ∷ []) = decimal-more left more (omega arith) in
        let long : length (decimal left) ≡ length (decimal (left / 10)) + 1 = ap length e ∙ length-append (decimal (left / 10)) (b ∷ []) in
        let same : i ≡ i - 1 + 1 = omega (arith, to.place, decimal-some (left / 10)) in
        record {
          back = b ∷ to.back;
          fewer = omega arith;
          whole = to.whole ∙ ap (λ (l : List ℕ). l ++ to.back) e ∙ append_assoc (decimal (left / 10)) (b ∷ []) to.back;
          place = omega (arith, to.place, same);
          bytes = ap (λ (l : List ℕ). set l i b) to.bytes ∙ put-before before i b to.back fits ∙ ap (λ (k : ℕ). put_at before k (b ∷ to.back)) same;
        }

    pub put_all : left < 10 → set out i (zero_byte + left) ≡ put_at before at (decimal n)
    put_all few =
        let b = zero_byte + left in
        let e : decimal left ≡ b ∷ [] = decimal-one left few in
        let same : i ≡ at = omega (arith, to.place, ap length e) in
        ap (λ (l : List ℕ). set l i b) to.bytes
        ∙ put-before before i b to.back fits
        ∙ ap₂ (λ (k : ℕ) (l : List ℕ). put_at before k l) same
        (sym (to.whole ∙ ap (λ (l : List ℕ). l ++ to.back) e))

-- a number between two powers of 10, one after the other, has as many digits as the larger one has zeros
pub digits-between : (n k : ℕ) → n < 10 ^ 20 → 10 ^ k ≤ n → n < 10 * 10 ^ k → k < 20 → k + 1 ≡ length (decimal n)
digits-between n k small low high few =
    let most : length (decimal n) ≤ suc k = decimal-length (suc k) n (omega arith) (omega arith) (omega arith) in
    go (ltb k (length (decimal n))) refl most
  where
    go : (t : Bool) → ltb k (length (decimal n)) ≡ t → length (decimal n) ≤ suc k → k + 1 ≡ length (decimal n)
    go true e most = omega (arith, ltb-true k (length (decimal n)) e)
    go false e most =
        absurd (let none : ⊥ = omega (
          arith,
          decimal-value n small,
          value-below 0 (decimal n) (decimal-digits n),
          pow-le-pow_right {n = 10} (omega arith) {i = length (decimal n)} {j = k} (ltb-false k (length (decimal n)) e),
        ) in none)
