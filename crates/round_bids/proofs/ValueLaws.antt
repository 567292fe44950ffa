-- Laws about the value of a bid.
use mathlib.Core.Path.{◌≡◌, sym, ◌∙◌, ap, ap₂}
use mathlib.Core.Bool.{true, ◌&&◌}
use mathlib.Core.List.{List, ◌∷◌}
use Prim.Native.Nat.{ℕ, ◌+◌, ◌*◌, ◌-◌, ◌≤◌, ◌<◌}
use native.Mathlib.Nat.{mul-le-mul}
use native.Mathlib.Omega.{arith}
use lib.Dec.{leb, ltb}
use borrow.Author.Tests.{leb-true}
use Rattle.market.proofs.Tests.{left-true, right-true}
use Rattle.market.specs.Limits.{price_limit, quantity_limit, pair_words}
use Rattle.round_bids.specs.Bids.{lamination_at, laminations_at, lamination_value, laminations_value, lamination_value_limit}
use Rattle.round_bids.specs.BidRefusals.{sound_lamination, sound_laminations, above_prices}
use Rattle.round_bids.specs.declared.Lamination.{Lamination}
use Rattle.round_bids.proofs.BidLaws.{laminations-next}

-- the bounds of a sound pair
pub record LaminationBounds (l : Lamination) : Type 0 where
  pub price-some : 1 ≤ l.price.0
  pub price-within : l.price.0 ≤ price_limit
  pub quantity-some : 1 ≤ l.quantity.0
  pub quantity-within : l.quantity.0 ≤ quantity_limit

pub lamination-bounds : (l : Lamination) → sound_lamination l ≡ true → LaminationBounds l
lamination-bounds l ok =
    let t1 = leb 1 l.price.0 in
    let t2 = leb l.price.0 price_limit in
    let t3 = leb 1 l.quantity.0 in
    let t4 = leb l.quantity.0 quantity_limit in
    let s3 = left-true (t1 && t2 && t3) t4 ok in
    let s2 = left-true (t1 && t2) t3 s3 in
    record {
      price-some = leb-true 1 l.price.0 (left-true t1 t2 s2);
      price-within = leb-true l.price.0 price_limit (right-true t1 t2 s2);
      quantity-some = leb-true 1 l.quantity.0 (right-true (t1 && t2) t3 s3);
      quantity-within = leb-true l.quantity.0 quantity_limit (right-true (t1 && t2 && t3) t4 ok);
    }

pub lamination-value-within : (l : Lamination) → sound_lamination l ≡ true → lamination_value l ≤ lamination_value_limit
lamination-value-within l ok = mul-le-mul (lamination-bounds l ok).price-within (lamination-bounds l ok).quantity-within

-- the value of pairs added from the front: `sum` is that of the first `i`, and the pairs after them are sound
module _ (words : List ℕ) (at count : ℕ) where
  pub record AddedTo (i sum : ℕ) : Type 0 where
    pub before : ℕ
    pub sound : sound_laminations before (laminations_at words (at + i * pair_words) (count - i)) ≡ true
    pub adds : laminations_value (laminations_at words at count) ≡ sum + laminations_value (laminations_at words (at + i * pair_words) (count - i))
    pub within : sum ≤ i * lamination_value_limit

  pub none-added : sound_laminations above_prices (laminations_at words at count) ≡ true → AddedTo 0 0
  none-added ok =
      let same : laminations_at words at count ≡ laminations_at words (at + 0 * pair_words) (count - 0) =
      ap₂ (laminations_at words) (let p : at ≡ at + 0 * pair_words = omega arith in p) (let n : count ≡ count - 0 = omega arith in n) in
      record {
        before = above_prices;
        sound = ap (sound_laminations above_prices) (sym same) ∙ ok;
        adds = ap laminations_value same
            ∙ (let none : laminations_value (laminations_at words (at + 0 * pair_words) (count - 0))
            ≡ 0 + laminations_value (laminations_at words (at + 0 * pair_words) (count - 0)) = omega arith in none);
        within = omega arith;
      }

  module _ (i sum : ℕ) (added : AddedTo i sum) where
    pub all-added : count ≤ i → laminations_value (laminations_at words at count) ≡ sum
    all-added all =
        let none : count - i ≡ 0 = omega arith in
        let rest = ap (λ (n : ℕ). laminations_value (laminations_at words (at + i * pair_words) n)) none in
        added.adds ∙ (let e : sum + laminations_value (laminations_at words (at + i * pair_words) (count - i)) ≡ sum = omega (arith, rest) in e)

    module _ (l : Lamination) (is : l ≡ lamination_at words (at + i * pair_words)) (below : i < count) where
      abbrev rest : List Lamination
      rest = laminations_at words (at + (i + 1) * pair_words) (count - (i + 1))

      next : laminations_at words (at + i * pair_words) (count - i) ≡ l ∷ rest
      next = laminations-next words at count i below ∙ ap (λ (k : Lamination). k ∷ rest) (sym is)

      passes : ((sound_lamination l && ltb l.price.0 added.before) && sound_laminations l.price.0 rest) ≡ true
      passes = ap (sound_laminations added.before) (sym next) ∙ added.sound

      pub sound-here : sound_lamination l ≡ true
      sound-here =
          left-true (sound_lamination l) (ltb l.price.0 added.before)
          (left-true (sound_lamination l && ltb l.price.0 added.before) (sound_laminations l.price.0 rest) passes)

      pub one-added : AddedTo (i + 1) (sum + lamination_value l)
      one-added =
          record {
            before = l.price.0;
            sound = right-true (sound_lamination l && ltb l.price.0 added.before) (sound_laminations l.price.0 rest) passes;
            adds = added.adds ∙ ap (λ (k : List Lamination). sum + laminations_value k) next
                ∙ (let e : sum + (lamination_value l + laminations_value rest) ≡ sum + lamination_value l + laminations_value rest = omega arith in e);
            within = omega (arith, added.within, lamination-value-within l sound-here);
          }
