-- The awards of claims added up one by one, as `award` does.
use mathlib.Core.Path.{◌≡◌, refl, sym, ◌∙◌, ap, subst}
use mathlib.Core.Bool.{Bool, true, false, cond, ◌&&◌}
use mathlib.Core.List.{List, [], ◌∷◌}
use Prim.Native.Nat.{ℕ, suc, ◌+◌, ◌*◌, ◌-◌, ◌≤◌, ◌<◌, min}
use native.Mathlib.Omega.{arith}
use lib.Dec.{eqb, ltb}
use lib.ListN.{length, get_or, set, replicate, length-set}
use lib.Seq.{get_or-set_same, get_or-set_other}
use borrow.Author.Tests.{le-leb, leb-true, eqb-true, eqb-false}
use Rattle.market.proofs.Filled.{zeros-at}
use Rattle.market.proofs.Every.{every-at-any, every_set}
use Rattle.market.proofs.Tests.{kept-at-most}
use Rattle.market.specs.Books.{every}
use Rattle.market.specs.Limits.{path_limit, bid_limit, quantity_limit}
use Rattle.market.specs.Sound.{sound_quantity}
use Rattle.round_award_rules.specs.Awards.{Claim, taken_of, left_after, walk, won_by, sold_on, price_on, lower}
use Rattle.round_awards.specs.Tables.{won_table, sold_table, price_table}
use Rattle.round_awards.proofs.TableLaws.{table_is, lower-none, lower-assoc}

-- one amount more in a list of sums
added : (l : List ℕ) (i t k : ℕ) → i < length l → get_or (set l i (get_or l i 0 + t)) k 0 ≡ get_or l k 0 + cond (eqb i k) t 0
added l i t k inside = go (eqb i k) refl
  where
    go : (s : Bool) → eqb i k ≡ s → get_or (set l i (get_or l i 0 + t)) k 0 ≡ get_or l k 0 + cond s t 0
    go true e =
        let same : i ≡ k = eqb-true i k e in
        subst (λ (n : ℕ). get_or (set l i (get_or l i 0 + t)) n 0 ≡ get_or l n 0 + t) same
        (get_or-set_same l i (get_or l i 0 + t) 0 inside)
    go false e =
        get_or-set_other l i k (get_or l i 0 + t) 0 (λ s. eqb-false i k e (sym s))
        ∙ (let none : get_or l k 0 ≡ get_or l k 0 + 0 = omega arith in none)

-- one price more in a list of lowest prices
lowered : (l : List ℕ) (i price k : ℕ) → i < length l → get_or (set l i (lower (get_or l i 0) price)) k 0 ≡ lower (get_or l k 0) (cond (eqb i k) price 0)
lowered l i price k inside = go (eqb i k) refl
  where
    go : (s : Bool) → eqb i k ≡ s → get_or (set l i (lower (get_or l i 0) price)) k 0 ≡ lower (get_or l k 0) (cond s price 0)
    go true e =
        let same : i ≡ k = eqb-true i k e in
        subst (λ (n : ℕ). get_or (set l i (lower (get_or l i 0) price)) n 0 ≡ lower (get_or l n 0) price) same
        (get_or-set_same l i (lower (get_or l i 0) price) 0 inside)
    go false e =
        get_or-set_other l i k (lower (get_or l i 0) price) 0 (λ s. eqb-false i k e (sym s)) ∙ sym (lower-none (get_or l k 0))

and-cond : (s t : Bool) (n : ℕ) → cond s (cond t n 0) 0 ≡ cond (s && t) n 0
and-cond true t n = refl
and-cond false t n = refl

-- claims have taken, and `rest` is left of them all: `left` is left of each path, and each sum so far plus what the later claims take is the
-- whole sum
pub record AwardedTo (all rest : List Claim) (offered left won sold prices : List ℕ) : Type 0 where
  pub won-so : (k : ℕ) → won_by k (walk offered all) ≡ get_or won k 0 + won_by k (walk left rest)
  pub sold-so : (p : ℕ) → sold_on p (walk offered all) ≡ get_or sold p 0 + sold_on p (walk left rest)
  pub price-so : (p : ℕ) → price_on p (walk offered all) ≡ lower (get_or prices p 0) (price_on p (walk left rest))
  pub won-long : length won ≡ bid_limit
  pub sold-long : length sold ≡ path_limit
  pub prices-long : length prices ≡ path_limit
  pub left-long : length left ≡ path_limit
  pub left-sound : every sound_quantity left ≡ true
  pub won-within : (k : ℕ) → get_or won k 0 + length rest * quantity_limit ≤ length all * quantity_limit
  pub sold-within : (p : ℕ) → get_or sold p 0 + length rest * quantity_limit ≤ length all * quantity_limit

pub none-awarded :
    (all : List Claim) (offered : List ℕ) → length offered ≡ path_limit → every sound_quantity offered ≡ true
    → AwardedTo all all offered offered (replicate bid_limit 0) (replicate path_limit 0) (replicate path_limit 0)
none-awarded all offered long ok =
    record {
      won-so = λ k. omega (arith, zeros-at bid_limit k);
      sold-so = λ p. omega (arith, zeros-at path_limit p);
      price-so = λ p. sym (ap (λ (n : ℕ). lower n (price_on p (walk offered all))) (zeros-at path_limit p));
      won-long = refl;
      sold-long = refl;
      prices-long = refl;
      left-long = long;
      left-sound = ok;
      won-within = λ k. omega (arith, zeros-at bid_limit k);
      sold-within = λ p. omega (arith, zeros-at path_limit p);
    }

module _ {all rest : List Claim} {offered left won sold prices : List ℕ} (s : AwardedTo all rest offered left won sold prices) where
  -- every claim has taken
  module _ (none_left : rest ≡ []) where
    pub all-won : won ≡ won_table (walk offered all)
    all-won =
        table_is won bid_limit (λ bid. won_by bid (walk offered all)) s.won-long
        (λ k inside. let none = ap (λ (l : List Claim). won_by k (walk left l)) none_left in omega (arith, s.won-so k, none))

    pub all-sold : sold ≡ sold_table (walk offered all)
    all-sold =
        table_is sold path_limit (λ path. sold_on path (walk offered all)) s.sold-long
        (λ p inside. let none = ap (λ (l : List Claim). sold_on p (walk left l)) none_left in omega (arith, s.sold-so p, none))

    pub all-priced : prices ≡ price_table (walk offered all)
    all-priced =
        table_is prices path_limit (λ path. price_on path (walk offered all)) s.prices-long
        (λ p inside.
        sym (s.price-so p ∙ ap (λ (l : List Claim). lower (get_or prices p 0) (price_on p (walk left l))) none_left ∙ lower-none (get_or prices p 0)))

  -- what is left of a path is within a quantity's limit
  pub left-within : (p : ℕ) → get_or left p 0 ≤ quantity_limit
  left-within p = leb-true (get_or left p 0) quantity_limit (every-at-any sound_quantity left p 0 s.left-sound refl)

  -- one claim more takes
  module _ (claim : Claim) (next : List Claim) (here : rest ≡ claim ∷ next) (bid-fits : claim.bid < bid_limit) where
    -- what the sums so far leave for it
    room : length rest ≡ suc (length next)
    room = ap (λ (l : List Claim). length l) here

    pub won-room : (k : ℕ) → get_or won k 0 + quantity_limit ≤ length all * quantity_limit
    won-room k = omega (arith, s.won-within k, room)

    pub sold-room : (p : ℕ) → get_or sold p 0 + quantity_limit ≤ length all * quantity_limit
    sold-room p = omega (arith, s.sold-within p, room)

    -- the state after it, if it is for this bid and path, at this price and for this quantity
    abbrev takes : ℕ → ℕ → ℕ
    takes path quantity = min quantity (get_or left path 0)

    abbrev After : ℕ → ℕ → ℕ → ℕ → Type 0
    After bid path price quantity =
        AwardedTo all next offered
        (set left path (get_or left path 0 - takes path quantity))
        (set won bid (get_or won bid 0 + takes path quantity))
        (set sold path (get_or sold path 0 + takes path quantity))
        (set prices path (lower (get_or prices path 0) (cond (ltb 0 (takes path quantity)) price 0)))

    exactly : claim.path < path_limit → After claim.bid claim.path claim.price claim.quantity
    exactly below =
        let t = taken_of left claim in
        let later = walk (left_after left claim) next in
        let most = left-within claim.path in
        record {
          won-so = λ k.
              omega (arith, s.won-so k, ap (λ (l : List Claim). won_by k (walk left l)) here, added won claim.bid t k (omega (arith, bid-fits, s.won-long)));
          sold-so = λ p.
              omega (arith, s.sold-so p, ap (λ (l : List Claim). sold_on p (walk left l)) here, added sold claim.path t p (omega (arith, below, s.sold-long)));
          price-so = λ p.
              s.price-so p
              ∙ ap (λ (l : List Claim). lower (get_or prices p 0) (price_on p (walk left l))) here
              ∙ sym (lower-assoc (get_or prices p 0) (cond (eqb claim.path p && ltb 0 t) claim.price 0) (price_on p later))
              ∙ ap (λ (n : ℕ). lower n (price_on p later))
              (ap (lower (get_or prices p 0)) (sym (and-cond (eqb claim.path p) (ltb 0 t) claim.price))
              ∙ sym (lowered prices claim.path (cond (ltb 0 t) claim.price 0) p (omega (arith, below, s.prices-long))));
          won-long = length-set won claim.bid (get_or won claim.bid 0 + t) ∙ s.won-long;
          sold-long = length-set sold claim.path (get_or sold claim.path 0 + t) ∙ s.sold-long;
          prices-long = length-set prices claim.path (lower (get_or prices claim.path 0) (cond (ltb 0 t) claim.price 0)) ∙ s.prices-long;
          left-long = length-set left claim.path (get_or left claim.path 0 - t) ∙ s.left-long;
          left-sound = every_set sound_quantity left claim.path (get_or left claim.path 0 - t) s.left-sound
              (le-leb (get_or left claim.path 0 - t) quantity_limit (omega (arith, most)));
          won-within = λ k.
              omega (arith, s.won-within k, room, most, kept-at-most (eqb claim.bid k) t, added won claim.bid t k (omega (arith, bid-fits, s.won-long)));
          sold-within = λ p.
              omega (arith, s.sold-within p, room, most, kept-at-most (eqb claim.path p) t, added sold claim.path t p (omega (arith, below, s.sold-long)));
        }

    pub one-awarded : (bid path price quantity : ℕ) → bid ≡ claim.bid → path ≡ claim.path → price ≡ claim.price → quantity ≡ claim.quantity → path < path_limit → After bid path price quantity
    one-awarded bid path price quantity eb ep ec eq below =
        subst (λ (n : ℕ). After n path price quantity) (sym eb)
        (subst (λ (n : ℕ). After claim.bid n price quantity) (sym ep)
        (subst (λ (n : ℕ). After claim.bid claim.path n quantity) (sym ec)
        (subst (λ (n : ℕ). After claim.bid claim.path claim.price n) (sym eq) (exactly (omega (arith, below, ep))))))
