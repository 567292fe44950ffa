-- The paths and the stage that a round leaves are sound.
use mathlib.Core.Path.{◌≡◌, refl, sym, ◌∙◌, ap}
use mathlib.Core.Bool.{Bool, true, false, cond, false≢true}
use mathlib.Core.List.{List, [], ◌∷◌, ◌++◌, map}
use Prim.Native.Nat.{ℕ, zero, suc, ◌+◌, ◌-◌, ◌/◌, ◌≤◌, ◌<◌}
use native.Mathlib.Nat.{le_refl}
use native.Mathlib.Omega.{arith}
use lib.Dec.{eqb}
use lib.ListN.{get_or, take, replicate}
use lib.Seq.{get_or-take}
use borrow.Author.Tests.{le-leb, eqb-true}
use Rattle.market.proofs.SoundLaws.{PathBounds, path-bounds, no-path-sound}
use Rattle.market.proofs.Every.{both_true, every-at-any, every-next}
use Rattle.market.proofs.Filled.{zeros-at}
use Rattle.market.proofs.Tests.{left-true, right-true}
use Rattle.market.specs.Books.{every, ◌implies◌, no_path}
use Rattle.market.specs.Limits.{zone_limit, quantity_limit, quarters}
use Rattle.market.specs.Sound.{sound_round, sound_period, sound_stage, is_idle, round_of, kind_of, period_of, sound_path}
use Rattle.market.specs.declared.book.Kind.{Kind}
use Rattle.market.specs.declared.book.Kind.TheVariants.{Short, Long}
use Rattle.market.specs.declared.book.Path.{Path}
use Rattle.market.specs.declared.book.Stage.{Stage}
use Rattle.market.specs.declared.book.Stage.TheVariants.{Idle, Open}
use Rattle.call_open_offers.specs.Offers.{round_offer}
use Rattle.round_paths.specs.PathSales.{with_sold, sold_to}
use Rattle.round_paths.specs.Stages.{stage_after}

-- ---- The stage

-- what a round knows of the stage, and of the stage after it
pub record Stages (stage : Stage) : Type 0 where
  pub kinds : sound_round (kind_of stage) (round_of stage) ≡ true
  pub days : sound_period (period_of stage) ≡ true
  pub after : sound_stage (stage_after stage) ≡ true
  pub not-one : eqb (round_of (stage_after stage)) 1 ≡ false
  pub one-first : eqb (round_of (stage_after stage)) 2 ≡ true → round_of stage ≡ 1

pub stages : (stage : Stage) → is_idle stage ≡ false → sound_stage stage ≡ true → Stages stage
stages Idle idle h = absurd (false≢true (sym idle))
stages (Open Short round period) idle h =
    record {
      kinds = left-true (sound_round Short round) (sound_period period) h;
      days = right-true (sound_round Short round) (sound_period period) h;
      after = refl;
      not-one = refl;
      one-first = λ e. absurd (false≢true e);
    }
stages (Open Long round period) idle h =
    record {
      kinds = left-true (sound_round Long round) (sound_period period) h;
      days = days;
      after = after (eqb round 1);
      not-one = not-one (eqb round 1);
      one-first = first (eqb round 1) refl;
    }
  where
    days : sound_period period ≡ true
    days = right-true (sound_round Long round) (sound_period period) h

    after : (t : Bool) → sound_stage (cond t (Open Long 2 period) Idle) ≡ true
    after true = both_true refl days
    after false = refl

    not-one : (t : Bool) → eqb (round_of (cond t (Open Long 2 period) Idle)) 1 ≡ false
    not-one true = refl
    not-one false = refl

    first : (t : Bool) → eqb round 1 ≡ t → eqb (round_of (cond t (Open Long 2 period) Idle)) 2 ≡ true → round ≡ 1
    first true e two = eqb-true round 1 e
    first false e two = absurd (false≢true two)

-- ---- A path

none_yet : (round : ℕ) (p : Path) → round ≡ 1 → PathBounds round p → p.sold.0 ≡ 0
none_yet round p one h =
    eqb-true p.sold.0 0
    (ap (λ (n : ℕ). eqb n 1 implies eqb p.sold.0 0) (sym one) ∙ h.start)

-- a round offers no more than what is not yet sold
offer-fits : (kind : Kind) (round : ℕ) (p : Path) → sound_round kind round ≡ true → PathBounds round p → p.sold.0 + round_offer kind round p ≤ p.offer.0
offer-fits Short round p sound h = omega (arith, none_yet round p (eqb-true round 1 sound) h)
offer-fits Long round p sound h = go (eqb round 1) refl
  where
    go : (t : Bool) → eqb round 1 ≡ t → p.sold.0 + cond t (p.offer.0 / quarters) (p.offer.0 - p.sold.0) ≤ p.offer.0
    go true e = omega (arith, none_yet round p (eqb-true round 1 e) h)
    go false e = omega (arith, h.sold)

-- a path with what the round sold of it
path-sells :
    (kind :
    Kind) (round next : ℕ) (p : Path) (more : ℕ) → sound_round kind round ≡ true → eqb next 1 ≡ false → PathBounds round p → more ≤ round_offer kind round p
    → sound_path next (with_sold p more) ≡ true
path-sells kind round next p more sound not-one h most =
    let fits = offer-fits kind round p sound h in
    both_true
    (both_true (both_true (le-leb p.zone zone_limit h.zone) (ap (λ (t : Bool). t implies eqb (p.sold.0 + more) 0) not-one))
    (le-leb (p.sold.0 + more) p.offer.0 (omega (arith, fits, most))))
    (le-leb p.offer.0 quantity_limit h.offer)

-- ---- All paths

-- what is offered of the path with a number
offered-at : {A : Type 0} (f : A → ℕ) (l : List A) (m : ℕ) (d : A) (k : ℕ) → f d ≡ 0 → get_or (map f l ++ replicate m 0) k 0 ≡ f (get_or l k d)
offered-at f [] m d k none = zeros-at m k ∙ sym none
offered-at f (x ∷ l) m d zero none = refl
offered-at f (x ∷ l) m d (suc k) none = offered-at f l m d k none

none-offered : (kind : Kind) (round : ℕ) → round_offer kind round no_path ≡ 0
none-offered Short round = refl
none-offered Long round = go (eqb round 1)
  where
    go : (t : Bool) → cond t (0 / quarters) (0 - 0) ≡ 0
    go true = refl
    go false = refl

-- the first `n` paths have sold, and are sound
paths-sell :
    (next :
    ℕ) (slots : List Path) (sold : List ℕ) (n : ℕ) → ((i : ℕ) → i < n → sound_path next (with_sold (get_or slots i no_path) (get_or sold i 0)) ≡ true)
    → every (sound_path next) (take n (sold_to slots sold n)) ≡ true
paths-sell next slots sold zero each = refl
paths-sell next slots sold (suc n) each =
    every-next (sound_path next) (sold_to slots sold n) n (with_sold (get_or slots n no_path) (get_or sold n 0))
    (paths-sell next slots sold n (λ (i : ℕ) (below : i < n). each i (omega arith))) (each n (le_refl (suc n)))

-- all paths are sound after the round, where each sold at most what the round offered
pub paths-sold :
    (stage :
    Stage) (slots : List Path) (sold : List ℕ) (count room : ℕ) → Stages stage → every (sound_path (round_of stage)) (take count slots) ≡ true
    → ((i : ℕ) → get_or sold i 0 ≤ get_or (map (round_offer (kind_of stage) (round_of stage)) (take count slots) ++ replicate room 0) i 0)
    → every (sound_path (round_of (stage_after stage))) (take count (sold_to slots sold count)) ≡ true
paths-sold stage slots sold count room s sound most =
    let kind = kind_of stage in
    let round = round_of stage in
    let next = round_of (stage_after stage) in
    paths-sell next slots sold count
    (λ (i : ℕ) (below : i < count).
    let p = get_or slots i no_path in
    let is : get_or (take count slots) i no_path ≡ p = get_or-take count slots i no_path below in
    let good : sound_path round p ≡ true = ap (sound_path round) (sym is) ∙ every-at-any (sound_path round) (take count slots) i no_path sound (no-path-sound round) in
    let offers : get_or (map (round_offer kind round) (take count slots) ++ replicate room 0) i 0 ≡ round_offer kind round p =
    offered-at (round_offer kind round) (take count slots) room no_path i (none-offered kind round) ∙ ap (round_offer kind round) is in
    path-sells kind round next p (get_or sold i 0) s.kinds s.not-one (path-bounds round p good) (omega (arith, most i, offers)))
