use borrow.Author.Rules.{rules}
use native.Mathlib.Omega.{arith}
use mathlib.Core.Path.{◌≡◌, refl, ◌∙◌, ap}
use mathlib.Core.List.{List}
use Prim.Native.Nat.{ℕ, ◌≤◌}
use lib.ListN.{length, set, get_or}
use Rattle.market.proofs.Filled.{filled, fill-next}
use Rattle.market.specs.Books.{no_path, offer_of}
use Rattle.market.specs.Limits.{path_limit}
use Rattle.journal_step.proofs.OfferLaws.{slots-counted, slots-few, offers-filled}
use Rattle.journal_step.proofs.answers.offers_of.Goals as goal

pub loop-i-init : goal.loop-i-init
loop-i-init c =
    (search rules, refl)

pub offset_bounds-paths-i : goal.offset_bounds-paths-i
offset_bounds-paths-i c =
    omega (arith, c.within_slots-count.ensures, slots-few c.args.paths c.args.number (search rules))

pub bounds-paths-i : goal.bounds-paths-i
bounds-paths-i c =
    omega (arith, c.within_slots-count.ensures, slots-few c.args.paths c.args.number (search rules))

pub offset_bounds-slots-i : goal.offset_bounds-slots-i
offset_bounds-slots-i c =
    omega (
      arith,
      c.within_slots-count.ensures,
      slots-few c.args.paths
          c.args.number (search rules),
    )

pub bounds-slots-i : goal.bounds-slots-i
bounds-slots-i c =
    omega (
      arith,
      c.within_slots-count.ensures,
      slots-few c.args.paths
          c.args.number (search rules),
    )

pub loop-i-preserved : goal.loop-i-preserved
loop-i-preserved c =
    let paths = c.args.paths in
    let to = c.loop-i in
    let few : c.within_slots-count.result ≤ path_limit =
    omega (
      arith,
      c.within_slots-count.ensures,
      slots-few c.args.paths
          c.args.number (search rules),
    ) in (
      search rules,
      ap (λ (l : List ℕ). set l to.i (offer_of (get_or paths to.i no_path))) to.invariant.1
          ∙ fill-next offer_of paths path_limit 0 to.i no_path (omega arith) (search rules),
    )

pub returns : goal.returns
returns c =
    let a = c.args in
    let to = c.loop-i in
    let count = c.within_slots-count in
    let long : length a.paths ≡ path_limit = search rules in
    let all : to.i ≡ count.result = omega arith in record {
      count = count.ensures ∙ slots-counted a.paths a.number long;
      few = omega (arith, count.ensures, slots-few a.paths a.number long);
      offers = offers-filled a.paths a.number long count.result to.slots count.ensures (to.invariant.1 ∙ ap
          (filled offer_of a.paths path_limit 0) all);
    }
