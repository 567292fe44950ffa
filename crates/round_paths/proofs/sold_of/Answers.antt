use mathlib.Core.Path.{refl}
use Rattle.market.proofs.KindLaws.{number-at-any}
use Rattle.market.specs.Books.{megawatts}
use Rattle.market.specs.Sound.{sound_quantity}
use Rattle.round_paths.proofs.sold_of.Goals as goal

pub with_sold-requires-clause-more_value : goal.with_sold-requires-clause-more_value
with_sold-requires-clause-more_value c = number-at-any (λ x. x.0) sound_quantity c.args.sold c.loop-i.i (megawatts 0) c.requires.sold_value refl
