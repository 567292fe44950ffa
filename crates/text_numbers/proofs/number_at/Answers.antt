use mathlib.Core.Path.{◌≡◌, sym, subst}
use mathlib.Core.Bool.{true}
use mathlib.Core.List.{List}
use Prim.Native.Nat.{ℕ}
use lib.ListN.{drop}
use Rattle.market.specs.Books.{every}
use Rattle.text_numbers.specs.Decimal.{is_digit}
use Rattle.text_numbers.proofs.DecimalLaws.{digits-only}
use Rattle.text_numbers.proofs.number_at.Goals as goal

pub value_of-requires-clause-digits_are : goal.value_of-requires-clause-digits_are
value_of-requires-clause-digits_are c =
    let a = c.args in
    subst (λ (ds : List ℕ). every is_digit ds ≡ true) (sym c.digits_at-digits.ensures) (digits-only (drop a.at a.text.now))
