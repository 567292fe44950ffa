-- Laws about the line of a call: its lists are those that were written, and its step is the rules'.
use mathlib.Core.Path.{◌≡◌, sym, ◌∙◌, ap, ap₂}
use mathlib.Core.List.{List}
use Prim.Native.Nat.{ℕ, ◌≤◌}
use native.Mathlib.Omega.{arith}
use lib.IntN.{ℤ}
use lib.ListN.{length, take, drop, length-append}
use lib.Seq.{take-append_seam}
use Rattle.std.specs.Prelude.{Option, Some, None}
use Rattle.market.specs.Limits.{zones}
use Rattle.market.specs.Books.{with_front}
use Rattle.journal_call_line.proofs.LengthLaws.{called-fits}
use Rattle.journal_call_line.proofs.FormLaws.{read_as}
use Rattle.journal_call_line.specs.CallLine.{ReadInto, line_read, line_words, line_prices}
use Rattle.journal_call_line.specs.declared.CallLine.{CallLine}
use Rattle.journal_step.specs.declared.Journal.{Journal}
use Rattle.journal_step.specs.LineStep.{word_room, turned_away, call_step, said_step, call_line_step}

-- what was written at the front of a list
laid-room : {X : Type 0} (xs list : List X) → length xs ≤ length (with_front xs list)
laid-room xs list = omega (arith, length-append xs (drop (length xs) list))

laid-front : {X : Type 0} (xs list : List X) → take (length xs) (with_front xs list) ≡ xs
laid-front xs list = take-append_seam xs (drop (length xs) list)

-- `said` is what was read of the line, and the two lists then have its words and prices at their front
module _ (j : Journal) (register line words : List ℕ) (prices : List ℤ) (room : length words ≡ word_room) (most : length prices ≡ zones) {said : Option CallLine} {words' : List ℕ} {prices' : List ℤ}
    (h : ReadInto (line_read (length words) (length prices) line) said words words' prices prices') where
  abbrev xs : List ℕ
  xs = line_words word_room zones line

  abbrev ps : List ℤ
  ps = line_prices word_room zones line

  pub read : ReadInto (line_read word_room zones line) said words words' prices prices'
  read = read_as (ap₂ (λ (a b : ℕ). line_read a b line) room most) h

  pub said-away : said ≡ None → turned_away j register ≡ call_line_step j register line
  said-away is = ap (λ (x : Option CallLine). said_step j register x xs ps) (sym is ∙ read.says)

  module _ (l : CallLine) (is : said ≡ Some l) where
    fits : (l.words ≡ length xs) × (l.prices ≡ length ps)
    fits = called-fits (line_read word_room zones line) l (sym read.says ∙ is)

    pub words-room : l.words ≤ length words'
    words-room = omega (arith, fits.0, ap length read.laid, laid-room xs words)

    pub prices-room : l.prices ≤ length prices'
    prices-room = omega (arith, fits.1, ap length read.priced, laid-room ps prices)

    pub said-called : call_step j.ready j register l.call (take l.words words') (take l.prices prices') ≡ call_line_step j register line
    said-called =
        ap₂ (λ (a : List ℕ) (b : List ℤ). call_step j.ready j register l.call a b)
        (ap₂ take fits.0 read.laid ∙ laid-front xs words)
        (ap₂ take fits.1 read.priced ∙ laid-front ps prices)
        ∙ ap (λ (x : Option CallLine). said_step j register x xs ps) (sym is ∙ read.says)
