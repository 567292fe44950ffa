use Rattle.register.specs.Words.{entries_of, entry_at}
use borrow.Author.Rules.{rules}
use mathlib.Core.Path.{refl, sym, ◌∙◌, ap}
use native.Mathlib.Omega.{arith}
use Rattle.register.specs.Entries.{sound_entry}
use Rattle.market.proofs.Tests.{pass, fail, passed}
use Rattle.register.proofs.WordLaws.{entries_at, entries-length}
use Rattle.register_sound.proofs.sound_entries.Goals as goal

pub loop-i-init : goal.loop-i-init
loop-i-init c = (search rules, refl)

pub returns-then-not-sound_entry : goal.returns-then-not-sound_entry
returns-then-not-sound_entry c =
    let a = c.args in
    let at = c.loop-i in
    let es = entries_of a.words.now a.count in
    let e = entry_at a.words.now at.i in
    let is = ap (sound_entry a.paths) (entries_at a.words.now a.count at.i e (search rules) ∙ sym c.read.ensures) in
    sym
    (fail (sound_entry a.paths) es at.i e (omega (arith, entries-length a.words.now a.count)) at.invariant.1
    (is ∙ sym c.sound_entry.ensures ∙ c.if-not-sound_entry.true))

pub loop-i-preserved : goal.loop-i-preserved
loop-i-preserved c =
    let a = c.args in
    let at = c.loop-i in
    let es = entries_of a.words.now a.count in
    let e = entry_at a.words.now at.i in
    let is = ap (sound_entry a.paths) (entries_at a.words.now a.count at.i e (search rules) ∙ sym c.read.ensures) in (
      search rules,
      pass (sound_entry a.paths) es at.i e (omega (arith, entries-length a.words.now a.count)) at.invariant.1
          (is ∙ sym c.sound_entry.ensures ∙ c.if-not-sound_entry.false),
    )

pub returns : goal.returns
returns c =
    let a = c.args in
    let at = c.loop-i in
    sym
    (passed (sound_entry a.paths) (entries_of a.words.now a.count) at.i (entry_at a.words.now 0)
    (omega (arith, entries-length a.words.now a.count)) at.invariant.1)
