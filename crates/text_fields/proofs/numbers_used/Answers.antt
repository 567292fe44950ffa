use Prim.Native.Nat.{◌-◌}
use lib.Dec.{eqb}
use borrow.Author.Rules.{rules}
use Rattle.text_fields.proofs.ReadLaws.{stop-some, taken_none, taken-missing, taken-one, taken-all}
use Rattle.text_fields.proofs.numbers_used.Goals as goal

pub loop-left-init : goal.loop-left-init
loop-left-init c =
    let a = c.args in
    taken_none a.bytes.now a.at a.limit a.last a.count c.requires.at_in_bounds

pub field_at-next-requires : goal.field_at-next-requires
field_at-next-requires c =
    let a = c.args in
    let to = c.loop-left in
    record {
      at_in_bounds = search rules;
      le_stop = stop-some (eqb (to.left - 1) 0) a.last c.stop_before.result c.requires.le_last c.stop_before.ensures;
    }

pub returns-then-next-eq0 : goal.returns-then-next-eq0
returns-then-next-eq0 c =
    let a = c.args in
    let to = c.loop-left in
    let stop = c.stop_before in
    let next = c.field_at-next in record {
      numbers = taken-missing a.bytes.now a.at a.limit a.last a.count to.used to.left to.invariant c.loop-left-test.true next.result stop.result
          stop.ensures next.ensures.field c.if-next-eq0.true;
      fits = search rules;
    }

pub loop-left-preserved : goal.loop-left-preserved
loop-left-preserved c =
    let a = c.args in
    let to = c.loop-left in
    let stop = c.stop_before in
    let next = c.field_at-next in
    taken-one a.bytes.now a.at a.limit a.last a.count to.used to.left to.invariant c.loop-left-test.true next.result stop.result
    stop.ensures next.ensures.field c.if-next-eq0.false next.ensures.fits

pub returns : goal.returns
returns c =
    let a = c.args in
    let to = c.loop-left in
    record {
      numbers = taken-all a.bytes.now a.at a.limit a.last a.count to.used to.left to.invariant c.loop-left-test.false;
      fits = to.invariant.fits;
    }
