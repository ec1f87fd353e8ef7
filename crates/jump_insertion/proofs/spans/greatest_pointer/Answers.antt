-- One span before.
use Rattle.std.proofs.Common.{arith, ℕ, sym, subst}
use Rattle.std.specs.Prelude.{IsTrue}
use Rattle.cell_types.proofs.Passed.{handed}
use Rattle.volume_meaning.proofs.Extending.{blank_before}
use Rattle.worm_device.proofs.Resting.{viewed_self, viewed_then}
use Rattle.jump_insertion.specs.Hopping.{BlankFrom}
use Rattle.jump_insertion.proofs.Searching.{blank_down, blank_below, blank_first, blank_none, first_low, greatest_unread}
use Rattle.jump_insertion.proofs.spans.greatest_pointer.Goals as goal

pub loop-target-preserved : goal.loop-target-preserved
loop-target-preserved g c =
    let so_far = c.loop-target.invariant in
    let viewed = viewed_then so_far.viewed c.pointer.ensures.viewed in
    let read = rw c.in_default.is at c.in_ok-target.ensures in
    let image = (g.V.View.seen c.args.view.now).image in
    record {
      viewed = viewed;
      is = c.before-now.ensures.is c.args.l so_far.is;
      below = omega (arith, c.before-now.ensures.ends, (c.before-now.ensures.is c.args.l so_far.is).high, so_far.below);
      above = λ tells. subst (λ (n : ℕ). BlankFrom image c.args.block c.args.l n c.args.bound)
          (sym c.before-now.ensures.ends)
          (blank_down image c.args.block c.args.l c.args.bound c.loop-target.now so_far.is
          (blank_before viewed.image (read.ends (subst IsTrue (sym so_far.viewed.called.tells) tells)))
          (so_far.above tells));
    }

-- the first span's pointer is blank too
pub returns-then-now-eq1 : goal.returns-then-now-eq1
returns-then-now-eq1 g c =
    let so_far = c.loop-target.invariant in
    let viewed = viewed_then so_far.viewed c.pointer.ensures.viewed in
    let read = rw c.in_default.is at c.in_ok-target.ensures in
    let image = (g.V.View.seen c.args.view.now).image in
    record {
      viewed = viewed;
      ends = λ tells. blank_below image c.args.block c.args.l c.loop-target.now.low c.args.bound
          (first_low c.args.l c.loop-target.now so_far.is c.if-now-eq0.true c.if-now-eq1.true)
          (blank_down image c.args.block c.args.l c.args.bound c.loop-target.now so_far.is
          (blank_before viewed.image (read.ends (subst IsTrue (sym so_far.viewed.called.tells) tells)))
          (so_far.above tells));
    }

-- a pointer was not read
pub returns-in_err-target : goal.returns-in_err-target
returns-in_err-target g c =
    rw (handed c.from_residual.result c.in_err-target.field-0.0 c.from_residual.ensures.1)
    record {
      viewed = viewed_then c.loop-target.invariant.viewed c.pointer.ensures.viewed;
      ends = greatest_unread c.args.block c.args.l c.args.bound _ _ _ c.loop-target.now c.in_err-target.field-0.0
          c.loop-target.invariant c.in_err-target.ensures;
    }

pub pointer-requires-clause-level : goal.pointer-requires-clause-level
pointer-requires-clause-level g c = c.loop-target.invariant.is.levels

pub pointer-requires-clause-some : goal.pointer-requires-clause-some
pointer-requires-clause-some g c = c.loop-target.invariant.is.some

pub pointer-requires-clause-digit : goal.pointer-requires-clause-digit
pointer-requires-clause-digit g c = c.loop-target.invariant.is.digits

pub pointer-requires-clause-inside : goal.pointer-requires-clause-inside
pointer-requires-clause-inside g c = omega (arith, c.requires.inside, c.loop-target.invariant.viewed.cells)

pub before-now-requires-clause-is : goal.before-now-requires-clause-is
before-now-requires-clause-is g c = (c.args.l, c.loop-target.invariant.is)

pub returns-then-bound-from : goal.returns-then-bound-from
returns-then-bound-from g c =
    record {
      viewed = viewed_self _;
      ends = λ tells. blank_none (g.V.View.seen c.args.view.now).image c.args.block c.args.l c.args.bound
          (omega (arith, c.if-bound-from.true, c.from.ensures));
    }

pub loop-target-init : goal.loop-target-init
loop-target-init g c =
    record {
      viewed = viewed_self _;
      is = c.span-now.ensures.is;
      below = omega (arith, c.span-now.ensures.low, c.if-bound-from.false, c.from.ensures);
      above = λ tells. blank_first (g.V.View.seen c.args.view.now).image c.args.block c.args.l c.span-now.result.high
          c.args.bound (omega (arith, c.span-now.ensures.high));
    }

pub returns-in-Some : goal.returns-in-Some
returns-in-Some g c =
    let so_far = c.loop-target.invariant in
    let read = rw c.in-Some.is at c.in_ok-target.ensures in
    record {
      viewed = viewed_then so_far.viewed c.pointer.ensures.viewed;
      ends = record {
        is = so_far.is;
        below = so_far.below;
        led = λ tells. read.ends (subst IsTrue (sym so_far.viewed.called.tells) tells);
        blank = so_far.above;
      };
    }
