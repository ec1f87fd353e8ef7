-- Each turn.
use Rattle.std.proofs.Common.{◌<◌, ◌+◌, ◌-◌, ◌/◌, ℕ, sym, subst, arith}
use Rattle.cell_types.proofs.Passed.{handed}
use Rattle.worm_device.proofs.Resting.{viewed_self, viewed_then}
use Rattle.jump_block.specs.Fronts.{AreBelow}
use Rattle.jump_block.specs.Known.{IsPastKey}
use Rattle.jump_block.proofs.Knowing.{below_on, halved, past_known, past_on}
use Rattle.jump_block.proofs.KnownReads.{fault_at, next_below, not_blank, past_at}
use Rattle.jump_block.proofs.consulting.bisect.Goals as goal
use Rattle.jump_block.proofs.consulting.bisect.Goals.{in-Some, in_default-2, in_default}

pub loop-halving-init : goal.loop-halving-init
loop-halving-init g c = record {
  viewed = viewed_self (g.V.View.seen c.args.view.now);
  reads = omega arith;
  order = omega arith;
  within = omega arith;
  narrow = omega arith;
  past = λ tells. past_known _ c.args.front.now c.args.x (c.requires.known tells) c.requires.some c.requires.past;
  below = λ tells. record { last = λ before is. absurd (omega arith) };
}

pub returns-in_err-found : goal.returns-in_err-found
returns-in_err-found g c =
    let inv = c.loop-halving.invariant in
    rw (handed c.from_residual.result c.in_err-found.field-0.0 c.from_residual.ensures.1)
    record {
      viewed = viewed_then inv.viewed c.entry.ensures.viewed;
      reads = omega (arith, inv.reads, c.entry.ensures.reads, c.loop-halving-test.true);
      ends = fault_at c.args.front.now c.args.x _ _ _ inv.viewed c.requires.known c.requires.places
          (c.loop-halving.low + (c.loop-halving.high - c.loop-halving.low) / 2)
          (omega (arith, inv.order, inv.within)) c.in_err-found.field-0.0 c.in_err-found.ensures;
    }

pub loop-halving-preserved : goal.loop-halving-preserved
loop-halving-preserved g c =
    let inv = c.loop-halving.invariant in
    let middle = c.loop-halving.low + (c.loop-halving.high - c.loop-halving.low) / 2 in
    let less : middle < c.args.front.now.count = omega (arith, inv.order, inv.within) in
    let half = halved c.loop-halving._halving c.loop-halving-test.true in
    elim c.match-found.branch [
      | in-Some w ↦ record {
        viewed = viewed_then inv.viewed c.entry.ensures.viewed;
        reads = omega (arith, inv.reads, c.entry.ensures.reads);
        order = omega (arith, w.low-is, w.high-is);
        within = omega (arith, w.high-is, inv.within);
        narrow = omega (arith, w.low-is, w.high-is, inv.narrow, half);
        past = λ tells.
            let P : ℕ → Type 0 = λ n. IsPastKey (g.V.View.seen c.entry.new.view).image c.args.front.now.block n c.args.x in
            subst P (sym w.high-is) (past_on c.entry.ensures.viewed.image (inv.past tells));
        below = λ tells.
            let P : ℕ → Type 0 = λ n. AreBelow (g.V.View.seen c.entry.new.view).image c.args.front.now.block n
            c.args.x in
            subst P (sym w.low-is) (next_below c.args.front.now c.args.x _ _ _ inv.viewed c.requires.known
            c.requires.places middle less w.in-Some.next w.if-next-x.true
            (rw w.in-Some.is at c.in_ok-found.ensures) tells);
      }
      | in_default-2 w ↦ record {
        viewed = viewed_then inv.viewed c.entry.ensures.viewed;
        reads = omega (arith, inv.reads, c.entry.ensures.reads);
        order = omega (arith, w.low-is, w.high-is);
        within = omega (arith, w.high-is, inv.within);
        narrow = omega (arith, w.low-is, w.high-is, inv.narrow, half);
        past = λ tells.
            let P : ℕ → Type 0 = λ n. IsPastKey (g.V.View.seen c.entry.new.view).image c.args.front.now.block n c.args.x in
            subst P (sym w.high-is) (past_at c.args.front.now c.args.x _ _ _ inv.viewed c.requires.known
            c.requires.places middle less w.in-Some.next w.if-next-x.false
            (rw w.in-Some.is at c.in_ok-found.ensures) tells);
        below = λ tells.
            let P : ℕ → Type 0 = λ n. AreBelow (g.V.View.seen c.entry.new.view).image c.args.front.now.block n
            c.args.x in
            subst P (sym w.low-is) (below_on c.entry.ensures.viewed.image (inv.below tells));
      }
      | in_default w ↦ record {
        viewed = viewed_then inv.viewed c.entry.ensures.viewed;
        reads = omega (arith, inv.reads, c.entry.ensures.reads);
        order = omega (arith, w.low-is, w.high-is);
        within = omega (arith, w.high-is, inv.within);
        narrow = omega (arith, w.low-is, w.high-is, inv.narrow, half);
        past = λ tells.
            absurd (not_blank c.args.front.now c.args.x _ _ _ inv.viewed c.requires.known c.requires.places middle
            less (rw w.in_default.is at c.in_ok-found.ensures) tells);
        below = λ tells.
            let P : ℕ → Type 0 = λ n. AreBelow (g.V.View.seen c.entry.new.view).image c.args.front.now.block n
            c.args.x in
            subst P (sym w.low-is) (below_on c.entry.ensures.viewed.image (inv.below tells));
      }
    ]
