-- Each ending, by the lemma of its kind.
use Rattle.std.proofs.Common.{arith, sym, ◌∙◌}
use Rattle.cell_types.proofs.Passed.{handed}
use Rattle.jump_block.proofs.Knowing.{kept_on}
use Rattle.jump_index.proofs.Behind.{at_key}
use Rattle.jump_index.proofs.LookingHere.{found_here, past_here, open_here, low_here, fault_here}
use Rattle.jump_index.proofs.here.look_here.Goals as goal

pub returns-in_err-first-clause-looks : goal.returns-in_err-first-clause-looks
returns-in_err-first-clause-looks g c =
    rw (handed c.from_residual.result c.in_err-first.field-0.0 c.from_residual.ensures.1)
    (let f = c.in_err-first.ensures.finds in
    record {
      viewed = f.viewed;
      reads = omega (arith, f.reads);
      ends = fault_here c.args.reached.block c.args.x c.args.reached.low c.args.reached.bound _ _ c.requires.from c.requires.inside
          f.viewed c.in_err-first.field-0.0 f.ends;
    })

pub returns-in-At-clause-looks : goal.returns-in-At-clause-looks
returns-in-At-clause-looks g c =
    let f = rw c.in-At.is at c.in_ok-first.ensures.finds in
    record {
      viewed = f.viewed;
      reads = omega (arith, f.reads);
      ends = found_here c.args.reached.block c.args.x c.args.reached.low c.args.reached.bound _ _ c.requires.from c.requires.inside
          f.viewed c.in-At.next f.ends (omega arith);
    }

pub returns-in-At-2-clause-kept : goal.returns-in-At-2-clause-kept
returns-in-At-2-clause-kept g c = λ tells. kept_on c.look_before.ensures.viewed.image (c.in_ok-first.ensures.kept tells)

pub returns-in-At-2-clause-looks : goal.returns-in-At-2-clause-looks
returns-in-At-2-clause-looks g c =
    let f = rw c.in-At-2.is at c.in_ok-first.ensures.finds in
    past_here c.args.reached.block c.args.x c.args.reached.low c.args.reached.bound _ _ c.requires.from c.requires.inside f.viewed
    c.in-At-2.next _ f.ends (omega (
      arith,
      at_key c.in-At-2.next c.in-At.next
          (sym c.in-At-2.is ∙ c.in-At.is),
    )) f.reads
    c.look_before.result c.look_before.ensures

pub returns-in-Open-clause-looks : goal.returns-in-Open-clause-looks
returns-in-Open-clause-looks g c =
    let f = rw c.in-Open.is at c.in_ok-first.ensures.finds in
    record {
      viewed = f.viewed;
      reads = omega (arith, f.reads);
      ends = open_here c.args.reached.block c.args.x c.args.reached.low c.args.reached.bound _ _ c.requires.from c.requires.inside
          f.viewed c.in-Open.field-0 c.in-Open.greatest
          c.end_before.result f.ends c.end_before.ensures;
    }

pub returns-in-Full-clause-looks : goal.returns-in-Full-clause-looks
returns-in-Full-clause-looks g c =
    let f = rw c.in-Full.is at c.in_ok-first.ensures.finds in
    record {
      viewed = f.viewed;
      reads = omega (arith, f.reads);
      ends = low_here c.args.reached.block c.args.x c.args.reached.low c.args.reached.bound _ _ c.requires.from c.requires.inside f.viewed
          c.in-Full.greatest f.ends (omega arith);
    }
