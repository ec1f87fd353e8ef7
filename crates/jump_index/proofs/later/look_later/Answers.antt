-- Each turn, by the lemma of its kind.
use Rattle.std.proofs.Common.{arith}
use Rattle.cell_types.proofs.Passed.{handed}
use Rattle.jump_block.proofs.Knowing.{key_on}
use Rattle.jump_index.proofs.LookingLater.{span_is_wide, pointer_fault, blank_pointer, written_pointer}
use Rattle.jump_index.proofs.Telling.{told, told_before}
use Rattle.jump_index.proofs.Ways.{search_on}
use Rattle.jump_index.proofs.later.look_later.Goals as goal

pub pointer-requires-clause-level : goal.pointer-requires-clause-level
pointer-requires-clause-level g c = (c.next-span.ensures.is c.args.tried.greatest c.loop-span.invariant.so_far.is).levels

pub pointer-requires-clause-some : goal.pointer-requires-clause-some
pointer-requires-clause-some g c = (c.next-span.ensures.is c.args.tried.greatest c.loop-span.invariant.so_far.is).some

pub pointer-requires-clause-digit : goal.pointer-requires-clause-digit
pointer-requires-clause-digit g c = (c.next-span.ensures.is c.args.tried.greatest c.loop-span.invariant.so_far.is).digits

pub returns-in_err-read-clause-kept : goal.returns-in_err-read-clause-kept
returns-in_err-read-clause-kept g c =
    λ tells. search_on c.pointer.ensures.viewed.image (c.loop-span.invariant.kept tells)

pub look_behind-requires-clause-ready : goal.look_behind-requires-clause-ready
look_behind-requires-clause-ready g c =
    let so_far = c.loop-span.invariant.so_far in
    let read = rw c.in-Some.is at c.in_ok-read.ensures in
    let is = c.next-span.ensures.is c.args.tried.greatest so_far.is in
    record {
      inside = omega (arith, c.requires.ready.inside, so_far.viewed.cells, read.viewed.cells);
      edge = omega (arith, c.requires.ready.edge, so_far.viewed.cells, read.viewed.cells);
      span = is;
      below = omega (arith, c.next-span.ensures.follows);
      stands = λ tells.
          let then = told_before read.viewed tells in record {
            span = is;
            full = key_on read.viewed.image (key_on so_far.viewed.image
                (c.requires.ready.full (told_before so_far.viewed then)));
            jump = read.ends then;
          };
    }

pub look_behind-requires-clause-kept : goal.look_behind-requires-clause-kept
look_behind-requires-clause-kept g c = λ tells.
    let before = told_before c.loop-span.invariant.so_far.viewed (told_before c.pointer.ensures.viewed tells) in
    search_on c.pointer.ensures.viewed.image (c.loop-span.invariant.kept before)

pub returns-in-Some-clause-kept : goal.returns-in-Some-clause-kept
returns-in-Some-clause-kept g c = λ tells.
    c.look_behind.ensures.kept (told c.pointer.ensures.viewed (told c.loop-span.invariant.so_far.viewed tells))

pub returns-in_err-read-clause-looks : goal.returns-in_err-read-clause-looks
returns-in_err-read-clause-looks g c =
    rw (handed c.from_residual.result c.in_err-read.field-0.0 c.from_residual.ensures.1)
    (let so_far = c.loop-span.invariant.so_far in
    pointer_fault c.args.bounds c.args.tried.block c.args.tried.greatest c.args.tried.span.high _ _ _ c.loop-span.span c.next-span.result
    c.requires.ready.full so_far
    (c.next-span.ensures.is c.args.tried.greatest so_far.is) c.next-span.ensures.follows c.next-span.ensures.place c.args.bound
    c.in_err-read.field-0.0 c.in_err-read.ensures)

pub returns-in-Some-clause-looks : goal.returns-in-Some-clause-looks
returns-in-Some-clause-looks g c =
    let so_far = c.loop-span.invariant.so_far in
    written_pointer c.args.bounds c.args.tried.block c.args.tried.greatest c.args.tried.span.high _ _ _ c.loop-span.span
    c.next-span.result c.requires.ready.full so_far
    (c.next-span.ensures.is c.args.tried.greatest so_far.is) c.next-span.ensures.follows c.next-span.ensures.place
    c.in-Some.target c.args.bound _ c.look_behind.result
    (rw c.in-Some.is at c.in_ok-read.ensures) c.look_behind.ensures.looks

pub loop-span-smaller : goal.loop-span-smaller
loop-span-smaller g c =
    omega (
      arith,
      c.loop-span-test.true,
      c.next-span.ensures.follows,
      span_is_wide
          (c.next-span.ensures.is c.args.tried.greatest c.loop-span.invariant.so_far.is),
    )

pub loop-span-preserved : goal.loop-span-preserved
loop-span-preserved g c =
    let so_far = c.loop-span.invariant.so_far in
    record {
      so_far = blank_pointer c.args.bounds c.args.tried.block c.args.tried.greatest c.args.tried.span.high _ _ _ c.loop-span.span
          c.next-span.result c.requires.ready.full so_far
          (c.next-span.ensures.is c.args.tried.greatest so_far.is) c.next-span.ensures.follows c.next-span.ensures.place
          (rw c.in_default.is at c.in_ok-read.ensures);
      kept = λ tells. search_on c.pointer.ensures.viewed.image (c.loop-span.invariant.kept tells);
    }
