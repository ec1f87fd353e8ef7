-- Each ending, by the lemma of its kind.
use Rattle.std.proofs.Common.{refl, arith}
use Rattle.cell_types.proofs.Passed.{handed}
use Rattle.worm_device.proofs.Resting.{viewed_then, viewed_self}
use Rattle.jump_block.proofs.Knowing.{known_on}
use Rattle.jump_block.proofs.KnownReads.{fault_at, found_at, from_reading, not_blank, not_less}
use Rattle.jump_block.proofs.consulting.first_from_known.Goals as goal
use Rattle.jump_block.proofs.consulting.first_from_known.Goals.{in-Some+else-next-x, in_default}

pub returns-in_err-place : goal.returns-in_err-place
returns-in_err-place g c = rw (handed c.from_residual.result c.in_err-place.field-0.0 c.from_residual.ensures.1) record {
  viewed = c.bisect.ensures.viewed;
  block = refl;
  places = c.requires.places;
  known = λ tells. known_on c.bisect.ensures.viewed.image (c.requires.known tells);
  reads = omega (arith, c.bisect.ensures.reads);
  cheap = λ tells. omega (arith, c.bisect.ensures.reads);
  ends = c.in_err-place.ensures.ends;
}

pub returns-in_err-next : goal.returns-in_err-next
returns-in_err-next g c =
    let found = c.in_ok-place.ensures in
    rw (handed c.from_residual-in_err-next.result c.in_err-next.field-0.0 c.from_residual-in_err-next.ensures.1)
    record {
      viewed = viewed_then c.bisect.ensures.viewed c.entry.ensures.viewed;
      block = refl;
      places = c.requires.places;
      known = λ tells. known_on c.entry.ensures.viewed.image
          (known_on c.bisect.ensures.viewed.image (c.requires.known tells));
      reads = omega (arith, c.bisect.ensures.reads, c.entry.ensures.reads);
      cheap = λ tells. omega (arith, c.bisect.ensures.reads, c.entry.ensures.reads);
      ends = fault_at c.args.front.now c.args.x _ _ _ c.bisect.ensures.viewed c.requires.known c.requires.places
          c.in_ok-place.place found.ends.0 c.in_err-next.field-0.0 c.in_err-next.ensures;
    }

pub returns-then-next-x : goal.returns-then-next-x
returns-then-next-x g c =
    let found = c.in_ok-place.ensures in
    record {
      viewed = viewed_then c.bisect.ensures.viewed c.entry.ensures.viewed;
      block = refl;
      places = c.requires.places;
      known = λ tells. known_on c.entry.ensures.viewed.image
          (known_on c.bisect.ensures.viewed.image (c.requires.known tells));
      reads = omega (arith, c.bisect.ensures.reads, c.entry.ensures.reads);
      cheap = λ tells. omega (arith, c.bisect.ensures.reads, c.entry.ensures.reads);
      ends = found_at c.args.front.now c.args.x _ _ _ c.bisect.ensures.viewed c.requires.known c.requires.places
          c.in_ok-place.place found.ends.0 c.in-Some.next c.if-next-x.true
          (λ tells. (found.ends.1 tells).0) (rw c.in-Some.is at c.in_ok-next.ensures);
    }

pub returns-then-front-eq0 : goal.returns-then-front-eq0
returns-then-front-eq0 g c =
    from_reading c.args.x _ _ _ c.args.front.now c.args.front.now c.read_on.new.front
    (viewed_self (g.V.View.seen c.args.view.now)) refl (omega arith) (λ tells. (refl, refl))
    c.read_on.result c.read_on.ensures

pub returns : goal.returns
returns g c =
    let found = c.in_ok-place.ensures in
    from_reading c.args.x _ _ _ c.args.front.now (record {
      block = c.args.front.now.block;
      count = 0;
      greatest =
          c.args.front.now.greatest;
    }) c.read_on-2.new.front
    (viewed_then c.bisect.ensures.viewed c.entry.ensures.viewed) refl
    (omega (arith, c.bisect.ensures.reads, c.entry.ensures.reads))
    (λ tells. absurd (elim c.match-branch-3.branch [
      | in-Some+else-next-x w ↦ not_less c.args.front.now c.args.x _ _ _ c.bisect.ensures.viewed c.requires.known
          c.requires.places c.in_ok-place.place found.ends.0
          w.in-Some.next w.if-next-x.false (λ told. (found.ends.1 told).1)
          (rw w.in-Some.is at c.in_ok-next.ensures) tells
      | in_default w ↦ not_blank c.args.front.now c.args.x _ _ _ c.bisect.ensures.viewed c.requires.known
          c.requires.places c.in_ok-place.place found.ends.0
          (rw w.in_default.is at c.in_ok-next.ensures) tells
    ]))
    c.read_on-2.result c.read_on-2.ensures
