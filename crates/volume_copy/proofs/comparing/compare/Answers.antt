-- Place after place.
use Rattle.std.proofs.Common.{arith, rules, refl, ◌≡◌, ◌<◌, ◌≤◌, length}
use Rattle.std.specs.Prelude.{slice_index}
use Rattle.cell_types.proofs.Passed.{handed}
use Rattle.cell_types.specs.declared.refusal.CopyRefusal.TheVariants as copies
use Rattle.volume_copy.proofs.AddedOn.{can_on, read_then}
use Rattle.volume_copy.proofs.Compared.{compared_all, compared_fails, compared_more, compared_none, compared_past}
use Rattle.volume_copy.proofs.PartSlots.{part_at, slots_count}
use Rattle.volume_copy.specs.Auditing.{done_of}
use Rattle.volume_copy.proofs.comparing.compare.Goals as goal

pub loop-place-init : goal.loop-place-init
loop-place-init g c =
    let none = compared_none c.requires.source c.requires.target in search (rules, none, c.new-moved.ensures.items)

-- the target has one more than the source
pub returns-then-place-len : goal.returns-then-place-len
returns-then-place-len g c =
    let inside : c.loop-place.place < length (done_of c.args.target.now) =
    omega (arith, c.loop-place-test.true, c.len-place-end.ensures, slots_count c.args.target.now.parts.items) in
    let over : length (done_of c.args.source.now) ≤ c.loop-place.place =
    omega (arith, c.if-place-len.true, c.len.ensures, slots_count c.args.source.now.parts.items) in
    let at : (c.index.result.now).slot ≡ slice_index (done_of c.args.target.now) c.loop-place.place =
    (part_at c.args.target.now.parts.items c.loop-place.place c.index.result.now _
    (omega (arith, c.loop-place-test.true, c.len-place-end.ensures)) c.index.ensures).1 in
    rw at (compared_past c.requires.source c.requires.target c.loop-place.invariant
    (g.met.D.Device.proper c.loop-place.from) (g.met.E.Device.proper c.loop-place.to) inside over)

pub compare_next-requires-clause-source : goal.compare_next-requires-clause-source
compare_next-requires-clause-source g c = can_on c.loop-place.invariant.from_read.called c.requires.source

pub compare_next-requires-clause-target : goal.compare_next-requires-clause-target
compare_next-requires-clause-target g c = can_on c.loop-place.invariant.to_read.called c.requires.target

-- a place was not compared, or its documents differ
pub returns-in-Err : goal.returns-in-Err
returns-in-Err g c =
    compared_fails c.requires.source c.requires.target c.loop-place.invariant (g.met.D.Device.proper c.loop-place.from)
    (g.met.E.Device.proper c.loop-place.to) (g.met.D.Device.proper c.compare_next.new.from)
    (g.met.E.Device.proper c.compare_next.new.to)
    (omega (arith, c.if-place-len.false, c.len.ensures, slots_count c.args.source.now.parts.items))
    (omega (arith, c.loop-place-test.true, c.len-place-end.ensures, slots_count c.args.target.now.parts.items)) c.in-Err.refusal c.in-Err.ensures

-- there was no memory for its pair
pub returns-in_err-push : goal.returns-in_err-push
returns-in_err-push g c =
    rw (handed c.from_residual.result copies.NoMemory c.from_residual.ensures.1)
    (record {
      from_read = read_then c.loop-place.invariant.from_read c.in-Ok.ensures.from_read;
      to_read = read_then c.loop-place.invariant.to_read c.in-Ok.ensures.to_read;
      same = tt;
      first = tt;
      ends = tt;
    })

-- one more was
pub loop-place-preserved : goal.loop-place-preserved
loop-place-preserved g c =
    let more = compared_more c.requires.source c.requires.target c.loop-place.invariant
    (g.met.D.Device.proper c.loop-place.from)
    (g.met.E.Device.proper c.loop-place.to) (g.met.D.Device.proper c.compare_next.new.from)
    (g.met.E.Device.proper c.compare_next.new.to)
    (omega (arith, c.if-place-len.false, c.len.ensures, slots_count c.args.source.now.parts.items))
    (omega (arith, c.loop-place-test.true, c.len-place-end.ensures, slots_count c.args.target.now.parts.items)) c.in-Ok.pair c.in-Ok.ensures in
    search (rules, more, c.in_ok-push.ensures.items)

-- all were compared
pub returns : goal.returns
returns g c =
    let at_end : c.loop-place.place ≡ length (done_of c.args.target.now) =
    omega (arith, c.loop-place-test.false, c.loop-place.auto.place-end, c.len-place-end.ensures, slots_count c.args.target.now.parts.items) in
    compared_all c.requires.source c.requires.target c.loop-place.invariant (g.met.D.Device.proper c.loop-place.from)
    (g.met.E.Device.proper c.loop-place.to) c.loop-place.moved refl at_end
