-- Document after document.
use Rattle.std.proofs.Common.{Ok, Err, arith, rules}
use Rattle.cell_types.proofs.Passed.{handed}
use Rattle.cell_types.specs.declared.refusal.CopyRefusal.TheVariants as copies
use Rattle.worm_device.proofs.Elapsing.{called_then}
use Rattle.volume_copy.proofs.AddedOn.{can_on, read_then, rest_complete, rest_fails, rest_first, rest_more}
use Rattle.volume_copy.proofs.PartSlots.{slots_count}
use Rattle.volume_copy.proofs.Stayed.{sound_then}
use Rattle.volume_copy.proofs.adding.copy_rest.Goals as goal

pub copy_next-requires-clause-source : goal.copy_next-requires-clause-source
copy_next-requires-clause-source g c = can_on c.loop-place.invariant.from_read.called c.requires.source

-- a document was not copied
pub returns-in-Err : goal.returns-in-Err
returns-in-Err g c =
    record {
      from_read = read_then c.loop-place.invariant.from_read c.in-Err.ensures.from_read;
      to_called = called_then c.loop-place.invariant.to_called c.in-Err.ensures.to_called;
      to_sound = sound_then c.loop-place.invariant.to_called c.in-Err.ensures.to_called
          c.loop-place.invariant.to_sound c.in-Err.ensures.to_sound;
      to_first = rest_first c.requires.source c.loop-place.invariant (g.met.D.Device.proper c.loop-place.from)
          (Err c.in-Err.refusal) c.in-Err.ensures;
      same = tt;
      complete = rest_complete c.requires.source c.loop-place.invariant (g.met.D.Device.proper c.loop-place.from)
          c.in-Err.refusal c.in-Err.ensures;
      ends = rest_fails c.requires.source c.loop-place.invariant (g.met.D.Device.proper c.loop-place.from)
          (g.met.E.Device.proper c.loop-place.to) (g.met.E.Device.proper c.copy_next.new.to)
          (omega (arith, c.loop-place-test.true, c.len-place-end.ensures, slots_count c.args.source.now.parts.items)) c.in-Err.refusal c.in-Err.ensures;
    }

-- there was no memory for its pair
pub returns-in_err-push : goal.returns-in_err-push
returns-in_err-push g c =
    rw (handed c.from_residual.result copies.NoMemory c.from_residual.ensures.1)
    (record {
      from_read = read_then c.loop-place.invariant.from_read c.in-Ok.ensures.from_read;
      to_called = called_then c.loop-place.invariant.to_called c.in-Ok.ensures.to_called;
      to_sound = sound_then c.loop-place.invariant.to_called c.in-Ok.ensures.to_called
          c.loop-place.invariant.to_sound c.in-Ok.ensures.to_sound;
      to_first = rest_first c.requires.source c.loop-place.invariant (g.met.D.Device.proper c.loop-place.from)
          (Ok c.in-Ok.pair) c.in-Ok.ensures;
      same = tt;
      complete = λ alone whole so unfailed version. tt;
      ends = tt;
    })

-- one more was
pub loop-place-preserved : goal.loop-place-preserved
loop-place-preserved g c =
    let more = rest_more c.requires.source c.loop-place.invariant (g.met.D.Device.proper c.loop-place.from)
    (g.met.E.Device.proper c.loop-place.to) (g.met.E.Device.proper c.copy_next.new.to) (omega (arith, c.loop-place-test.true, c.len-place-end.ensures, slots_count c.args.source.now.parts.items))
    c.in-Ok.pair c.in-Ok.ensures in
    search (rules, more, c.in_ok-push.ensures.items)

-- all were copied
pub returns : goal.returns
returns g c =
    let so = c.loop-place.invariant in
    record {
      from_read = so.from_read;
      to_called = so.to_called;
      to_sound = so.to_sound;
      to_first = so.to_first;
      same = so.same;
      complete = λ alone whole first unfailed version. tt;
      ends = (
        omega (arith, so.count, c.loop-place-test.false, c.len-place-end.ensures, slots_count c.args.source.now.parts.items),
        so.goes,
        so.first,
      );
    }
