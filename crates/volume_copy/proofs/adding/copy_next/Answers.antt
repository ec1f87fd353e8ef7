-- The document was read, and ingested.
use Rattle.std.proofs.Common.{inl, sym, ◌≡◌, ◌<◌, length, arith}
use Rattle.std.specs.Prelude.{slice_index}
use Rattle.worm_device.proofs.Elapsing.{called_self}
use Rattle.volume_copy.proofs.AddedOn.{ingest_complete, ingest_first, ingests_of, source_complete, source_fails, target_fails}
use Rattle.volume_copy.proofs.PartSlots.{part_at, slots_count}
use Rattle.volume_copy.proofs.Stayed.{ingest_sound, sound_self}
use Rattle.volume_copy.specs.Auditing.{done_of}
use Rattle.volume_copy.proofs.adding.copy_next.Goals as goal

-- the part is one of those
pub read_stored-requires-clause-part : goal.read_stored-requires-clause-part
read_stored-requires-clause-part g c =
    let at = part_at c.args.source.now.parts.items c.args.place c.index.result.now _ c.requires.inside
    c.index.ensures in
    c.requires.source.parts c.index.result.now at.0

-- its bytes are such ones as a body has
pub ingest-requires-clause-body : goal.ingest-requires-clause-body
ingest-requires-clause-body g c = record {
  bytes = c.know_bytes.ensures;
  most = rw c.bytes-body.ensures c.in-Ok.ensures.ends.1;
}

-- it could not be read
pub returns-in-Err : goal.returns-in-Err
returns-in-Err g c =
    let parts = c.args.source.now.parts.items in
    let part = c.index.result.now in
    let at : part.slot ≡ slice_index (done_of c.args.source.now) c.args.place =
    (part_at parts c.args.place part _ c.requires.inside c.index.ensures).1 in
    let inside : c.args.place < length (done_of c.args.source.now) =
    omega (arith, slots_count parts, c.requires.inside) in
    record {
      from_read = c.in-Err.ensures.read;
      to_called = called_self _;
      to_sound = sound_self _;
      to_first = λ moved count alone whole so since image le left. inl left;
      complete = rw c.from_source.ensures (λ moved count. source_complete c.args.source.now c.in-Err.ensures.read
          c.in-Err.refusal (c.in-Err.ensures.ends c.requires.source.is_volume) moved);
      ends = rw c.from_source.ensures (source_fails c.args.source.now.volume.geometry _ _ _ _ c.in-Err.refusal
          (c.in-Err.ensures.ends c.requires.source.is_volume));
    }

-- it was ingested
pub returns-in-Ok-ingest : goal.returns-in-Ok-ingest
returns-in-Ok-ingest g c =
    let parts = c.args.source.now.parts.items in
    let part = c.index.result.now in
    let at : part.slot ≡ slice_index (done_of c.args.source.now) c.args.place =
    (part_at parts c.args.place part _ c.requires.inside c.index.ensures).1 in
    let inside : c.args.place < length (done_of c.args.source.now) =
    omega (arith, slots_count parts, c.requires.inside) in
    let ingests = ingests_of c.args.source.now.volume.geometry part.slot c.in-Ok.document _ _ _
    c.bytes-identifier.ensures c.bytes-body.ensures c.in-Ok.ensures.read.called c.in-Ok.ensures.ends.2
    c.in-Ok-ingest.ensures in
    record {
      from_read = c.in-Ok.ensures.read;
      to_called = c.in-Ok-ingest.ensures.called;
      to_sound = ingest_sound _ (g.met.E.Device.proper c.args.to.now) (g.met.E.Device.proper c.ingest.new.device)
          c.in-Ok-ingest.ensures;
      to_first = ingest_first c.args.source.now (g.met.E.Device.proper c.args.to.now)
          (g.met.E.Device.proper c.ingest.new.device) c.in-Ok.ensures.read c.in-Ok-ingest.ensures.called c.requires.source
          c.args.place inside part.slot at ingests;
      complete = λ moved count alone whole so unfailed version. tt;
      ends = (at, ingests);
    }

-- or it was not
pub returns : goal.returns
returns g c =
    let parts = c.args.source.now.parts.items in
    let part = c.index.result.now in
    let at : part.slot ≡ slice_index (done_of c.args.source.now) c.args.place =
    (part_at parts c.args.place part _ c.requires.inside c.index.ensures).1 in
    let inside : c.args.place < length (done_of c.args.source.now) =
    omega (arith, slots_count parts, c.requires.inside) in
    let ingests = ingests_of c.args.source.now.volume.geometry part.slot c.in-Ok.document _ _ _
    c.bytes-identifier.ensures c.bytes-body.ensures c.in-Ok.ensures.read.called c.in-Ok.ensures.ends.2
    c.in-Err-ingest.ensures in
    record {
      from_read = c.in-Ok.ensures.read;
      to_called = c.in-Err-ingest.ensures.called;
      to_sound = ingest_sound _ (g.met.E.Device.proper c.args.to.now) (g.met.E.Device.proper c.ingest.new.device)
          c.in-Err-ingest.ensures;
      to_first = ingest_first c.args.source.now (g.met.E.Device.proper c.args.to.now)
          (g.met.E.Device.proper c.ingest.new.device) c.in-Ok.ensures.read c.in-Err-ingest.ensures.called
          c.requires.source c.args.place inside part.slot at ingests;
      complete = rw c.to_target.ensures (ingest_complete c.args.source.now (g.met.E.Device.proper c.args.to.now)
          (g.met.E.Device.proper c.ingest.new.device) c.in-Ok.ensures.read c.in-Err-ingest.ensures.called
          c.requires.source c.args.place inside part.slot at c.in-Err-ingest.refusal ingests);
      ends = rw c.to_target.ensures (target_fails c.args.source.now.volume.geometry _ _ _ _ _ c.in-Err-ingest.refusal
          (rw (sym at) ingests));
    }
