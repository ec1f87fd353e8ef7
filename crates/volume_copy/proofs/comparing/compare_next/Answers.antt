-- Both documents were read, and compared.
use Rattle.std.proofs.Common.{◌≡◌, false, refl, true}
use Rattle.volume_copy.proofs.Compared.{reads_both}
use Rattle.volume_copy.proofs.PartSlots.{part_at}
use Rattle.volume_copy.proofs.comparing.compare_next.Goals as goal

no_truth : false ≡ true → ⊥
no_truth e = cc

-- the parts are such ones as were found
pub read_stored-requires-clause-part : goal.read_stored-requires-clause-part
read_stored-requires-clause-part g c =
    let at = part_at c.args.source.now.parts.items c.args.place c.index.result.now _ c.requires.inside c.index.ensures in
    c.requires.source.parts c.index.result.now at.0

pub read_stored-requires-2-clause-part : goal.read_stored-requires-2-clause-part
read_stored-requires-2-clause-part g c =
    let at = part_at c.args.target.now.parts.items c.args.place c.index-2.result.now _ c.requires.within
    c.index-2.ensures in
    c.requires.target.parts c.index-2.result.now at.0

-- they are not the same
pub returns-then-not-is_same : goal.returns-then-not-is_same
returns-then-not-is_same g c = record {
  from_read = c.in-Ok.ensures.read;
  to_read = c.in-Ok-read_stored.ensures.read;
  ends = record {
    read = reads_both (c.index.result.now).slot (c.index-2.result.now).slot
        (part_at c.args.source.now.parts.items c.args.place c.index.result.now _ c.requires.inside c.index.ensures).1
        (part_at c.args.target.now.parts.items c.args.place c.index-2.result.now _ c.requires.within c.index-2.ensures).1
        c.in-Ok.one c.in-Ok-read_stored.other c.in-Ok.ensures.read.called c.in-Ok-read_stored.ensures.read.called
        c.in-Ok.ensures.ends.2 c.in-Ok-read_stored.ensures.ends.2;
    other = λ same. no_truth (rw c.if-not-is_same.true at (c.is_same.ensures.1 same));
  };
}

-- they are
pub returns : goal.returns
returns g c = record {
  from_read = c.in-Ok.ensures.read;
  to_read = c.in-Ok-read_stored.ensures.read;
  ends = record {
    read = reads_both (c.index.result.now).slot (c.index-2.result.now).slot
        (part_at c.args.source.now.parts.items c.args.place c.index.result.now _ c.requires.inside c.index.ensures).1
        (part_at c.args.target.now.parts.items c.args.place c.index-2.result.now _ c.requires.within c.index-2.ensures).1
        c.in-Ok.one c.in-Ok-read_stored.other c.in-Ok.ensures.read.called c.in-Ok-read_stored.ensures.read.called
        c.in-Ok.ensures.ends.2 c.in-Ok-read_stored.ensures.ends.2;
    same = (rw c.if-not-is_same.false at c.is_same.ensures).0 refl;
  };
}
