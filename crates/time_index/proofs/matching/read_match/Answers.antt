-- The document was read, and its identifier was taken or not.
use Rattle.std.proofs.Common.{refl}
use Rattle.cell_types.proofs.Passed.{handed}
use Rattle.cell_types.specs.declared.refusal.Refusal.TheVariants.{NoMemory}
use Rattle.time_index.proofs.Matched.{was_read, was_wanted}
use Rattle.time_index.proofs.matching.read_match.Goals as goal

-- the part is one that was found
pub read_part-requires-clause-part : goal.read_part-requires-clause-part
read_part-requires-clause-part g c = record {
  slot = c.requires.slot;
  inside = c.requires.inside;
  stated = c.requires.stated;
  is = c.requires.part;
}

pub returns : goal.returns
returns g c =
    was_read c.args.geometry.now c.args.part.now c.args.seconds c.read_part.ensures.viewed c.read_part.ensures.reads
    c.requires.part c.requires.stamp c.in_ok-head.head c.in_ok-head.ensures.ends.1 _ refl c.in_ok-identifier.ensures refl
    refl

-- no memory was to be had for it
pub returns-in_err-identifier : goal.returns-in_err-identifier
returns-in_err-identifier g c =
    rw (handed c.from_residual-in_err-identifier.result NoMemory c.from_residual-in_err-identifier.ensures.1)
    (was_wanted c.args.geometry.now c.args.part.now c.args.seconds c.read_part.ensures.viewed c.read_part.ensures.reads
    c.requires.part c.requires.stamp c.in_ok-head.head c.in_ok-head.ensures.ends.1)
