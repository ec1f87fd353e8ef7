-- One cell more in both maps, or none in either.
use Rattle.std.proofs.Common.{sym, ap, ◌∙◌}
use Rattle.std.specs.Ordering.{nat_cmp}
use Rattle.std.specs.BTreeMap.{is_at}
use Rattle.std.specs.Map.{lookup}
use Rattle.worm_device.proofs.Owning.{owned_with, owned_same, put_and_taken}
use Rattle.worm_device.proofs.overlay.PlannedCells.add.Goals as goal

pub invariant_of-self-in-Err : goal.invariant_of-self-in-Err
invariant_of-self-in-Err c =
    let same = c.in-Err.ensures.err in
    record {
      owned = owned_same c.args.self.now.planned _ c.args.self.now.owners _ c.args.self.now.owned
          (λ cell. ap (λ entries. lookup (is_at (nat_cmp cell)) entries) same)
          (put_and_taken c.args.self.now.owners c.insert.new.map c.remove.new.self c.args.at c.args.owner (c.args.self.now.owned.unowned c.args.at c.requires.free)
          c.in_ok-insert.ensures.updates c.remove.ensures.updates);
    }

pub invariant_of-self-in_default : goal.invariant_of-self-in_default
invariant_of-self-in_default c = record {
  owned = owned_with c.args.self.now.planned _ c.args.self.now.owners _ c.args.at c.args.value c.args.owner
      c.args.self.now.owned c.requires.inside c.bytes-bytes.ensures.cell
      c.in_default.ensures.updates
      c.in_ok-insert.ensures.updates;
}
