-- Before the pool; in it, in no slot's blocks; and in those of one.
use Rattle.std.proofs.Common.{◌↔◌, ℕ, nat_le, sym, subst, arith}
use Rattle.std.specs.Prelude.{IsTrue}
use Rattle.log_audit.specs.KeptVolumes.{image_in}
use Rattle.tamper_rules.specs.Journals.{IsIndexCell}
use Rattle.log_audit.proofs.Deciding.{no}
use Rattle.slot_audit.proofs.Indexing.{before_pool, owned_in_pool, unowned_in_pool}
use Rattle.slot_audit.proofs.entries.is_index_cell.Goals as goal

pub returns-then-cell-pool_at : goal.returns-then-cell-pool_at
returns-then-cell-pool_at c =
    let g = c.args.volume.now.geometry in let image = image_in c.args.volume.now in
    subst (λ (n : ℕ). IsTrue (nat_le n c.args.cell) ↔ IsIndexCell g image c.args.slot c.args.cell) (sym c.lists_at.ensures.at)
    (before_pool g image c.args.slot c.args.cell (omega (arith, c.if-cell-pool_at.true, c.pool_at.ensures.at)))

pub returns-in_default : goal.returns-in_default
returns-in_default c = let volume = c.args.volume.now in
    no (unowned_in_pool volume.geometry (image_in volume) c.args.slot c.args.cell
    (omega (arith, c.if-cell-pool_at.false, c.pool_at.ensures.at)) c.in_default.ensures.none)

pub returns : goal.returns
returns c = let volume = c.args.volume.now in
    owned_in_pool volume.geometry (image_in volume) c.args.slot c.args.cell c.in-Some.owner
    c.requires.met (omega (arith, c.if-cell-pool_at.false, c.pool_at.ensures.at)) c.in-Some.ensures.some
