-- The posting is found.
use Rattle.std.proofs.Common.{sym, ap, take, ◌∙◌}
use Rattle.cell_types.proofs.OneRecord.{joined}
use Rattle.cell_types.proofs.codec.posting_at.Goals as goal

pub returns-then-is_well_formed : goal.returns-then-is_well_formed
returns-then-is_well_formed c = record {
  fits = c.posting_of-value.ensures.fits;
  well_formed = c.is_well_formed.ensures.0 c.if-is_well_formed.true;
  same = joined c.posting_of-value.result c.args.address c.args.cell c.bytes-all.ensures.cell
      (c.posting_of-value.ensures.body ∙ ap (take 12) c.bytes-all.ensures.same) (sym c.address_of.ensures ∙ sym c.if-address-address_of.false);
}
