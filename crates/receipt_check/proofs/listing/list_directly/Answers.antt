-- The loan is not spoken of.
use Rattle.std.proofs.Common.{ap, refl, rules}
use Rattle.worm_device.specs.Views.{seen_directly}
use Rattle.receipt_check.proofs.KeptByList.{lists_by_any, lists_then}
use Rattle.receipt_check.proofs.listing.list_directly.Goals as goal

pub returns : goal.returns
returns g c =
    let lists = lists_by_any c.args.slot c.args.id.now (g.D.Device.state c.new.result.device.now)
    (g.D.Device.state c.list_kept.new.view.device.now) c.new.result.device.ghost_name
    c.list_kept.new.view.device.ghost_name c.args.listed.now c.list_kept.new.listed c.list_kept.result
    c.list_kept.ensures in
    lists_then lists (ap (λ d. seen_directly (g.D.Device.state d) 0) c.new.ensures.same) (search rules) c.requires refl
