-- All postings exist and have trails.
use Rattle.log_audit.specs.KeptVolumes.{image_in}
use Rattle.list_audit.proofs.AllLed.{all_kept}
use Rattle.list_audit.proofs.rules.is_kept_by_all.Goals as goal

pub returns : goal.returns
returns c = λ yes. all_kept c.args.volume.now.geometry (image_in c.args.volume.now) c.cells-cells.ensures.exists
    c.args.owed.now.table.rows.items (c.requires.owed.exist c.if-not-owed.false) c.requires.owed.owed (c.are_led_to.ensures yes)
