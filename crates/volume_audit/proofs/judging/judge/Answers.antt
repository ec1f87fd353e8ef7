-- Each rule is kept, and each slot below the horizon has ended.
use Rattle.std.proofs.Common.{arith}
use Rattle.log_audit.specs.Kept.{image_of_kept}
use Rattle.tamper_rules.specs.Rules.{Documents}
use Rattle.volume_audit.proofs.Judged.{is_settled}
use Rattle.volume_audit.proofs.judging.judge.Goals as goal

pub owed_postings-requires : goal.owed_postings-requires
owed_postings-requires g c = record { documents = c.in_ok-check_entries.ensures Documents (omega arith) }

pub returns : goal.returns
returns g c = (
  is_settled c.args.geometry (image_of_kept c.args.kept) c.in_ok-log.log c.in_ok-log.ensures.0
      c.in_ok-check_reach.ensures,
  c.report_of.ensures,
)
