-- Rules 1 to 3 are kept where there is a log, and then rule 4 and rule 5 where each finds nothing.
use Rattle.tamper_rules.specs.Rules.{Documents, Journals}
use Rattle.log_audit.proofs.Numbers.{below_next}
use Rattle.log_audit.proofs.Stopping.{found_none}
use Rattle.audit_tests.proofs.parts.tiled_with.Goals as goal

pub first_broken_journal-requires : goal.first_broken_journal-requires
first_broken_journal-requires c = record {
  met = below_next Documents c.in-Ok.ensures.1
      (found_none _ _ Documents _ c.first_broken_document.ensures c.in_default-first_broken_document.is);
}

pub first_broken_tiling-requires : goal.first_broken_tiling-requires
first_broken_tiling-requires c = record {
  journals = found_none _ _ Journals _ c.first_broken_journal.ensures c.in_default-first_broken_journal.is;
}
