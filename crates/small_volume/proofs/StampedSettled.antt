-- The stamped volume is settled, and has one document.
use Rattle.std.proofs.Common.{◌+◌, [], ◌∷◌, refl, arith, codes}
use Rattle.cell_types.specs.Layout.{done_at, outcome_at}
use Rattle.volume_meaning.specs.Documents.{AreDocuments}
use Rattle.tamper_rules.specs.Settling.{Settled}
use Rattle.small_volume.specs.StampedVolume.{stamped_cells, stamped_document, stamped_image, stamped_layout}
use Rattle.small_volume.proofs.Buckets.{bucket_rule, path_rule}
use Rattle.small_volume.proofs.OneSlot.{documents_alone}
use Rattle.small_volume.proofs.OneSlotRules.{KeepsRules, settled_alone}
use Rattle.small_volume.proofs.Stamped.{volume, stands_0, bucket_holds}
use Rattle.small_volume.proofs.StampedRules.{numbers, alone, redone, blank_rule, entry_rule, posting_rule, pointer_rule, child_rule, trail_rule}

-- each rule is kept at each written cell
keeps : KeepsRules stamped_layout stamped_image 836 3 2 2 (codes "a") []
keeps = record {
  alone = alone;
  volume = volume;
  stands = stands_0;
  first = refl;
  no_block = refl;
  outcome = λ n inside w. omega (arith, numbers (outcome_at n) w, inside);
  done = λ n inside w. omega (arith, numbers (done_at n) w, inside);
  redone = redone;
  blank = blank_rule;
  entry = entry_rule;
  posting = posting_rule;
  pointer = pointer_rule;
  bucket = bucket_rule stamped_cells alone stands_0 bucket_holds refl
      (λ x less w. omega (arith, numbers (548 + x) w, less));
  child = child_rule;
  trail = trail_rule;
  path = path_rule stamped_layout stamped_image bucket_holds;
}

-- so the stamped volume is settled
pub is_settled : Settled 1200 stamped_image
is_settled = settled_alone keeps

-- and has one document
pub are_documents : AreDocuments 1200 stamped_image (stamped_document ∷ [])
are_documents = documents_alone alone volume stands_0
