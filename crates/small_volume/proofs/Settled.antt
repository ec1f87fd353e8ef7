-- The small volume is settled, and has one document.
use Rattle.std.proofs.Common.{◌+◌, [], ◌∷◌, refl, arith, codes}
use Rattle.cell_types.specs.Layout.{done_at, outcome_at}
use Rattle.volume_meaning.specs.Documents.{AreDocuments}
use Rattle.tamper_rules.specs.Settling.{Settled}
use Rattle.small_volume.specs.SmallVolume.{small_cells, small_image, small_layout, small_document}
use Rattle.small_volume.proofs.Buckets.{bucket_rule, path_rule}
use Rattle.small_volume.proofs.EachRule.{redone, blank_rule, entry_rule, pointer_rule, child_rule}
use Rattle.small_volume.proofs.Found.{numbers, alone}
use Rattle.small_volume.proofs.Index.{posting_rule, trail_rule}
use Rattle.small_volume.proofs.OneSlot.{documents_alone}
use Rattle.small_volume.proofs.OneSlotRules.{KeepsRules, settled_alone}
use Rattle.small_volume.proofs.Small.{volume, stands_0, bucket_holds}

-- each rule is kept at each written cell
keeps : KeepsRules small_layout small_image 580 4 13 3 (codes "a") (codes "hello world")
keeps = record {
  alone = alone;
  volume = volume;
  stands = stands_0;
  first = refl;
  no_block = refl;
  outcome = λ n inside w. omega (arith, numbers (outcome_at n) w, inside);
  done = λ n inside w. omega (arith, numbers (done_at n) w, inside);
  redone = redone;
  blank = blank_rule;
  entry = entry_rule;
  posting = posting_rule;
  pointer = pointer_rule;
  bucket = bucket_rule small_cells alone stands_0 bucket_holds refl
      (λ x less w. omega (arith, numbers (548 + x) w, less));
  child = child_rule;
  trail = trail_rule;
  path = path_rule small_layout small_image bucket_holds;
}

-- so the small volume is settled
pub is_settled : Settled 1000 small_image
is_settled = settled_alone keeps

-- and has one document
pub are_documents : AreDocuments 1000 small_image (small_document ∷ [])
are_documents = documents_alone alone volume stands_0
