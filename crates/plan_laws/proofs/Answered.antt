-- What planning answers, where nobody else wrote, is a planned index over the image as it stood.
use Rattle.std.proofs.Common.{◌≡◌, ◌+◌, ℕ, List, Option, Some, None, sym, subst, arith}
use Rattle.std.specs.Prelude.{IsTrue}
use Rattle.sha2.specs.Sha256.{sha256}
use Rattle.cell_types.specs.Image.{Image, Extends, IsUnchanged}
use Rattle.cell_types.specs.Layout.{Layout}
use Rattle.volume_meaning.specs.Keeping.{sought_in}
use Rattle.volume_meaning.proofs.HashTrails.{passed_on, passed_to_on}
use Rattle.tamper_rules.proofs.Images.{same_image}
use Rattle.ingest_laws.specs.Ingesting.{Plan}
use Rattle.worm_device.specs.Counts.{IsStill}
use Rattle.worm_device.specs.State.{DeviceState}
use Rattle.hash_tree.specs.declared.level.Level.{Level}
use Rattle.hash_tree.specs.declared.path.Open.{Open}
use Rattle.hash_tree.specs.Readiness.{PassedDown, blank_of}
use Rattle.ingest_plan.specs.Journal.{IsJournal}
use Rattle.ingest_plan.specs.Standing.{IndexStands}
use Rattle.plan_laws.specs.Standing.{EndsPath, below_slot, seconds_of}
use Rattle.ingest_plan.specs.Planning.{IsPlanned, cut_at, laid_over}
use Rattle.ingest_plan.specs.declared.plan.PlannedIndex.{PlannedIndex}
use Rattle.plan_laws.specs.Laws.{IsPlannedIndex, TakesSlot}
use Rattle.plan_laws.proofs.Laying.{over_is, with_same}
use Rattle.plan_laws.proofs.Taken.{cut_at_edge, keys_of_slot, old_edge, stand, stands_at_cost}

-- a path that is passed down is so in each image that extends this one
passed_down_on : (g : Layout) {old new : Image} (id : List ℕ) (level : Level) (child : Option ℕ) → Extends old new
    → PassedDown g old (sought_in g.cells g id) level child → PassedDown g new (sought_in g.cells g id) level child
passed_down_on g id level None e passed = passed_to_on e passed
passed_down_on g id level (Some child) e (to, above) = (passed_to_on e to, passed_on e above)

module _ {g : Layout} {p : Plan} {level : Level} {place : Open} {made : PlannedIndex} {old new : DeviceState}
    (tells : IsTrue old.tells) (still : IsStill old.foreign_writes new.foreign_writes)
    (same : IsUnchanged old.image new.image) (takes : TakesSlot g old.image p (p.start + made.block_length))
    (journal : p.journal ≡ made.journal.items) (ends : EndsPath g old.image level place)
    (digest : level.digest ≡ sha256 p.id) (passed : PassedDown g old.image (sought_in g.cells g p.id) level place.child)
    (is : IsPlanned g p.slot p.start level place p.stamp p.body made old new) where
  cut_same : cut_at p.start old.image ≡ old.image
  cut_same = cut_at_edge (old_edge takes) takes.settled

  blank : (cell : ℕ) (value : List ℕ) → is.planned cell ≡ Some value → old.image cell ≡ None
  blank cell value row =
      subst (λ (image : Image). image cell ≡ None) cut_same
      (is.blank tells (subst (λ (image : Image). image (blank_of place) ≡ None) (sym cut_same) ends.blank)
      cell value row)

  stands : IndexStands g p.slot (below_slot g (p.slot + 1) (seconds_of p.stamp + 1)) is.rows level place p.start
      (p.start + made.block_length) old.image (laid_over is.planned old.image)
  stands = (stands_at_cost (old_edge takes) made takes.settled
      (is.stands tells still (below_slot g p.slot (seconds_of p.stamp))
      (below_slot g (p.slot + 1) (seconds_of p.stamp + 1)) (keys_of_slot is.are))
      (stand takes).lists).stands

  pub answered : IsPlannedIndex g old.image (laid_over is.planned old.image) p is.rows level place
      (p.start + made.block_length) is.planned
  answered = record {
    takes = takes;
    rows_are = is.are;
    ends = ends;
    digest = digest;
    passed = passed;
    journal = subst (λ (cells : List (List ℕ)). IsJournal is.planned cells) (sym journal) is.journal.is;
    index = is.journal.index;
    before = is.journal.before;
    blank = blank;
    grants = is.grants;
    laid_is = with_same (λ cell value row. row.is) (λ cell value row. record { is = row })
        (over_is (λ cell value row. blank cell value row.is));
    stands = stands;
    keeps = λ image e f there stamp.
        is.keeps tells p.id image (sym digest)
        (subst (λ (below : Image). Extends below image) (sym (same_image same)) e) f
        (omega (arith, takes.room, takes.inside)) there stamp (passed_down_on g p.id level place.child e passed);
  }
