-- A document whose plan is carried out is kept.
use Rattle.std.proofs.Common.{◌≡◌, ◌≤◌, ◌+◌, ◌^◌, ◌∙◌, ⊎_elim, ℕ, List, [], ◌∷◌, ◌++◌, Option, Some, None, sym, ap, subst, arith}
use Rattle.std.specs.Prelude.{slice_get, Contains, IsTrue}
use Rattle.std.proofs.lemmas.List.Elements.{Contains-append_cases}
use Rattle.cell_types.specs.Image.{Image, Extends}
use Rattle.cell_types.specs.Layout.{IsLayout, Layout, root_at}
use Rattle.volume_meaning.specs.Documents.{Document, Stands}
use Rattle.volume_meaning.specs.Volumes.{IsVolume}
use Rattle.volume_meaning.specs.Slots.{IsStampOf}
use Rattle.volume_meaning.proofs.Extending.{done_slot_on, holds_on, volume_on}
use Rattle.volume_meaning.specs.HashPaths.{IsPassed, PassedTo}
use Rattle.volume_meaning.specs.Keeping.{IsKept, Kept, sought_in}
use Rattle.volume_meaning.proofs.HashTrails.{passed_on, passed_to_on}
use Rattle.volume_meaning.proofs.KeepingLaws.{is_kept_on}
use Rattle.tamper_rules.proofs.DocumentLists.{only_one}
use Rattle.tamper_rules.proofs.GivenUp.{one_layout}
use Rattle.worm_device.specs.Calls.{Called}
use Rattle.worm_device.specs.State.{DeviceState}
use Rattle.worm_device.specs.Views.{seen_directly}
use Rattle.worm_device.proofs.Images.{extends_then}
use Rattle.hash_tree.specs.Levels.{node_of}
use Rattle.hash_tree.specs.Steps.{IsOpenAt}
use Rattle.hash_tree.specs.declared.level.Level.{Level}
use Rattle.hash_tree.specs.Readiness.{PassedDown}
use Rattle.recovery_engine.specs.declared.settling.Ready.{Ready}
use Rattle.identifier_lookup.specs.Walks.{EndsThere, IsPassedAbove, IsPassedUpToPlace}
use Rattle.plan_writer.specs.Planned.{reserved_by}
use Rattle.plan_writer.specs.PuttingPlans.{IsCarriedOut}
use Rattle.plan_writer.specs.declared.plan.Plan.{Plan}
use Rattle.ingest_plan.specs.Planning.{IsLater}
use Rattle.ingest_engine.specs.Indexing.{HasWalked}
use Rattle.ingest_engine.specs.Ingesting.{IsIngested, IsLastFree, IsPlanFor, document_in}
use Rattle.ingest_engine.proofs.Suited.{copies_of}
use Rattle.ingest_engine.proofs.Trails.{none_before}

-- the path is passed down to the place
passed_down : (g : Layout) (image : Image) (id : List ℕ) (level : Level) (bucket : ℕ) (child : Option ℕ)
    → PassedTo image (sought_in g.cells g id) (root_at g) (node_of g level) level.number
    → IsPassedAbove g g.cells image id bucket child → IsOpenAt g level bucket child
    → PassedDown g image (sought_in g.cells g id) level child
passed_down g image id level bucket None passed above at = passed
passed_down g image id level bucket (Some child) passed above at =
    (passed, subst (λ (c : ℕ). IsPassed image (sought_in g.cells g id) c) at.0 above)

-- and so it is in each image that extends this one
passed_down_on : (g : Layout) {old new : Image} (id : List ℕ) (level : Level) (child : Option ℕ) → Extends old new
    → PassedDown g old (sought_in g.cells g id) level child → PassedDown g new (sought_in g.cells g id) level child
passed_down_on g id level None e passed = passed_to_on e passed
passed_down_on g id level (Some child) e passed = (passed_to_on e passed.0, passed_on e passed.1)

module _ {id : List ℕ} {stamp : Option ℕ} {body : List ℕ} {old settled looked new : DeviceState} {r : Ready}
    {p : Plan} (n : ℕ)
    (layout : IsLayout r.volume.geometry) (first : Called old settled) (tells : IsTrue old.tells)
    (volume : IsVolume settled.cells settled.image r.volume.geometry) (later : Called looked new)
    (plan : IsPlanFor r id stamp body settled looked p)
    (carried : IsCarriedOut r.volume.geometry p r.horizon new.cells old.image looked.image new.sure) where
  abbrev g : Layout
  g = r.volume.geometry

  abbrev walk : HasWalked r id plan.has.place plan.has.level settled plan.has.walked looked
  walk = plan.has.ends

  abbrev walked : DeviceState
  walked = plan.has.walked

  told : IsTrue settled.tells
  told = subst IsTrue (sym first.tells) tells

  there : EndsThere g id (seen_directly settled 0) (seen_directly walked 0) plan.has.place plan.has.level
  there = walk.path.4 told

  cells_walked : walked.cells ≡ g.cells
  cells_walked = walk.called.cells ∙ sym volume.size

  cells_new : new.cells ≡ g.cells
  cells_new = later.cells ∙ walk.looked.cells ∙ cells_walked

  volume_new : IsVolume new.cells new.sure g
  volume_new = record {
    volume = (volume_on carried.stood (volume_on walk.looked.image (volume_on walk.called.image volume))).volume;
    size = sym cells_new;
  }

  -- the identifier's path is passed
  passed : PassedDown g new.sure (sought_in g.cells g id) plan.has.level plan.has.place.child
  passed =
      let up = subst (λ (c : ℕ). IsPassedUpToPlace g c walked.image id plan.has.place plan.has.level) cells_walked
      (there.passed volume) in
      passed_down_on g id plan.has.level plan.has.place.child (extends_then walk.looked.image carried.stood)
      (passed_down g walked.image id plan.has.level plan.has.place.bucket plan.has.place.child up.passed up.above
      walk.path.2)

  small : r.edge + plan.index.block_length ≤ 2 ^ 32
  small = omega (arith, plan.starts, plan.blocks, plan.suits.to, layout.cells)

  -- each planned cell stands
  planned_stands : Extends plan.has.planned.planned new.sure
  planned_stands = record {
    keeps = λ cell value is.
        let i = plan.has.planned.journal.is.all cell value is in
        let got : slice_get p.journal.now i.0 ≡ Some value =
        ap (λ (l : List (List ℕ)). slice_get l i.0) plan.journal ∙ i.2 in
        subst (λ (a : ℕ). new.sure a ≡ Some value) (copies_of plan.has.planned small cell value is)
        (carried.journal i.0 value got);
  }

  stands : Stands new.cells new.sure r.horizon id body
  stands = carried.document id body plan.document

  -- with its stamp
  stamped : IsStampOf g new.sure r.horizon stamp
  stamped = subst (λ (s : Option ℕ). IsStampOf g new.sure r.horizon s) plan.stamped carried.stamp

  -- which is past those that were there
  later_then : (given : Option ℕ) → IsLater g settled.image r.horizon given → IsLater g old.image r.horizon given
  later_then None later = tt
  later_then (Some seconds) later = λ m before below done has.
      later m before below (done_slot_on first.image first.image done) (holds_on first.image has)

  -- the document is kept
  kept : IsKept new.cells new.sure g (document_in r.horizon id body)
  kept = subst (λ (c : ℕ). IsKept c new.sure g (document_in r.horizon id body)) (sym cells_new)
      (plan.has.planned.keeps (subst IsTrue (sym walk.called.tells) told) id new.sure (sym walk.path.0) carried.stood
      planned_stands (omega (arith, plan.starts, plan.blocks, plan.suits.to))
      (subst (λ (c : ℕ). Stands c new.sure r.horizon id body) cells_new stands) stamped passed)

  -- and with it each that was kept before
  keeps : (documents : List Document) → Kept old.cells old.image documents
      → Kept new.cells new.sure (documents ++ document_in r.horizon id body ∷ [])
  keeps documents k =
      let same : new.cells ≡ old.cells = later.cells ∙ walk.looked.cells ∙ walk.called.cells ∙ first.cells in
      let volume_then : IsVolume new.cells new.sure k.layout =
      subst (λ (c : ℕ). IsVolume c new.sure k.layout) (sym same) (volume_on carried.synced k.volume) in
      let one : g ≡ k.layout = one_layout g k.layout volume_new volume_then in
      let last : Document = document_in r.horizon id body in
      record {
        layout = k.layout;
        volume = volume_then;
        each = λ d among. ⊎_elim
            (λ (old_one : Contains documents d).
            subst (λ (c : ℕ). IsKept c new.sure k.layout d) (sym same) (is_kept_on carried.synced (k.each d old_one)))
            (λ (new_one : Contains (last ∷ []) d).
            subst (λ (x : Document). IsKept new.cells new.sure k.layout x) (sym (only_one last d new_one))
            (subst (λ (l : Layout). IsKept new.cells new.sure l last) one kept))
            (Contains-append_cases documents (last ∷ []) d among);
      }

  pub is_ingested : n ≡ r.horizon → IsVolume new.cells new.image g → IsLastFree g old.image
      → IsIngested id stamp body n old new
  is_ingested slot volume_image free =
      subst (λ (m : ℕ). IsIngested id stamp body m old new) (sym slot)
      (record {
        layout = g;
        volume = volume_image;
        unused = carried.unused;
        blank = record {
          spare = carried.spare;
          start = p.start;
          count = (reserved_by p).length;
          reserves = carried.done.commits.reserves;
          blank = λ cell from below. carried.blank cell (record { from = from; below = below });
        };
        last_free = free;
        document = carried.document id body plan.document;
        stamped = stamped;
        later = later_then stamp (plan.has.past told);
        kept = kept;
        keeps = keeps;
        fresh = none_before first (there.none volume);
        synced = carried.synced;
      })
