-- How many reads a look-up on a settled volume makes, where nobody else writes.
use Rattle.std.proofs.Common.{◌≡◌, ◌≤◌, ◌+◌, ◌∙◌, ℕ, List, Ok, refl, subst, arith}
use Rattle.std.specs.Prelude.{IsTrue, sum_by}
use Rattle.sha2.specs.Sha256.{sha256}
use Rattle.cell_types.specs.Image.{Image}
use Rattle.cell_types.specs.Layout.{Layout}
use Rattle.cell_types.specs.declared.record_cell.RecordCell.TheVariants.{Bucket}
use Rattle.volume_meaning.specs.Slots.{IsDone, IsDoneSlot, cells_for}
use Rattle.volume_meaning.specs.Volumes.{Holds, IsVolume}
use Rattle.volume_meaning.specs.HashPaths.{fingerprint_of, nibble}
use Rattle.volume_meaning.specs.Nodes.{IsOnPath}
use Rattle.tamper_rules.specs.Settling.{IsSettled, Settled}
use Rattle.tamper_rules.proofs.GivenUp.{one_layout}
use Rattle.worm_device.specs.Counts.{IsStill}
use Rattle.worm_device.specs.State.{DeviceState}
use Rattle.worm_device.specs.Views.{Viewed, seen_directly}
use Rattle.worm_device.proofs.Counting.{still_first}
use Rattle.worm_device.proofs.Elapsing.{called_then}
use Rattle.recovery_engine.specs.Settling.{Settles}
use Rattle.recovery_engine.specs.declared.settling.Ready.{Ready}
use Rattle.document_store.specs.Looks.{IsPartOf}
use Rattle.document_store.specs.declared.part.Part.{Part}
use Rattle.identifier_lookup.specs.Costs.{HaveMates, IsComparison, Mate, WalkCosts, cells_in, mate_cells}
use Rattle.identifier_lookup.specs.Walks.{IsFound}
use Rattle.identifier_lookup.proofs.Costing.{passed_is_way}
use Rattle.record_query.specs.Looking.{HasLooked}
use Rattle.record_query.specs.LookingUp.{LooksUpBriefly}
use Rattle.record_query.proofs.Looking.{is_ready, looked_from, looked_more, same_since, still_settling, tells_settled}
use Rattle.record_query.proofs.PathMates.{compared_within, one_within}
use Rattle.recovery_engine.proofs.OfSettled.{settled_same}

module _ (id : List ℕ) (r : Ready) (old settled mid : DeviceState) (s : Settles old settled (Ok r))
    (seen : Viewed (seen_directly settled 0) (seen_directly mid 0))
    (costs : WalkCosts r.volume.geometry id (seen_directly settled 0) (seen_directly mid 0)) (tells : IsTrue old.tells)
  where
    before : HasLooked r old settled mid
    before = looked_more (looked_from s) seen

    abbrev g : Layout
    g = r.volume.geometry

    module _ (entry : Settled old.cells old.image) (still : IsStill old.foreign_writes mid.foreign_writes)
        (mates : List Mate) (have : HaveMates entry.layout old.image id mates) where
      -- nothing has changed since entry
      settled_is : settled.image ≡ old.image
      settled_is = settled_same old settled tells (still_settling before still) entry (Ok r) s

      mid_is : mid.image ≡ old.image
      mid_is = same_since before still ∙ settled_is

      layout_is : entry.layout ≡ g
      layout_is = one_layout {cells = old.cells} {more = settled.cells} entry.layout g entry.volume
          (subst (λ (i : Image). IsVolume settled.cells i g) settled_is (is_ready before tells).volume)

      is_settled : IsSettled g old.image
      is_settled = subst (λ (h : Layout). IsSettled h old.image) layout_is entry.settled

      have_here : HaveMates g old.image id mates
      have_here = subst (λ (h : Layout). HaveMates h old.image id mates) layout_is have

      -- the documents that were compared are some of the mates
      compared : sum_by cells_in costs.comparisons ≤ mate_cells mates
      compared = compared_within g old.image id s.ends.0.layout is_settled costs.comparisons mates costs.fall
          (λ c among. subst (λ (i : Image). IsComparison g i id c) mid_is
          (costs.each (tells_settled before tells) (is_ready before tells).volume c among))
          have_here

      -- settling takes 64 reads, and the walk 512 besides
      walk_reads : mid.reads ≤ old.reads + 576 + mate_cells mates
      walk_reads = omega (arith, s.again tells entry (still_settling before still), costs.reads, compared)

      module _ (n : ℕ) (found : IsFound g id (seen_directly settled 0) (seen_directly mid 0) n) where
        -- the document that was found is one of them
        found_within : (d : IsDoneSlot g mid.image n) → cells_for d.bytes ≤ mate_cells mates
        found_within d =
            let first = found.first (is_ready before tells).volume in
            let size : mid.cells ≤ g.cells = omega (arith, (is_ready before tells).volume.size, seen.called.cells) in
            let way : IsOnPath g mid.image (sha256 id) first.level first.node =
            passed_is_way refl size first.passed in
            one_within g old.image id s.ends.0.layout is_settled mates first.level first.node n d.bytes
            (subst (λ (i : Image). IsOnPath g i (sha256 id) first.level first.node) mid_is way)
            (subst (λ (i : Image). Holds i (first.node + nibble (sha256 id) first.level)
            (Bucket n (fingerprint_of (sha256 id)))) mid_is first.bucket)
            have_here d.start d.length d.journal
            (subst (λ (i : Image). IsDone g i n d.start d.length d.bytes d.journal) mid_is d.done)

    -- a look-up that ends with its walk
    pub walked_briefly : LooksUpBriefly id old mid
    walked_briefly entry still mates have = omega (arith, walk_reads entry still mates have)

    -- or with the body of the document that was found
    pub put_briefly : (part : Part) → IsFound g id (seen_directly settled 0) (seen_directly mid 0) part.slot
        → IsPartOf g mid.image part.slot part → (new : DeviceState) → Viewed (seen_directly mid 0) (seen_directly new 0)
        → new.reads ≤ mid.reads + cells_for part.bytes → LooksUpBriefly id old new
    put_briefly part found is new viewed reads entry still mates have =
        let calm = still_first (called_then s.called seen.called).foreign_writes viewed.called.foreign_writes still in
        let d : IsDoneSlot g mid.image part.slot = record {
          start = is.first;
          length = is.reserved;
          bytes = part.bytes;
          journal = part.journal;
          done = is.done;
        } in
        omega (arith, walk_reads entry calm mates have, found_within entry calm mates have part.slot found d, reads)
