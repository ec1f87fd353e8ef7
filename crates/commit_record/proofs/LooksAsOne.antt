-- What was found in a slot's cells, by looks one after another or in one row: between the first state of the view and the
-- last, as one look.
use Rattle.std.proofs.Common.{◌≡◌, ◌<◌, ◌≤◌, arith, ℕ, List, Option, None, Some, Ok, Err, refl, sym, ◌∙◌, subst}
use Rattle.std.specs.Prelude.{IsTrue}
use Rattle.cell_types.specs.Image.{Extends, Image, IsUnchanged}
use Rattle.cell_types.specs.Layout.{Layout, reserve_at, outcome_at, done_at, spare_at}
use Rattle.cell_types.specs.declared.refusal.Evidence.{Evidence}
use Rattle.cell_types.specs.declared.refusal.Fault.TheVariants.{Tampered}
use Rattle.worm_device.specs.Counts.{IsStill}
use Rattle.worm_device.specs.Views.{ViewState, Viewed, IsView}
use Rattle.worm_device.proofs.Images.{extends_self, extends_then}
use Rattle.worm_device.proofs.Resting.{rests_of, viewed_then}
use Rattle.worm_device.specs.Looks.{IsOfCell, IsSeen, LookEnds}
use Rattle.commit_record.specs.Partition.{HasRoom}
use Rattle.commit_record.specs.SlotCells.{CellsEnd, SeenCells, StampSeen, found_cell}
use Rattle.commit_record.specs.States.{AsksSlotBelow, StateLiesInPool, ShowsBroken, StateEnds}
use Rattle.worm_device.specs.declared.looks.Found.{Found}
use Rattle.worm_device.specs.declared.looks.Found.TheVariants.{Blank, Record, Stray}
use Rattle.commit_record.specs.declared.slot.SlotState.{SlotState}
use Rattle.commit_record.specs.declared.slot.SlotState.TheVariants.{Unused, Reserved, Abandoned, Committed, Done}
use Rattle.commit_record.proofs.Breaking.{breaks}
use Rattle.commit_record.proofs.CellsSeen.{seen_further, seen_same, stamp_further, stamp_same}

-- a state whose cells lie in the pool has room for its document and its journal
pub room : (g : Layout) (state : SlotState) → StateLiesInPool g state → HasRoom state
room g Unused lies = tt
room g (Reserved start length) lies = tt
room g (Abandoned start length) lies = tt
room g (Committed start length bytes journal) lies = (lies.1.3, lies.0.3)
room g (Done start length bytes journal) lies = (lies.1.3, lies.0.3)

-- a look at a cell, wherever its number comes from
pub look_at : (at number : ℕ) (old new : ViewState) (found : Found) → number ≡ at → LookEnds number old new
    (Ok found)
    → LookEnds at old new (Ok found)
look_at at number old new found e ends = subst (λ (n : ℕ). LookEnds n old new (Ok found)) e ends

-- a cell that was read before, and stands there now, is seen
pub seen_before : (n number : ℕ) (cell : List ℕ) (found : Found) (now : ViewState) → number ≡ reserve_at n
    → IsOfCell number found → found_cell found ≡ Some cell
    → (IsTrue now.base.tells → now.image (reserve_at n) ≡ Some cell) → IsTrue now.base.tells
    → IsSeen now.image now.image (reserve_at n) found
seen_before n number cell found now at of is stands tells =
    by_case found (subst (λ (k : ℕ). IsOfCell k found) at of) is (stands tells)
  where
    by_case : (f : Found) → IsOfCell (reserve_at n) f → found_cell f ≡ Some cell
        → now.image (reserve_at n) ≡ Some cell → IsSeen now.image now.image (reserve_at n) f
    by_case Blank of is stands = stands ∙ sym is
    by_case (Record other held) of is stands = (stands ∙ sym is, of)
    by_case (Stray other) of is stands = (stands ∙ sym is, of)

-- the looks at a slot's other cells behind its reserve cell, which stood before
module _ (g : Layout) (n : ℕ) (v1 v2 v3 v4 : ViewState) (reserve outcome done : Found) (stamp : Option Found)
    (two : Viewed v1 v2) (three : Viewed v2 v3) (four : Viewed v3 v4)
    (r : IsTrue v1.base.tells → IsSeen v1.image v1.image (reserve_at n) reserve)
    (o : LookEnds (outcome_at n) v1 v2 (Ok outcome)) (t : StampSeen g n v2 v3 (Ok stamp))
    (d : LookEnds (done_at n) v3 v4 (Ok done)) where
  pub looks_viewed : Viewed v1 v4
  looks_viewed = viewed_then two (viewed_then three four)

  pub looks_faults : v4.base.faults ≡ v1.base.faults
  looks_faults = d.1 ∙ (t.0 ∙ o.1)

  pub looks_seen : IsTrue v1.base.tells → SeenCells g n reserve outcome done stamp v1.image v4.image
  looks_seen tells =
      let tells_2 : IsTrue v2.base.tells = subst IsTrue (sym two.called.tells) tells in
      let tells_3 : IsTrue v3.base.tells = subst IsTrue (sym three.called.tells) tells_2 in
      let from_2 : Extends v2.image v4.image = extends_then three.image four.image in
      let to_3 : Extends v1.image v3.image = extends_then two.image three.image in (
        seen_further (reserve_at n) reserve (extends_self v1.image) looks_viewed.image (r tells),
        seen_further (outcome_at n) outcome two.image from_2 (o.2 tells),
        seen_further (done_at n) done (extends_then to_3 four.image) (extends_self v4.image) (d.2 tells_3),
        stamp_further g n stamp to_3 four.image (t.1 tells_2),
      )

-- what was found in a slot's cells between two states of the view
module _ (g : Layout) (n : ℕ) (old new : ViewState) (reserve outcome done : Found) (stamp : Option Found)
    (viewed : Viewed old new) (faults : new.base.faults ≡ old.base.faults)
    (seen : IsTrue old.base.tells → SeenCells g n reserve outcome done stamp old.image new.image) where
  -- in the last alone, where nobody else wrote
  seen_still : IsTrue old.base.tells → IsStill old.base.foreign_writes new.base.foreign_writes
      → SeenCells g n reserve outcome done stamp new.image new.image
  seen_still tells still =
      let same : IsUnchanged old.image new.image = (rests_of viewed).shown still in
      let s = seen tells in (
        seen_same old.image new.image new.image new.image (reserve_at n) reserve (same (reserve_at n)) refl s.0,
        seen_same old.image new.image new.image new.image (outcome_at n) outcome (same (outcome_at n)) refl s.1,
        seen_same old.image new.image new.image new.image (done_at n) done (same (done_at n)) refl s.2,
        stamp_same g old.image new.image new.image new.image n stamp (same (spare_at n)) refl s.3,
      )

  pub state_seen : (state : SlotState) → CellsEnd (SeenCells g n reserve outcome done stamp) g n (Ok state)
      → StateEnds g n old new (Ok state)
  state_seen state ends = (ends.0, faults, λ tells. ends.1 old.image new.image (seen tells))

  module _ (less : n < g.slots) (view : IsView new) (e : Evidence)
      (ends : CellsEnd (SeenCells g n reserve outcome done stamp) g n (Err e)) where
    -- in an image that has in the slot's cells what the view shows there
    shows_in : (image : Image) → IsTrue old.base.tells → image (reserve_at n) ≡ new.image (reserve_at n)
        → image (outcome_at n) ≡ new.image (outcome_at n) → image (done_at n) ≡ new.image (done_at n)
        → image (spare_at n) ≡ new.image (spare_at n) → ShowsBroken g old new image e
    shows_in image tells same_r same_o same_d same_t =
        let s = seen tells in
        let later : SeenCells g n reserve outcome done stamp old.image image = (
          seen_same old.image new.image old.image image (reserve_at n) reserve refl same_r s.0,
          seen_same old.image new.image old.image image (outcome_at n) outcome refl same_o s.1,
          seen_same old.image new.image old.image image (done_at n) done refl same_d s.2,
          stamp_same g old.image new.image old.image image n stamp refl same_t s.3,
        ) in
        let stands = (ends.1 old.image image later).0 in
        record {
          stands = stands;
          broken = λ still volume.
              let q = seen_still tells still in
              let there : SeenCells g n reserve outcome done stamp image image = (
                seen_same new.image new.image image image (reserve_at n) reserve same_r same_r q.0,
                seen_same new.image new.image image image (outcome_at n) outcome same_o same_o q.1,
                seen_same new.image new.image image image (done_at n) done same_d same_d q.2,
                stamp_same g new.image new.image image image n stamp same_t same_t q.3,
              ) in
              breaks new.cells g image n e.cell volume less (record { found = e.found; stands = stands }) e.rule
              (ends.1 image image there).1;
        }

    -- what stands below is what is shown, where it was asked for
    below_same : AsksSlotBelow n old → (at : ℕ) → old.planned at ≡ None → at ≤ spare_at n → new.lower at ≡ new.image at
    below_same asks at blank before =
        let planned : new.planned at ≡ None = subst (λ (p : Image). p at ≡ None) (sym viewed.planned) blank in
        let fresh : at < new.fresh = omega (arith, before, asks.fresh, viewed.fresh) in
        sym (view.below at planned fresh)

    pub tampered_seen : StateEnds g n old new (Err (Tampered e))
    tampered_seen = (
      ends.0,
      faults,
      λ tells. record {
        seen = (ends.1 old.image new.image (seen tells)).1;
        shown = shows_in new.image tells refl refl refl refl;
        below = λ asks. shows_in new.lower tells
            (below_same asks (reserve_at n) asks.reserve (omega arith))
            (below_same asks (outcome_at n) asks.outcome (omega arith))
            (below_same asks (done_at n) asks.done (omega arith))
            (below_same asks (spare_at n) asks.spare (omega arith));
      },
    )
