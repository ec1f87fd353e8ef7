-- Which cells an insertion plans.
use Rattle.std.proofs.Common.{◌≡◌, ◌≢◌, ◌<◌, ◌≤◌, ◌+◌, ◌⊎◌, ⊎_elim, inr, ℕ, Option, Some, None, Result, Ok, Err, refl, ap, sym, subst, arith, ◌∙◌}
use Rattle.std.specs.Prelude.{IsTrue}
use Rattle.cell_types.specs.Image.{Image}
use Rattle.cell_types.specs.declared.record_cell.RecordCell.{RecordCell}
use Rattle.std.proofs.lemmas.Option.{none-some}
use Rattle.volume_meaning.specs.Volumes.{Holds}
use Rattle.volume_meaning.proofs.Extending.{blank_before}
use Rattle.volume_meaning.specs.Blocks.{PostingFields, posting_record, pointer_at}
use Rattle.worm_device.specs.State.{DeviceState}
use Rattle.worm_device.specs.Views.{ViewState, Viewed}
use Rattle.worm_device.proofs.Counting.{still_first, still_second}
use Rattle.worm_device.proofs.Resting.{rests_of}
use Rattle.cell_pool.specs.Grants.{TakesFront}
use Rattle.cell_pool.specs.declared.pool.Pool.{Pool}
use Rattle.worm_device.specs.declared.owner.Owner.{Owner}
use Rattle.cell_pool.specs.declared.fault.GrowthFault.{GrowthFault}
use Rattle.jump_insertion.specs.Inserting.{IsPlannedInList, IsAsPlanned, PlansEntry, alone, with_pointer}
use Rattle.jump_insertion.specs.Placing.{HasPlanned, PlannedEnds}
use Rattle.jump_insertion.specs.Planning.{PutsRecord, PlansTwo}
use Rattle.jump_insertion.specs.Steps.{PlansCells, PutsWithPointer}
use Rattle.jump_insertion.specs.UnderWay.{IsHome}
use Rattle.jump_insertion.specs.declared.entries.Home.{Home}
use Rattle.jump_insertion.specs.declared.entries.Insertion.{Insertion}
use Rattle.jump_insertion.specs.declared.entries.Spot.{Spot}
use Rattle.jump_insertion.proofs.Placing.{IsTarget}

holds_as : {old new : Image} {at : ℕ} {r : RecordCell} → new at ≡ old at → Holds old at r → Holds new at r
holds_as same h = record { cell = h.cell; stands = same ∙ h.stands; is = h.is }

planned_before : {old mid : ViewState} → Viewed old mid → (cell : ℕ) → mid.planned cell ≡ old.planned cell
planned_before viewed cell = ap (λ (f : Image). f cell) viewed.planned

owners_before : {old mid : ViewState} → Viewed old mid → (cell : ℕ) → mid.owners cell ≡ old.owners cell
owners_before viewed cell = ap (λ (f : ℕ → Option Owner). f cell) viewed.owners

-- the device counts no other writes meanwhile
pub writes_on : {a b : DeviceState} → b ≡ a → a.foreign_writes ≤ b.foreign_writes
writes_on same = omega (arith, ap (λ (d : DeviceState). d.foreign_writes) same)

-- after reads
module _ (old mid new : ViewState) (viewed : Viewed old mid) (later : mid.base.foreign_writes ≤ new.base.foreign_writes)
  where
    planned_for_then : {head floor at : ℕ} {r : RecordCell} → IsPlannedInList head floor r at mid new
        → IsPlannedInList head floor r at old new
    planned_for_then {at = at} h = record {
      free = sym (planned_before viewed at) ∙ h.free;
      blank = λ tells. blank_before viewed.image (h.blank (subst IsTrue (sym viewed.called.tells) tells));
      shown = h.shown;
      held = h.held;
      block = h.block;
      for_whom = h.for_whom;
      from = h.from;
      to = h.to;
      where_blocks_lie = h.where_blocks_lie;
    }

    as_planned_then : {cell : ℕ} → IsAsPlanned mid new cell → IsAsPlanned old new cell
    as_planned_then {cell} h = record {
      planned = h.planned ∙ planned_before viewed cell;
      owners = h.owners ∙ owners_before viewed cell;
      shown = λ still.
          h.shown (still_second viewed.called.foreign_writes later still)
          ∙ (rests_of viewed).shown (still_first viewed.called.foreign_writes later still) cell;
    }

    plans_then : {head floor next to at : ℕ} {p : PostingFields} → PlansEntry head floor next to p at mid new
        → PlansEntry head floor next to p at old new
    plans_then (alone posting others same) =
        alone (planned_for_then posting) (λ c differ. as_planned_then (others c differ)) same
    plans_then (with_pointer pointer target posting jump apart others taken) =
        with_pointer pointer target (planned_for_then posting) (planned_for_then jump) apart
        (λ c differ also. as_planned_then (others c differ also)) taken

    pub has_planned_then : (head floor next to : ℕ) (p : PostingFields) (result : Result (Option Spot) GrowthFault)
        → PlannedEnds head floor next to p mid new result → PlannedEnds head floor next to p old new result
    has_planned_then head floor next to p (Ok (Some spot)) h = record {
      in_places = h.in_places;
      before = h.before;
      planned = plans_then h.planned;
      free = h.free;
    }
    has_planned_then head floor next to p (Ok None) h = tt
    has_planned_then head floor next to p (Err fault) h = tt

-- the posting alone
pub planned_alone : (head floor to : ℕ) (p : PostingFields) (old new : ViewState) (spot : Spot) → spot.place < 128
    → spot.block + 256 ≤ to → (spot.block ≡ head) ⊎ (floor ≤ spot.block)
    → (IsTrue old.base.tells → old.image (spot.block + spot.place) ≡ None)
    → ((cell : ℕ) → to ≤ cell → old.planned cell ≡ None)
    → PutsRecord (spot.block + spot.place) (posting_record p) (record { head = head; base = spot.block }) old new
    (Ok tt)
    → HasPlanned head floor to to p spot old new
planned_alone head floor to p old new spot in_places before lies blank free put = record {
  in_places = in_places;
  before = before;
  planned = alone
      (record {
        free = put.ends.free;
        blank = blank;
        shown = put.ends.shown;
        held = put.ends.planned;
        block = spot.block;
        for_whom = put.ends.for_whom;
        from = omega arith;
        to = omega (arith, in_places);
        where_blocks_lie = lies;
      })
      (λ c differ. record {
        planned = (put.others c differ).1;
        owners = (put.others c differ).2;
        shown = λ still. (put.others c differ).0;
      })
      refl;
  free = λ c past.
      (put.others c (λ (e : c ≡ spot.block + spot.place). omega (arith, e, past, before, in_places))).1 ∙ free c past;
}

-- the posting and a pointer to its block
module _ (pool : Pool) (i : Insertion) (full : Home) (to : ℕ) (old mid new : ViewState) (spot : Spot)
    (home : IsHome old pool i full) (target : IsTarget mid i pool.next to full.visit.block spot) (viewed : Viewed old mid)
    (taken : (to ≡ pool.next) ⊎ ((spot.block ≡ pool.next) × (to ≡ pool.next + 256))) where
  -- the posting's place was blank at first
  blank : IsTrue old.base.tells → old.image (spot.block + spot.place) ≡ None
  blank tells = blank_before viewed.image (target.told (subst IsTrue (sym viewed.called.tells) tells)).blank

  module _ (two : PlansTwo spot (pointer_at full.visit.block full.to.level full.to.digit) i.entry
      (record { head = i.list.head; base = spot.block }) (record { head = i.list.head; base = full.visit.block }) mid new)
      (base : new.base ≡ mid.base) where
    later : mid.base.foreign_writes ≤ new.base.foreign_writes
    later = writes_on base

    -- the posting was planned first, and the pointer's cell was not planned then
    differ : spot.block + spot.place ≢ pointer_at full.visit.block full.to.level full.to.digit
    differ e = none-some two.posting.ends.planned.cell
        (sym two.jump.ends.free ∙ ap two.mid.planned (sym e) ∙ two.posting.ends.planned.stands)

    as_planned : (cell : ℕ) → cell ≢ spot.block + spot.place
        → cell ≢ pointer_at full.visit.block full.to.level full.to.digit → IsAsPlanned old new cell
    as_planned cell not_at not_pointer =
        let led = two.jump.others cell not_pointer in
        let put = two.posting.others cell not_at in
        record {
          planned = led.1 ∙ put.1 ∙ planned_before viewed cell;
          owners = led.2 ∙ put.2 ∙ owners_before viewed cell;
          shown = λ still.
              led.0 ∙ put.0 ∙ (rests_of viewed).shown (still_first viewed.called.foreign_writes later still) cell;
        }

    has_both : HasPlanned i.list.head i.list.floor pool.next to i.entry spot old new
    has_both =
        let pointer : ℕ = pointer_at full.visit.block full.to.level full.to.digit in
        let led = two.jump.others (spot.block + spot.place) differ in
        let put = two.posting.others pointer (λ e. differ (sym e)) in
        record {
          in_places = target.in_places;
          before = target.inside;
          planned = with_pointer pointer spot.block
              (record {
                free = sym (planned_before viewed (spot.block + spot.place)) ∙ two.posting.ends.free;
                blank = blank;
                shown = holds_as led.0 two.posting.ends.shown;
                held = holds_as led.1 two.posting.ends.planned;
                block = spot.block;
                for_whom = led.2 ∙ two.posting.ends.for_whom;
                from = omega arith;
                to = omega (arith, target.in_places);
                where_blocks_lie = inr target.from;
              })
              (record {
                free = sym (planned_before viewed pointer) ∙ sym put.1 ∙ two.jump.ends.free;
                blank = home.blank;
                shown = two.jump.ends.shown;
                held = two.jump.ends.planned;
                block = full.visit.block;
                for_whom = two.jump.ends.for_whom;
                from = omega arith;
                to = omega (arith, home.span.levels, home.span.digits);
                where_blocks_lie = home.visit.lies;
              })
              (λ e. differ (sym e)) as_planned taken;
          free = λ cell past.
              (as_planned cell
              (λ (e : cell ≡ spot.block + spot.place). omega (arith, e, past, target.inside, target.in_places))
              (λ (e : cell ≡ pointer_at full.visit.block full.to.level full.to.digit). omega (
                arith,
                e,
                past,
                home.visit.before,
                target.more,
                home.span.levels,
                home.span.digits,
              ))).planned
              ∙ home.visit.posting.free cell (omega (arith, past, target.more));
        }

  pub planned_both : (result : Result (Option Spot) GrowthFault) → PutsWithPointer i full spot mid new result
      → PlansCells i pool.next to old new result
  planned_both (Ok (Some found)) both =
      let P : Spot → Type 0 = λ x.
      HasPlanned i.list.head i.list.floor pool.next to i.entry x old new in
      subst P (sym both.ends.0) (has_both both.ends.1 both.base)
  planned_both (Ok None) both = tt
  planned_both (Err fault) both = tt

-- how far the pool is, after one block or none
pub pool_next : (old new : Pool) → (new ≡ old) ⊎ TakesFront old new 256 old.next → old.next ≤ new.next
pool_next old new ends = ⊎_elim
    (λ (same : new ≡ old). let h : new.next ≡ old.next = ap (λ (x : Pool). x.next) same in omega (arith, h))
    (λ (taken : TakesFront old new 256 old.next). omega (arith, taken.next))
    ends
