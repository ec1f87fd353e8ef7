-- The document of a posting's slot: where it lies, and what is evidence.
use Rattle.std.proofs.Common.{◌≡◌, ◌<◌, ◌≤◌, ◌^◌, min, ℕ, [], ◌∷◌, Option, Some, None, Ok, Err, sym, ap, inl, inr, ⊎_elim, subst, arith, ◌∙◌}
use Rattle.std.specs.Prelude.{IsTrue}
use Rattle.byteorder.specs.Numbers.{big_number-reads_back}
use Rattle.cell_types.specs.Image.{Image}
use Rattle.cell_types.specs.Layout.{IsLayout, Layout, spare_at}
use Rattle.cell_types.specs.declared.record_cell.RecordCell.TheVariants.{Stamp}
use Rattle.cell_types.specs.declared.refusal.Evidence.{Evidence}
use Rattle.cell_types.specs.declared.refusal.Fault.{Fault}
use Rattle.cell_types.specs.declared.refusal.Fault.TheVariants as faults
use Rattle.volume_meaning.specs.Blocks.{PostingFields}
use Rattle.volume_meaning.specs.Postings.{IsWordPosting, time_posting}
use Rattle.volume_meaning.specs.Slots.{HasStamp, IsDoneSlot, IsEdge, IsLive, IsStampOf}
use Rattle.volume_meaning.proofs.Holding.{one_record_holds}
use Rattle.tamper_rules.specs.Rules.{IsTruePosting}
use Rattle.tamper_rules.proofs.Images.{same_image}
use Rattle.worm_device.specs.Views.{ViewState, Viewed}
use Rattle.worm_device.specs.declared.device.Failed.{Failed}
use Rattle.worm_device.proofs.Counting.{still_second}
use Rattle.worm_device.proofs.Resting.{rests_of}
use Rattle.commit_record.specs.Stamps.{IsStampOrNone, ReadsStamp}
use Rattle.document_store.specs.Looks.{IsPartOf, LookFails, NamesDocument, PartEnds, of_document, of_state}
use Rattle.document_store.specs.declared.part.Part.{Part}
use Rattle.document_store.proofs.Holding.{part_on}
use Rattle.identifier_lookup.specs.Walks.{IsPathLicensed}
use Rattle.identifier_lookup.proofs.Licence.{names_licensed}
use Rattle.jump_block.specs.Entries.{posting_of}
use Rattle.jump_block.specs.declared.held_entry.Entry.{Entry}
use Rattle.jump_index.proofs.Telling.{told, told_before}
use Rattle.posting_list.specs.Naming.{FaultSays, IsReachOf}
use Rattle.posting_list.specs.declared.reach.Reach.{Reach}
use Rattle.posting_list.proofs.Evidence.{live_not, state_rule}
use Rattle.time_index.specs.Matching.{IsTimeRule, StampedPartEnds, TimeFault}
use Rattle.time_index.specs.Postings.{slot_named}

-- a fault of lists is one of a search by time
pub of_lists : (r : Reach) (old new : ViewState) → Viewed old new → (fault : Fault) → FaultSays r old new fault
    → TimeFault r old new fault
of_lists r old new viewed faults.Failed says = says
of_lists r old new viewed (faults.Tampered e) says = (
  λ tells. let named = says.0 (told viewed tells) in
      record { rule = inl named.rule; stands = named.stands; place = named.place },
  says.1,
)

-- a fault of a later call is one of a longer row of calls
pub time_later : (r : Reach) (old mid new : ViewState) → Viewed old mid → Viewed mid new → (fault : Fault)
    → TimeFault r mid new fault → TimeFault r old new fault
time_later r old mid new first second faults.Failed says = omega (arith, first.called.faults, says)
time_later r old mid new first second (faults.Tampered e) says = (
  λ tells. says.0 (told first tells),
  λ still. says.1 (still_second first.called.foreign_writes second.called.foreign_writes still),
)

-- how far the image is filled ends at an edge
edge_of : (r : Reach) (image : Image) → IsReachOf r image → IsEdge r.volume.geometry image image r.bounds.edge
edge_of r image reach = record {
  u = r.horizon;
  most = reach.horizon.most;
  free = reach.horizon.free;
  ends = reach.edge;
}

-- a look at a slot that fails
module _ (r : Reach) (n : ℕ) (old new : ViewState) (viewed : Viewed old new) where
  named_rule : (e : Evidence) → NamesDocument r.volume.geometry n old new e → IsTimeRule e.rule
  named_rule e (of_state out) = inl (state_rule out.seen)
  named_rule e (of_document broken) = inr (inl broken.rule)

  pub look_fails : (fault : Fault) → LookFails r.volume.geometry n old new fault → TimeFault r old new fault
  look_fails faults.Failed fails = fails
  look_fails (faults.Tampered e) fails = (
    λ tells. record {
      rule = named_rule e (fails.2 tells);
      stands = (licensed tells).stands;
      place = λ pool. fails.0;
    },
    λ still tells. record {
      stands = (licensed (told_before viewed tells)).stands;
      broken = λ volume reach. (licensed (told_before viewed tells)).broken still volume reach.horizon
          (edge_of r new.image reach);
    },
  )
    where
      licensed : IsTrue old.base.tells → IsPathLicensed r.volume.geometry r.horizon r.bounds.edge old new e
      licensed tells = names_licensed r.volume.geometry r.horizon r.bounds.edge n old new e viewed (fails.2 tells)

-- the slot that a time posting names
pub slot_of_time : (n seconds : ℕ) → n < 2 ^ 32 → slot_named (time_posting n seconds) ≡ n
slot_of_time n seconds small = big_number-reads_back 4 n (0 ∷ 0 ∷ []) small

-- a true posting of the time list names a live slot with its stamp
module _ (g : Layout) (layout : IsLayout g) (image : Image) (p : PostingFields) (t : IsTruePosting g image g.lists p) where
  record IsTimeOf : Type 0 where
    slot_is : t.slot ≡ slot_named p
    stamp : HasStamp image t.slot p.key

  by_stamp : (seconds : ℕ) → t.stamp ≡ Some seconds → p ≡ time_posting t.slot seconds → IsTimeOf
  by_stamp seconds given is = record {
    slot_is = sym (ap slot_named is ∙ slot_of_time t.slot seconds (omega (arith, t.live.slot, layout.slots)));
    stamp = subst (λ (k : ℕ). HasStamp image t.slot k) (sym (ap (λ (q : PostingFields). q.key) is))
        (subst (λ (s : Option ℕ). IsStampOf g image t.slot s) given t.is_stamp).1;
  }

  of_time : IsTimeOf
  of_time = ⊎_elim
      (λ (word : IsWordPosting g t.body t.slot g.lists p). absurd (omega (arith, word.list)))
      (λ (time : (seconds : ℕ) × (t.stamp ≡ Some seconds) × (g.lists ≡ g.lists) × (p ≡ time_posting t.slot seconds)).
      by_stamp time.0 time.1 time.3)
      t.is

  pub live_named : IsLive g image (slot_named p)
  live_named = subst (λ (n : ℕ). IsLive g image n) of_time.slot_is t.live

  pub stamp_named : HasStamp image (slot_named p) p.key
  stamp_named = subst (λ (n : ℕ). HasStamp image n p.key) of_time.slot_is of_time.stamp

module _ (r : Reach) (e : Entry) (layout : IsLayout r.volume.geometry) where
  -- a slot at or past the horizon, or one that the volume does not have
  pub no_slot : (s : ViewState) → min r.horizon r.volume.geometry.slots ≤ slot_named (posting_of e)
      → StampedPartEnds r e s s (Ok None)
  no_slot s past = λ still tells horizon t. (live_not r (slot_named (posting_of e)) s past).ends tells still horizon
      (live_named r.volume.geometry layout s.image (posting_of e) t)

  -- one that is not done
  pub not_done : (old new : ViewState) → Viewed old new
      → PartEnds r.volume.geometry (slot_named (posting_of e)) old new (Ok None) → StampedPartEnds r e old new (Ok None)
  not_done old new viewed ends = λ still tells horizon t.
      let live = live_named r.volume.geometry layout new.image (posting_of e) t in
      (ends.1 (told_before viewed tells)).undone
      (subst (λ (image : Image). IsDoneSlot r.volume.geometry image (slot_named (posting_of e)))
      (same_image ((rests_of viewed).shown still)) live.done)

  module _ (old mid new : ViewState) (first : Viewed old mid) (part : Part)
      (is : PartEnds r.volume.geometry (slot_named (posting_of e)) old mid (Ok (Some part))) where
    -- its stamp could not be read
    pub unread : (failed : Failed) → ReadsStamp (slot_named (posting_of e)) mid new (Err failed)
        → StampedPartEnds r e old new (Err faults.Failed)
    unread failed reads = omega (arith, reads.ends, is.2)

    stamps : (a b : ℕ) → Stamp a ≡ Stamp b → a ≡ b
    stamps a b same = cc

    -- it has another stamp
    pub other_stamp : (stamp : Option ℕ) → ReadsStamp (slot_named (posting_of e)) mid new (Ok stamp)
        → (stamp ≡ Some e.key → ⊥) → StampedPartEnds r e old new (Ok None)
    other_stamp stamp reads differs = λ still tells horizon t.
        by_stamp stamp (reads.ends.1 (told_before reads.viewed tells)) differs
        (stamp_named r.volume.geometry layout new.image (posting_of e) t)
      where
        by_stamp : (stamp : Option ℕ) → IsStampOrNone new.image (slot_named (posting_of e)) stamp
            → (stamp ≡ Some e.key → ⊥) → HasStamp new.image (slot_named (posting_of e)) e.key → ⊥
        by_stamp None none differs has = none e.key has
        by_stamp (Some other) there differs has = differs (ap Some (stamps other e.key
            (one_record_holds new.image (spare_at (slot_named (posting_of e))) (Stamp other) (Stamp e.key) there has)))

    -- it has this one
    pub its_stamp : slot_named (posting_of e) < r.volume.geometry.slots → slot_named (posting_of e) < r.horizon
        → ReadsStamp (slot_named (posting_of e)) mid new (Ok (Some e.key)) → StampedPartEnds r e old new (Ok (Some part))
    its_stamp less below reads = (
      is.0,
      omega (arith, is.0, less),
      is.1,
      is.4,
      λ tells. (
        part_on reads.viewed.image
            (subst (λ (n : ℕ). IsPartOf r.volume.geometry mid.image n part) (sym is.0) (is.3 tells)),
        subst (λ (n : ℕ). HasStamp new.image n e.key) (sym is.0) (reads.ends.1 (told first tells)),
      ),
      omega (arith, is.0, below),
    )
