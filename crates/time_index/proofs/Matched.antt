-- The document of a posting, read; and a slot whose stamp does not rise, as evidence.
use Rattle.std.proofs.Common.{◌≡◌, ◌<◌, ◌≤◌, ◌+◌, ℕ, List, length, Option, Some, None, Result, Ok, Err, refl, sym, ap, inl, inr, subst, arith, ◌∙◌}
use Rattle.std.specs.Prelude.{IfSome, IsTrue}
use Rattle.std.proofs.lemmas.List.{length-append}
use Rattle.cell_types.specs.Image.{Image}
use Rattle.cell_types.specs.Layout.{Layout, TakesStamps, all_lists, spare_at}
use Rattle.cell_types.specs.Records.{record_bytes}
use Rattle.cell_types.specs.Refusals.{refusal_of_fault}
use Rattle.cell_types.specs.declared.record_cell.RecordCell.TheVariants.{Stamp}
use Rattle.cell_types.specs.declared.refusal.Fault.{Fault}
use Rattle.cell_types.specs.declared.refusal.Fault.TheVariants as faults
use Rattle.cell_types.specs.declared.refusal.Refusal.{Refusal}
use Rattle.cell_types.specs.declared.refusal.Refusal.TheVariants.{DeviceFault, NoMemory, Tampered}
use Rattle.volume_meaning.specs.Documents.{stored_bytes}
use Rattle.volume_meaning.specs.Slots.{HasStamp, cells_for}
use Rattle.volume_meaning.proofs.Extending.{holds_on}
use Rattle.volume_meaning.proofs.Holding.{one_record_holds}
use Rattle.tamper_rules.specs.Rules.{IsTrueStamp, StrayCells}
use Rattle.worm_device.specs.Views.{ViewState, Viewed}
use Rattle.worm_device.proofs.Resting.{viewed_self, viewed_then}
use Rattle.document_store.specs.Heads.{HasBody, id_of}
use Rattle.document_store.specs.Looks.{IsPartOf}
use Rattle.document_store.specs.Standing.{HoldsDocument}
use Rattle.document_store.specs.declared.head.Head.{Head}
use Rattle.document_store.specs.declared.part.Part.{Part}
use Rattle.document_store.proofs.Holding.{part_is_done, part_on, whole_is_held}
use Rattle.jump_block.specs.declared.held_entry.Entry.{Entry}
use Rattle.jump_index.specs.Searches.{IsEntryBehind}
use Rattle.jump_index.proofs.Telling.{told, told_before}
use Rattle.posting_list.specs.Searches.{IsFalsePosting, head_of, within}
use Rattle.posting_list.specs.declared.reach.Reach.{Reach}
use Rattle.posting_list.proofs.Evidence.{false_named}
use Rattle.time_index.specs.Matching.{IsEarlier, IsTimeMatchIn, MatchTimeEnds, OrderEnds, ReadPartEnds, ReadsMatch, ReadsPart, StampedPartEnds, TimeFault, stamp_breach}
use Rattle.time_index.specs.declared.found.TimeMatch.{TimeMatch}
use Rattle.time_index.specs.declared.matching.Stamped.{Stamped}
use Rattle.time_index.proofs.Parts.{look_fails, of_lists, time_later}

stamps : (a b : ℕ) → Stamp a ≡ Stamp b → a ≡ b
stamps a b same = cc

-- a slot has one stamp
pub one_stamp : (image : Image) (n a b : ℕ) → HasStamp image n a → HasStamp image n b → a ≡ b
one_stamp image n a b first second = stamps a b (one_record_holds image (spare_at n) (Stamp a) (Stamp b) first second)

-- a document was read
module _ (g : Layout) (part : Part) (seconds : ℕ) {old new : ViewState} (viewed : Viewed old new)
    (reads : new.base.reads ≤ old.base.reads + cells_for part.bytes)
    (is : IsTrue old.base.tells → IsPartOf g old.image part.slot part)
    (stamp : IsTrue old.base.tells → HasStamp old.image part.slot seconds) (h : Head)
    (has : HasBody new part.start part.bytes h) where
  stored_length : (id body : List ℕ) → length (stored_bytes id body) ≡ length id + length body + 1
  stored_length id body = omega (arith, length-append id body)

  held : (m : TimeMatch) → m.slot ≡ part.slot → m.identifier ≡ id_of h → m.seconds ≡ seconds
      → m.bytes ≡ h.body_length → IsTrue old.base.tells → IsTimeMatchIn g new.image m
  held m slot_is id_is seconds_is bytes_is tells = record {
    body = has.body;
    holds = subst (λ (n : ℕ). HoldsDocument g new.image n m.identifier has.body) (sym slot_is)
        (subst (λ (id : List ℕ). HoldsDocument g new.image part.slot id has.body) (sym id_is)
        (whole_is_held g new part.slot part (id_of h) has.body (told viewed tells)
        (part_on viewed.image (is tells)) has.whole));
    bytes_is = bytes_is ∙ sym has.is_length;
    stamp = subst (λ (n : ℕ). HasStamp new.image n m.seconds) (sym slot_is)
        (subst (λ (s : ℕ). HasStamp new.image part.slot s) (sym seconds_is)
        (holds_on viewed.image (stamp tells)));
  }

  pub was_read : (m : TimeMatch) → m.slot ≡ part.slot → m.identifier ≡ id_of h → m.seconds ≡ seconds
      → m.bytes ≡ h.body_length → ReadsPart g part seconds old new (Ok m)
  was_read m slot_is id_is seconds_is bytes_is = record {
    viewed = viewed;
    ends = record {
      slot_is = slot_is;
      seconds_is = seconds_is;
      is = held m slot_is id_is seconds_is bytes_is;
      reads = subst (λ (k : ℕ). new.base.reads ≤ old.base.reads + cells_for k) count reads;
    };
  }
    where
      count : part.bytes ≡ length m.identifier + m.bytes + 1
      count = has.whole.count ∙ stored_length (id_of h) has.body
          ∙ ap (λ (k : ℕ). length (id_of h) + k + 1) (has.is_length ∙ sym bytes_is)
          ∙ ap (λ (id : List ℕ). length id + m.bytes + 1) (sym id_is)

  -- no memory was to be had for its identifier
  pub was_wanted : ReadsPart g part seconds old new (Err NoMemory)
  was_wanted = record {
    viewed = viewed;
    ends = λ tells. record {
      wanted = wanted;
      slot_is = refl;
      seconds_is = refl;
      is = held wanted refl refl refl refl tells;
    };
  }
    where
      wanted : TimeMatch
      wanted = record { slot = part.slot; identifier = id_of h; seconds = seconds; bytes = h.body_length }

module _ (r : Reach) (e : Entry) (before : Option Stamped) where
  -- a fault of a search by time
  refuses : (old new : ViewState) (fault : Fault) → TimeFault r old new fault
      → MatchTimeEnds r e before old new (Err (refusal_of_fault fault))
  refuses old new faults.Failed fails = fails
  refuses old new (faults.Tampered f) fails = fails

  pub refused : {old new : ViewState} → Viewed old new → (fault : Fault) → TimeFault r old new fault
      → ReadsMatch r e before old new (Err (refusal_of_fault fault))
  refused {old} {new} viewed fault fails = record { viewed = viewed; ends = refuses old new fault fails }

  -- the posting is false
  pub is_false : {old new : ViewState} → TakesStamps r.volume.geometry → Viewed old new
      → (IsTrue old.base.tells
      → IsEntryBehind (within r) old.image (head_of r r.volume.geometry.lists) e)
      → StampedPartEnds r e old new (Ok None) → (fault : Fault) → IsFalsePosting e fault
      → ReadsMatch r e before old new (Err (refusal_of_fault fault))
  is_false {old} {new} stamped viewed behind none fault names = refused viewed fault
      (of_lists r old new viewed fault
      (false_named r r.volume.geometry.lists e less old old new (viewed_self old) viewed behind none fault names))
    where
      less : r.volume.geometry.lists < all_lists r.volume.geometry
      less = omega (arith, stamped)

  module _ {old mid : ViewState} (viewed : Viewed old mid) (part : Part)
      (found : StampedPartEnds r e old mid (Ok (Some part))) where
    -- the slot before it has a stamp that is less
    module _ (late : Stamped) (earlier : IsEarlier r.volume.geometry old e.key late) (below : part.slot < late.slot) where
      stands : IsTrue old.base.tells
          → mid.image (spare_at late.slot) ≡ Some (record_bytes (Stamp late.seconds) (spare_at late.slot))
      stands tells =
          let holds = holds_on viewed.image (earlier.stamp tells) in
          holds.stands ∙ ap (λ (c : List ℕ). Some c) holds.is.same

      rises_not : IsTrue old.base.tells → IsTrueStamp r.volume.geometry mid.image late.slot → ⊥
      rises_not tells true_stamp =
          let less = true_stamp.rises part.slot e.key below (part_is_done (found.4 tells).0) (found.4 tells).1 in
          let same = one_stamp mid.image late.slot true_stamp.seconds late.seconds true_stamp.stamp
          (holds_on viewed.image (earlier.stamp tells)) in
          omega (arith, less, same, earlier.less)

      is_late : TimeFault r old mid (stamp_breach late)
      is_late = (
        λ tells. record {
          rule = inr (inr refl);
          stands = stands tells;
          place = λ pool. (StrayCells, refl, inr (inl (late.slot, earlier.slot, refl)));
        },
        λ still tells. record {
          stands = stands (told_before viewed tells);
          broken = λ volume reach. record {
            layout = r.volume.geometry;
            volume = volume;
            rule = StrayCells;
            named = refl;
            place = inr (inl (late.slot, earlier.slot, refl));
            written = record {
              found = record_bytes (Stamp late.seconds) (spare_at late.slot);
              stands = stands (told_before viewed tells);
            };
            not_met = λ met. rises_not (told_before viewed tells) (met.spare late.slot earlier.slot refl);
          };
        },
      )

    module _ (earlier : IfSome before (IsEarlier r.volume.geometry old e.key)) where
      before_is : (late : Stamped) → before ≡ Some late → IsEarlier r.volume.geometry old e.key late
      before_is late same = subst (λ (b : Option Stamped). IfSome b (IsEarlier r.volume.geometry old e.key)) same earlier

      -- so it is evidence
      pub not_later : (fault : Fault) → OrderEnds before part.slot (Err fault)
          → ReadsMatch r e before old mid (Err (refusal_of_fault fault))
      not_later fault (late, same, below, names) = subst
          (λ (f : Fault). ReadsMatch r e before old mid (Err (refusal_of_fault f))) (sym names)
          (refused viewed (stamp_breach late) (is_late late (before_is late same) below))

      module _ (order : OrderEnds before part.slot (Ok tt)) {new : ViewState}
          (costs : mid.base.reads ≤ old.base.reads + 5) where
        behind_all : (b : Option Stamped) → IfSome b (IsEarlier r.volume.geometry old e.key)
            → IfSome b (λ c. c.slot ≤ part.slot) → (m : TimeMatch) → m.slot ≡ part.slot → m.seconds ≡ e.key
            → Viewed mid new → IsTrue old.base.tells → IsTimeMatchIn r.volume.geometry new.image m
            → IfSome b (λ c. c.slot < m.slot)
        behind_all None is le m slot_is seconds_is after tells there = tt
        behind_all (Some b) is le m slot_is seconds_is after tells there = by_slot b.slot refl
          where
            same_slot : b.slot ≡ m.slot → ⊥
            same_slot same =
                let was = holds_on after.image (holds_on viewed.image (is.stamp tells)) in
                let one = one_stamp new.image m.slot b.seconds m.seconds
                (subst (λ (n : ℕ). HasStamp new.image n b.seconds) same was) there.stamp in
                omega (arith, one, seconds_is, is.less)

            by_slot : (k : ℕ) → k ≡ b.slot → b.slot < m.slot
            by_slot k here = grind (arith, le, slot_is, same_slot)

        -- the document was read, or not
        pub part_read : (result : Result TimeMatch Refusal) → ReadsPart r.volume.geometry part e.key mid new result
            → ReadsMatch r e before old new result
        part_read result reads = record { viewed = viewed_then viewed reads.viewed; ends = by_result result reads.ends }
          where
            by_result : (result : Result TimeMatch Refusal) → ReadPartEnds r.volume.geometry part e.key mid new result
                → MatchTimeEnds r e before old new result
            by_result (Ok m) is = record {
              slot = omega (arith, is.slot_is, found.1);
              below = omega (arith, is.slot_is, found.5);
              seconds = is.seconds_is;
              slot_is = is.slot_is ∙ found.0;
              is = λ tells. is.is (told viewed tells);
              later = λ tells. behind_all before earlier order m is.slot_is is.seconds_is reads.viewed tells
                  (is.is (told viewed tells));
              reads = omega (arith, is.reads, costs);
            }
            by_result (Err NoMemory) is = λ tells. let w = is (told viewed tells) in record {
              wanted = w.wanted;
              is = w.is;
              below = omega (arith, w.slot_is, found.0, found.5);
              from_is = omega (arith, w.seconds_is);
              to_is = omega (arith, w.seconds_is);
            }
            by_result (Err DeviceFault) is = time_later r old mid new viewed reads.viewed faults.Failed
                (look_fails r part.slot mid new reads.viewed faults.Failed is)
            by_result (Err (Tampered f)) is = time_later r old mid new viewed reads.viewed (faults.Tampered f)
                (look_fails r part.slot mid new reads.viewed (faults.Tampered f) is)
            by_result (Err refusal) is = absurd is
