-- A volume was copied, or it was not.
use Rattle.std.proofs.Common.{◌≡◌, ◌≤◌, ◌∙◌, ℕ, List, Result, Ok, Err, inl, ⊎_elim, refl, sym, ap, subst, arith, length}
use Rattle.std.specs.Prelude.{IsTrue}
use Rattle.std.specs.Global.{Vec}
use Rattle.std.proofs.lemmas.List.{take_all}
use Rattle.cell_types.specs.Image.{Image}
use Rattle.cell_types.specs.Layout.{Layout}
use Rattle.cell_types.specs.declared.refusal.CopyRefusal.{CopyRefusal}
use Rattle.cell_types.specs.declared.refusal.CopyRefusal.TheVariants as copies
use Rattle.cell_types.specs.declared.refusal.Refusal.{Refusal}
use Rattle.cell_types.specs.declared.refusal.Refusal.TheVariants as refusals
use Rattle.volume_meaning.specs.Documents.{AreDocuments, Document, Stands}
use Rattle.volume_meaning.specs.Slots.{IsDoneSlot}
use Rattle.volume_meaning.specs.Volumes.{IsVolume}
use Rattle.volume_meaning.proofs.Extending.{stands_on, volume_on}
use Rattle.volume_meaning.specs.Keeping.{IsKept, Kept}
use Rattle.volume_meaning.proofs.KeepingLaws.{documents}
use Rattle.tamper_rules.specs.Settling.{Settled, Sound}
use Rattle.tamper_rules.proofs.Between.{volume_of}
use Rattle.tamper_rules.proofs.DocumentLists.{documents_exist, only_one}
use Rattle.tamper_rules.proofs.GivenUp.{one_layout}
use Rattle.tamper_rules.proofs.Images.{same_image}
use Rattle.tamper_rules.proofs.Keeps.{keeps_all}
use Rattle.worm_device.specs.Calls.{Called}
use Rattle.worm_device.specs.Counts.{IsStill}
use Rattle.worm_device.specs.State.{DeviceState, IsDevice, LeftSince}
use Rattle.worm_device.proofs.Counting.{still_first, still_second}
use Rattle.worm_device.proofs.Elapsing.{called_self, called_then}
use Rattle.ingest_engine.specs.Ingesting.{document_in}
use Rattle.crash_laws.specs.SettlingSteadiness.{IsSteady}
use Rattle.volume_copy.specs.Adding.{AddsRest, RestFails}
use Rattle.volume_copy.specs.Auditing.{AuditsSteady, HasAudited, IsWholeVolume, RefusesVolume, by_reading, done_of}
use Rattle.volume_copy.specs.Beginning.{BeginEnds, BeginsCopy}
use Rattle.volume_copy.specs.Alone.{AreAlone}
use Rattle.volume_copy.specs.Copies.{Copies, CopiesWhole, CopyEnds, HasCopied, HasNumbers, IsFirstThroughout, IsKeptThere, IsOfTarget, KeepsAll, RefusesTo, by_format, by_ingest, by_look, by_volume}
use Rattle.volume_copy.specs.Completing.{IsForRoom, IsCopyUnhindered}
use Rattle.volume_copy.specs.First.{HoldsFirst, IsSourceImage, StaysFirst}
use Rattle.volume_copy.specs.Pairs.{AnsweredHold, ArePairs, CopiedSoFar, LeavesNoneOut}
use Rattle.volume_copy.specs.Reading.{IsOnlyRead, RiseFrom}
use Rattle.volume_copy.specs.Refusing.{refusal_from}
use Rattle.volume_copy.specs.Staying.{IsHeldThroughout}
use Rattle.volume_copy.specs.declared.audited.AuditedVolume.{AuditedVolume}
use Rattle.volume_copy.specs.declared.moved.Moved.{Moved}
use Rattle.volume_copy.proofs.AddedOn.{alone_first, alone_second, can_on, read_none, read_then, whole_on}
use Rattle.volume_copy.proofs.Begun.{can_audited}
use Rattle.volume_copy.proofs.First.{first_of_held, first_since, first_then}
use Rattle.volume_copy.proofs.PairLists.{HasPair, all_first, pair_for, pairs_have, pairs_long, slots_length, stands_there}
use Rattle.volume_copy.proofs.Stayed.{held_then, read_held, sound_of, sound_self, sound_then}
use Rattle.volume_copy.proofs.WholeVolumes.{reading_later, stands_among}

-- the source was not audited
pub not_audited : (slots lists : ℕ) (from from' to : DeviceState) (refusal : Refusal) → Called from from' → IsDevice to
    → IsHeldThroughout from from' → AuditsSteady from from' (Err refusal) → RefusesVolume from from' refusal
    → Copies slots lists from from' to to (Err (refusal_from refusal))
not_audited slots lists from from' to refusal called device held audits refuses = record {
  from_called = called;
  to_called = called_self to;
  from_held = held;
  to_sound = sound_self to;
  to_first = λ alone steady source is holds. first_since to device steady holds (λ since image le left. inl left);
  same = tt;
  left_out = tt;
  in_order = tt;
  untouched = λ other. read_held device device (read_none to);
  complete = λ free. subst (λ (r : Refusal). IsForRoom (refusal_from r)) (sym (audited free)) tt;
  ends = go refusal refuses;
}
  where
    audited : IsCopyUnhindered from from' to to → refusal ≡ refusals.NoMemory
    audited free =
        let v = volume_of free.from_sound.is in
        audits v.0 (record {
          tells = free.alone.from_tells;
          volume = v.1;
          is = free.from_steady;
          alone = free.alone.from_alone;
          no_fault = free.unfailed.from_unfailed;
        }) refusal refl

    go : (r : Refusal) → RefusesVolume from from' r → CopyEnds slots lists from from' to to (Err (refusal_from r))
    go refusals.NoMemory x = tt
    go r x = x

-- all of the source has its pair
module _ {slots lists : ℕ} {from from' to' : DeviceState} {done : List ℕ} (moved : List Moved) (called : Called from from')
    (so : CopiedSoFar from' to' moved) (whole : IsWholeVolume from' done) (all : length done ≤ length moved)
    (numbers : HasNumbers slots lists so.agree.from_layout so.agree.to_layout) where
  abbrev g : Layout
  g = so.agree.from_layout

  abbrev h : Layout
  h = so.agree.to_layout

  same_sure : to'.sure ≡ to'.image
  same_sure = same_image so.sure

  pairs : ArePairs g h from'.image to'.image so.agree.target moved so.agree.source
  pairs = subst (λ (l : List Document). ArePairs g h from'.image to'.image l moved so.agree.source)
      (take_all (length moved) so.agree.target (omega (arith, so.all))) so.agree.pairs

  count : length so.agree.source ≡ length done
  count = sym (slots_length so.agree.source) ∙ ap (λ (l : List ℕ). length l) (whole.slots so.agree.source so.agree.those)

  these : AreDocuments to'.cells to'.sure so.agree.target
  these = subst (λ (i : Image). AreDocuments to'.cells i so.agree.target) (sym same_sure) so.agree.these

  settled : Settled to'.cells to'.sure
  settled = subst (λ (i : Image). Settled to'.cells i) (sym same_sure) so.settled

  copies_whole : CopiesWhole slots lists from' to' moved
  copies_whole = record {
    from_layout = g;
    to_layout = h;
    from_volume = so.agree.from_volume;
    to_volume = subst (λ (i : Image). IsVolume to'.cells i h) (sym same_sure) so.agree.to_volume;
    numbers = numbers;
    from_settled = whole.settled;
    settled = settled;
    sure = so.sure;
    source = so.agree.source;
    target = so.agree.target;
    those = so.agree.those;
    these = these;
    whole =
        let long = pairs_long g h from'.image to'.image so.agree.target moved so.agree.source pairs in
        omega (arith, long.0, long.1, count, all);
    pairs = subst (λ (i : Image). ArePairs g h from'.image i so.agree.target moved so.agree.source) (sym same_sure)
        pairs;
  }

  all_kept : Kept to'.cells to'.sure so.agree.target
  all_kept = keeps_all to'.cells to'.sure so.agree.target settled these

  kept_there : (d : Document) → HasPair g h from'.image to'.image so.agree.target moved d → IsKeptThere to' moved d
  kept_there d has = record {
    pair = has.pair;
    among = has.pair_in;
    old_is = has.old_is;
    kept = record {
      layout = all_kept.layout;
      volume = all_kept.volume;
      each = λ x among. subst (λ (y : Document). IsKept to'.cells to'.sure all_kept.layout y)
          (documents has.e (document_in has.pair.new d.id d.body) (sym has.new_is) has.same.id has.same.body
          ∙ sym (only_one (document_in has.pair.new d.id d.body) x among))
          (all_kept.each has.e has.e_in);
    };
  }

  keeps : KeepsAll from to' moved
  keeps held kept d among =
      let stands = stands_on called.image (kept.each d among).stands in
      let there = stands_among from'.cells from'.image whole.settled so.agree.source so.agree.those d.slot d.id d.body
      (subst (λ (k : ℕ). Stands k from'.image d.slot d.id d.body)
      (sym called.cells) stands) in
      kept_there d (pairs_have g h from'.image to'.image so.agree.target moved so.agree.source d pairs
      (omega (arith, count, all)) there)

  pub has_copied : HasCopied slots lists from from' to' moved
  has_copied = record { keeps = keeps; whole = copies_whole }

-- the image of the source that is meant is the one at exit
source_now : {source : AuditedVolume} {from audited new x y : DeviceState} → HasAudited from audited source
    → IsOnlyRead audited new → AreAlone from new x y → (image : Image) → IsSourceImage from new image → image ≡ new.image
source_now {source} {from} {audited} {new} audit read alone image is = ⊎_elim
    (λ (here : image ≡ new.image). here)
    (λ (entry : (sound : Sound from.cells from.image) × (image ≡ sound.after)).
    entry.1
    ∙ sym (audit.settles alone.from_tells
    (still_first audit.called.foreign_writes read.called.foreign_writes alone.from_alone) entry.0)
    ∙ sym (same_image (read.only
    (still_second audit.called.foreign_writes read.called.foreign_writes alone.from_alone))))
    is

-- what is said of that one is said of this
first_as : (from' to to' : DeviceState) {image : Image} → image ≡ from'.image
    → (HoldsFirst from'.cells from'.image to.cells to.image → (left : Image) → LeftSince to' to.moment left
    → HoldsFirst from'.cells from'.image to.cells left)
    → HoldsFirst from'.cells image to.cells to.image → (left : Image) → LeftSince to' to.moment left
    → HoldsFirst from'.cells image to.cells left
first_as from' to to' same first = subst
    (λ (i : Image). HoldsFirst from'.cells i to.cells to.image → (left : Image) → LeftSince to' to.moment left
    → HoldsFirst from'.cells i to.cells left) (sym same) first

-- why the target is not written, from an earlier state of the source on
refuses_from : {slots lists : ℕ} {from mid from' old new : DeviceState} {refusal : Refusal}
    → (AreAlone from from' old new → AreAlone mid from' old new) → RefusesTo slots lists mid from' old new refusal
    → RefusesTo slots lists from from' old new refusal
refuses_from behind (by_look is rose) = by_look is rose
refuses_from behind (by_format between version called blank of_version formats) =
    by_format between version called blank of_version formats
refuses_from behind (by_volume between called refuses) = by_volume between called refuses
refuses_from behind (by_ingest between id stamp body called of_source next ingests) =
    by_ingest between id stamp body called of_source (λ alone. next (behind alone)) ingests

-- the source is whole behind its audit
whole_audited : {source : AuditedVolume} {from audited new x y : DeviceState} → HasAudited from audited source
    → Called audited new → AreAlone from new x y → IsWholeVolume audited (done_of source)
whole_audited audit called alone = audit.whole alone.from_tells
    (still_first audit.called.foreign_writes called.foreign_writes alone.from_alone)

module _ {slots lists : ℕ} {source : AuditedVolume} {from audited from1 to to1 : DeviceState}
    (audit : HasAudited from audited source) (held : IsHeldThroughout from audited) (device_from : IsDevice from)
    (device : IsDevice audited) (device1 : IsDevice from1) (device_to : IsDevice to) where
  -- the source, once the target has begun
  module _ {x : DeviceState} {result : Result (Vec Moved) CopyRefusal} (begins : BeginsCopy slots lists source audited from1 to to1 result)
      (alone : AreAlone from from1 to x) (steady : IsSteady to) (to_alone : IsStill to.foreign_writes to1.foreign_writes) where
    whole1 : IsWholeVolume from1 (done_of source)
    whole1 = whole_on device1 begins.from_read
        (still_second audit.called.foreign_writes begins.from_read.called.foreign_writes alone.from_alone)
        (whole_audited audit begins.from_read.called alone)

    -- what a crash leaves of the beginning
    first_begun : {more : ℕ} {from_image : Image} → from1.cells ≡ more → from1.image ≡ from_image
        → HoldsFirst more from_image to.cells to.image → StaysFirst more from_image to to1
    first_begun {more} {from_image} same_cells same holds =
        let those = documents_exist from1.cells from1.image whole1.settled in
        let v = whole1.settled in
        first_of_held device_to begins.to_called steady
        (begins.to_held (record { tells = alone.to_tells; steady = steady; alone = to_alone }))
        v.layout those.0
        (subst (λ (k : ℕ). IsVolume k from_image v.layout) same_cells (subst (λ (i : Image). IsVolume from1.cells i v.layout) same v.volume))
        (subst (λ (k : ℕ). AreDocuments k from_image those.0) same_cells
        (subst (λ (i : Image). AreDocuments from1.cells i those.0) same those.1))
        holds

  -- the copy did not begin
  pub not_begun : (refusal : CopyRefusal) → BeginsCopy slots lists source audited from1 to to1 (Err refusal)
      → Copies slots lists from from1 to to1 (Err refusal)
  not_begun refusal begins = record {
    from_called = called_then audit.called begins.from_read.called;
    to_called = begins.to_called;
    from_held = held_then device_from device audit.called begins.from_read.called held
        (read_held device device1 begins.from_read);
    to_sound = sound_of begins.to_held;
    to_first = λ alone steady image is. first_as from1 to to1 (source_now audit begins.from_read alone image is)
        (λ holds. first_since to1 device_to steady holds
        (first_begun begins alone steady alone.to_alone refl refl holds));
    same = tt;
    left_out = tt;
    in_order = tt;
    untouched = λ other. begins.to_held;
    complete = λ free. begins.complete (record {
      alone = behind free.alone;
      unfailed = record {
        from_unfailed = still_second audit.called.faults begins.from_read.called.faults free.unfailed.from_unfailed;
        to_unfailed = free.unfailed.to_unfailed;
      };
      whole = whole_audited audit begins.from_read.called free.alone;
      steady = free.to_steady;
      first =
          subst (λ (k : ℕ). HoldsFirst k audited.image to.cells to.image) begins.from_read.called.cells
          (subst (λ (i : Image). HoldsFirst from1.cells i to.cells to.image)
          (same_image (begins.from_read.only (behind free.alone).from_alone))
          (subst (λ (i : Image). HoldsFirst from1.cells i to.cells to.image)
          (source_now audit begins.from_read free.alone free.source free.is_source) free.to_first));
    });
    ends = go refusal begins.ends;
  }
    where
      behind : AreAlone from from1 to to1 → AreAlone audited from1 to to1
      behind alone = alone_second audit.called begins.from_read.called (called_self to) begins.to_called alone

      go : (r : CopyRefusal) → BeginEnds slots lists source audited from1 to to1 (Err r)
          → CopyEnds slots lists from from1 to to1 (Err r)
      go (copies.Differs old fresh) ends = (
        λ from_tells to_tells. ends.0 (subst IsTrue (sym audit.called.tells) from_tells) to_tells,
        λ alone. ends.1 (behind alone) (whole_audited audit begins.from_read.called alone),
      )
      go (copies.Longer fresh) ends = λ alone. ends (behind alone) (whole_audited audit begins.from_read.called alone)
      go (copies.OtherVolume cell) ends = ends
      go copies.NoMemory ends = tt
      go (copies.From refusals.NoMemory) ends = absurd ends
      go (copies.From r) ends = by_reading (called_then audit.called begins.from_read.called)
          (reading_later audit.called begins.from_read.called r ends)
      go (copies.To refusals.NoMemory) ends = absurd ends
      go (copies.To r) ends = refuses_from behind ends
      go r ends = absurd ends

  module _ {from2 to2 : DeviceState} (device2 : IsDevice from2) (moved : Vec Moved) (begins : BeginsCopy slots lists source audited from1 to to1 (Ok moved))
    where
      -- what a crash leaves of the whole
      first_rested : {new : List Moved} {result : Result Unit CopyRefusal}
          → AddsRest source from1 from2 to1 to2 moved.items new result → IsFirstThroughout from from2 to to2
      first_rested rest alone steady image is =
          let before = called_then audit.called begins.from_read.called in
          let first = alone_first before rest.from_read.called begins.to_called rest.to_called alone in
          let second = alone_second before rest.from_read.called begins.to_called rest.to_called alone in
          let behind = alone_second audit.called begins.from_read.called (called_self to) begins.to_called first in
          let began = begins.ends behind (whole_audited audit begins.from_read.called first) in
          let same = sym (same_image (rest.from_read.only second.from_alone)) in
          first_as from2 to to2 (source_now audit (read_then begins.from_read rest.from_read) alone image is)
          (λ holds. first_since to2 device_to steady holds
          (first_then to2 begins.to_called
          (first_begun begins first steady first.to_alone (sym rest.from_read.called.cells) same holds)
          (rest.to_first second (whole1 begins first steady first.to_alone) began.0)))

      -- the documents that have no pair were not copied
      pub not_rested : (new : List Moved) (refusal : CopyRefusal)
          → AddsRest source from1 from2 to1 to2 moved.items new (Err refusal)
          → Copies slots lists from from2 to to2 (Err refusal)
      not_rested new refusal rest = record {
        from_called = called_then (called_then audit.called begins.from_read.called) rest.from_read.called;
        to_called = called_then begins.to_called rest.to_called;
        from_held = held_then device_from device audit.called
            (called_then begins.from_read.called rest.from_read.called) held
            (read_held device device2 (read_then begins.from_read rest.from_read));
        to_sound = sound_then begins.to_called rest.to_called (sound_of begins.to_held) rest.to_sound;
        to_first = first_rested rest;
        same = tt;
        left_out = tt;
        in_order = tt;
        untouched = touched refusal rest.ends;
        complete = λ free.
            let before = called_then audit.called begins.from_read.called in
            let first = alone_first before rest.from_read.called begins.to_called rest.to_called free.alone in
            let second = alone_second before rest.from_read.called begins.to_called rest.to_called free.alone in
            let behind = alone_second audit.called begins.from_read.called (called_self to) begins.to_called first in
            let began = begins.ends behind (whole_audited audit begins.from_read.called first) in
            rest.complete second (whole1 begins first free.to_steady first.to_alone) began.0
            (record {
              from_unfailed = still_second before.faults rest.from_read.called.faults free.unfailed.from_unfailed;
              to_unfailed = still_second begins.to_called.faults rest.to_called.faults free.unfailed.to_unfailed;
            })
            (λ g h from_volume to_volume. (began.1 g h from_volume to_volume).version_is);
        ends = go refusal rest.ends;
      }
        where
          volume2 : IsTrue from2.tells → IsVolume from2.cells from2.image source.volume.geometry
          volume2 = (can_on (called_then begins.from_read.called rest.from_read.called) (can_audited audit)).is_volume

          touched : (r : CopyRefusal) → RestFails source moved.items from1 from2 to1 to2 r → IsOfTarget (Err r)
              → IsHeldThroughout to to2
          touched (copies.OtherVolume cell) ends other = absurd ends
          touched (copies.Differs old fresh) ends other = absurd ends
          touched (copies.Longer fresh) ends other = absurd ends
          touched r ends other = absurd other

          go : (r : CopyRefusal) → RestFails source moved.items from1 from2 to1 to2 r
              → CopyEnds slots lists from from2 to to2 (Err r)
          go copies.NoMemory ends = tt
          go (copies.From refusals.NoMemory) ends = absurd ends
          go (copies.From r) ends = by_reading (called_then (called_then audit.called begins.from_read.called) rest.from_read.called)
              (reading_later (called_then audit.called begins.from_read.called) rest.from_read.called r ends)
          go (copies.To refusals.NoMemory) ends = absurd ends
          go (copies.To r) ends = by_ingest ends.between ends.ingests.id ends.ingests.stamp ends.ingests.body
              (called_then begins.to_called ends.called)
              (λ tells. record {
                layout = source.volume.geometry;
                volume = volume2 tells;
                slot = ends.slot;
                holds = ends.ingests.holds tells;
                stamped = ends.ingests.stamped tells;
              })
              (λ alone.
              let before = called_then audit.called begins.from_read.called in
              let first = alone_first before rest.from_read.called begins.to_called rest.to_called alone in
              let behind = alone_second audit.called begins.from_read.called (called_self to) begins.to_called first in
              let whole = whole_audited audit begins.from_read.called first in
              ends.next (alone_second before rest.from_read.called begins.to_called rest.to_called alone)
              (whole_on device1 begins.from_read behind.from_alone whole) (begins.ends behind whole).0)
              ends.ingests.ingests
          go r ends = absurd ends

      -- the documents of the pairs say the same
      all_same : (new : Vec Moved) → AddsRest source from1 from2 to1 to2 moved.items new.items (Ok tt)
          → AnsweredHold from from2 to to2 (Ok new)
      all_same new rest from_tells to_tells =
          let before = called_then audit.called begins.from_read.called in
          rest.same (subst IsTrue (sym before.tells) from_tells) (subst IsTrue (sym begins.to_called.tells) to_tells)
          (begins.same (subst IsTrue (sym audit.called.tells) from_tells) to_tells)

      -- each document that stood in the source has its pair: its slot is one of those that were gone along
      none_out : (new : Vec Moved) → AddsRest source from1 from2 to1 to2 moved.items new.items (Ok tt)
          → LeavesNoneOut from to to2 (Ok new)
      none_out new rest tells d stands =
          let called = called_then (called_then audit.called begins.from_read.called) rest.from_read.called in
          let one : stands.layout ≡ source.volume.geometry = one_layout {cells = from.cells} {more = audited.cells}
          stands.layout source.volume.geometry (volume_on audit.called.image stands.volume) (audit.is_volume tells) in
          let done : IsDoneSlot source.volume.geometry from.image d.slot =
          subst (λ (g : Layout). IsDoneSlot g from.image d.slot) one (record {
            start = stands.start;
            length = stands.reserved;
            bytes = _;
            journal = stands.journal;
            done = stands.done;
          }) in
          let named = pair_for (done_of source) new.items d.slot (rest.ends.2 begins.first) rest.ends.0
          (audit.all tells d.slot done) in
          record {
            pair = named.0;
            among = named.1;
            old_is = named.2;
            there = λ to_tells. stands_there (all_same new rest tells to_tells named.0 named.1) d named.2
                (subst (λ (k : ℕ). Stands k from2.image d.slot d.id d.body) (sym called.cells)
                (stands_on called.image stands));
          }

      -- they were
      pub rested : (new : Vec Moved) → AddsRest source from1 from2 to1 to2 moved.items new.items (Ok tt)
          → Copies slots lists from from2 to to2 (Ok new)
      rested new rest = record {
        from_called = called_then (called_then audit.called begins.from_read.called) rest.from_read.called;
        to_called = called_then begins.to_called rest.to_called;
        from_held = held_then device_from device audit.called
            (called_then begins.from_read.called rest.from_read.called) held
            (read_held device device2 (read_then begins.from_read rest.from_read));
        to_sound = sound_then begins.to_called rest.to_called (sound_of begins.to_held) rest.to_sound;
        to_first = first_rested rest;
        same = all_same new rest;
        left_out = none_out new rest;
        in_order = subst (λ (l : List ℕ). RiseFrom 0 l)
            (sym (all_first (done_of source) new.items (rest.ends.2 begins.first) rest.ends.0)) audit.rise;
        untouched = λ other. absurd other;
        complete = λ free. tt;
        ends = λ alone.
            let first = alone_first (called_then audit.called begins.from_read.called) rest.from_read.called begins.to_called rest.to_called alone in
            let second = alone_second (called_then audit.called begins.from_read.called) rest.from_read.called begins.to_called rest.to_called alone in
            let behind = alone_second audit.called begins.from_read.called (called_self to) begins.to_called first in
            let whole = whole_audited audit begins.from_read.called first in
            let began = begins.ends behind whole in
            let whole1 = whole_on device1 begins.from_read behind.from_alone whole in
            let whole2 = whole_on device2 rest.from_read second.from_alone whole1 in
            let so = rest.ends.1 second whole1 began.0 in
            let n = began.1 began.0.agree.from_layout began.0.agree.to_layout began.0.agree.from_volume
            began.0.agree.to_volume in
            let one : so.agree.from_layout ≡ began.0.agree.from_layout = one_layout {cells = from2.cells}
            {more = from2.cells} so.agree.from_layout began.0.agree.from_layout so.agree.from_volume
            (subst (λ (k : ℕ). IsVolume k from2.image began.0.agree.from_layout) (sym rest.from_read.called.cells)
            (volume_on rest.from_read.called.image began.0.agree.from_volume)) in
            let two : so.agree.to_layout ≡ began.0.agree.to_layout = one_layout {cells = to2.cells}
            {more = to2.cells} so.agree.to_layout began.0.agree.to_layout so.agree.to_volume
            (subst (λ (k : ℕ). IsVolume k to2.image began.0.agree.to_layout) (sym rest.to_called.cells)
            (volume_on rest.to_called.image began.0.agree.to_volume)) in
            has_copied new.items (called_then (called_then audit.called begins.from_read.called) rest.from_read.called) so whole2 rest.ends.0 (record {
              slots_are = ap (λ (k : Layout). k.slots) two ∙ n.slots_are;
              lists_are = ap (λ (k : Layout). k.lists) two ∙ n.lists_are;
              version_is = ap (λ (k : Layout). k.version) two ∙ n.version_is
                  ∙ sym (ap (λ (k : Layout). k.version) one);
            });
      }
