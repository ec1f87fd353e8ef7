-- A target was formatted, or compared.
use Rattle.std.proofs.Common.{◌≡◌, ◌∙◌, ℕ, List, Option, [], Some, None, Result, Ok, Err, inl, ⊎_elim, refl, sym, ap, subst, arith}
use Rattle.std.specs.Prelude.{IsTrue}
use Rattle.std.specs.Global.{Vec}
use Rattle.std.proofs.lemmas.Option.{none-some}
use Rattle.cell_types.specs.Image.{Image, IsUnchanged}
use Rattle.cell_types.specs.Layout.{Layout}
use Rattle.cell_types.specs.Records.{IsRecordCell}
use Rattle.cell_types.specs.declared.refusal.CopyRefusal.{CopyRefusal}
use Rattle.cell_types.specs.declared.refusal.CopyRefusal.TheVariants as copies
use Rattle.cell_types.specs.declared.refusal.Refusal.{Refusal}
use Rattle.cell_types.specs.declared.refusal.Refusal.TheVariants as refusals
use Rattle.volume_meaning.specs.Volumes.{IsVolume, volume_record}
use Rattle.volume_meaning.proofs.Extending.{volume_on}
use Rattle.volume_meaning.proofs.Holding.{some_is}
use Rattle.tamper_rules.proofs.DocumentLists.{documents_exist}
use Rattle.tamper_rules.proofs.GivenUp.{one_layout}
use Rattle.tamper_rules.specs.Settling.{Settled}
use Rattle.tamper_rules.proofs.Images.{look, same_both, same_image}
use Rattle.worm_device.specs.Calls.{Called, Reads}
use Rattle.worm_device.specs.declared.device.Failed.{Failed}
use Rattle.worm_device.specs.Counts.{IsStill}
use Rattle.worm_device.specs.State.{DeviceState, IsDevice}
use Rattle.worm_device.proofs.Counting.{rose_or_still, still_first, still_second}
use Rattle.worm_device.proofs.Elapsing.{called_self, called_then}
use Rattle.worm_device.proofs.Images.{extends_self}
use Rattle.ingest_engine.specs.Formats.{FormatEnds, Formats, volume_cell}
use Rattle.crash_laws.specs.SettlingSteadiness.{IsSteady}
use Rattle.command_laws.specs.Begins.{BeginsSteady}
use Rattle.command_laws.specs.Telling.{IsFormatted, LeavesHeld}
use Rattle.command_laws.proofs.Formatting.{format_makes}
use Rattle.volume_copy.specs.Adding.{CanBeRead}
use Rattle.volume_copy.specs.Auditing.{AuditsSteady, HasAudited, IsWholeVolume, by_reading, done_of}
use Rattle.volume_copy.specs.Beginning.{BeginEnds, BeginsCopy, HaveNumbers, IsCopyFree, StatesNone, StatesOther}
use Rattle.volume_copy.specs.Comparing.{CompareVolumesEnds, ComparesAll}
use Rattle.volume_copy.specs.Alone.{AreAlone}
use Rattle.volume_copy.specs.Copies.{IsOfVersion, IsOtherVolume, RefusesTo, by_volume}
use Rattle.volume_copy.specs.Completing.{EndsUnhindered, IsForRoom}
use Rattle.volume_copy.specs.First as firsts
use Rattle.volume_copy.specs.First.{HoldsFirst}
use Rattle.volume_copy.specs.Pairs.{AnsweredHold, AreOfFirst, CopiedSoFar, PairsHold}
use Rattle.volume_copy.specs.Reading.{IsOnlyRead}
use Rattle.volume_copy.specs.Refusing.{refusal_to}
use Rattle.volume_copy.specs.Staying.{IsHeldThroughout}
use Rattle.volume_copy.specs.declared.audited.AuditedVolume.{AuditedVolume}
use Rattle.volume_copy.specs.declared.moved.Moved.{Moved}
use Rattle.volume_copy.proofs.AddedOn.{alone_second, read_none}
use Rattle.volume_copy.proofs.First.{first_of_held, first_since}
use Rattle.volume_copy.proofs.Stayed.{format_held, held_then, read_held}
use Rattle.volume_copy.proofs.Unhindered.{none_differs, none_past, reads_settled}
use Rattle.volume_copy.proofs.WholeVolumes.{reading_later}

-- a read, as what only looks
pub read_once : {at : ℕ} {old new : DeviceState} {result : Result (Option (List ℕ)) Failed} → Reads at old new result
    → IsOnlyRead old new
read_once reads = record { called = reads.called; only = reads.only }

-- the target refuses
pub begin_refuses : (slots lists : ℕ) (source : AuditedVolume) (from from' to to' : DeviceState) (refusal : Refusal)
    → RefusesTo slots lists from from' to to' refusal
    → BeginEnds slots lists source from from' to to' (Err (refusal_to refusal))
begin_refuses slots lists source from from' to to' refusals.NoMemory refuses = tt
begin_refuses slots lists source from from' to to' refusal refuses = refuses

-- a volume that was audited can be read
pub can_audited : {old new : DeviceState} {volume : AuditedVolume} → HasAudited old new volume → CanBeRead new volume
can_audited a = record {
  size = a.size;
  is_volume = λ tells. a.is_volume (subst IsTrue a.called.tells tells);
  parts = a.parts;
}

-- the source has the version that was asked for
pub of_version : {s : DeviceState} {source : AuditedVolume} (version : ℕ) → CanBeRead s source
    → version ≡ source.volume.geometry.version → IsOfVersion s version
of_version {s} {source} version can is = λ tells. (source.volume.geometry, can.is_volume tells, sym is)

-- a blank device that was formatted
module _ (g : Layout) {old new : DeviceState} (size : g.cells ≡ old.cells) (device : IsDevice old) (device_new : IsDevice new)
    (tells : IsTrue old.tells) (still : IsStill old.foreign_writes new.foreign_writes) (formats : Formats g old new (Ok tt))
  where
    blank : (cell : ℕ) → old.image cell ≡ None
    blank cell = ⊎_elim (λ free. free)
        (λ (w : (v : List ℕ) × (old.image cell ≡ Some v)).
        (formats.ends.2 tells).blank cell (device.inside cell w.0 w.1).0)
        (look old.image cell)

    steady : IsSteady old
    steady = record {
      each = λ image b. inl (λ cell. ⊎_elim (λ free. free)
          (λ (w : (v : List ℕ) × (image cell ≡ Some v)).
          absurd (none-some w.0 (sym (blank cell) ∙ b.below.keeps cell w.0 w.1)))
          (look image cell));
    }

    made : IsFormatted new
    made = format_makes g old new size device (record { tells = tells; steady = steady; alone = still }) formats.called
        formats.only device_new formats.ends

    only_first : (cell : ℕ) (value : List ℕ) → new.image cell ≡ Some value → new.sure cell ≡ Some value
    only_first cell value stands = ⊎_elim
        (λ (same : new.image cell ≡ old.image cell). absurd (none-some value (sym (same ∙ blank cell) ∙ stands)))
        (λ (w : (cell ≡ 0) × (old.image cell ≡ None) × (new.image cell ≡ Some (volume_cell g))).
        ap new.sure w.0 ∙ formats.ends.1 tells ∙ sym w.2 ∙ stands)
        (formats.only still cell)

    same_sure : IsUnchanged new.image new.sure
    same_sure cell = ap (λ (i : Image). i cell) (same_both (record { keeps = only_first }) device_new.sure)

    pub its_volume : IsVolume new.cells new.image g
    its_volume =
        let is = formats.ends.0 in
        record {
          volume = record {
            cell = volume_cell g;
            stands = device_new.sure.keeps 0 (volume_cell g) (formats.ends.1 tells);
            is = record {
              fits = (omega arith, omega (arith, is.slots), omega (arith, is.lists), omega (arith, is.cells));
              well_formed = (is, refl);
              same = refl;
            };
          };
          size = size ∙ sym formats.called.cells;
        }

    -- nothing was copied yet
    pub copied_none : {s : DeviceState} {source : AuditedVolume} → CanBeRead s source → IsTrue s.tells
        → IsWholeVolume s (done_of source) → CopiedSoFar s new []
    copied_none {s} {source} can s_tells whole =
        let those = documents_exist s.cells s.image whole.settled in
        record {
          agree = record {
            from_layout = source.volume.geometry;
            to_layout = g;
            from_volume = can.is_volume s_tells;
            to_volume = its_volume;
            source = those.0;
            target = [];
            those = those.1;
            these = made.none;
            some = omega arith;
            pairs = tt;
          };
          all = refl;
          settled = made.settled;
          sure = same_sure;
        }

-- the layout that was asked for
abbrev layout_for : ℕ → ℕ → ℕ → DeviceState → Layout
layout_for slots lists version s = record { slots = slots; lists = lists; cells = s.cells; version = version }

-- cell 0 was blank, and the target was formatted
pub begins_formatted : (slots lists version : ℕ) {source : AuditedVolume} {from to mid new : DeviceState} (moved : Vec Moved)
    → moved.items ≡ [] → CanBeRead from source → version ≡ source.volume.geometry.version → IsDevice mid → IsDevice new
    → IsDevice to → Called to mid → IsHeldThroughout to mid
    → Formats (record { slots = slots; lists = lists; cells = mid.cells; version = version }) mid new (Ok tt)
    → BeginsCopy slots lists source from from to new (Ok moved)
begins_formatted slots lists version {source} {from} {to} {mid} {new} moved none can version_is device device_new device_to called held formats =
    record {
      from_read = read_none from;
      to_called = called_then called formats.called;
      to_held = held_then device_to device called formats.called held
          (format_held (layout_for slots lists version mid) (Ok tt) refl device formats);
      same = λ from_tells to_tells. subst (λ (l : List Moved). PairsHold from new l) (sym none)
          (λ pair among. absurd (omega (arith, among.1)));
      first = subst (λ (l : List Moved). AreOfFirst (done_of source) l) (sym none) refl;
      complete = λ free. tt;
      ends = λ alone whole.
          let tells = subst IsTrue (sym called.tells) alone.to_tells in
          let still = still_second called.foreign_writes formats.called.foreign_writes alone.to_alone in (
            subst (λ (l : List Moved). CopiedSoFar from new l) (sym none)
                (copied_none (layout_for slots lists version mid) refl device device_new tells still formats can alone.from_tells whole),
            λ f h from_volume to_volume.
                let one = one_layout {cells = new.cells} {more = new.cells} h
                (layout_for slots lists version mid) to_volume
                (its_volume (layout_for slots lists version mid) refl device device_new tells still formats) in
                let two = one_layout {cells = from.cells} {more = from.cells} f source.volume.geometry from_volume
                (can.is_volume alone.from_tells) in
                record {
                  slots_are = ap (λ (k : Layout). k.slots) one;
                  lists_are = ap (λ (k : Layout). k.lists) one;
                  version_is = ap (λ (k : Layout). k.version) one ∙ version_is ∙ sym (ap (λ (k : Layout). k.version) two);
                },
          );
    }

-- a target that cell 0 says to be blank is blank, where nothing hinders, and formatting it is refused for want of room alone
pub format_free : (g : Layout) {source : AuditedVolume} {from to mid new : DeviceState} → IsOnlyRead to mid → mid.image 0 ≡ None
    → (refusal : Refusal) → Formats g mid new (Err refusal) → IsCopyFree source from from to new → IsForRoom (refusal_to refusal)
format_free g {source} {from} {to} {mid} {new} read first_blank refusal formats free = by refusal formats.ends
  where
    still_mid : IsStill mid.foreign_writes new.foreign_writes
    still_mid = still_second read.called.foreign_writes formats.called.foreign_writes free.alone.to_alone

    same : mid.image ≡ to.image
    same = same_image (read.only (still_first read.called.foreign_writes formats.called.foreign_writes free.alone.to_alone))

    blank : (cell : ℕ) → mid.image cell ≡ None
    blank = all free.first
      where
        all : HoldsFirst from.cells from.image to.cells to.image → (cell : ℕ) → mid.image cell ≡ None
        all (firsts.none is) cell = ap (λ (i : Image). i cell) same ∙ is cell
        all (firsts.first f h those target moved there here are held pairs) cell =
            absurd (none-some _ (sym first_blank ∙ ap (λ (i : Image). i 0) same ∙ here.volume.stands))

    by : (r : Refusal) → FormatEnds g mid new (Err r) → IsForRoom (refusal_to r)
    by refusals.TooSmall ends = tt
    by refusals.DeviceFault ends = absurd (rose_or_still _ _ ends.1
        (still_second read.called.faults formats.called.faults free.unfailed.to_unfailed))
    by (refusals.NotBlank at) ends = absurd
        (let least = ends.1 (subst IsTrue (sym read.called.tells) free.alone.to_tells) in
        none-some _ (sym (blank at) ∙ least.stood still_mid))
    by r ends = absurd ends

-- one whose cell 0 is written is a steady volume then, and auditing it is refused for want of memory alone
pub audit_free : {source : AuditedVolume} {from to mid new : DeviceState} → IsDevice to → IsDevice mid → IsOnlyRead to mid
    → Called mid new → (cell : List ℕ) → (IsTrue to.tells → mid.image 0 ≡ Some cell) → (refusal : Refusal)
    → AuditsSteady mid new (Err refusal) → IsCopyFree source from from to new → IsForRoom (refusal_to refusal)
audit_free {source} {from} {to} {mid} {new} device device_mid read called cell stands refusal audits free = by free.first
  where
    still_to : IsStill to.foreign_writes mid.foreign_writes
    still_to = still_first read.called.foreign_writes called.foreign_writes free.alone.to_alone

    begins_mid : BeginsSteady to mid
    begins_mid = record { tells = free.alone.to_tells; steady = free.steady; alone = still_to }

    by : HoldsFirst from.cells from.image to.cells to.image → IsForRoom (refusal_to refusal)
    by (firsts.none blank) = absurd (none-some _ (sym (blank 0)
        ∙ sym (ap (λ (i : Image). i 0) (same_image (read.only still_to))) ∙ stands free.alone.to_tells))
    by (firsts.first f h those target moved there here are held pairs) =
        subst (λ (r : Refusal). IsForRoom (refusal_to r))
        (sym (audits h (record {
          tells = subst IsTrue (sym read.called.tells) free.alone.to_tells;
          volume = subst (λ (k : ℕ). IsVolume k mid.image h) (sym read.called.cells) (volume_on read.called.image here);
          is = (read_held device device_mid read begins_mid).stays.steady;
          alone = still_second read.called.foreign_writes called.foreign_writes free.alone.to_alone;
          no_fault = still_second read.called.faults called.faults free.unfailed.to_unfailed;
        }) refusal refl)) tt

-- a target that holds a volume of these numbers
module _ (slots lists version : ℕ) {source target : AuditedVolume} {from from' to mid audited new : DeviceState}
    (cell : List ℕ) (can : CanBeRead from source) (version_is : version ≡ source.volume.geometry.version)
    (called : Called to mid) (stands : IsTrue to.tells → mid.image 0 ≡ Some cell)
    (stated : StatesNone slots lists version mid.cells cell) (audit : HasAudited mid audited target)
    (held_first : IsHeldThroughout to mid) (held : IsHeldThroughout mid audited) (device_to : IsDevice to)
    (device_mid : IsDevice mid) (device_audited : IsDevice audited) (device_new : IsDevice new) where
  module _ (read : IsOnlyRead from from') (to_read : IsOnlyRead audited new) where
    behind : Called mid new
    behind = called_then audit.called to_read.called

    before : Called to audited
    before = called_then called audit.called

    -- the volumes have the numbers
    numbers : IsTrue from.tells → IsTrue to.tells → HaveNumbers slots lists from' new
    numbers from_tells to_tells f h from_volume to_volume =
        let there = behind.image.keeps 0 cell (stands to_tells) in
        let same : to_volume.volume.cell ≡ cell =
        some_is to_volume.volume.cell cell (sym to_volume.volume.stands ∙ there) in
        let is = subst (λ (x : List ℕ). IsRecordCell (volume_record h) 0 x) same to_volume.volume.is in
        let found = stated h is (to_volume.size ∙ behind.cells) in
        let two : f ≡ source.volume.geometry = one_layout {cells = from'.cells} {more = from'.cells} f
        source.volume.geometry from_volume (subst (λ (k : ℕ). IsVolume k from'.image source.volume.geometry)
        (sym read.called.cells) (volume_on read.called.image (can.is_volume from_tells))) in
        record {
          slots_are = found.0;
          lists_are = found.1;
          version_is = found.2 ∙ version_is ∙ sym (ap (λ (k : Layout). k.version) two);
        }

    module _ (alone : AreAlone from from' to new) where
      pub alone_behind : AreAlone from from' audited new
      alone_behind = alone_second (called_self from) read.called before to_read.called alone

      pub whole_target : IsWholeVolume audited (done_of target)
      whole_target = audit.whole (subst IsTrue (sym called.tells) alone.to_tells)
          (still_second called.foreign_writes audit.called.foreign_writes
          (still_first before.foreign_writes to_read.called.foreign_writes alone.to_alone))

  module _ (read : IsOnlyRead from from') (to_read : IsOnlyRead audited new) (free : IsCopyFree source from from' to new) where
    source_settled : Settled from'.cells from'.image
    source_settled = subst (λ (k : ℕ). Settled k from'.image) (sym read.called.cells)
        (subst (λ (i : Image). Settled from.cells i) (sym (same_image (read.only free.alone.from_alone))) free.whole.settled)

    target_settled : Settled new.cells new.image
    target_settled = subst (λ (k : ℕ). Settled k new.image) (sym to_read.called.cells)
        (subst (λ (i : Image). Settled audited.cells i)
        (sym (same_image (to_read.only (alone_behind read to_read free.alone).to_alone)))
        (whole_target read to_read free.alone).settled)

    begins_so : BeginsSteady to new
    begins_so = record { tells = free.alone.to_tells; steady = free.steady; alone = free.alone.to_alone }

    leaves_so : IsHeldThroughout to new → LeavesHeld to new
    leaves_so held_all = held_all begins_so

    -- the target holds the first documents of the source still
    first_still : IsHeldThroughout to new → HoldsFirst from'.cells from'.image new.cells new.image
    first_still held_all =
        let those = documents_exist from.cells from.image free.whole.settled in
        let v = free.whole.settled in
        let all = called_then (before read to_read) to_read.called in
        let there : HoldsFirst from.cells from.image to.cells new.image =
        first_since new device_to free.steady free.first
        (first_of_held device_to all free.steady (leaves_so held_all) v.layout those.0 v.volume those.1 free.first)
        new.image (inl (record { above = device_new.sure; below = extends_self new.image })) in
        subst (λ (k : ℕ). HoldsFirst k from'.image new.cells new.image) (sym read.called.cells)
        (subst (λ (i : Image). HoldsFirst from.cells i new.cells new.image)
        (sym (same_image (read.only free.alone.from_alone)))
        (subst (λ (k : ℕ). HoldsFirst from.cells from.image k new.image) (sym all.cells) there))

    compared_free : IsHeldThroughout to new → (r : Result (Vec Moved) CopyRefusal)
        → CompareVolumesEnds source target from from' audited new r → EndsUnhindered r
    compared_free held_all (Ok moved) ends = tt
    compared_free held_all (Err (copies.Differs old fresh)) ends =
        none_differs old fresh target_settled (first_still held_all)
        (ends.1 (alone_behind read to_read free.alone) free.whole (whole_target read to_read free.alone))
    compared_free held_all (Err (copies.Longer fresh)) ends =
        none_past fresh target_settled (first_still held_all)
        (ends (alone_behind read to_read free.alone) free.whole (whole_target read to_read free.alone))
    compared_free held_all (Err copies.NoMemory) ends = tt
    compared_free held_all (Err (copies.From refusals.NoMemory)) ends = absurd ends
    compared_free held_all (Err (copies.From refusal)) ends = absurd
        (subst (λ (r : Refusal). CompareVolumesEnds source target from from' audited new (Err (copies.From r)))
        (reads_settled from from' free.alone.from_tells free.alone.from_alone free.unfailed.from_unfailed source_settled refusal
        ends) ends)
    compared_free held_all (Err (copies.To refusals.NoMemory)) ends = absurd ends
    compared_free held_all (Err (copies.To refusal)) ends = absurd
        (subst (λ (r : Refusal). CompareVolumesEnds source target from from' audited new (Err (copies.To r)))
        (reads_settled audited new (alone_behind read to_read free.alone).to_tells (alone_behind read to_read free.alone).to_alone
        (still_second (before read to_read).faults to_read.called.faults free.unfailed.to_unfailed) target_settled refusal
        ends) ends)
    compared_free held_all (Err refusal) ends = absurd ends

  pub begins_compared : (result : Result (Vec Moved) CopyRefusal)
      → ComparesAll source target from from' audited new result → BeginsCopy slots lists source from from' to new result
  begins_compared result compares = record {
    from_read = compares.from_read;
    to_called = called_then called (called_then audit.called compares.to_read.called);
    to_held = held_all;
    same = all_same result compares.same;
    first = compares.first;
    complete = λ free. compared_free compares.from_read compares.to_read free held_all result compares.ends;
    ends = go result compares.ends;
  }
    where
      held_all : IsHeldThroughout to new
      held_all = held_then device_to device_mid called (called_then audit.called compares.to_read.called) held_first
          (held_then device_mid device_audited audit.called compares.to_read.called held
          (read_held device_audited device_new compares.to_read))

      all_same : (r : Result (Vec Moved) CopyRefusal) → AnsweredHold from from' audited new r
          → AnsweredHold from from' to new r
      all_same (Ok moved) same = λ from_tells to_tells. same from_tells
          (subst IsTrue (sym (called_then called audit.called).tells) to_tells)
      all_same (Err refusal) same = tt

      go : (r : Result (Vec Moved) CopyRefusal) → CompareVolumesEnds source target from from' audited new r
          → BeginEnds slots lists source from from' to new r
      go (Ok moved) ends = λ alone whole. (
        ends (alone_behind compares.from_read compares.to_read alone) whole
            (whole_target compares.from_read compares.to_read alone),
        numbers compares.from_read compares.to_read alone.from_tells alone.to_tells,
      )
      go (Err (copies.Differs old fresh)) ends = (
        λ from_tells to_tells. ends.0 from_tells
            (subst IsTrue (sym (called_then called audit.called).tells) to_tells),
        λ alone whole. ends.1 (alone_behind compares.from_read compares.to_read alone) whole
            (whole_target compares.from_read compares.to_read alone),
      )
      go (Err (copies.Longer fresh)) ends = λ alone whole.
          ends (alone_behind compares.from_read compares.to_read alone) whole
          (whole_target compares.from_read compares.to_read alone)
      go (Err copies.NoMemory) ends = tt
      go (Err (copies.From refusals.NoMemory)) ends = absurd ends
      go (Err (copies.From refusal)) ends = ends
      go (Err (copies.To refusals.NoMemory)) ends = absurd ends
      go (Err (copies.To refusal)) ends = by_volume mid called
          (by_reading (called_then audit.called compares.to_read.called)
          (reading_later audit.called compares.to_read.called refusal ends))
      go (Err refusal) ends = absurd ends

-- it is another volume
pub is_another : {slots lists version : ℕ} {from' to to' : DeviceState} {cell : List ℕ}
    → (IsStill to.foreign_writes to'.foreign_writes → IsUnchanged to.image to'.image)
    → (IsTrue to'.tells → to'.image 0 ≡ Some cell) → StatesOther slots lists version to'.cells cell
    → IsOfVersion from' version → IsOtherVolume slots lists from' to to' cell
is_another {version = version} only stands other of_source = record {
  only = only;
  stands = stands;
  layout = other.layout;
  is = other.is;
  size = other.size;
  version = version;
  of_source = of_source;
  other = other.other;
}
