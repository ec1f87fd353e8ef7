-- One document more was copied, and then those that have no pair.
use Rattle.std.proofs.Common.{◌≡◌, ◌<◌, ◌+◌, ◌∙◌, ℕ, List, [], ◌∷◌, ◌++◌, Some, None, Result, Ok, Err, inl, inr, ⊎_elim, refl, sym, ap, subst, arith, length, append-nil}
use Rattle.std.specs.Prelude.{IsTrue, slice_get, slice_index, take}
use Rattle.std.proofs.lemmas.List.{length_push, take_all}
use Rattle.cell_types.specs.Image.{Between, Extends, Image}
use Rattle.cell_types.specs.Layout.{Layout}
use Rattle.cell_types.specs.declared.refusal.CopyRefusal.{CopyRefusal}
use Rattle.cell_types.specs.declared.refusal.CopyRefusal.TheVariants as copies
use Rattle.cell_types.specs.declared.refusal.Refusal.{Refusal}
use Rattle.cell_types.specs.declared.refusal.Refusal.TheVariants as refusals
use Rattle.volume_meaning.specs.Documents.{AreDocuments, Document, Stands}
use Rattle.volume_meaning.specs.Slots.{IsStampOf}
use Rattle.volume_meaning.specs.Volumes.{IsVolume}
use Rattle.volume_meaning.proofs.Extending.{stands_on, volume_on}
use Rattle.volume_meaning.proofs.OneDocument.{one_document}
use Rattle.volume_meaning.proofs.Stamps.{stamp_on}
use Rattle.tamper_rules.specs.Settling.{Held, IsBlankOrSound, Settled, Sound, nothing, of_after}
use Rattle.tamper_rules.proofs.Between.{volume_of}
use Rattle.tamper_rules.proofs.GivenUp.{one_layout}
use Rattle.tamper_rules.proofs.Images.{same_image}
use Rattle.worm_device.specs.Calls.{Called}
use Rattle.worm_device.specs.Counts.{IsStill}
use Rattle.worm_device.specs.State.{DeviceState, IsDevice}
use Rattle.worm_device.proofs.Counting.{still_first, still_second}
use Rattle.worm_device.proofs.Elapsing.{called_self, called_then, elapses_of}
use Rattle.worm_device.proofs.Images.{extends_self, unchanged_then}
use Rattle.document_store.specs.Standing.{HoldsDocument}
use Rattle.document_store.proofs.Holding.{held_stands}
use Rattle.ingest_engine.specs.Ingesting.{IngestEnds, Ingests, document_in}
use Rattle.crash_laws.specs.SettlingSteadiness.{HoldsOneOf, IsSteady}
use Rattle.crash_laws.proofs.LeftWhole.{sure_steady}
use Rattle.crash_laws.specs.Steadiness.{HasOneMore, HoldsOneMore, IsLeftByIngest}
use Rattle.crash_laws.proofs.AddsOne.{comes_more}
use Rattle.crash_laws.proofs.Steady.{comes_steady}
use Rattle.volume_copy.specs.Adding.{AddDocumentEnds, AddFails, AddsNext, CanBeRead, Completes, CopyGoesOn, IngestsOf, RestFails, WhereCopied}
use Rattle.volume_copy.specs.Auditing.{IsWholeVolume, done_of}
use Rattle.volume_copy.specs.Alone.{AreAlone}
use Rattle.volume_copy.specs.Completing.{AreOfOneVersion, IsForRoom}
use Rattle.volume_copy.specs.First.{HoldsFirst, StaysFirst, none}
use Rattle.volume_copy.specs.Pairs.{AgreeSoFar, AreOfFirst, ArePairs, CopiedSoFar, HoldSame, IsNextToCopy, PairsHold}
use Rattle.volume_copy.specs.Reading.{HoldsCopy, IsOnlyRead, ReadingFails}
use Rattle.volume_copy.specs.Refusing.{refusal_from, refusal_to}
use Rattle.volume_copy.specs.Staying.{IsSoundThroughout}
use Rattle.volume_copy.specs.declared.audited.AuditedVolume.{AuditedVolume}
use Rattle.volume_copy.specs.declared.moved.Moved.{Moved}
use Rattle.document_store.specs.Looks.{HasPart}
use Rattle.document_store.specs.declared.part.Part.{Part}
use Rattle.document_store.proofs.Holding.{part_on}
use Rattle.worm_device.specs.Views.{seen_directly}
use Rattle.volume_copy.specs.declared.stored.StoredCopy.{StoredCopy}
use Rattle.volume_copy.proofs.First.{first_below, first_then}
use Rattle.volume_copy.proofs.ForRoom.{for_room}
use Rattle.volume_copy.proofs.PairLists.{by_place, first_push, pairs_hold_on, pairs_hold_push, pairs_on, pairs_push, place_in}
use Rattle.volume_copy.proofs.Stayed.{sound_self, sound_then}
use Rattle.volume_copy.proofs.Unhindered.{reads_settled}
use Rattle.volume_copy.proofs.WholeVolumes.{reading_later}

-- nothing was read
pub read_none : (s : DeviceState) → IsOnlyRead s s
read_none s = record { called = called_self s; only = λ still cell. refl }

-- one look after another
pub read_then : {a b c : DeviceState} → IsOnlyRead a b → IsOnlyRead b c → IsOnlyRead a c
read_then p q = record {
  called = called_then p.called q.called;
  only = λ still. unchanged_then (p.only (still_first p.called.foreign_writes q.called.foreign_writes still))
      (q.only (still_second p.called.foreign_writes q.called.foreign_writes still));
}

-- a part that was found is one later
part_later : {g : Layout} {s t : DeviceState} {part : Part} → Called s t → HasPart g (seen_directly s 0) part
    → HasPart g (seen_directly t 0) part
part_later called has = record {
  slot = has.slot;
  inside = has.inside;
  stated = has.stated;
  is = λ tells. part_on called.image (has.is (subst IsTrue called.tells tells));
}

-- what could be read can be
pub can_on : {s t : DeviceState} {volume : AuditedVolume} → Called s t → CanBeRead s volume → CanBeRead t volume
can_on {s} {t} {volume} called can = record {
  size = can.size ∙ sym called.cells;
  is_volume = λ tells. subst (λ (k : ℕ). IsVolume k t.image volume.volume.geometry) (sym called.cells)
      (volume_on called.image (can.is_volume (subst IsTrue called.tells tells)));
  parts = λ part among. part_later called (can.parts part among);
}

-- a volume stays whole while it is only read
pub whole_on : {s t : DeviceState} {done : List ℕ} → IsDevice t → IsOnlyRead s t
    → IsStill s.foreign_writes t.foreign_writes → IsWholeVolume s done → IsWholeVolume t done
whole_on {s} {t} {done} device read still whole =
    let same : t.image ≡ s.image = same_image (read.only still) in
    let sure : s.sure ≡ s.image = same_image whole.sure in
    record {
      settled = subst (λ (k : ℕ). Settled k t.image) (sym read.called.cells)
          (subst (λ (i : Image). Settled s.cells i) (sym same) whole.settled);
      sure = λ cell. ap (λ (i : Image). i cell) (Rattle.tamper_rules.proofs.Images.same_both
          (subst (λ (i : Image). Extends i t.sure) (sure ∙ sym same) read.called.sure) device.sure);
      slots = λ documents are. whole.slots documents
          (subst (λ (k : ℕ). AreDocuments k s.image documents) read.called.cells
          (subst (λ (i : Image). AreDocuments t.cells i documents) same are));
    }

-- the source could not be read
pub source_fails : (g : Layout) (n : ℕ) (from from' to : DeviceState) (refusal : Refusal) → ReadingFails from from' refusal
    → AddFails g n from from' to to (refusal_from refusal)
source_fails g n from from' to refusals.NoMemory fails = tt
source_fails g n from from' to refusal fails = fails

-- the document that was read was ingested, or not
pub ingests_of : (g : Layout) (n : ℕ) {from from' to to' : DeviceState} (copy : StoredCopy) (id body : List ℕ)
    (result : Result ℕ Refusal) → id ≡ copy.identifier → body ≡ copy.body.held → Called from from'
    → (IsTrue from.tells → HoldsCopy g from'.image n copy) → Ingests id copy.stamp body to to' result
    → IngestsOf g n from' to to' result
ingests_of g n {from} {from'} copy id body result id_is body_is called holds ingests = record {
  id = id;
  stamp = copy.stamp;
  body = body;
  holds = λ tells. subst (λ (x : List ℕ). HoldsDocument g from'.image n x body) (sym id_is)
      (subst (λ (x : List ℕ). HoldsDocument g from'.image n copy.identifier x) (sym body_is)
      (holds (subst IsTrue called.tells tells)).holds);
  stamped = λ tells. (holds (subst IsTrue called.tells tells)).stamped;
  ingests = ingests;
}

pub target_fails : (g : Layout) (n : ℕ) (from from' to to' : DeviceState) (refusal : Refusal)
    → IngestsOf g n from' to to' (Err refusal) → AddFails g n from from' to to' (refusal_to refusal)
target_fails g n from from' to to' refusals.NoMemory ingests = tt
target_fails g n from from' to to' refusal ingests = ingests

-- an ingest of the next document of the source, whatever it answers
module _ (source : AuditedVolume) {s t u v : DeviceState} (device_u : IsDevice u) (device : IsDevice v) (alone : AreAlone s t u v)
    (read : IsOnlyRead s t) (called : Called u v) (can : CanBeRead s source) (whole : IsWholeVolume s (done_of source)) (moved : List Moved)
    (so : CopiedSoFar s u moved) (less : length moved < length (done_of source)) (n : ℕ)
    (at_place : n ≡ slice_index (done_of source) (length moved)) {result : Result ℕ Refusal}
    (ing : IngestsOf source.volume.geometry n t u v result) where
  abbrev g : Layout
  g = so.agree.from_layout

  abbrev h : Layout
  h = so.agree.to_layout

  same : t.image ≡ s.image
  same = same_image (read.only alone.from_alone)

  one : source.volume.geometry ≡ g
  one = one_layout {cells = s.cells} {more = s.cells} source.volume.geometry g (can.is_volume alone.from_tells)
      so.agree.from_volume

  tells_t : IsTrue t.tells
  tells_t = subst IsTrue (sym read.called.tells) alone.from_tells

  abbrev at : (d : Document) × (slice_get so.agree.source (length moved) ≡ Some d)
      × (d.slot ≡ slice_index (done_of source) (length moved))
  at = by_place so.agree.source (done_of source) (length moved) (whole.slots so.agree.source so.agree.those) less

  abbrev d : Document
  d = at.0

  old_is : n ≡ d.slot
  old_is = at_place ∙ sym at.2

  stands : Stands s.cells s.image d.slot ing.id ing.body
  stands = held_stands g s.cells s.image d.slot ing.id ing.body so.agree.from_volume
      (subst (λ (k : ℕ). HoldsDocument g s.image k ing.id ing.body) old_is
      (subst (λ (k : Layout). HoldsDocument k s.image n ing.id ing.body) one
      (subst (λ (i : Image). HoldsDocument source.volume.geometry i n ing.id ing.body) same
      (ing.holds tells_t))))

  is_that : (ing.id ≡ d.id) × (ing.body ≡ d.body)
  is_that = one_document s.cells s.image d.slot ing.id ing.body d.id d.body stands
      ((so.agree.those.each d).1 (place_in so.agree.source (length moved) d at.1)).stands

  sound : Sound u.cells u.image
  sound = record { after = u.image; is = nothing so.settled (λ cell. refl); settled = so.settled }

  steady : IsSteady u
  steady = sure_steady u so.sure (inr sound)

  volume_v : IsVolume v.cells v.image h
  volume_v = subst (λ (k : ℕ). IsVolume k v.image h) (sym called.cells) (volume_on called.image so.agree.to_volume)

  from_volume_t : IsVolume t.cells t.image g
  from_volume_t = subst (λ (k : ℕ). IsVolume k t.image g) (sym read.called.cells)
      (volume_on read.called.image so.agree.from_volume)

  those_t : AreDocuments t.cells t.image so.agree.source
  those_t = subst (λ (k : ℕ). AreDocuments k t.image so.agree.source) (sym read.called.cells)
      (subst (λ (i : Image). AreDocuments s.cells i so.agree.source) (sym same) so.agree.those)

  old_pairs : ArePairs g h t.image v.image so.agree.target moved so.agree.source
  old_pairs = pairs_on g h read.called.image called.image so.agree.target moved so.agree.source
      (subst (λ (l : List Document). ArePairs g h s.image u.image l moved so.agree.source)
      (take_all (length moved) so.agree.target (omega (arith, so.all))) so.agree.pairs)

  -- it is the next one, behind those that have their pairs
  pub next_to_copy : IsNextToCopy t u ing.id ing.body
  next_to_copy = record {
    moved = moved;
    copied = record {
      agree = record {
        from_layout = g;
        to_layout = h;
        from_volume = from_volume_t;
        to_volume = so.agree.to_volume;
        source = so.agree.source;
        target = so.agree.target;
        those = those_t;
        these = so.agree.these;
        some = so.agree.some;
        pairs = pairs_on g h read.called.image (extends_self u.image) (take (length moved) so.agree.target) moved
            so.agree.source so.agree.pairs;
      };
      all = so.all;
      settled = so.settled;
      sure = so.sure;
    };
    next = d;
    next_is = at.1;
    id_is = is_that.0;
    body_is = is_that.1;
  }

  -- with the document in this slot, which has the stamp, there is a pair more
  pairs_with : (m : ℕ) → IsStampOf h v.image m ing.stamp
      → ArePairs g h t.image v.image (so.agree.target ++ document_in m ing.id ing.body ∷ [])
      (moved ++ record { old = n; new = m } ∷ []) so.agree.source
  pairs_with m stamped = pairs_push g h t.image v.image so.agree.target moved so.agree.source d
      (document_in m ing.id ing.body) (record { old = n; new = m }) old_pairs at.1
      (record {
        id = is_that.0;
        body = is_that.1;
        stamp = ing.stamp;
        there = subst (λ (k : ℕ). IsStampOf g t.image k ing.stamp) old_is
            (subst (λ (k : Layout). IsStampOf k t.image n ing.stamp) one (ing.stamped tells_t));
        here = stamped;
      })
      old_is refl

  -- a crash leaves the documents that there were, or this one as well
  pub first_of_ingest : StaysFirst t.cells t.image u v
  first_of_ingest since image le left = ⊎_elim inl
      (λ (b : Between u.sure v.image image). ⊎_elim inl
      (λ (l : IsLeftByIngest ing.id ing.stamp ing.body u image). inr (⊎_elim (as_before b) (with_one b l.sound) l.holds))
      ((comes_steady ing.id ing.stamp ing.body u v device_u device alone.to_tells alone.to_alone steady ing.ingests.comes).crashes since
      image le left))
      ((elapses_of called).adds since image le left)
    where
      held : Held u.cells u.image so.agree.target
      held = of_after u.image (nothing so.settled (λ cell. refl)) so.agree.these

      here : IsVolume u.cells v.image h
      here = volume_on called.image so.agree.to_volume

      below : {target : List Document} (pairs : List Moved) → Extends image v.image
          → ArePairs g h t.image v.image target pairs so.agree.source → Held u.cells image target
          → HoldsFirst t.cells t.image u.cells image
      below {target} pairs extends are is = first_below g h so.agree.source target [] pairs from_volume_t here those_t
          (subst (λ (l : List Document). ArePairs g h t.image v.image l pairs so.agree.source)
          (sym (append-nil target)) are)
          extends is

      as_before : Between u.sure v.image image → HoldsOneOf u.cells u.sure u.image image
          → HoldsFirst t.cells t.image u.cells image
      as_before b holds = below moved b.below old_pairs (⊎_elim
          (λ (low : (l : List Document) → Held u.cells u.sure l → Held u.cells image l). low so.agree.target
          (subst (λ (i : Image). Held u.cells i so.agree.target) (sym (same_image so.sure)) held))
          (λ (high : (l : List Document) → Held u.cells u.image l → Held u.cells image l). high so.agree.target held)
          holds)

      with_one : Between u.sure v.image image → IsBlankOrSound u.cells image
          → HoldsOneMore ing.id ing.stamp ing.body u image → HoldsFirst t.cells t.image u.cells image
      with_one b whole_image more = ⊎_elim (λ (blank : (cell : ℕ) → image cell ≡ None). none blank)
          (λ (is : Sound u.cells image).
          let k = volume_of is.is in
          let layout : k.0 ≡ h = one_layout {cells = u.cells} {more = u.cells} k.0 h (volume_on b.below k.1) here in
          below (moved ++ record { old = n; new = more.slot } ∷ []) b.below
          (pairs_with more.slot (stamp_on h more.slot ing.stamp b.below
          (subst (λ (x : Layout). IsStampOf x image more.slot ing.stamp) layout (more.stamped k.0 k.1))))
          (more.holds so.agree.target held))
          whole_image

  -- and it is refused for want of memory or of room alone
  pub ingest_for_room : AreOfOneVersion s u → IsStill u.faults v.faults → (refusal : Refusal) → result ≡ Err refusal
      → IsForRoom (refusal_to refusal)
  ingest_for_room version unfailed refusal is =
      for_room g h so.agree.from_volume so.agree.to_volume
      (version g h so.agree.from_volume so.agree.to_volume) whole.settled so.agree.source so.agree.those so.settled
      so.agree.target so.agree.these moved
      (subst (λ (l : List Document). ArePairs g h s.image u.image l moved so.agree.source)
      (take_all (length moved) so.agree.target (omega (arith, so.all))) so.agree.pairs)
      d at.1 steady alone.to_tells device_u device called alone.to_alone unfailed ing.stamp ing.body is_that.0
      (subst (λ (k : ℕ). IsStampOf g s.image k ing.stamp) old_is
      (subst (λ (k : Layout). IsStampOf k s.image n ing.stamp) one
      (subst (λ (i : Image). IsStampOf source.volume.geometry i n ing.stamp) same (ing.stamped tells_t))))
      refusal (subst (λ (r : Result ℕ Refusal). IngestEnds ing.id ing.stamp ing.body u v r) is ing.ingests.ends)

-- what a crash leaves of copying the document of a place, behind those of the places before it
pub ingest_first : (source : AuditedVolume) {s t u v : DeviceState} → IsDevice u → IsDevice v → IsOnlyRead s t → Called u v
    → CanBeRead s source → (place : ℕ) → place < length (done_of source) → (n : ℕ)
    → n ≡ slice_index (done_of source) place → {result : Result ℕ Refusal}
    → IngestsOf source.volume.geometry n t u v result → (moved : List Moved) → length moved ≡ place
    → WhereCopied source s t u v moved (StaysFirst t.cells t.image u v)
ingest_first source device_u device read called can place less n at ing moved count alone whole so =
    first_of_ingest source device_u device alone read called can whole moved so (omega (arith, count, less)) n
    (at ∙ ap (λ (k : ℕ). slice_index (done_of source) k) (sym count)) ing

-- why that is refused, where nothing hinders
pub ingest_complete : (source : AuditedVolume) {s t u v : DeviceState} → IsDevice u → IsDevice v → IsOnlyRead s t → Called u v
    → CanBeRead s source → (place : ℕ) → place < length (done_of source) → (n : ℕ)
    → n ≡ slice_index (done_of source) place → (refusal : Refusal)
    → IngestsOf source.volume.geometry n t u v (Err refusal) → (moved : List Moved) → length moved ≡ place
    → Completes source s t u v moved {X = Moved} (Err (refusal_to refusal))
ingest_complete source device_u device read called can place less n at refusal ing moved count alone whole so unfailed version =
    ingest_for_room source device_u device alone read called can whole moved so (omega (arith, count, less)) n
    (at ∙ ap (λ (k : ℕ). slice_index (done_of source) k) (sym count)) ing version unfailed.to_unfailed refusal refl

-- why reading the source is, where nothing hinders
pub source_complete : (source : AuditedVolume) {s t u : DeviceState} → IsOnlyRead s t → (refusal : Refusal)
    → ReadingFails s t refusal → (moved : List Moved) → Completes source s t u u moved {X = Moved} (Err (refusal_from refusal))
source_complete source {s} {t} read refusal fails moved alone whole so unfailed version =
    let settled : Settled t.cells t.image = subst (λ (k : ℕ). Settled k t.image) (sym read.called.cells)
    (subst (λ (i : Image). Settled s.cells i) (sym (same_image (read.only alone.from_alone))) whole.settled) in
    subst (λ (r : Refusal). IsForRoom (refusal_from r))
    (sym (reads_settled s t alone.from_tells alone.from_alone unfailed.from_unfailed settled refusal fails)) tt

-- one document more
module _ (source : AuditedVolume) {s t u v : DeviceState} (device_u : IsDevice u) (device : IsDevice v) (alone : AreAlone s t u v)
    (read : IsOnlyRead s t) (called : Called u v) (can : CanBeRead s source) (whole : IsWholeVolume s (done_of source)) (moved : List Moved)
    (so : CopiedSoFar s u moved) (less : length moved < length (done_of source)) (pair : Moved)
    (ends : AddDocumentEnds source (length moved) s t u v (Ok pair)) where
  abbrev ing : IngestsOf source.volume.geometry pair.old t u v (Ok pair.new)
  ing = ends.1

  more : HasOneMore ing.id ing.stamp ing.body pair.new u v
  more = comes_more ing.id ing.stamp ing.body u v pair.new device_u device alone.to_tells alone.to_alone
      (steady source device_u device alone read called can whole moved so less pair.old ends.0 ing)
      (ing.ingests.ends alone.to_tells) ing.ingests.comes

  sure_same : v.sure ≡ v.image
  sure_same = same_image more.sure

  abbrev e : Document
  e = document_in pair.new ing.id ing.body

  long : length (so.agree.target ++ e ∷ []) ≡ length (moved ++ pair ∷ [])
  long = length_push so.agree.target e ∙ ap (λ (k : ℕ). k + 1) so.all ∙ sym (length_push moved pair)

  pairs : ArePairs so.agree.from_layout so.agree.to_layout t.image v.image (so.agree.target ++ e ∷ [])
      (moved ++ pair ∷ []) so.agree.source
  pairs = pairs_with source device_u device alone read called can whole moved so less pair.old ends.0 ing pair.new
      (subst (λ (i : Image). IsStampOf so.agree.to_layout i pair.new ing.stamp) sure_same
      (more.stamped so.agree.to_layout (subst (λ (i : Image). IsVolume v.cells i so.agree.to_layout) (sym sure_same)
      (volume_v source device_u device alone read called can whole moved so less pair.old ends.0 ing))))

  abbrev agree : AgreeSoFar t v (moved ++ pair ∷ [])
  agree = record {
    from_layout = so.agree.from_layout;
    to_layout = so.agree.to_layout;
    from_volume = from_volume_t source device_u device alone read called can whole moved so less pair.old ends.0 ing;
    to_volume = volume_v source device_u device alone read called can whole moved so less pair.old ends.0 ing;
    source = so.agree.source;
    target = so.agree.target ++ e ∷ [];
    those = those_t source device_u device alone read called can whole moved so less pair.old ends.0 ing;
    these = subst (λ (i : Image). AreDocuments v.cells i (so.agree.target ++ e ∷ [])) sure_same
        (more.documents so.agree.target (of_after u.image (nothing so.settled (λ cell. refl)) so.agree.these));
    some = omega (arith, long);
    pairs = subst
        (λ (l : List Document). ArePairs so.agree.from_layout so.agree.to_layout t.image v.image l (moved ++ pair ∷ []) so.agree.source)
        (sym (take_all (length (moved ++ pair ∷ [])) (so.agree.target ++ e ∷ []) (omega (arith, long)))) pairs;
  }

  pub one_more : CopiedSoFar t v (moved ++ pair ∷ [])
  one_more = record { agree = agree; all = long; settled = more.settled; sure = more.sure }

-- the documents up to one place were copied
pub record RestSoFar (source : AuditedVolume) (from now to there : DeviceState) (moved moved_now : List Moved) (place : ℕ)
    : Type 0 where
  pub from_read : IsOnlyRead from now
  pub to_called : Called to there
  pub to_sound : IsSoundThroughout to there
  pub to_first : WhereCopied source from now to there moved (StaysFirst now.cells now.image to there)
  pub same : IsTrue from.tells → IsTrue to.tells → PairsHold from to moved → PairsHold now there moved_now
  pub count : length moved_now ≡ place
  pub goes : CopyGoesOn source from now to there moved moved_now
  pub first : AreOfFirst (done_of source) moved → AreOfFirst (done_of source) moved_now

pub rest_none : (source : AuditedVolume) (from to : DeviceState) (moved : List Moved) (place : ℕ) → length moved ≡ place
    → RestSoFar source from from to to moved moved place
rest_none source from to moved place count = record {
  from_read = read_none from;
  to_called = called_self to;
  to_sound = sound_self to;
  to_first = λ alone whole so since image le left. inl left;
  same = λ from_tells to_tells hold. hold;
  count = count;
  goes = λ alone whole so. so;
  first = λ are. are;
}

-- a document that was ingested says the same as the one that was read
ingested_holds : {source : AuditedVolume} {t u v : DeviceState} → IsDevice v → CanBeRead t source → IsTrue t.tells
    → IsTrue u.tells → (pair : Moved) → IngestsOf source.volume.geometry pair.old t u v (Ok pair.new)
    → HoldSame t v pair.old pair.new
ingested_holds {source} {t} {u} {v} device can t_tells u_tells pair ing =
    let is = ing.ingests.ends u_tells in
    record {
      from_layout = source.volume.geometry;
      to_layout = is.layout;
      from_volume = can.is_volume t_tells;
      to_volume = is.volume;
      d = document_in pair.old ing.id ing.body;
      e = document_in pair.new ing.id ing.body;
      old_is = refl;
      new_is = refl;
      there = held_stands source.volume.geometry t.cells t.image pair.old ing.id ing.body (can.is_volume t_tells)
          (ing.holds t_tells);
      here = stands_on device.sure is.document;
      same = record {
        id = refl;
        body = refl;
        stamp = ing.stamp;
        there = ing.stamped t_tells;
        here = stamp_on is.layout pair.new ing.stamp device.sure is.stamped;
      };
    }

-- nobody else wrote up to a moment between
pub alone_first : {a b c x y z : DeviceState} → Called a b → Called b c → Called x y → Called y z → AreAlone a c x z
    → AreAlone a b x y
alone_first p q r s alone = record {
  from_tells = alone.from_tells;
  to_tells = alone.to_tells;
  from_alone = still_first p.foreign_writes q.foreign_writes alone.from_alone;
  to_alone = still_first r.foreign_writes s.foreign_writes alone.to_alone;
}

-- nor from there on
pub alone_second : {a b c x y z : DeviceState} → Called a b → Called b c → Called x y → Called y z → AreAlone a c x z
    → AreAlone b c y z
alone_second p q r s alone = record {
  from_tells = subst IsTrue (sym p.tells) alone.from_tells;
  to_tells = subst IsTrue (sym r.tells) alone.to_tells;
  from_alone = still_second p.foreign_writes q.foreign_writes alone.from_alone;
  to_alone = still_second r.foreign_writes s.foreign_writes alone.to_alone;
}

-- the volumes have one version still
module _ {source : AuditedVolume} {from now to there : DeviceState} {moved moved_now : List Moved} {place : ℕ}
    (so_far : RestSoFar source from now to there moved moved_now place) where
  version_now : CopiedSoFar from to moved → AreOfOneVersion from to → AreOfOneVersion now there
  version_now so version g h from_volume to_volume =
      let one : g ≡ so.agree.from_layout = one_layout {cells = now.cells} {more = now.cells} g so.agree.from_layout from_volume
      (subst (λ (k : ℕ). IsVolume k now.image so.agree.from_layout) (sym so_far.from_read.called.cells)
      (volume_on so_far.from_read.called.image so.agree.from_volume)) in
      let two : h ≡ so.agree.to_layout = one_layout {cells = there.cells} {more = there.cells} h so.agree.to_layout to_volume
      (subst (λ (k : ℕ). IsVolume k there.image so.agree.to_layout) (sym so_far.to_called.cells)
      (volume_on so_far.to_called.image so.agree.to_volume)) in
      ap (λ (k : Layout). k.version) two
      ∙ version so.agree.from_layout so.agree.to_layout so.agree.from_volume so.agree.to_volume
      ∙ sym (ap (λ (k : Layout). k.version) one)

module _ {source : AuditedVolume} {from now new to there then : DeviceState} {moved moved_now : List Moved} {place : ℕ}
    (can : CanBeRead from source) (so_far : RestSoFar source from now to there moved moved_now place) where
  -- what a crash has left so far, and what it leaves of the next document
  pub rest_first : IsDevice now → (result : Result Moved CopyRefusal) → AddsNext source place now new there then result
      → WhereCopied source from new to then moved (StaysFirst new.cells new.image to then)
  rest_first device_now result adds alone whole so =
      let before = alone_first so_far.from_read.called adds.from_read.called so_far.to_called adds.to_called alone in
      let behind = alone_second so_far.from_read.called adds.from_read.called so_far.to_called adds.to_called alone in
      first_then then so_far.to_called
      (subst (λ (k : ℕ). StaysFirst k new.image to there) (sym adds.from_read.called.cells)
      (subst (λ (i : Image). StaysFirst now.cells i to there) (sym (same_image (adds.from_read.only behind.from_alone)))
      (so_far.to_first before whole so)))
      (adds.to_first moved_now so_far.count behind (whole_on device_now so_far.from_read before.from_alone whole)
      (so_far.goes before whole so))

  -- nothing else hinders the next document
  pub rest_complete : IsDevice now → (refusal : CopyRefusal) → AddsNext source place now new there then (Err refusal)
      → Completes source from new to then moved {X = Unit} (Err refusal)
  rest_complete device_now refusal adds alone whole so unfailed version =
      let before = alone_first so_far.from_read.called adds.from_read.called so_far.to_called adds.to_called alone in
      let behind = alone_second so_far.from_read.called adds.from_read.called so_far.to_called adds.to_called alone in
      adds.complete moved_now so_far.count behind (whole_on device_now so_far.from_read before.from_alone whole)
      (so_far.goes before whole so)
      (record {
        from_unfailed = still_second so_far.from_read.called.faults adds.from_read.called.faults unfailed.from_unfailed;
        to_unfailed = still_second so_far.to_called.faults adds.to_called.faults unfailed.to_unfailed;
      })
      (version_now so_far so version)

  pub rest_more : IsDevice now → IsDevice there → IsDevice then → place < length (done_of source) → (pair : Moved)
      → AddsNext source place now new there then (Ok pair)
      → RestSoFar source from new to then moved (moved_now ++ pair ∷ []) (place + 1)
  rest_more device_now device_there device_then less pair adds = record {
    from_read = read_then so_far.from_read adds.from_read;
    to_called = called_then so_far.to_called adds.to_called;
    to_sound = sound_then so_far.to_called adds.to_called so_far.to_sound adds.to_sound;
    to_first = rest_first device_now (Ok pair) adds;
    same = λ from_tells to_tells hold.
        let read = called_then so_far.from_read.called adds.from_read.called in
        pairs_hold_push moved_now pair
        (pairs_hold_on adds.from_read.called adds.to_called moved_now (so_far.same from_tells to_tells hold))
        (ingested_holds device_then (can_on read can) (subst IsTrue (sym read.tells) from_tells)
        (subst IsTrue (sym so_far.to_called.tells) to_tells) pair adds.ends.1);
    count = length_push moved_now pair ∙ ap (λ (n : ℕ). n + 1) so_far.count;
    goes = λ alone whole so.
        let before = alone_first so_far.from_read.called adds.from_read.called so_far.to_called adds.to_called alone in
        one_more source device_there device_then
        (alone_second so_far.from_read.called adds.from_read.called so_far.to_called adds.to_called alone)
        adds.from_read adds.to_called (can_on so_far.from_read.called can)
        (whole_on device_now so_far.from_read before.from_alone whole) moved_now
        (so_far.goes before whole so) (omega (arith, so_far.count, less)) pair
        (subst (λ (n : ℕ). AddDocumentEnds source n now new there then (Ok pair)) (sym so_far.count) adds.ends);
    first = λ are. first_push (done_of source) moved_now pair (omega (arith, so_far.count, less))
        (adds.ends.0 ∙ ap (λ (n : ℕ). slice_index (done_of source) n) (sym so_far.count)) (so_far.first are);
  }

  pub rest_fails : IsDevice now → IsDevice there → IsDevice then → place < length (done_of source) → (refusal : CopyRefusal)
      → AddsNext source place now new there then (Err refusal) → RestFails source moved from new to then refusal
  rest_fails device_now device_there device_then less refusal adds = go refusal adds.ends
    where
      -- it was the next one, behind those that have their pairs
      was_next : {r : Refusal} → (fails : IngestsOf source.volume.geometry (slice_index (done_of source) place) new there then (Err r))
          → WhereCopied source from new to then moved (IsNextToCopy new there fails.id fails.body)
      was_next fails alone whole so =
          let before = alone_first so_far.from_read.called adds.from_read.called so_far.to_called adds.to_called alone in
          next_to_copy source device_there device_then
          (alone_second so_far.from_read.called adds.from_read.called so_far.to_called adds.to_called alone)
          adds.from_read adds.to_called (can_on so_far.from_read.called can)
          (whole_on device_now so_far.from_read before.from_alone whole) moved_now
          (so_far.goes before whole so) (omega (arith, so_far.count, less)) (slice_index (done_of source) place)
          (ap (λ (k : ℕ). slice_index (done_of source) k) (sym so_far.count)) fails

      go : (r : CopyRefusal) → AddFails source.volume.geometry (slice_index (done_of source) place) now new there then r
          → RestFails source moved from new to then r
      go copies.NoMemory fails = tt
      go (copies.From refusals.NoMemory) fails = absurd fails
      go (copies.From r) fails = reading_later so_far.from_read.called adds.from_read.called r fails
      go (copies.To refusals.NoMemory) fails = absurd fails
      go (copies.To r) fails = record {
        between = there;
        called = so_far.to_called;
        slot = slice_index (done_of source) place;
        ingests = fails;
        next = was_next fails;
      }
      go r fails = absurd fails
