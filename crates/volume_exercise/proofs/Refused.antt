-- Which refusals an event of the exercise may meet, where those before it were done.
use Rattle.std.proofs.Common.{◌≡◌, ◌≤◌, ◌<◌, ◌+◌, ◌*◌, ◌-◌, ◌^◌, ℕ, suc, zero, List, [], ◌∷◌, length, None, Err, refl, sym, ap, ◌∙◌, subst, arith}
use Rattle.std.specs.Prelude.{Contains}
use Rattle.std.proofs.lemmas.Option.{none-some}
use Rattle.cell_types.specs.Image.{Image}
use Rattle.cell_types.specs.Layout.{Layout, TakesNoStamps}
use Rattle.cell_types.specs.declared.refusal.Evidence.{Evidence}
use Rattle.cell_types.specs.declared.refusal.Refusal.{Refusal}
use Rattle.cell_types.specs.declared.refusal.Refusal.TheVariants as refusals
use Rattle.volume_meaning.specs.Documents.{AreDocuments, Document, Stands}
use Rattle.volume_meaning.specs.Slots.{IsEdge, IsHorizon}
use Rattle.volume_meaning.specs.Volumes.{IsVolume}
use Rattle.volume_meaning.specs.Words.{rule_of}
use Rattle.volume_meaning.specs.declared.word_rules.WordRule.TheVariants.{Ascii}
use Rattle.volume_meaning.proofs.Extending.{volume_on, written_on}
use Rattle.tamper_rules.specs.Settling.{Held, Sound, nothing}
use Rattle.tamper_rules.proofs.Settled.{one_horizon}
use Rattle.worm_device.specs.Calls.{Called}
use Rattle.worm_device.specs.Counts.{IsStill}
use Rattle.worm_device.specs.State.{DeviceState, IsDevice}
use Rattle.worm_device.proofs.Counting.{rose_or_still}
use Rattle.document_store.proofs.Holding.{held_stands}
use Rattle.volume_meaning.specs.Postings.{ArePostings, AreTags}
use Rattle.recovery_engine.specs.Settling.{HasSettled}
use Rattle.recovery_engine.specs.declared.settling.Ready.{Ready}
use Rattle.plan_writer.proofs.PutFrom.{volume_2}
use Rattle.crash_laws.proofs.LookedAt.{looked_ends}
use Rattle.crash_laws.proofs.WellPlanned as planned
use Rattle.ingest_engine.specs.Ingesting.{HasNoRoom, HasNoSlot, IngestEnds, IsIdentifierTaken, IsTooMany, TakesNoSuchStamp}
use Rattle.ingest_engine.proofs.CrashedIngests.{ready_layout}
use Rattle.command_laws.specs.Begins.{BeginsSteady}
use Rattle.command_laws.proofs.HeldAnswers.{stands_among}
use Rattle.command_laws.proofs.WholeLogs.{no_blank_cell, no_other_cell, no_other_size}
use Rattle.hostile_replay.proofs.Reading.{settled_documents}
use Rattle.volume_exercise.specs.Documents.{body_of, identifier_of}
use Rattle.volume_exercise.specs.Refusing.{IsOfExercise}
use Rattle.volume_exercise.proofs.Few.{few_cells, few_postings, few_tags, same_identifier}
use Rattle.volume_exercise.proofs.Rowed.{AreFrom}
use Rattle.volume_exercise.proofs.Stocked.{IsStocked, settled_by}

-- a document of these has the identifier of a lower number
pub number_of : (k : ℕ) (ds : List Document) → AreFrom k ds → (d : Document) → Contains ds d
    → (j : ℕ) × (j < length ds) × (d.id ≡ identifier_of (k + j))
number_of k [] are d (p, low, is) = absurd (omega (arith, low))
number_of k (e ∷ ds) are d (zero, low, is) =
    let same : k ≡ k + 0 = omega arith in
    (zero, omega arith, ap (λ (x : Document). x.id) (sym is) ∙ are.0 ∙ ap identifier_of same)
number_of k (e ∷ ds) are d (suc p, low, is) =
    let rest = number_of (k + 1) ds are.2 d (p, omega (arith, low), is) in
    let same : k + 1 + rest.0 ≡ k + suc rest.0 = omega arith in
    (suc rest.0, omega (arith, rest.1), rest.2 ∙ ap identifier_of same)

-- An ingest of document k, on a volume with n slots of which k are taken, and which holds the documents before it.
module _ (n k : ℕ) (g : Layout) (s t : DeviceState) (begins : BeginsSteady s t) (device : IsDevice s)
    (device_new : IsDevice t) (called : Called s t) (no_fault : IsStill s.faults t.faults) (stocked : IsStocked g k s)
    (less : k < n) (most : n ≤ 2000) (slots : g.slots ≡ n) (lists : g.lists ≡ 16) (cells : g.cells ≡ 8192 + 5300 * n)
    (rule : rule_of g.version ≡ Ascii) (unstamped : TakesNoStamps g) (documents : List Document) (are : AreFrom 0 documents)
    (many : length documents ≡ k) (held : Held s.cells s.image documents)
    (no_alarm : (e : Evidence) → IngestEnds (identifier_of k) None (body_of k) s t (Err (refusals.Tampered e)) → ⊥) where
  abbrev id : List ℕ
  id = identifier_of k

  abbrev body : List ℕ
  body = body_of k

  abbrev sound : Sound s.cells s.image
  sound = record { after = s.image; is = nothing stocked.settled (λ cell. refl); settled = stocked.settled }

  layout : (r : Ready) → HasSettled s t r → r.volume.geometry ≡ g
  layout r h = (ready_layout s t r g h begins.tells stocked.volume).0

  -- the volume was settled, so nothing has changed
  same_image : (r : Ready) → HasSettled s t r → t.image ≡ s.image
  same_image r h = (looked_ends s t r begins.tells h begins.alone device_new.sure sound).image

  horizon_here : (u : ℕ) → IsHorizon g s.image s.image u → u ≡ k
  horizon_here u is = one_horizon g s.image (settled_by g s stocked.volume stocked.settled) u k is stocked.horizon

  -- no document of a volume of the first version has a stamp
  not_needed : TakesNoSuchStamp None s t refusals.StampNeeded → ⊥
  not_needed h =
      omega (arith, unstamped, h.ends.0, ap (λ (l : Layout). l.version) (layout h.ready h.settled))

  not_full : HasNoSlot None s t → ⊥
  not_full h =
      let has = h.settled in
      let ends = has.settles.ends.1 begins.tells in
      let all : h.ready.horizon ≡ g.slots = h.taken ∙ ap (λ (l : Layout). l.slots) (layout h.ready has) in
      let there : IsHorizon g t.image t.image g.slots = record {
        most = omega arith;
        below = λ m is. written_on has.looked.image (ends.horizon.below m (all ∙ is));
        free = λ low. absurd (omega (arith, low));
      } in
      let is = horizon_here g.slots (subst (λ (i : Image). IsHorizon g i i g.slots) (same_image h.ready has) there) in
      omega (arith, is, slots, less)

  not_taken : (m : ℕ) → IsIdentifierTaken id None m s t → ⊥
  not_taken m h =
      let has = h.settled.settled in
      let taken = h.holds begins.tells in
      let stands : Stands t.cells t.image m id taken.body =
      held_stands h.ready.volume.geometry t.cells t.image m id taken.body
      (volume_2 h.ready has begins.tells) taken.holds in
      let before : Stands s.cells s.image m id taken.body =
      subst (λ (c : ℕ). Stands c s.image m id taken.body) called.cells
      (subst (λ (i : Image). Stands t.cells i m id taken.body) (same_image h.ready has) stands) in
      let stand : AreDocuments s.cells s.image documents = settled_documents s.cells s.image documents stocked.settled held in
      let among = stands_among s s device device
      (record { tells = begins.tells; steady = begins.steady; alone = record { same = refl; below = still_below } })
      stocked.settled documents stand m id taken.body before in
      let number = number_of 0 documents are (record { slot = m; id = id; body = taken.body }) among in
      let same : 0 + number.0 ≡ number.0 = omega arith in
      let is : k ≡ number.0 = same_identifier k number.0 (omega (arith, less, most)) (omega (arith, number.1, many, less, most))
      (number.2 ∙ ap identifier_of same) in
      omega (arith, is, number.1, many)
    where
      still_below : s.foreign_writes < 2 ^ 64 - 1
      still_below = omega (arith, begins.alone.same, begins.alone.below)

  few : (list count : ℕ) → IsTooMany id None body list count s t → ⊥
  few list count h =
      let many_tags = h.ends.many in
      let one = layout h.ready h.settled.settled in
      let tags = subst (λ (l : Layout). AreTags l body list many_tags.tags) one many_tags.are in
      omega (arith, few_tags g rule k list many_tags.tags tags, many_tags.number, many_tags.many)

  fits : (need free : ℕ) → HasNoRoom id None body need free s t → ⊥
  fits need free h =
      let has = h.settled.settled in
      let one = layout h.ready has in
      let edge : IsEdge g s.image s.image h.ready.edge =
      subst (λ (l : Layout). IsEdge l s.image s.image h.ready.edge) one
      (subst (λ (i : Image). IsEdge h.ready.volume.geometry i i h.ready.edge) (same_image h.ready has)
      (planned.edge_now s t h.ready begins.tells has begins.alone device device_new begins.steady id None body h.settled.takes h.index
      h.settled.slot h.has)) in
      let low = stocked.edge h.ready.edge edge in
      let rows = few_postings g rule k h.ready.horizon h.has.planned.rows
      (subst (λ (l : Layout). ArePostings l None body h.ready.horizon h.has.planned.rows) one h.has.planned.are) in
      let all = ap (λ (l : Layout). l.cells) one in
      omega (arith, low, rows, few_cells k, h.has.planned.most, h.need_is, h.free_is, h.less, all, slots, lists, cells, less)

  volume_now : IsVolume t.cells t.image g
  volume_now = subst (λ (c : ℕ). IsVolume c t.image g) (sym called.cells) (volume_on called.image stocked.volume)

  pub ingest_refused : (refusal : Refusal) → IngestEnds id None body s t (Err refusal) → IsOfExercise refusal
  ingest_refused refusals.NoMemory ends = tt
  ingest_refused refusals.PathFull ends = tt
  ingest_refused refusals.DeviceFault ends = absurd (rose_or_still _ _ ends no_fault)
  ingest_refused (refusals.Tampered e) ends = absurd (no_alarm e ends)
  ingest_refused refusals.StampNeeded ends = absurd (not_needed ends)
  ingest_refused refusals.StampUnused ends = absurd (none-some ends.ends.1.0 ends.ends.1.1)
  ingest_refused (refusals.StampTooEarly given last) ends = absurd (none-some given ends.early.given_is)
  ingest_refused refusals.SlotsFull ends = absurd (not_full ends)
  ingest_refused (refusals.Duplicate m) ends = absurd (not_taken m ends)
  ingest_refused (refusals.TooManyTerms list count) ends = absurd (few list count ends)
  ingest_refused (refusals.Full need free) ends = absurd (fits need free ends)
  ingest_refused refusals.NotFormatted ends = absurd (no_blank_cell stocked.volume (ends begins.tells))
  ingest_refused (refusals.NotAVolume found) ends =
      let is = ends begins.tells in absurd (no_other_cell volume_now found is.0 is.1)
  ingest_refused (refusals.WrongSize stated real) ends =
      let is = ends.2 begins.tells in
      absurd (ends.1 (no_other_size volume_now is.0 stated is.1 is.2 ∙ sym ends.0))
  ingest_refused refusal ends = absurd ends
