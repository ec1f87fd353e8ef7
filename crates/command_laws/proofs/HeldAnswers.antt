-- From a steady device, where nobody else writes, a query answers by just the documents that the volume held at entry.
use Rattle.std.proofs.Common.{◌≡◌, ◌<◌, ℕ, List, Result, Ok, Err, sym, ◌∙◌, subst}
use Rattle.std.specs.Prelude.{Contains}
use Rattle.cell_types.specs.Image.{Image}
use Rattle.cell_types.specs.Layout.{Layout}
use Rattle.cell_types.specs.declared.refusal.Refusal.{Refusal}
use Rattle.cell_types.specs.declared.refusal.Refusal.TheVariants as refusals
use Rattle.volume_meaning.specs.Documents.{AreDocuments, Document, Stands}
use Rattle.volume_meaning.specs.Keeping.{Kept}
use Rattle.tamper_rules.proofs.GivenUp.{one_layout}
use Rattle.tamper_rules.proofs.Keeps.{keeps_all}
use Rattle.tamper_rules.proofs.Settled.{taken_below, written}
use Rattle.tamper_rules.specs.Settling.{Held, Settled}
use Rattle.worm_device.specs.State.{DeviceState, IsDevice}
use Rattle.recovery_engine.specs.Settling.{HasSettled, Settles, SettlesFirst, settled, settling}
use Rattle.recovery_engine.specs.declared.settling.Ready.{Ready}
use Rattle.crash_laws.proofs.LeftWhole.{documents_after}
use Rattle.crash_laws.proofs.LookedAt.{looked_ends, looked_sound}
use Rattle.record_query.specs.Finding.{Finds}
use Rattle.record_query.specs.LookingUp.{IsAbsent, NoneHas}
use Rattle.record_query.specs.declared.found.Match.{Match}
use Rattle.command_laws.specs.Begins.{BeginsSteady}
use Rattle.command_laws.specs.Telling.{AreMatchesOf}
use Rattle.command_laws.proofs.Results.{no_answer, one_refusal}

module _ (old new : DeviceState) (device : IsDevice old) (device_new : IsDevice new)
    (begins : BeginsSteady old new) where
  -- behind a query that was not refused by settling stand just the documents that stood
  pub documents_now : (r : Ready) → HasSettled old new r → (documents : List Document)
      → Held old.cells old.image documents
      → AreDocuments new.cells new.image documents
  documents_now r has documents held =
      let sound = looked_sound old new r begins.tells has begins.alone device device_new begins.steady in
      let ends = looked_ends old new r begins.tells has begins.alone device_new.sure sound in
      let are : AreDocuments old.cells sound.after documents = documents_after sound documents held in
      subst (λ (k : ℕ). AreDocuments k new.image documents) (sym (has.looked.cells ∙ has.settles.called.cells))
      (subst (λ (i : Image). AreDocuments old.cells i documents) (sym ends.image) are)

  -- the volume is settled, and keeps them
  pub settled_now : (r : Ready) → HasSettled old new r → Settled new.cells new.image
  settled_now r has =
      let sound = looked_sound old new r begins.tells has begins.alone device device_new begins.steady in
      let ends = looked_ends old new r begins.tells has begins.alone device_new.sure sound in
      subst (λ (k : ℕ). Settled k new.image) (sym (has.looked.cells ∙ has.settles.called.cells))
      (subst (λ (i : Image). Settled old.cells i) (sym ends.image) sound.settled)

  module _ (whole : Settled new.cells new.image) (documents : List Document)
      (are : AreDocuments new.cells new.image documents) where
    pub all_kept : Kept new.cells new.image documents
    all_kept = keeps_all new.cells new.image documents whole are

    -- one that stands is one of them
    pub stands_among : (n : ℕ) (id body : List ℕ) → Stands new.cells new.image n id body
        → Contains documents (record { slot = n; id = id; body = body })
    stands_among n id body stands =
        let one : stands.layout ≡ whole.layout =
        one_layout {cells = new.cells} {more = new.cells} stands.layout whole.layout stands.volume whole.volume in
        (are.each (record { slot = n; id = id; body = body })).0 (record {
          stands = stands;
          taken = taken_below whole.layout new.image whole.settled n
              (subst (λ (h : Layout). n < h.slots) one stands.slot) (written stands.done.commits.reserves);
        })

    -- a search has found just those of them that have the terms
    pub just_these : (terms : List (List ℕ)) (matches : List Match) → Finds terms old new matches
        → AreMatchesOf new terms documents matches
    just_these terms matches finds = record {
      all = λ d among has. finds.alone begins.alone documents all_kept d among has;
      only = λ found among.
          let is = finds.only found among in (
            is.body,
            stands_among found.slot found.identifier is.body is.stands,
            is.bytes_is,
            is.has,
          );
      rise = finds.rise;
    }

  -- behind a query that answered the volume is settled, and just those documents stand that were held
  pub stand_now : {X : Type 0} (a : X) (documents : List Document) → Held old.cells old.image documents
      → (answer : Result X Refusal) → answer ≡ Ok a → SettlesFirst X old new answer
      → Settled new.cells new.image × AreDocuments new.cells new.image documents
  stand_now a documents held answer ok (settling refusal is settles) = absurd (no_answer answer a refusal ok is)
  stand_now a documents held answer ok (settled r has) = (settled_now r has, documents_now r has documents held)

  -- nothing is absent by settling
  pub absent_settled : {X : Type 0} {answer : Result X Refusal} → answer ≡ Err refusals.Absent
      → SettlesFirst X old new answer → (r : Ready) × HasSettled old new r
  absent_settled {answer} absent (settling refusal is settles) =
      let same : refusal ≡ refusals.Absent = one_refusal answer refusal refusals.Absent is absent in
      absurd (subst (λ (x : Refusal). Settles old new (Err x)) same settles).ends
  absent_settled absent (settled r has) = (r, has)

  -- and where a look-up finds none, none that was held has the identifier
  pub none_held : {X : Type 0} (id : List ℕ) (documents : List Document) → Held old.cells old.image documents
      → (answer : Result X Refusal) → answer ≡ Err refusals.Absent → SettlesFirst X old new answer
      → IsAbsent id old new → AreDocuments new.cells new.image documents × NoneHas id documents
  none_held id documents held answer absent comes none =
      let found = absent_settled absent comes in
      let are = documents_now found.0 found.1 documents held in
      let whole = settled_now found.0 found.1 in
      (are, none.alone begins.alone documents (all_kept whole documents are))
