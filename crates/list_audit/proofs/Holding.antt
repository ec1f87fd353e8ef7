-- The documents that stored slots hold.
use Rattle.std.proofs.Common.{◌≡◌, inr, ℕ, List, length, refl, sym, ◌∙◌, subst}
use Rattle.cell_types.specs.Image.{Image}
use Rattle.cell_types.specs.Layout.{Layout, outcome_at}
use Rattle.document_store.specs.Standing.{HoldsDocument}
use Rattle.volume_meaning.specs.Documents.{Spells, document_at, stored_bytes}
use Rattle.volume_meaning.specs.Slots.{IsDone}
use Rattle.tamper_rules.specs.Rules.{Documents, HasDocument}
use Rattle.log_audit.specs.Findings.{IsMetAll}
use Rattle.log_audit.specs.Stored.{IsStored}
use Rattle.log_audit.specs.declared.stored.StoredSlot.{StoredSlot}
use Rattle.log_audit.proofs.Deciding.{held_written}
use Rattle.log_audit.proofs.Storing.{stores_it, one_row}
use Rattle.list_audit.specs.Bodies.{AreStored, IsStoredDocument}

module _ {g : Layout} {image : Image} {s : StoredSlot} (stored : IsStored g image s) where
  -- where rule 4 is kept, its cells spell a document
  pub document_in : IsMetAll g image Documents → (at : ℕ) → at ≡ document_at s.start s.length s.bytes s.journal
      → HasDocument image at s.bytes
  document_in met at same = subst (λ (a : ℕ). HasDocument image a s.bytes) (sym same)
      (met (outcome_at s.slot) (held_written stored.done.commits.outcome) s.slot stored.done.commits.reserves.slot refl
      s.start s.length s.bytes s.journal (stores_it stored))

  -- and it holds one
  pub held_by : IsMetAll g image Documents → (id : List ℕ) × (body : List ℕ) × HoldsDocument g image s.slot id body
  held_by met =
      let has = document_in met (document_at s.start s.length s.bytes s.journal) refl in (
        has.id,
        has.body,
        record {
          start = s.start;
          reserved = s.length;
          journal = s.journal;
          done = subst (λ (b : ℕ). IsDone g image s.slot s.start s.length b s.journal) has.count stored.done;
          spells = subst (λ (b : ℕ). Spells image (document_at s.start s.length b s.journal) (stored_bytes has.id has.body)) has.count has.spells;
          is_identifier = has.is_identifier;
          is_body = has.is_body;
        },
      )

  -- what was read are the stored bytes of the document that it holds
  pub read_of : (at : ℕ) (all : List ℕ) → at ≡ document_at s.start s.length s.bytes s.journal → AreStored image at s.bytes all
      → (id body : List ℕ) → HoldsDocument g image s.slot id body → all ≡ stored_bytes id body
  read_of at all same are id body h =
      let row = one_row stored refl (record { commits = h.done.commits; done = inr h.done.done }) in
      let a = row.0 in let b = row.1 in let d = row.2 in let e = row.3 in
      let place : document_at h.start h.reserved (length (stored_bytes id body)) h.journal ≡ document_at s.start s.length s.bytes s.journal = cc in
      are id body h.is_identifier h.is_body (sym d)
      (subst (λ (n : ℕ). Spells image n (stored_bytes id body)) (place ∙ sym same) h.spells)

-- they are stored bytes
pub stored_document : {image : Image} {at bytes : ℕ} {all : List ℕ} → HasDocument image at bytes → AreStored image at bytes all
    → IsStoredDocument all
stored_document has are = record {
  id = has.id;
  body = has.body;
  is = are has.id has.body has.is_identifier has.is_body has.count has.spells;
}
