-- Documents that are read of kept cells.
use Rattle.std.proofs.Common.{rules, ◌≡◌, ◌++◌, ◌∷◌, ℕ, List, length, take, drop, Ok, Err, refl, sym, ◌∙◌, subst, ap, arith}
use Rattle.std.specs.Prelude.{IsTrue, true}
use Rattle.std.proofs.Math.Seq.{take-append_seam}
use Rattle.cell_types.specs.Image.{Image}
use Rattle.cell_types.specs.Layout.{Layout, outcome_at}
use Rattle.volume_meaning.specs.Documents.{IsBody, IsIdentifier, Spells, Stands, document_at, stored_bytes}
use Rattle.volume_meaning.specs.Slots.{IsDone}
use Rattle.volume_meaning.specs.Volumes.{IsVolume}
use Rattle.worm_device.specs.Views.{Viewed, ViewState}
use Rattle.worm_device.proofs.Resting.{rests_of}
use Rattle.tamper_rules.specs.Rules.{Documents, HasDocument}
use Rattle.tamper_rules.proofs.Images.{same_image}
use Rattle.append_file.specs.Reading.{HasRead}
use Rattle.append_file.specs.declared.position.Position.{Position}
use Rattle.append_file.proofs.Spelled.{front_of}
use Rattle.append_file.specs.declared.piece.ContentFault.{ContentFault}
use Rattle.append_file.specs.declared.piece.ContentFault.TheVariants as faults
use Rattle.document_store.specs.Heads.{HeadEnds, id_of}
use Rattle.document_store.specs.declared.head.Head.{Head}
use Rattle.document_store.proofs.Parsing.{first_is, stored_fits}
use Rattle.log_audit.specs.Kept.{image_of_kept, view_of}
use Rattle.log_audit.specs.declared.kept.KeptCells.{KeptCells}
use Rattle.log_audit.specs.Findings.{IsMetAll}
use Rattle.log_audit.specs.Logs.{IsLog}
use Rattle.log_audit.specs.Stored.{IsStored}
use Rattle.log_audit.specs.declared.log.Log.{Log}
use Rattle.log_audit.specs.declared.stored.StoredSlot.{StoredSlot}
use Rattle.log_audit.proofs.Deciding.{held_written}
use Rattle.log_audit.proofs.Storing.{stored_is_live, stores_it}
use Rattle.tree_audit.specs.Documents.{HasHead}

told : IsTrue true
told = search rules

-- a view of kept cells shows the same after each read
same_kept : (a b : KeptCells) → Viewed (view_of a) (view_of b) → image_of_kept b ≡ image_of_kept a
same_kept a b viewed = same_image ((rests_of viewed).shown (record { same = refl; below = omega arith }))

-- where rule 4 is kept, the cells of a stored slot spell a document
document_in : {g : Layout} {image : Image} {s : StoredSlot} {start : ℕ} → start ≡ document_at s.start s.length s.bytes s.journal
    → IsStored g image s → IsMetAll g image Documents → HasDocument image start s.bytes
document_in {g} {image} {s} {start} same stored met = subst (λ (a : ℕ). HasDocument image a s.bytes) (sym same)
    (met (outcome_at s.slot) (held_written stored.done.commits.outcome) s.slot stored.done.commits.reserves.slot refl
    s.start s.length s.bytes s.journal (stores_it stored))

-- the identifier that was read is that of the document that stands there
identifier_is : (v : ViewState) (start bytes : ℕ) (p : Position) → IsTrue v.base.tells → (own : List ℕ) → HasRead v start bytes p (length own ∷ own)
    → (id body : List ℕ) → bytes ≡ length (stored_bytes id body) → IsIdentifier id → IsBody body → Spells v.image start (stored_bytes id body) → own ≡ id
identifier_is v start bytes p tells own read id body count is_id is_body spells =
    let all : (length own ∷ own) ≡ take (length (length own ∷ own)) (stored_bytes id body) =
    front_of v start bytes p (length own ∷ own) read tells (stored_bytes id body) count (stored_fits id body is_id is_body) spells in
    let first : length own ≡ length id =
    first_is v start bytes p tells (length own) own read (record { id = id; body = body; count = count; spells = spells; is_identifier = is_id; is_body = is_body }) in
    ap (drop 1) all
    ∙ ap (λ (n : ℕ). take n (id ++ body)) first
    ∙ take-append_seam id body

module _ (g : Layout) (log : Log) (s : StoredSlot) (start : ℕ) (a b : KeptCells) (stored : IsStored g (image_of_kept a) s)
    (at : start ≡ document_at s.start s.length s.bytes s.journal) (viewed : Viewed (view_of a) (view_of b)) where
  -- what stands before the body of the document of a stored slot was read
  pub head_was_read : IsVolume g.cells (image_of_kept a) g → IsLog g (image_of_kept a) log → IsMetAll g (image_of_kept a) Documents → (p : Position) (h : Head)
      → HeadEnds start s.bytes (view_of a) (view_of b) p (Ok h) → HasHead g (image_of_kept a) s.slot h
  head_was_read volume is met p h ends =
      let image = image_of_kept a in
      let d = document_in at stored met in
      let shown : HasDocument (image_of_kept b) start s.bytes = subst (λ (i : Image). HasDocument i start s.bytes) (sym (same_kept a b viewed)) d in
      let same : id_of h ≡ d.id = identifier_is (view_of b) start s.bytes p told (id_of h) ends.1.read d.id d.body d.count d.is_identifier d.is_body
      (subst (λ (i : Image). Spells i start (stored_bytes d.id d.body)) (sym (same_kept a b viewed)) d.spells) in
      record {
        live = stored_is_live g image log is s stored;
        room = ends.1.room;
        body = d.body;
        stands = subst (λ (id : List ℕ). Stands g.cells image s.slot id d.body) (sym same) (record {
          layout = g;
          start = s.start;
          reserved = s.length;
          journal = s.journal;
          volume = volume;
          slot = stored.done.commits.reserves.slot;
          done = subst (λ (n : ℕ). IsDone g image s.slot s.start s.length n s.journal) d.count stored.done;
          spells = subst (λ (n : ℕ). Spells image (document_at s.start s.length n s.journal) (stored_bytes d.id d.body)) d.count
              (subst (λ (from : ℕ). Spells image from (stored_bytes d.id d.body)) at d.spells);
          is_identifier = d.is_identifier;
          is_body = d.is_body;
        });
      }

  -- and it always is
  pub head_is_read : IsMetAll g (image_of_kept a) Documents → (p : Position) (fault : ContentFault)
      → HeadEnds start s.bytes (view_of a) (view_of b) p (Err fault) → ⊥
  head_is_read met p faults.ReadFault ends = omega (arith, ends)
  head_is_read met p faults.Broken ends =
      ends.1 told (subst (λ (i : Image). HasDocument i start s.bytes) (sym (same_kept a b viewed)) (document_in at stored met))
