-- A plan of a document and of its index suits the volume that it was made for.
use Rattle.std.proofs.Common.{◌≡◌, ◌≤◌, ◌<◌, ◌+◌, ◌-◌, ◌^◌, ◌⊎◌, ◌∙◌, ℕ, zero, suc, List, [], length, Option, Some, refl, sym, ap, subst, inl, inr, arith}
use Rattle.std.specs.Prelude.{slice_get, unwrap_or}
use Rattle.std.proofs.Math.ListN.{get_or}
use Rattle.std.proofs.lemmas.Option.{none-some, slice_get-get_or}
use Rattle.cell_types.specs.Layout.{IsLayout, Layout, pool_at, lists_at}
use Rattle.cell_types.specs.Records.{IsRecordCell}
use Rattle.cell_types.proofs.OneRecord.{address_in}
use Rattle.volume_meaning.specs.Documents.{IsBody, IsIdentifier}
use Rattle.volume_meaning.specs.Slots.{IsStampFor, cells_for}
use Rattle.worm_device.specs.State.{DeviceState}
use Rattle.hash_tree.specs.declared.level.Level.{Level}
use Rattle.hash_tree.specs.declared.path.Open.{Open}
use Rattle.recovery_engine.specs.Entries.{AreEntries, IsFit, target_of}
use Rattle.plan_writer.specs.Planned.{PlansDocument, Suits, document_from, journal_from, laid}
use Rattle.plan_writer.specs.declared.plan.Plan.{Plan}
use Rattle.ingest_plan.specs.Planning.{IsPlanned}
use Rattle.ingest_plan.specs.declared.plan.PlannedIndex.{PlannedIndex}
use Rattle.recovery_engine.specs.declared.settling.Ready.{Ready}
use Rattle.ingest_engine.specs.Indexing.{HasIndex}
use Rattle.ingest_engine.specs.Ingesting.{IsPlanFor}
use Rattle.ingest_engine.specs.StoredCells.{IsStoredAs}
use Rattle.ingest_engine.specs.declared.document.StoredDocument.{StoredDocument}
use Rattle.ingest_engine.proofs.JoinedCells.{stored_length}

-- a stamp has 32 bits where its seconds have
few_seconds : (stamp : Option ℕ) → unwrap_or stamp 0 < 2 ^ 32
    → (seconds : ℕ) → stamp ≡ Some seconds → seconds < 2 ^ 32
few_seconds stamp few seconds given = omega (arith, few, ap (λ (s : Option ℕ). unwrap_or s 0) given)

before_or : (a b : ℕ) → (a < b) ⊎ (b ≤ a)
before_or a b = grind arith

-- the cells that are laid from a place on
laid_at : (place k : ℕ) (cells : List (List ℕ)) → laid place cells (place + k) ≡ slice_get cells k
laid_at place k cells = let same : place + k - place ≡ k = omega arith in ap (slice_get cells) same

module _ {g : Layout} {n edge : ℕ} {level : Level} {place : Open} {stamp : Option ℕ} {body : List ℕ}
    {index : PlannedIndex} {old new : DeviceState} (h : IsPlanned g n edge level place stamp body index old new) where
  abbrev to : ℕ
  to = edge + index.block_length

  -- each copy in the journal is one of a planned cell
  pub entry : (k : ℕ) → k < length index.journal.items
      → (cell : ℕ) × (value : List ℕ) × (slice_get h.journal.is.numbers k ≡ Some cell)
      × (slice_get index.journal.items k ≡ Some value) × (h.planned cell ≡ Some value)
  entry k less =
      let none : List ℕ = [] in
      let value : List ℕ = get_or index.journal.items k none in
      let cell : ℕ = get_or h.journal.is.numbers k 0 in
      let there : slice_get index.journal.items k ≡ Some value = slice_get-get_or index.journal.items k none less in
      let at : slice_get h.journal.is.numbers k ≡ Some cell =
      slice_get-get_or h.journal.is.numbers k 0 (omega (arith, less, h.journal.is.long)) in
      (cell, value, at, there, h.journal.is.each k cell value at there)

  pub planned_before : (cell : ℕ) (value : List ℕ) → h.planned cell ≡ Some value → cell < to
  planned_before cell value is = by_order (before_or cell to)
    where
      by_order : (cell < to) ⊎ (to ≤ cell) → cell < to
      by_order (inl less) = less
      by_order (inr past) = absurd (none-some value (sym (h.journal.before cell past) ∙ is))

  module _ (small : to ≤ 2 ^ 32) where
    -- its address is that of the cell
    pub copies_of : (cell : ℕ) (value : List ℕ) → h.planned cell ≡ Some value → target_of value ≡ cell
    copies_of cell value is =
        let copied = h.journal.index cell value is in
        address_in copied.held cell value (omega (arith, small, planned_before cell value is)) copied.is

    fit : (floor k : ℕ) → (less : k < length index.journal.items) → floor ≤ (entry k less).0
        → IsFit floor to (entry k less).1
    fit floor k less from =
        let e = entry k less in
        let copied = h.journal.index e.0 e.1 e.4 in
        let at : target_of e.1 ≡ e.0 = copies_of e.0 e.1 e.4 in
        let before = planned_before e.0 e.1 e.4 in
        record {
          copy = record {
            held = copied.held;
            index = copied.index;
            is = subst (λ (a : ℕ). IsRecordCell copied.held a e.1) (sym at) copied.is;
          };
          from = omega (arith, from, at);
          to = omega (arith, before, at);
        }

    -- the journal's cells are in order, wherever it begins
    pub entries : (from : ℕ)
        → AreEntries (lists_at g) (laid from index.journal.items) from to (length index.journal.items)
    entries from zero less =
        let e = entry 0 less in
        record {
          cell = e.1;
          floor = lists_at g;
          stands = laid_at from 0 index.journal.items ∙ e.3;
          floor_is = inl (refl, refl);
          fit = fit (lists_at g) 0 less (h.journal.index e.0 e.1 e.4).from;
        }
    entries from (suc m) less =
        let e = entry (suc m) less in
        let b = entry m (omega (arith, less)) in
        let at : target_of b.1 ≡ b.0 = copies_of b.0 b.1 b.4 in
        let rises : b.0 < e.0 = h.journal.is.rise m (suc m) b.0 e.0 (omega arith) b.2 e.2 in
        record {
          cell = e.1;
          floor = target_of b.1 + 1;
          stands = laid_at from (suc m) index.journal.items ∙ e.3;
          floor_is = inr (m, b.1, omega arith, laid_at from m index.journal.items ∙ b.3, refl);
          fit = fit (target_of b.1 + 1) (suc m) less (omega (arith, at, rises));
        }

module _ (p : Plan) (id body : List ℕ) (document : StoredDocument) (identifier : IsIdentifier id)
    (is_body : IsBody body)
    (stored : IsStoredAs id body document) (cells : p.document.now ≡ document.cells.items)
    (bytes : p.bytes ≡ document.bytes) (stamp : Option ℕ) (stamped : p.stamp ≡ stamp) where
  -- the plan is of this document
  plans_document : PlansDocument p id body
  plans_document = record {
    identifier = identifier;
    is_body = is_body;
    bytes = bytes ∙ stored.bytes;
    each = λ k below. ap (λ (l : List (List ℕ)). slice_get l k) cells ∙ stored.cells.each k below;
  }

  count : length p.document.now ≡ cells_for p.bytes
  count = ap length cells ∙ stored.cells.count ∙ sym (ap cells_for (bytes ∙ stored.bytes))

  -- and suits a volume in which it and its index have room
  plan_suits : {g : Layout} {n edge : ℕ} {level : Level} {place : Open} {index : PlannedIndex} {old new : DeviceState}
      → IsPlanned g n edge level place stamp body index old new → IsLayout g → IsStampFor g stamp
      → ((seconds : ℕ) → stamp ≡ Some seconds → seconds < 2 ^ 32) → p.start ≡ edge
      → p.block_length ≡ index.block_length → p.journal.now ≡ index.journal.items → pool_at g ≤ edge → edge ≤ g.cells
      → length document.cells.items + length index.journal.items + index.block_length ≤ g.cells - edge → Suits g p
  plan_suits {g} {n} {edge} {level} {place} {index} {old} {new} h layout takes few starts blocks journal
      low inside room =
      let size : p.bytes ≡ 1 + length id + length body = bytes ∙ stored.bytes ∙ stored_length id body in
      let long : length p.journal.now ≡ length index.journal.items = ap length journal in
      let wide : length p.document.now ≡ length document.cells.items = ap length cells in
      let end : edge + index.block_length ≡ document_from p = omega (arith, starts, blocks) in
      let small : edge + index.block_length ≤ 2 ^ 32 = omega (arith, room, inside, layout.cells) in
      let rows = entries h small (journal_from p) in
      record {
        from = omega (arith, low, starts);
        to = omega (arith, long, wide, blocks, starts, inside, room);
        fits = (
          omega (arith, size, identifier.some),
          omega (arith, size, identifier.most, is_body.most),
          omega (arith, h.least, long),
          omega (arith, count, long, blocks),
        );
        document = count;
        stamp = subst (IsStampFor g) (sym stamped) takes;
        stamp_fits = λ seconds given. few seconds (sym stamped ∙ given);
        entries = subst (λ (below : ℕ). AreEntries (lists_at g) (laid (journal_from p) p.journal.now)
            (journal_from p) below
            (length p.journal.now)) end
            (subst (λ (l : List (List ℕ)). AreEntries (lists_at g) (laid (journal_from p) l) (journal_from p)
            (edge + index.block_length) (length l)) (sym journal) rows);
      }

  -- so the plan is the one for the document, its stamp and its index
  pub is_plan_for : {r : Ready} {index : PlannedIndex} {settled looked : DeviceState}
      → HasIndex r id stamp body index settled looked → IsLayout r.volume.geometry → IsStampFor r.volume.geometry stamp
      → unwrap_or stamp 0 < 2 ^ 32 → p.start ≡ r.edge → p.block_length ≡ index.block_length
      → p.journal.now ≡ index.journal.items → pool_at r.volume.geometry ≤ r.edge → r.edge ≤ r.volume.geometry.cells
      → length document.cells.items + length index.journal.items + index.block_length ≤ r.volume.geometry.cells - r.edge
      → IsPlanFor r id stamp body settled looked p
  is_plan_for {index = index} has layout takes few starts blocks journal low inside room = record {
    starts = starts;
    suits = plan_suits has.planned layout takes (few_seconds stamp few) starts blocks journal low inside room;
    document = plans_document;
    stamped = stamped;
    index = index;
    has = has;
    blocks = blocks;
    journal = journal;
  }
