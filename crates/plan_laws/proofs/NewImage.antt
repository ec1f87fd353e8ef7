-- The image with all cells of a plan: the planned ones, the journal, the document, and the slot's cells.
use Rattle.std.proofs.Common.{◌≡◌, ◌<◌, ◌≤◌, ◌+◌, ◌-◌, ◌⊎◌, ⊎_elim, inl, inr, ℕ, List, length, slice_get, Option, Some, None, refl, sym, ◌∙◌, ap, arith}
use Rattle.std.proofs.lemmas.Option.{none-some}
use Rattle.cell_types.specs.Image.{Image}
use Rattle.cell_types.specs.Layout.{Layout, reserve_at, outcome_at, done_at, spare_at, lists_at}
use Rattle.cell_types.specs.Records.{record_bytes}
use Rattle.cell_types.specs.declared.record_cell.RecordCell.TheVariants.{Reserve, Commit, Done, Stamp}
use Rattle.volume_meaning.specs.Documents.{content_at, document_at}
use Rattle.volume_meaning.specs.Slots.{cells_for}
use Rattle.volume_meaning.specs.Postings.{ListedPosting}
use Rattle.tamper_rules.specs.Journals.{journal_at}
use Rattle.tamper_rules.specs.Rules
use Rattle.tamper_rules.specs.Rules.{BlankRule, DoneRule, OutcomeRule}
use Rattle.tamper_rules.specs.Settling.{IsWith}
use Rattle.tamper_rules.proofs.Images.{look}
use Rattle.ingest_laws.specs.Filling.{blocks_end}
use Rattle.ingest_laws.specs.Ingesting.{Plan, stored_of}
use Rattle.hash_tree.specs.declared.level.Level.{Level}
use Rattle.hash_tree.specs.declared.path.Open.{Open}
use Rattle.plan_laws.specs.Laws.{IsPlannedIndex}
use Rattle.plan_laws.proofs.Behind.{blank_from, more, planned_low, pool_before}
use Rattle.plan_laws.proofs.Laying.{IsIn, blank_with, held, held_is, one_cell, one_is, laid_on, over_is, row_from, row_is, with_both, with_same}

-- the cell of a stamp, if there is one
abbrev pub stamp_cell : ℕ → Option ℕ → Image
stamp_cell n None = λ cell. None
stamp_cell n (Some seconds) = one_cell (spare_at n) (record_bytes (Stamp seconds) (spare_at n))

-- is the slot's spare cell, and states it
pub stamp_is : (n : ℕ) (stamp : Option ℕ) {cell : ℕ} {value : List ℕ} → stamp_cell n stamp cell ≡ Some value
    → (seconds : ℕ) × (stamp ≡ Some seconds) × (cell ≡ spare_at n) × (value ≡ record_bytes (Stamp seconds) (spare_at n))
stamp_is n None {cell} {value} is = absurd (none-some value is)
stamp_is n (Some seconds) is = let one = one_is is in (seconds, refl, one.0, one.1)

module _ {g : Layout} {old laid : Image} {p : Plan} {rows : List ListedPosting} {level : Level} {place : Open} {to : ℕ}
    {planned : Image} (h : IsPlannedIndex g old laid p rows level place to planned) where
  abbrev pub bytes : ℕ
  bytes = length (stored_of p)

  abbrev pub document : ℕ
  document = document_at p.start p.reserved bytes (length p.journal)

  abbrev pub journal : ℕ
  journal = journal_at p.start p.reserved (length p.journal)

  pub ends_there : blocks_end p ≡ to
  ends_there = omega (arith, h.takes.room)

  journal_there : journal ≡ to + cells_for bytes
  journal_there = omega (arith, h.takes.room)

  -- the cells of the journal, of the document, and of the slot
  abbrev pub journal_cells : ℕ → Option (List ℕ)
  journal_cells k = slice_get p.journal k

  abbrev pub document_cells : ℕ → Option (List ℕ)
  document_cells k = held (cells_for bytes - k) (content_at (stored_of p) k)

  abbrev with_journal : Image
  with_journal = laid_on (row_from journal journal_cells) laid

  abbrev with_document : Image
  with_document = laid_on (row_from document document_cells) with_journal

  abbrev with_stamp : Image
  with_stamp = laid_on (stamp_cell p.slot p.stamp) with_document

  abbrev with_done : Image
  with_done = laid_on (one_cell (done_at p.slot) (record_bytes (Done p.slot) (done_at p.slot))) with_stamp

  abbrev with_commit : Image
  with_commit =
      laid_on (one_cell (outcome_at p.slot) (record_bytes (Commit bytes (length p.journal)) (outcome_at p.slot)))
      with_done

  abbrev pub new_image : Image
  new_image =
      laid_on (one_cell (reserve_at p.slot) (record_bytes (Reserve p.start p.reserved) (reserve_at p.slot))) with_commit

  -- where they lie
  planned_from : {cell : ℕ} {value : List ℕ} → IsIn planned cell value → lists_at g ≤ cell
  planned_from {cell} {value} row = (h.index cell value row.is).from

  planned_to : {cell : ℕ} {value : List ℕ} → IsIn planned cell value → cell < to
  planned_to row = planned_low h row.is

  pub journal_from : {cell : ℕ} {value : List ℕ} → IsIn (row_from journal journal_cells) cell value
      → to + cells_for bytes ≤ cell
  journal_from row = let k = row_is journal journal_cells row.is in omega (arith, k.1, journal_there)

  pub document_from : {cell : ℕ} {value : List ℕ} → IsIn (row_from document document_cells) cell value
      → (to ≤ cell) × (cell < to + cells_for bytes)
  document_from {cell} {value} row =
      let k = row_is document document_cells row.is in
      let left = (held_is (cells_for bytes - k.0) (content_at (stored_of p) k.0) value k.2).0 in
      (omega (arith, k.1, ends_there), omega (arith, k.1, ends_there, left))

  -- the slot's cells were blank
  outcome_blank : old (outcome_at p.slot) ≡ None
  outcome_blank = ⊎_elim
      (λ none. none)
      (λ found.
      let rule : OutcomeRule g old p.slot =
      h.takes.settled.met Rules.OutcomeCells (outcome_at p.slot)
      (record { found = found.0; stands = found.1 }) p.slot h.takes.slot refl in
      absurd (none-some _ (sym (h.takes.horizon.free h.takes.slot) ∙ rule.reserve.stands)))
      (look old (outcome_at p.slot))

  done_blank : old (done_at p.slot) ≡ None
  done_blank = ⊎_elim
      (λ none. none)
      (λ found.
      let rule : DoneRule old p.slot =
      h.takes.settled.met Rules.DoneCells (done_at p.slot)
      (record { found = found.0; stands = found.1 }) p.slot h.takes.slot refl in
      absurd (none-some _ (sym outcome_blank ∙ rule.commit.stands)))
      (look old (done_at p.slot))

  spare_blank : old (spare_at p.slot) ≡ None
  spare_blank = ⊎_elim
      (λ none. none)
      (λ found.
      let rule : BlankRule g old (spare_at p.slot) =
      h.takes.settled.met Rules.StrayCells (spare_at p.slot)
      (record { found = found.0; stands = found.1 }) in
      let reserve = (rule.spare p.slot h.takes.slot refl).reserve in
      absurd (none-some _ (sym (h.takes.horizon.free h.takes.slot) ∙ reserve.stands)))
      (look old (spare_at p.slot))

  abbrev pub Planned : ℕ → List ℕ → Type 0
  Planned = IsIn planned

  abbrev pub OfJournal : ℕ → List ℕ → Type 0
  OfJournal = IsIn (row_from journal journal_cells)

  abbrev pub OfDocument : ℕ → List ℕ → Type 0
  OfDocument = IsIn (row_from document document_cells)

  abbrev pub OfStamp : ℕ → List ℕ → Type 0
  OfStamp = IsIn (stamp_cell p.slot p.stamp)

  abbrev pub OfDone : ℕ → List ℕ → Type 0
  OfDone = IsIn (one_cell (done_at p.slot) (record_bytes (Done p.slot) (done_at p.slot)))

  abbrev pub OfCommit : ℕ → List ℕ → Type 0
  OfCommit = IsIn (one_cell (outcome_at p.slot) (record_bytes (Commit bytes (length p.journal)) (outcome_at p.slot)))

  abbrev pub OfReserve : ℕ → List ℕ → Type 0
  OfReserve = IsIn (one_cell (reserve_at p.slot) (record_bytes (Reserve p.start p.reserved) (reserve_at p.slot)))

  pub is_planned : IsWith Planned old laid
  is_planned = with_same (λ cell value is. record { is = is }) (λ cell value row. row.is) h.laid_is

  is_journal : IsWith (λ cell value. Planned cell value ⊎ OfJournal cell value) old with_journal
  is_journal = with_both is_planned (over_is (λ cell value row.
      let far = journal_from row in
      blank_with is_planned (blank_from h cell (omega (arith, far, more h)))
      (λ found other. omega (arith, planned_to other, far))))

  is_document : IsWith (λ cell value. (Planned cell value ⊎ OfJournal cell value) ⊎ OfDocument cell value) old
      with_document
  is_document = with_both is_journal (over_is (λ cell value row.
      let there = document_from row in
      blank_with is_journal (blank_from h cell (omega (arith, there.0, more h)))
      (λ found others. ⊎_elim
      (λ other. omega (arith, planned_to other, there.0))
      (λ other. omega (arith, journal_from other, there.1))
      others)))

  -- all of them lie behind the slots
  stored_from : {cell : ℕ} {value : List ℕ}
      → (Planned cell value ⊎ OfJournal cell value) ⊎ OfDocument cell value → lists_at g ≤ cell
  stored_from {cell} {value} rows = ⊎_elim
      (λ (row : Planned cell value ⊎ OfJournal cell value). ⊎_elim
      (λ is. planned_from is)
      (λ is. omega (arith, journal_from is, more h, pool_before h))
      row)
      (λ is. omega (arith, (document_from is).0, more h, pool_before h))
      rows

  -- of the document and its index, or the slot's stamp
  abbrev pub IsStored : ℕ → List ℕ → Type 0
  IsStored cell value = ((Planned cell value ⊎ OfJournal cell value) ⊎ OfDocument cell value) ⊎ OfStamp cell value

  -- which is the only one of them in the slot
  away : {cell : ℕ} {value : List ℕ} → IsStored cell value → (lists_at g ≤ cell) ⊎ (cell ≡ spare_at p.slot)
  away {cell} {value} rows = ⊎_elim
      (λ (those : (Planned cell value ⊎ OfJournal cell value) ⊎ OfDocument cell value). inl (stored_from those))
      (λ (row : OfStamp cell value). inr (stamp_is p.slot p.stamp row.is).2)
      rows

  is_stamp : IsWith IsStored old with_stamp
  is_stamp = with_both is_document (over_is (λ cell value row.
      let at = (stamp_is p.slot p.stamp row.is).2 in
      blank_with is_document (ap old at ∙ spare_blank)
      (λ found others. omega (arith, stored_from others, at, h.takes.slot))))

  is_done : IsWith (λ cell value. IsStored cell value ⊎ OfDone cell value) old with_done
  is_done = with_both is_stamp (over_is (λ cell value row.
      let at = (one_is row.is).0 in
      blank_with is_stamp (ap old at ∙ done_blank)
      (λ found others. ⊎_elim
      (λ (far : lists_at g ≤ cell). omega (arith, far, at, h.takes.slot))
      (λ (spare : cell ≡ spare_at p.slot). omega (arith, spare, at))
      (away others))))

  is_commit : IsWith (λ cell value. (IsStored cell value ⊎ OfDone cell value) ⊎ OfCommit cell value) old with_commit
  is_commit = with_both is_done (over_is (λ cell value row.
      let at = (one_is row.is).0 in
      blank_with is_done (ap old at ∙ outcome_blank)
      (λ found others. ⊎_elim
      (λ stored. ⊎_elim
      (λ (far : lists_at g ≤ cell). omega (arith, far, at, h.takes.slot))
      (λ (spare : cell ≡ spare_at p.slot). omega (arith, spare, at))
      (away stored))
      (λ other. omega (arith, (one_is other.is).0, at))
      others)))

  pub is_all : IsWith (λ cell value. ((IsStored cell value ⊎ OfDone cell value) ⊎ OfCommit cell value)
      ⊎ OfReserve cell value) old new_image
  is_all = with_both is_commit (over_is (λ cell value row.
      let at = (one_is row.is).0 in
      blank_with is_commit (ap old at ∙ h.takes.horizon.free h.takes.slot)
      (λ found others. ⊎_elim
      (λ those. ⊎_elim
      (λ stored. ⊎_elim
      (λ (far : lists_at g ≤ cell). omega (arith, far, at, h.takes.slot))
      (λ (spare : cell ≡ spare_at p.slot). omega (arith, spare, at))
      (away stored))
      (λ other. omega (arith, (one_is other.is).0, at))
      those)
      (λ other. omega (arith, (one_is other.is).0, at))
      others)))
