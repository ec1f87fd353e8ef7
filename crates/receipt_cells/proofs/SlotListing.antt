-- The cells of a slot whose document stands, over plain values.
use Rattle.std.proofs.Common.{◌≡◌, ◌<◌, ◌≤◌, ◌+◌, ◌-◌, ◌*◌, ◌^◌, ◌⊎◌, ⊎_elim, inl, inr, ℕ, List, None, Result, Ok, Err, ap, sym, subst, arith, ◌∙◌}
use Rattle.std.specs.Prelude.{IsTrue, length}
use Rattle.std.proofs.lemmas.Bool.{cases_lt}
use Rattle.cell_types.specs.Image.{Image, Extends}
use Rattle.cell_types.specs.Layout.{IsLayout, Layout, TakesStamps, outcome_at, reserve_at}
use Rattle.cell_types.specs.declared.record_cell.RecordCell.{RecordCell}
use Rattle.cell_types.specs.declared.refusal.Fault.{Fault}
use Rattle.cell_types.specs.declared.refusal.Fault.TheVariants as faults
use Rattle.volume_meaning.specs.Documents.{document_at}
use Rattle.volume_meaning.specs.Slots.{IsDoneSlot, cells_for}
use Rattle.volume_meaning.specs.Volumes.{Holds, IsWritten}
use Rattle.volume_meaning.proofs.Extending.{done_on}
use Rattle.volume_meaning.proofs.Holding.{one_record_holds}
use Rattle.volume_meaning.proofs.OneDocument.{commits, reserves}
use Rattle.worm_device.specs.Views.{ViewState, Viewed}
use Rattle.worm_device.proofs.Images.{extends_then}
use Rattle.worm_device.proofs.Resting.{viewed_then}
use Rattle.jump_block.proofs.Counting as counts
use Rattle.document_store.specs.Looks.{HasPart, IsPartOf, LookFails, PartEnds}
use Rattle.document_store.specs.Standing.{HoldsDocument}
use Rattle.document_store.specs.declared.part.Part.{Part}
use Rattle.document_store.proofs.Holding.{held_in_part, held_is_done, one_part, part_on, stands_held}
use Rattle.kept_documents.specs.declared.fault.AskFault.{AskFault}
use Rattle.kept_documents.specs.declared.fault.AskFault.TheVariants.{NoMemory, ReadFault}
use Rattle.kept_documents.proofs.PassedBuckets.{names_none, stands_later, volume_later}
use Rattle.receipt_cells.specs.Needed.{SlotRests, commit_cell, document_cell, done_cell, reserve_cell, stamp_cell}
use Rattle.receipt_cells.specs.Path.{AreLogCells, IsUnlisted, ListFails, ListsSlot, SlotListEnds}
use Rattle.receipt_cells.specs.Written.{IsInRow, ListsCells, ListsWritten}
use Rattle.receipt_cells.proofs.Listing.{just_of, written_then}

-- a listing that is given up later is given up since before
pub fails_later : (old mid new : ViewState) (why : AskFault) → Viewed old mid → ListFails mid new why
    → ListFails old new why
fails_later old mid new ReadFault viewed fails = counts.rose_later _ _ _ viewed.called.faults fails
fails_later old mid new (NoMemory lack) viewed fails = tt

-- and what gives up a listing of cells gives up each other
pub cells_fail : {A : ℕ → Type 0} {old new : ViewState} {listed later : List (ℕ × List ℕ)} (why : AskFault)
    → ListsCells A old new listed later (Err why) → ListFails old new why
cells_fail ReadFault lists = lists.ends
cells_fail (NoMemory lack) lists = tt

-- a cell that holds a record is written
pub holds_written : {image : Image} {at : ℕ} {r : RecordCell} (c : ℕ) → c ≡ at → Holds image at r → IsWritten image c
holds_written {image} c is h = record { found = h.cell; stands = ap image is ∙ h.stands }

-- the cells of a slot that is done stay its cells
pub slot_rests_on : {g : Layout} {old new : Image} {n c : ℕ} → Extends old new → SlotRests g old n c
    → SlotRests g new n c
slot_rests_on e (reserve_cell is) = reserve_cell is
slot_rests_on e (commit_cell is) = commit_cell is
slot_rests_on e (done_cell is) = done_cell is
slot_rests_on e (stamp_cell stamped is) = stamp_cell stamped is
slot_rests_on e (document_cell start length bytes journal k done below is) =
    document_cell start length bytes journal k (done_on e done) below is

-- and it had no others before
pub slot_rests_back : {g : Layout} {old new : Image} {n c : ℕ} → Extends old new → IsDoneSlot g old n
    → SlotRests g new n c → SlotRests g old n c
slot_rests_back e d (reserve_cell is) = reserve_cell is
slot_rests_back e d (commit_cell is) = commit_cell is
slot_rests_back e d (done_cell is) = done_cell is
slot_rests_back e d (stamp_cell stamped is) = stamp_cell stamped is
slot_rests_back {g} {old} {new} {n} {c} e d (document_cell start length bytes journal k done below is) =
    let now = done_on e d.done in
    let place = reserves _ _ _ _ (one_record_holds new (reserve_at n) _ _ done.commits.reserves.reserve
    now.commits.reserves.reserve) in
    let sizes = commits _ _ _ _ (one_record_holds new (outcome_at n) _ _ done.commits.outcome now.commits.outcome) in
    let at : document_at start length bytes journal ≡ document_at d.start d.length d.bytes d.journal = cc in
    document_cell d.start d.length d.bytes d.journal k d.done (subst (λ (b : ℕ). k < cells_for b) sizes.0 below)
    (is ∙ ap (λ (a : ℕ). a + k) at)

module _ (g : Layout) (n : ℕ) (old mid : ViewState) (listed later : List (ℕ × List ℕ)) (looked : Viewed old mid) where
  -- the slot's cells are no state, or a read failed
  pub look_unlisted : (fault : Fault) (result : Result Unit AskFault) → LookFails g n old mid fault
      → IsUnlisted fault result → ListsSlot g n old mid listed later result
  look_unlisted faults.Failed result fails is =
      subst (λ (r : Result Unit AskFault). ListsSlot g n old mid listed later r) (sym is)
      (record { viewed = looked; ends = fails })
  look_unlisted (faults.Tampered e) result fails is =
      subst (λ (r : Result Unit AskFault). ListsSlot g n old mid listed later r) (sym is)
      (record {
        viewed = looked;
        ends = λ tells volume id body stands. absurd (names_none looked (fails.2 tells)
            (stands_held g old.cells old.image n id body volume stands));
      })

  -- it is not done
  pub undone_unlisted : PartEnds g n old mid (Ok None) → ListsSlot g n old mid listed later (Ok tt)
  undone_unlisted ends = record {
    viewed = looked;
    ends = λ tells volume id body stands. absurd ((ends.1 tells).undone
        (held_is_done (stands_held g old.cells old.image n id body volume stands)));
  }

module _ (g : Layout) (n count : ℕ) (part : Part) (are : AreLogCells g count) (mid new : Image) (e : Extends mid new)
    (is : IsPartOf g mid n part) where
  -- a cell of the log
  from_log : (c : ℕ) → IsInRow (reserve_at n) (reserve_at n + count) c → SlotRests g new n c
  from_log c row = ⊎_elim
      (λ (less : c < 5 + 4 * n). reserve_cell (omega (arith, less, row.0)))
      (λ (after : 5 + 4 * n ≤ c). ⊎_elim
      (λ (less : c < 6 + 4 * n). commit_cell (omega (arith, less, after)))
      (λ (past : 6 + 4 * n ≤ c). ⊎_elim
      (λ (less : c < 7 + 4 * n). done_cell (omega (arith, less, past)))
      (λ (last : 7 + 4 * n ≤ c). ⊎_elim
      (λ (four : TakesStamps g × (count ≡ 4)). stamp_cell four.0 (omega (arith, last, row.1, four.1)))
      (λ (three : (TakesStamps g → ⊥) × (count ≡ 3)). absurd (omega (arith, last, row.1, three.1)))
      are)
      (cases_lt c (7 + 4 * n)))
      (cases_lt c (6 + 4 * n)))
      (cases_lt c (5 + 4 * n))

  -- a cell of the document
  from_part : (c : ℕ) → IsInRow part.start (part.start + cells_for part.bytes) c → SlotRests g new n c
  from_part c row =
      document_cell is.first is.reserved part.bytes part.journal (c - part.start) (done_on e is.done)
      (omega (arith, row.0, row.1))
      (let far : c ≡ part.start + (c - part.start) = omega (arith, row.0) in
      far ∙ ap (λ (a : ℕ). a + (c - part.start)) is.start_is)

  abbrev pub IsOfEither : ℕ → Type 0
  IsOfEither c = IsInRow (reserve_at n) (reserve_at n + count) c
      ⊎ IsInRow part.start (part.start + cells_for part.bytes) c

  pub from_either : (c : ℕ) → IsOfEither c → SlotRests g new n c
  from_either c h = ⊎_elim (from_log c) (from_part c) h

  least : 3 ≤ count
  least = ⊎_elim (λ four. omega (arith, four.1)) (λ three. omega (arith, three.1)) are

  -- each cell of the slot is of the log or of the document, and was written
  pub to_either : (id body : List ℕ) → HoldsDocument g mid n id body → (c : ℕ) → SlotRests g new n c
      → IsOfEither c × IsWritten mid c
  to_either id body h c (reserve_cell same) =
      (inl (omega (arith, same), omega (arith, same, least)), holds_written c same is.done.commits.reserves.reserve)
  to_either id body h c (commit_cell same) =
      (inl (omega (arith, same), omega (arith, same, least)), holds_written c same is.done.commits.outcome)
  to_either id body h c (done_cell same) =
      (inl (omega (arith, same), omega (arith, same, least)), holds_written c same is.done.done)
  to_either id body h c (stamp_cell stamped same) = ⊎_elim
      (λ (four : TakesStamps g × (count ≡ 4)). (
        inl (omega (arith, same), omega (arith, same, four.1)),
        holds_written c same (is.done.commits.stamped stamped).stamp,
      ))
      (λ (three : (TakesStamps g → ⊥) × (count ≡ 3)). absurd (three.0 stamped))
      are
  to_either id body h c (document_cell start length bytes journal k done below same) =
      let one = one_part g new n part start length bytes journal (part_on e is) done in
      let held = held_in_part g mid n part id body is h in
      let few : k < cells_for part.bytes = subst (λ (b : ℕ). k < cells_for b) one.0 below in
      let there : c ≡ part.start + k = same ∙ ap (λ (a : ℕ). a + k) (sym one.1) in (
        inr (omega (arith, there), omega (arith, there, few)),
        record {
          found = _;
          stands = ap mid there ∙ held.spells k (subst (λ (b : ℕ). k < cells_for b) held.count few);
        },
      )

-- the log and the document were listed
pub slot_listed : (g : Layout) (at count most : ℕ) (old between new : ViewState)
    (listed middle later : List (ℕ × List ℕ)) (part : Part) (result : Result Unit AskFault) → at ≡ reserve_at part.slot
    → AreLogCells g count → most ≡ cells_for part.bytes → HasPart g old part
    → ListsCells (IsInRow at (at + count)) old between listed middle (Ok tt)
    → ListsCells (IsInRow part.start (part.start + most)) between new middle later result
    → ListsSlot g part.slot old new listed later result
slot_listed g at count most old between new listed middle later part result place are all has log rest =
    record { viewed = viewed_then log.viewed rest.viewed; ends = go result rest }
  where
    go : (result : Result Unit AskFault)
        → ListsCells (IsInRow part.start (part.start + most)) between new middle later result
        → SlotListEnds g part.slot old new listed later result
    go (Ok u) rest = λ tells volume id body stands.
        let is = has.is tells in
        let said : IsTrue between.base.tells = subst IsTrue (sym log.viewed.called.tells) tells in
        let e = extends_then log.viewed.image rest.viewed.image in
        let held = stands_held g old.cells old.image part.slot id body volume stands in
        let first = subst (λ (a : ℕ). ListsWritten (IsInRow a (a + count)) old.image between.image listed middle) place
        (log.ends tells) in
        let second = subst
        (λ (m : ℕ). ListsWritten (IsInRow part.start (part.start + m)) between.image new.image middle later) all
        (rest.ends said) in
        just_of (from_either g part.slot count part are old.image new.image e is)
        (to_either g part.slot count part are old.image new.image e is id body held)
        (written_then log.viewed.image rest.viewed.image first second)
    go (Err why) rest = fails_later old between new why log.viewed (cells_fail why rest)

-- or they were of the part that was found
pub slot_from : (g : Layout) (n m : ℕ) (old mid new : ViewState) (listed later : List (ℕ × List ℕ))
    (result : Result Unit AskFault) → Viewed old mid → m ≡ n → ListsSlot g m mid new listed later result
    → ListsSlot g n old new listed later result
slot_from g n m old mid new listed later result looked same lists = record {
  viewed = viewed_then looked lists.viewed;
  ends = go result (subst (λ (k : ℕ). SlotListEnds g k mid new listed later result) same lists.ends);
} where
  go : (result : Result Unit AskFault) → SlotListEnds g n mid new listed later result
      → SlotListEnds g n old new listed later result
  go (Ok u) ends = λ tells volume id body stands.
      ends (subst IsTrue (sym looked.called.tells) tells) (volume_later looked volume) id body
      (stands_later looked stands)
  go (Err why) ends = fails_later old mid new why looked ends

-- the log of a slot lies before the pool
pub log_fits : (g : Layout) (n count : ℕ) → IsLayout g → AreLogCells g count → n < g.slots
    → (reserve_at n + count ≤ g.cells) × (reserve_at n + count < 2 ^ 32)
log_fits g n count is are below = ⊎_elim
    (λ four. (omega (arith, four.1, below, is.pool), omega (arith, four.1, below, is.slots)))
    (λ three. (omega (arith, three.1, below, is.pool), omega (arith, three.1, below, is.slots)))
    are
