-- The cells that end a slot.
use Rattle.std.proofs.Common.{◌≡◌, ℕ, List, Ok, Err, refl, sym, ap, ◌∙◌, inl, inr, ⊎_elim, subst, arith}
use Rattle.std.specs.Prelude.{Result}
use Rattle.cell_types.specs.Image.{Image}
use Rattle.cell_types.specs.Records.{record_bytes}
use Rattle.cell_types.specs.declared.record_cell.RecordCell.{RecordCell}
use Rattle.cell_types.specs.declared.refusal.Fault.{Fault}
use Rattle.commit_record.specs.declared.slot.SlotState.{SlotState}
use Rattle.commit_record.specs.declared.slot.SlotState.TheVariants.{Reserved, Committed}
use Rattle.recovery_engine.specs.declared.put.Put.{Put}
use Rattle.recovery_engine.specs.declared.put.Blame.TheVariants.{Rule}
use Rattle.recovery_engine.specs.Putting.{IsThis, PutsPhase, PutsPhases}
use Rattle.recovery_engine.proofs.Phasing.{phases_none, phases_more, phases_ended, phases_wider, phase_same}
use Rattle.tamper_rules.specs.Journals.{journal_at}
use Rattle.worm_device.specs.State.{DeviceState}
use Rattle.recovery_engine.specs.Ending.{abandon_put, done_put, end_plan, end_phases}
use Rattle.recovery_engine.specs.Journal.{IsEntryPut}

-- a record that is put, by its place
pub record_put : (r : RecordCell) (rule at place : ℕ) (cell : List ℕ) → at ≡ place → cell ≡ record_bytes r at
    → (let a : Put = record { at = at; value = cell; blame = Rule rule } in let b : Put = record
    { at = place; value = record_bytes r place; blame = Rule rule } in a ≡ b)
record_put r rule at place cell e f =
    ap (λ (v : List ℕ). record { at = at; value = v; blame = Rule rule }) f ∙ ap
    (λ (k : ℕ). record { at = k; value = record_bytes r k; blame = Rule rule }) e

-- a phase of one cell, by another name of it
pub this_phase : (a b : Put) (old new : DeviceState) (result : Result (Unit {0}) Fault) → a ≡ b
    → PutsPhase (IsThis a) old new result → PutsPhase (IsThis b) old new result
this_phase a b old new result e p = subst (λ (x : Put). PutsPhase (IsThis x) old new result) e p

-- no phase, of a slot that has ended
pub end_nothing : (image : Image) (n : ℕ) (state : SlotState) (s : DeviceState) → end_phases state ≡ 0
    → PutsPhases (end_plan image n state) (end_phases state) s s (Ok tt)
end_nothing image n state s none = subst (λ (k : ℕ). PutsPhases (end_plan image n state) k s s (Ok tt)) (sym none)
    (phases_none (end_plan image n state) s)

-- one phase, of a slot that is reserved
module _ (image : Image) (n start length : ℕ) (old new : DeviceState) where
  reserved_to : (put : Put) → put ≡ abandon_put n → end_plan image n (Reserved start length) 0 put
  reserved_to put e = inl (refl, e)

  reserved_back : (put : Put) → end_plan image n (Reserved start length) 0 put → put ≡ abandon_put n
  reserved_back put h = ⊎_elim (λ (a : (0 ≡ 0) × (put ≡ abandon_put n)). a.1) (λ (b : (0 ≡ 1) × ⊥). absurd b.1) h

  end_reserved : (result : Result (Unit {0}) Fault) → PutsPhase (IsThis (abandon_put n)) old new result
      → PutsPhases (end_plan image n (Reserved start length)) 1 old new result
  end_reserved (Ok tt) p = phases_more (end_plan image n (Reserved start length)) 0 tt (phases_none _ old) tt tt
      (phase_same reserved_to reserved_back p)
  end_reserved (Err fault) p = phases_ended (end_plan image n (Reserved start length)) 0 tt (phases_none _ old) fault
      (phase_same reserved_to reserved_back p)

  pub end_reserved_slot : (state : SlotState) (result : Result (Unit {0}) Fault) → state ≡ Reserved start length
      → PutsPhase (IsThis (abandon_put n)) old new result
      → PutsPhases (end_plan image n state) (end_phases state) old new result
  end_reserved_slot state result e p = subst (λ (s : SlotState). PutsPhases (end_plan image n s) (end_phases s) old new
      result) (sym e) (end_reserved result p)

-- two phases, of a slot that is committed
module _ (image : Image) (n start length bytes journal : ℕ) (old mid new : DeviceState) where
  committed : SlotState
  committed = Committed start length bytes journal

  first_to : (put : Put) → IsEntryPut image (journal_at start length journal) journal put
      → end_plan image n (Committed start length bytes journal) 0 put
  first_to put e = inl (refl, e)

  first_back : (put : Put) → end_plan image n (Committed start length bytes journal) 0 put
      → IsEntryPut image (journal_at start length journal) journal put
  first_back put h = ⊎_elim (λ (a : (0 ≡ 0) × IsEntryPut image (journal_at start length journal) journal put). a.1)
      (λ (b : (0 ≡ 1) × (put ≡ done_put n)). absurd (omega (arith, b.0))) h

  last_to : (put : Put) → put ≡ done_put n → end_plan image n (Committed start length bytes journal) 1 put
  last_to put e = inr (refl, e)

  last_back : (put : Put) → end_plan image n (Committed start length bytes journal) 1 put → put ≡ done_put n
  last_back put h = ⊎_elim (λ (a : (1 ≡ 0) × IsEntryPut image (journal_at start length journal) journal put). absurd
      (omega (arith, a.0))) (λ (b : (1 ≡ 1) × (put ≡ done_put n)). b.1) h

  applied : PutsPhase (IsEntryPut image (journal_at start length journal) journal) old mid (Ok tt)
      → PutsPhases (end_plan image n (Committed start length bytes journal)) 1 old mid (Ok tt)
  applied p = phases_more (end_plan image n (Committed start length bytes journal)) 0 tt (phases_none _ old) tt tt
      (phase_same first_to first_back p)

  -- the journal was not carried out
  pub end_unapplied : (state : SlotState) (fault : Fault) → state ≡ Committed start length bytes journal
      → PutsPhase (IsEntryPut image (journal_at start length journal) journal) old new (Err fault)
      → PutsPhases (end_plan image n state) (end_phases state) old new (Err fault)
  end_unapplied state fault e p = subst (λ (s : SlotState). PutsPhases (end_plan image n s) (end_phases s) old new
      (Err fault)) (sym e)
      (phases_wider (end_plan image n (Committed start length bytes journal)) 1 2 fault (omega arith)
      (phases_ended (end_plan image n (Committed start length bytes journal)) 0 tt (phases_none _ old) fault
      (phase_same first_to first_back p)))

  finished : (result : Result (Unit {0}) Fault)
      → PutsPhase (IsEntryPut image (journal_at start length journal) journal) old mid (Ok tt)
      → PutsPhase (IsThis (done_put n)) mid new result
      → PutsPhases (end_plan image n (Committed start length bytes journal)) 2 old new result
  finished (Ok tt) p q = phases_more (end_plan image n (Committed start length bytes journal)) 1 tt (applied p) tt tt
      (phase_same last_to last_back q)
  finished (Err fault) p q = phases_ended (end_plan image n (Committed start length bytes journal)) 1 tt (applied p)
      fault (phase_same last_to last_back q)

  pub end_committed_slot : (state : SlotState) (result : Result (Unit {0}) Fault)
      → state ≡ Committed start length bytes journal
      → PutsPhase (IsEntryPut image (journal_at start length journal) journal) old mid (Ok tt)
      → PutsPhase (IsThis (done_put n)) mid new result → PutsPhases (end_plan image n state) (end_phases state) old new
      result
  end_committed_slot state result e p q = subst
      (λ (s : SlotState). PutsPhases (end_plan image n s) (end_phases s) old new result) (sym e) (finished result p q)
