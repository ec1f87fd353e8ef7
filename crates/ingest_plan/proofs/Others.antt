-- What one insertion leaves of other lists, and for whom what it plans is.
use Rattle.std.proofs.Common.{◌≡◌, ◌<◌, ◌≤◌, ◌+◌, ◌⊎◌, ⊎_elim, inl, inr, ℕ, List, Option, Some, None, ap, sym, subst, arith, ◌∙◌}
use Rattle.std.proofs.lemmas.Bool.{cases_eq}
use Rattle.std.proofs.lemmas.Option.{none-some}
use Rattle.cell_types.specs.Records.{IsRecordCell}
use Rattle.cell_types.specs.declared.record_cell.RecordCell.{RecordCell}
use Rattle.cell_types.specs.declared.record_cell.RecordCell.TheVariants.{Jump}
use Rattle.volume_meaning.specs.Blocks.{PostingFields, posting_record}
use Rattle.worm_device.specs.Counts.{IsStill}
use Rattle.worm_device.specs.Views.{ViewState}
use Rattle.worm_device.specs.declared.owner.Owner.{Owner}
use Rattle.jump_insertion.specs.Inserting.{IsPlannedInList, PlansEntry, alone, with_pointer}

-- a planned cell is for whom it was, or is new and lies in a block of this list
pub data IsOwned (head floor : ℕ) (old : ViewState) (cell : ℕ) (owner : Owner) : Type 0 where
  as_before : old.owners cell ≡ Some owner → IsOwned head floor old cell owner
  anew : owner.head ≡ head → owner.base ≤ cell → cell < owner.base + 256 → (owner.base ≡ head) ⊎ (floor ≤ owner.base)
      → IsOwned head floor old cell owner

-- the cell lies in the first block, or in one from the floor on
pub record IsNear (head floor cell : ℕ) : Type 0 where
  pub block : ℕ
  pub from : block ≤ cell
  pub to : cell < block + 256
  pub where_blocks_lie : (block ≡ head) ⊎ (floor ≤ block)

-- what is planned there was planned before, or is the posting, or a pointer
pub data IsHeld (head floor : ℕ) (p : PostingFields) (old : ViewState) (cell : ℕ) (value : List ℕ) : Type 0 where
  held_before : old.planned cell ≡ Some value → IsHeld head floor p old cell value
  held_posting : old.planned cell ≡ None → IsNear head floor cell → IsRecordCell (posting_record p) cell value
      → IsHeld head floor p old cell value
  held_pointer : (target : ℕ) → old.planned cell ≡ None → IsNear head floor cell → IsRecordCell (Jump target) cell value
      → IsHeld head floor p old cell value

the_owner : (one other : Owner) (found : Option Owner) → found ≡ Some one → found ≡ Some other → one ≡ other
the_owner one other found is planned = let e : Some one ≡ Some other = sym is ∙ planned in cc

owned_anew : {head floor at : ℕ} {r : RecordCell} {old new : ViewState}
    → IsPlannedInList head floor r at old new → (cell : ℕ) (owner : Owner) → cell ≡ at → new.owners cell ≡ Some owner
    → IsOwned head floor old cell owner
owned_anew {head} {floor} {at} {r} {old} {new} one cell owner same is =
    let owns : Owner = record { head = head; base = one.block } in
    let e : owner ≡ owns = the_owner owner owns (new.owners cell) is
    (subst (λ (n : ℕ). new.owners n ≡ Some owns) (sym same) one.for_whom) in
    let base : owner.base ≡ one.block = ap (λ (o : Owner). o.base) e in
    anew (ap (λ (o : Owner). o.head) e) (omega (arith, base, same, one.from)) (omega (arith, base, same, one.to))
    (⊎_elim (λ first. inl (base ∙ first)) (λ past. inr (omega (arith, past, base))) one.where_blocks_lie)

pub owned_in : {head floor next to at : ℕ} {p : PostingFields} {old new : ViewState} → PlansEntry head floor next to p at old new
    → (cell : ℕ) (owner : Owner) → new.owners cell ≡ Some owner → IsOwned head floor old cell owner
owned_in {head} {floor} {at} (alone one rest same_next) cell owner is = ⊎_elim
    (λ same. owned_anew one cell owner same is)
    (λ differs. as_before (sym (rest cell differs).owners ∙ is))
    (cases_eq cell at)
owned_in {head} {floor} {at} (with_pointer pointer target one other apart rest taken) cell owner is = ⊎_elim
    (λ same. owned_anew one cell owner same is)
    (λ differs. ⊎_elim
    (λ same. owned_anew other cell owner same is)
    (λ differs_too. as_before (sym (rest cell differs differs_too).owners ∙ is))
    (cases_eq cell pointer))
    (cases_eq cell at)

record_there : {head floor at : ℕ} {r : RecordCell} {old new : ViewState}
    → IsPlannedInList head floor r at old new → (cell : ℕ) (value : List ℕ) → cell ≡ at → new.planned cell ≡ Some value
    → IsRecordCell r cell value
record_there {head} {floor} {at} {r} {old} {new} one cell value same is =
    let there : new.planned at ≡ Some value = subst (λ (n : ℕ). new.planned n ≡ Some value) same is in
    let e : one.held.cell ≡ value = (let k : Some one.held.cell ≡ Some value = sym one.held.stands ∙ there in cc) in
    subst (λ (n : ℕ). IsRecordCell r n value) (sym same) (subst (λ (v : List ℕ). IsRecordCell r at v) e one.held.is)

free_there : {head floor at : ℕ} {r : RecordCell} {old new : ViewState}
    → IsPlannedInList head floor r at old new → (cell : ℕ) → cell ≡ at → old.planned cell ≡ None
free_there {head} {floor} {at} {r} {old} {new} one cell same = subst (λ (n : ℕ). old.planned n ≡ None) (sym same) one.free

near_there : {head floor at : ℕ} {r : RecordCell} {old new : ViewState}
    → IsPlannedInList head floor r at old new → (cell : ℕ) → cell ≡ at → IsNear head floor cell
near_there one cell same = record {
  block = one.block;
  from = omega (arith, same, one.from);
  to = omega (arith, same, one.to);
  where_blocks_lie = one.where_blocks_lie;
}

pub held_in : {head floor next to at : ℕ} {p : PostingFields} {old new : ViewState} → PlansEntry head floor next to p at old new
    → (cell : ℕ) (value : List ℕ) → new.planned cell ≡ Some value → IsHeld head floor p old cell value
held_in {head} {floor} {at} (alone one rest same_next) cell value is = ⊎_elim
    (λ same. held_posting (free_there one cell same) (near_there one cell same) (record_there one cell value same is))
    (λ differs. held_before (sym (rest cell differs).planned ∙ is))
    (cases_eq cell at)
held_in {head} {floor} {at} (with_pointer pointer target one other apart rest taken) cell value is = ⊎_elim
    (λ same. held_posting (free_there one cell same) (near_there one cell same) (record_there one cell value same is))
    (λ differs. ⊎_elim
    (λ same. held_pointer target (free_there other cell same) (near_there other cell same) (record_there other cell value same is))
    (λ differs_too. held_before (sym (rest cell differs differs_too).planned ∙ is))
    (cases_eq cell pointer))
    (cases_eq cell at)

-- what was planned is planned still
pub plans_keep : {head floor next to at : ℕ} {p : PostingFields} {old new : ViewState} → PlansEntry head floor next to p at old new
    → (cell : ℕ) (value : List ℕ) → old.planned cell ≡ Some value
    → (new.planned cell ≡ Some value) × (new.owners cell ≡ old.owners cell)
plans_keep {head} {floor} {at} {p} {old} {new} (alone one rest same_next) cell value is = ⊎_elim
    (λ same. absurd (none-some value (sym (free_there one cell same) ∙ is)))
    (λ differs. ((rest cell differs).planned ∙ is, (rest cell differs).owners))
    (cases_eq cell at)
plans_keep {head} {floor} {at} {p} {old} {new} (with_pointer pointer target one other apart rest taken) cell value is = ⊎_elim
    (λ same. absurd (none-some value (sym (free_there one cell same) ∙ is)))
    (λ differs. ⊎_elim
    (λ same. absurd (none-some value (sym (free_there other cell same) ∙ is)))
    (λ differs_too. ((rest cell differs differs_too).planned ∙ is, (rest cell differs differs_too).owners))
    (cases_eq cell pointer))
    (cases_eq cell at)

-- a cell that is planned anew read blank
pub plans_blank : {head floor next to at : ℕ} {p : PostingFields} {old new : ViewState} → PlansEntry head floor next to p at old new
    → Rattle.std.specs.Prelude.IsTrue old.base.tells → (cell : ℕ) (value : List ℕ) → old.planned cell ≡ None → new.planned cell ≡ Some value
    → old.image cell ≡ None
plans_blank {head} {floor} {at} {p} {old} {new} (alone one rest same_next) tells cell value free is = ⊎_elim
    (λ same. subst (λ (n : ℕ). old.image n ≡ None) (sym same) (one.blank tells))
    (λ differs. absurd (none-some value (sym free ∙ sym (rest cell differs).planned ∙ is)))
    (cases_eq cell at)
plans_blank {head} {floor} {at} {p} {old} {new} (with_pointer pointer target one other apart rest taken) tells cell value free is = ⊎_elim
    (λ same. subst (λ (n : ℕ). old.image n ≡ None) (sym same) (one.blank tells))
    (λ differs. ⊎_elim
    (λ same. subst (λ (n : ℕ). old.image n ≡ None) (sym same) (other.blank tells))
    (λ differs_too. absurd (none-some value (sym free ∙ sym (rest cell differs differs_too).planned ∙ is)))
    (cases_eq cell pointer))
    (cases_eq cell at)

-- what is planned is planned
is_planned_there : {head floor at : ℕ} {r : RecordCell} {old new : ViewState}
    → IsPlannedInList head floor r at old new → (cell : ℕ) → cell ≡ at → new.planned cell ≡ None → ⊥
is_planned_there {at = at} {new = new} one cell same none =
    none-some one.held.cell (sym none ∙ ap new.planned same ∙ one.held.stands)

-- what is not planned was not before, and where nobody else wrote it reads as it did
pub plans_no_other : {head floor next to at : ℕ} {p : PostingFields} {old new : ViewState}
    → PlansEntry head floor next to p at old new
    → IsStill old.base.foreign_writes new.base.foreign_writes → (cell : ℕ) → new.planned cell ≡ None
    → (old.planned cell ≡ None) × (new.image cell ≡ old.image cell)
plans_no_other {at = at} (alone one rest same_next) still cell none = ⊎_elim
    (λ same. absurd (is_planned_there one cell same none))
    (λ differs. (sym (rest cell differs).planned ∙ none, (rest cell differs).shown still))
    (cases_eq cell at)
plans_no_other {at = at} (with_pointer pointer target one other apart rest taken) still cell none = ⊎_elim
    (λ same. absurd (is_planned_there one cell same none))
    (λ differs. ⊎_elim
    (λ same. absurd (is_planned_there other cell same none))
    (λ also. (sym (rest cell differs also).planned ∙ none, (rest cell differs also).shown still))
    (cases_eq cell pointer))
    (cases_eq cell at)
