-- Slots that settling and an ingest leave alone.
use Rattle.std.proofs.Common.{◌≡◌, ◌≢◌, ◌≤◌, ◌<◌, ◌⊎◌, ℕ, zero, suc, List, Option, Some, None, refl, sym, ap, subst, ◌∙◌, ⊎_elim, inl, inr, arith}
use Rattle.std.proofs.lemmas.Option.{none-some}
use Rattle.cell_types.specs.Image.{Image, Extends}
use Rattle.cell_types.specs.Layout.{Layout, reserve_at, outcome_at, done_at, spare_at, lists_at}
use Rattle.cell_types.specs.declared.record_cell.RecordCell.{RecordCell}
use Rattle.volume_meaning.specs.Documents.{document_at}
use Rattle.volume_meaning.specs.Slots.{IsUnused}
use Rattle.volume_meaning.specs.Volumes.{Holds}
use Rattle.volume_meaning.proofs.Extending.{blank_before}
use Rattle.tamper_rules.specs.Journals.{journal_at}
use Rattle.recovery_engine.specs.Putting.{ChangesBy, IsInFirst, IsPut}
use Rattle.recovery_engine.specs.declared.put.Put.{Put}
use Rattle.commit_record.specs.States.{IsState}
use Rattle.commit_record.specs.declared.slot.SlotState.{SlotState}
use Rattle.commit_record.specs.declared.slot.SlotState.TheVariants.{Unused, Reserved, Abandoned, Committed, Done}
use Rattle.recovery_engine.specs.Ending.{HasJournal, IsFirstEnd, IsLastEnd}
use Rattle.recovery_engine.specs.Settling.{settle_plan}
use Rattle.recovery_engine.proofs.Rising.{entries_from}
use Rattle.plan_writer.specs.CrashLaws.{IsWholeOrUncommitted}
use Rattle.plan_writer.specs.Planned.{IsPooledPut, IsStampPut, Suits, ingest_phases}
use Rattle.plan_writer.specs.declared.plan.Plan.{Plan}
use Rattle.plan_writer.proofs.LogCells.{pooled_from, stamp_at}
use Rattle.plan_writer.proofs.Targets.{asked_from}

-- a cell that tells the state of slot n
abbrev pub IsOwn : ℕ → ℕ → Type 0
IsOwn n at = (at ≡ reserve_at n) ⊎ (at ≡ outcome_at n) ⊎ (at ≡ done_at n)

-- an unused slot states no document
pub unused_whole : {g : Layout} {n : ℕ} {id body : List ℕ} {image : Image} → IsUnused g image n
    → IsWholeOrUncommitted g n id body image
unused_whole {g} {n} {id} {body} {image} u = record {
  state = Unused;
  is = u;
  bytes = λ start reserved bytes journal c. absurd (none-some c.reserves.reserve.cell
      (sym u.reserve ∙ c.reserves.reserve.stands));
  whole = λ start reserved bytes journal c. absurd (none-some c.reserves.reserve.cell
      (sym u.reserve ∙ c.reserves.reserve.stands));
}

-- it was unused before, too
pub unused_in : {g : Layout} {n : ℕ} {image later : Image} → Extends image later → IsUnused g later n
    → IsUnused g image n
unused_in e u = record {
  slot = u.slot;
  reserve = blank_before e u.reserve;
  outcome = blank_before e u.outcome;
  done = blank_before e u.done;
}

by_cell : (R : Type 0) (found : Option (List ℕ)) → (found ≡ None → R) → ((v : List ℕ) → found ≡ Some v → R) → R
by_cell R None none some = none refl
by_cell R (Some v) none some = some v refl

module _ {P : Put → Type 0} {old image : Image} (n : ℕ) (changes : ChangesBy P old image)
    (apart : (put : Put) → P put → IsOwn n put.at → ⊥) where
  still_blank : (at : ℕ) → IsOwn n at → old at ≡ None → image at ≡ None
  still_blank at own blank = by_cell (image at ≡ None) (image at) (λ none. none)
      (λ v is. absurd (⊎_elim
      (λ (stood : old at ≡ Some v). none-some v (sym blank ∙ stood))
      (λ (p : IsPut P old at v). apart p.put p.planned (subst (IsOwn n) (sym p.here) own))
      (changes at v is)))

  -- cells that are put elsewhere leave it unused
  pub unused_after : {g : Layout} → IsUnused g old n → IsUnused g image n
  unused_after u = record {
    slot = u.slot;
    reserve = still_blank (reserve_at n) (inl refl) u.reserve;
    outcome = still_blank (outcome_at n) (inr (inl refl)) u.outcome;
    done = still_blank (done_at n) (inr (inr refl)) u.done;
  }

outcome_is : (m n at : ℕ) → at ≡ outcome_at m → IsOwn n at → m ≡ n
outcome_is m n at is own = ⊎_elim
    (λ (a : at ≡ reserve_at n). absurd (omega (arith, is, a)))
    (λ (rest : (at ≡ outcome_at n) ⊎ (at ≡ done_at n)). ⊎_elim
    (λ (b : at ≡ outcome_at n). omega (arith, is, b))
    (λ (d : at ≡ done_at n). absurd (omega (arith, is, d))) rest)
    own

done_is : (m n at : ℕ) → at ≡ done_at m → IsOwn n at → m ≡ n
done_is m n at is own = ⊎_elim
    (λ (a : at ≡ reserve_at n). absurd (omega (arith, is, a)))
    (λ (rest : (at ≡ outcome_at n) ⊎ (at ≡ done_at n)). ⊎_elim
    (λ (b : at ≡ outcome_at n). absurd (omega (arith, is, b)))
    (λ (d : at ≡ done_at n). omega (arith, is, d)) rest)
    own

reserve_is : (m n at : ℕ) → at ≡ reserve_at m → IsOwn n at → m ≡ n
reserve_is m n at is own = ⊎_elim
    (λ (a : at ≡ reserve_at n). omega (arith, is, a))
    (λ (rest : (at ≡ outcome_at n) ⊎ (at ≡ done_at n)). ⊎_elim
    (λ (b : at ≡ outcome_at n). absurd (omega (arith, is, b)))
    (λ (d : at ≡ done_at n). absurd (omega (arith, is, d))) rest)
    own

-- no spare cell tells the state of a slot
spare_apart : (m n at : ℕ) → at ≡ spare_at m → IsOwn n at → ⊥
spare_apart m n at is own = ⊎_elim
    (λ (a : at ≡ reserve_at n). omega (arith, is, a))
    (λ (rest : (at ≡ outcome_at n) ⊎ (at ≡ done_at n)). ⊎_elim
    (λ (b : at ≡ outcome_at n). omega (arith, is, b))
    (λ (d : at ≡ done_at n). omega (arith, is, d)) rest)
    own

-- nor does a cell from the first list on
pub beyond_slots : (g : Layout) (n at : ℕ) → n < g.slots → lists_at g ≤ at → IsOwn n at → ⊥
beyond_slots g n at slot from own = ⊎_elim
    (λ (a : at ≡ reserve_at n). omega (arith, slot, from, a))
    (λ (rest : (at ≡ outcome_at n) ⊎ (at ≡ done_at n)). ⊎_elim
    (λ (b : at ≡ outcome_at n). omega (arith, slot, from, b))
    (λ (d : at ≡ done_at n). omega (arith, slot, from, d)) rest)
    own

-- Settling ends slot m, which reserves cells in this image, so it is another than one that is unused there.
module _ (g : Layout) (between : Image) (m n : ℕ) (unused : IsUnused g between n) where
  other : {r : RecordCell} → Holds between (reserve_at m) r → m ≢ n
  other h same = none-some h.cell (sym unused.reserve ∙ ap (λ (i : ℕ). between (reserve_at i)) (sym same) ∙ h.stands)

  first_apart : (state : SlotState) → IsState g between between m state → HasJournal g state between
      → (put : Put) → IsFirstEnd between m state put → IsOwn n put.at → ⊥
  first_apart (Reserved start reserved) is journal put e own =
      other is.reserves.reserve (outcome_is m n put.at (ap (λ (p : Put). p.at) e) own)
  first_apart (Committed start reserved bytes journal) is entries put e own =
      let low : lists_at g ≤ put.at = subst (λ (i : ℕ). lists_at g ≤ i) (sym e.2.at)
      (entries_from (lists_at g) between (journal_at start reserved journal)
      (document_at start reserved bytes journal) journal entries e.0 put.value e.1 e.2.stands) in
      beyond_slots g n put.at unused.slot low own
  first_apart Unused is journal put e own = e
  first_apart (Abandoned start reserved) is journal put e own = e
  first_apart (Done start reserved bytes journal) is entries put e own = e

  last_apart : (state : SlotState) → IsState g between between m state → (put : Put) → IsLastEnd m state put
      → IsOwn n put.at → ⊥
  last_apart (Committed start reserved bytes journal) is put e own =
      other is.commits.reserves.reserve (done_is m n put.at (ap (λ (p : Put). p.at) e) own)
  last_apart (Reserved start reserved) is put e own = e
  last_apart Unused is put e own = e
  last_apart (Abandoned start reserved) is put e own = e
  last_apart (Done start reserved bytes journal) is put e own = e

  pub settle_apart : (state : SlotState) → IsState g between between m state → HasJournal g state between
      → (k : ℕ) (put : Put) → IsInFirst (settle_plan between m state) k put → IsOwn n put.at → ⊥
  settle_apart state is journal k put planned own = ⊎_elim
      (λ (a : (planned.0 ≡ 1) × IsFirstEnd between m state put). first_apart state is journal put a.1 own)
      (λ (b : (planned.0 ≡ 2) × IsLastEnd m state put). last_apart state is put b.1 own)
      planned.2

-- a plan that is put into slot u asks for no cell of another slot
module _ (g : Layout) (p : Plan) (u n : ℕ) (suits : Suits g p) (slot : n < g.slots) (differs : u ≢ n) where
  phase_apart : (j : ℕ) (put : Put) → ingest_phases u p j put → IsOwn n put.at → ⊥
  phase_apart zero put e own = differs (reserve_is u n put.at (ap (λ (q : Put). q.at) e) own)
  phase_apart (suc zero) put e own = ⊎_elim
      (λ (a : IsStampPut u p.stamp put). spare_apart u n put.at (stamp_at u p.stamp put a) own)
      (λ (b : IsPooledPut p put). beyond_slots g n put.at slot (omega (arith, pooled_from p put b, suits.from)) own)
      e
  phase_apart (suc (suc zero)) put e own = differs (outcome_is u n put.at (ap (λ (q : Put). q.at) e) own)
  phase_apart (suc (suc (suc zero))) put e own = beyond_slots g n put.at slot (asked_from g p suits put e) own
  phase_apart (suc (suc (suc (suc zero)))) put e own = differs (done_is u n put.at (ap (λ (q : Put). q.at) e) own)
  phase_apart (suc (suc (suc (suc (suc j))))) put e own = e

  pub plan_apart : (k : ℕ) (put : Put) → IsInFirst (ingest_phases u p) k put → IsOwn n put.at → ⊥
  plan_apart k put planned own = phase_apart planned.0 put planned.2 own
