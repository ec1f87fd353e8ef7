-- Which reserve cells are written: none by settling, and by putting a plan that of its slot.
use Rattle.std.proofs.Common.{◌≡◌, ◌≤◌, ◌<◌, ℕ, zero, suc, List, Some, refl, ap, ⊎_elim, subst, arith}
use Rattle.std.specs.Prelude.{IsTrue, Result}
use Rattle.cell_types.specs.Image.{Extends, Image}
use Rattle.cell_types.specs.Layout.{Layout, reserve_at, lists_at}
use Rattle.cell_types.specs.declared.refusal.Refusal.{Refusal}
use Rattle.volume_meaning.specs.Documents.{document_at}
use Rattle.volume_meaning.specs.Volumes.{IsVolume}
use Rattle.volume_meaning.proofs.Extending.{volume_on}
use Rattle.tamper_rules.specs.Journals.{journal_at}
use Rattle.tamper_rules.proofs.GivenUp.{one_layout}
use Rattle.worm_device.specs.Counts.{IsStill}
use Rattle.worm_device.specs.State.{DeviceState}
use Rattle.recovery_engine.specs.declared.put.Put.{Put}
use Rattle.recovery_engine.specs.Putting.{IsInFirst, IsPut}
use Rattle.commit_record.specs.declared.slot.SlotState.{SlotState}
use Rattle.commit_record.specs.declared.slot.SlotState.TheVariants.{Unused, Reserved, Abandoned, Committed, Done}
use Rattle.recovery_engine.specs.Ending.{abandon_put, done_put, end_phases}
use Rattle.recovery_engine.specs.Journal.{IsEntryPut}
use Rattle.recovery_engine.specs.Settling.{IsEnding, Settles, settle_plan}
use Rattle.recovery_engine.specs.declared.settling.Ready.{Ready}
use Rattle.recovery_engine.proofs.Rising.{entries_from}
use Rattle.plan_writer.specs.Planned.{IsPooledPut, IsStampPut, Suits, ingest_phases}
use Rattle.plan_writer.specs.declared.plan.Plan.{Plan}
use Rattle.plan_writer.proofs.LogCells.{pooled_from, stamp_at}
use Rattle.plan_writer.proofs.Targets.{asked_from}
use Rattle.crash_laws.proofs.LeftWhole.{ends_none}

at_of : (a b : Put) → a ≡ b → a.at ≡ b.at
at_of a b e = ap (λ (x : Put). x.at) e

module _ {cells more : ℕ} {old image after : Image} (m : ℕ) (g : Layout) (grows : Extends image after)
    (volume : IsVolume more after g) (n : ℕ) (inside : n < g.slots) where
  -- what ends a slot is no reserve cell
  never : (state : SlotState) → (1 ≤ end_phases state → IsEnding cells old image m state) → (j : ℕ) (put : Put)
      → settle_plan image m state j put → put.at ≡ reserve_at n → ⊥
  never Unused ending j put h here = ends_none image m Unused refl j put h
  never (Abandoned s l) ending j put h here = ends_none image m (Abandoned s l) refl j put h
  never (Done s l b k) ending j put h here = ends_none image m (Done s l b k) refl j put h
  never (Reserved s l) ending j put h here = ⊎_elim
      (λ (a : (j ≡ 1) × (put ≡ abandon_put m)). omega (arith, at_of put _ a.1, here))
      (λ (b : (j ≡ 2) × ⊥). b.1)
      h
  never (Committed s l b k) ending j put h here = ⊎_elim
      (λ (a : (j ≡ 1) × IsEntryPut image (journal_at s l k) k put).
      let e = ending (omega arith) in
      let entry = a.1 in
      let low = entries_from (lists_at e.layout) image (journal_at s l k) (document_at s l b k) k e.journal entry.0
      put.value entry.1 entry.2.stands in
      let below : n < e.layout.slots =
      subst (λ (o : Layout). n < o.slots) (one_layout g e.layout volume (volume_on grows e.volume)) inside in
      omega (arith, low, entry.2.at, here, below))
      (λ (c : (j ≡ 2) × (put ≡ done_put m)). omega (arith, at_of put _ c.1, here))
      h

-- so a reserve cell that stands behind settling stood before
pub stood_before : (old new : DeviceState) (result : Result Ready Refusal) → IsTrue old.tells → Settles old new result
    → IsStill old.foreign_writes new.foreign_writes → (g : Layout) → IsVolume new.cells new.image g → (n : ℕ)
    → n < g.slots → (value : List ℕ) → new.image (reserve_at n) ≡ Some value → old.image (reserve_at n) ≡ Some value
stood_before old new result tells settles still g volume n inside value stands =
    let w = settles.writes tells in
    ⊎_elim
    (λ (was : old.image (reserve_at n) ≡ Some value). was)
    (λ (q : IsPut (IsInFirst (settle_plan w.between w.slot w.state) 3) old.image (reserve_at n) value).
    absurd (never w.slot g w.stands volume n inside w.state w.ending q.planned.0 q.put q.planned.2 q.here))
    (w.only still (reserve_at n) value stands)

-- and of those a plan's phases put there is one
pub one_slot : (g : Layout) (n : ℕ) (p : Plan) → n < g.slots → Suits g p → (j : ℕ) (put : Put)
    → ingest_phases n p j put → (m : ℕ) → m < g.slots → put.at ≡ reserve_at m → m ≡ n
one_slot g n p less suits zero put h m inside here = omega (arith, here, at_of put _ h)
one_slot g n p less suits (suc zero) put h m inside here = absurd (⊎_elim
    (λ (a : IsStampPut n p.stamp put). omega (arith, stamp_at n p.stamp put a, here))
    (λ (b : IsPooledPut p put). omega (arith, pooled_from p put b, here, suits.from, inside))
    h)
one_slot g n p less suits (suc (suc zero)) put h m inside here = absurd (omega (arith, here, at_of put _ h))
one_slot g n p less suits (suc (suc (suc zero))) put h m inside here =
    absurd (omega (arith, asked_from g p suits put h, here, inside))
one_slot g n p less suits (suc (suc (suc (suc zero)))) put h m inside here = absurd (omega (arith, here, at_of put _ h))
one_slot g n p less suits (suc (suc (suc (suc (suc j))))) put h m inside here = absurd h
