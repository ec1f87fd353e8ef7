-- Where a slot begins behind one that has ended.
use Rattle.std.proofs.Common.{◌≡◌, ◌+◌, ◌↔◌, ⊎_elim, inl, inr, ℕ, nat_eq, refl, ◌∙◌, subst, arith}
use Rattle.std.specs.Prelude.{IsTrue}
use Rattle.cell_types.specs.Image.{Image}
use Rattle.cell_types.specs.Layout.{Layout, reserve_at, pool_at}
use Rattle.cell_types.specs.declared.record_cell.RecordCell.TheVariants.{Reserve}
use Rattle.volume_meaning.specs.Slots.{Reserves, HasEnded}
use Rattle.volume_meaning.proofs.Holding.{one_record_holds}
use Rattle.volume_meaning.proofs.OneDocument.{reserves}
use Rattle.tamper_rules.specs.Rules.{ReserveRule}
use Rattle.log_audit.specs.Logs.{IsEnded, end_of}
use Rattle.log_audit.specs.declared.ended.EndedSlot.{EndedSlot}
use Rattle.log_audit.specs.declared.ended.EndedSlot.TheVariants.{Abandoned, Done}
use Rattle.log_audit.proofs.Orders.{is_same, same_is}

-- a slot that has ended so has ended
pub has_ended : (g : Layout) (image : Image) (n : ℕ) (slot : EndedSlot) → IsEnded g image n slot → HasEnded g image image n
has_ended g image n (Abandoned start size) is = inl (record { start = start; length = size; abandoned = is })
has_ended g image n (Done start size bytes journal) is = inr (record { start = start; length = size; bytes = bytes; journal = journal; done = is })

-- and reserves cells
pub ended_cells : (g : Layout) (image : Image) (n : ℕ) (slot : EndedSlot) → IsEnded g image n slot
    → (start : ℕ) × (size : ℕ) × Reserves g image n start size × (end_of slot ≡ start + size)
ended_cells g image n (Abandoned start size) is = (start, size, is.abandons.reserves, refl)
ended_cells g image n (Done start size bytes journal) is = (start, size, is.commits.reserves, refl)

-- a slot reserves its cells once
pub one_reservation : (g : Layout) (image : Image) (n a b c d : ℕ) → Reserves g image n a b → Reserves g image n c d → (a ≡ c) × (b ≡ d)
one_reservation g image n a b c d r s = reserves a b c d (one_record_holds image (reserve_at n) (Reserve a b) (Reserve c d) r.reserve s.reserve)

pub begins_there : (g : Layout) (image : Image) (n m start size : ℕ) (slot : EndedSlot) (end : ℕ) → n ≡ m + 1
    → Reserves g image n start size → IsEnded g image m slot → end ≡ end_of slot
    → (IsTrue (nat_eq start end) ↔ ReserveRule g image n)
begins_there g image n m start size slot end behind r is at =
    let before = ended_cells g image m slot is in (
      λ same. record {
        start = start;
        length = size;
        reserves = r;
        begins = inr (m, before.0, before.1, behind, before.2, same_is start end same ∙ at ∙ before.3);
        before = λ k e. let eq : m ≡ k = omega (arith, behind, e) in subst (HasEnded g image image) eq (has_ended g image m slot is);
      },
      λ rule. is_same start end (⊎_elim
          (λ (zero : (n ≡ 0) × (rule.start ≡ pool_at g)). absurd (omega (arith, zero.0, behind)))
          (λ w. let eq : w.0 ≡ m = omega (arith, w.3, behind) in
          let last : Reserves g image m w.1 w.2 = subst (λ (k : ℕ). Reserves g image k w.1 w.2) eq w.4 in
          let one = one_reservation g image m w.1 w.2 before.0 before.1 last before.2 in
          let here = one_reservation g image n start size rule.start rule.length r rule.reserves in
          omega (arith, one.0, one.1, here.0, w.5, at, before.3))
          rule.begins),
    )
