-- What the states of slots say of reservations and of their order.
use Rattle.std.proofs.Common.{◌≡◌, ◌<◌, ◌+◌, ◌^◌, ℕ, Some, None, refl, sym, ◌∙◌, inl, inr, ⊎_elim, subst, arith}
use Rattle.std.proofs.lemmas.Option.{none-some, same_Some}
use Rattle.std.specs.Prelude.{IfSome}
use Rattle.cell_types.specs.Image.{Image}
use Rattle.cell_types.specs.Layout.{Layout, reserve_at, outcome_at, done_at, pool_at}
use Rattle.cell_types.specs.declared.record_cell.RecordCell.{RecordCell}
use Rattle.cell_types.specs.declared.record_cell.RecordCell.TheVariants.{Commit, Abandon}
use Rattle.commit_record.specs.Reservations.{reservation_of}
use Rattle.commit_record.specs.States.{IsState, StateLiesInPool, AreOfPool}
use Rattle.commit_record.specs.declared.reservation.Reservation.{Reservation}
use Rattle.commit_record.specs.declared.slot.SlotState.{SlotState}
use Rattle.commit_record.specs.declared.slot.SlotState.TheVariants.{Unused, Reserved, Abandoned, Committed, Done}
use Rattle.volume_meaning.specs.Slots.{Reserves, IsAbandonedSlot, IsDoneSlot, HasEnded, EndsBelow}
use Rattle.volume_meaning.specs.Volumes.{Holds}
use Rattle.volume_meaning.proofs.Holding.{one_record_holds}
use Rattle.volume_meaning.proofs.OneDocument as one
use Rattle.recovery_engine.specs.LastSlot.{IsFollowed}

-- the cells that a state names lie in the pool
pub of_pool : (g : Layout) (state : SlotState) (cells : Reservation) → StateLiesInPool g state
    → reservation_of state ≡ Some cells → AreOfPool g cells.start cells.length
of_pool g Unused cells within e = absurd (none-some cells e)
of_pool g (Reserved s l) cells within e =
    subst (λ (c : Reservation). AreOfPool g c.start c.length) (same_Some (record { start = s; length = l }) cells e)
    within
of_pool g (Abandoned s l) cells within e =
    subst (λ (c : Reservation). AreOfPool g c.start c.length) (same_Some (record { start = s; length = l }) cells e)
    within
of_pool g (Committed s l b j) cells within e =
    subst (λ (c : Reservation). AreOfPool g c.start c.length) (same_Some (record { start = s; length = l }) cells e)
    within.0
of_pool g (Done s l b j) cells within e =
    subst (λ (c : Reservation). AreOfPool g c.start c.length) (same_Some (record { start = s; length = l }) cells e)
    within.0

-- so their end is a number of 32 bits
pub end_fits : (g : Layout) (state : SlotState) → StateLiesInPool g state
    → IfSome (reservation_of state) (λ cells. cells.start + cells.length < 2 ^ 32)
end_fits g Unused within = tt
end_fits g (Reserved s l) within = omega (arith, within.3)
end_fits g (Abandoned s l) within = omega (arith, within.3)
end_fits g (Committed s l b j) within = omega (arith, within.0.3)
end_fits g (Done s l b j) within = omega (arith, within.0.3)

pub holds_written : (image : Image) (at : ℕ) (r : RecordCell) → Holds image at r → image at ≡ None → ⊥
holds_written image at r h none = let clash : Some h.cell ≡ None = sym h.stands ∙ none in cc

module _ (g : Layout) (before after : Image) (n : ℕ) where
  -- the cells that a state names are reserved
  pub reserved_by : (state : SlotState) (cells : Reservation) → IsState g before after n state
      → reservation_of state ≡ Some cells → Reserves g after n cells.start cells.length
  reserved_by Unused cells is e = absurd (none-some cells e)
  reserved_by (Reserved s l) cells is e =
      subst (λ (c : Reservation). Reserves g after n c.start c.length)
      (same_Some (record { start = s; length = l }) cells e) is.reserves
  reserved_by (Abandoned s l) cells is e =
      subst (λ (c : Reservation). Reserves g after n c.start c.length)
      (same_Some (record { start = s; length = l }) cells e) is.abandons.reserves
  reserved_by (Committed s l b j) cells is e =
      subst (λ (c : Reservation). Reserves g after n c.start c.length)
      (same_Some (record { start = s; length = l }) cells e) is.commits.reserves
  reserved_by (Done s l b j) cells is e =
      subst (λ (c : Reservation). Reserves g after n c.start c.length)
      (same_Some (record { start = s; length = l }) cells e) is.commits.reserves

  -- a slot that is followed has ended, and the slots up to it end where the next cells begin
  pub followed : (state : SlotState) (next : ℕ) → IsState g before after n state → IsFollowed state next
      → HasEnded g before after n × EndsBelow g after (n + 1) next
  followed (Abandoned s l) next is e =
      (inl (record { start = s; length = l; abandoned = is }), inr (n, s, l, refl, is.abandons.reserves, sym e))
  followed (Done s l b j) next is e = (
    inr (record { start = s; length = l; bytes = b; journal = j; done = is }),
    inr (n, s, l, refl, is.commits.reserves, sym e),
  )
  followed Unused next is e = absurd e
  followed (Reserved s l) next is e = absurd e
  followed (Committed s l b j) next is e = absurd e

-- a slot reserves one range of cells
pub reserves_one : (g : Layout) (image : Image) (n s l s' l' : ℕ) → Reserves g image n s l
    → Reserves g image n s' l' → (s ≡ s') × (l ≡ l')
reserves_one g image n s l s' l' p q =
    one.reserves s l s' l' (one_record_holds image (reserve_at n) _ _ p.reserve q.reserve)

module _ (g : Layout) (image : Image) (n : ℕ) where
  abandon_or_commit : (bytes journal : ℕ) → Holds image (outcome_at n) Abandon
      → Holds image (outcome_at n) (Commit bytes journal) → ⊥
  abandon_or_commit bytes journal h k =
      let clash : Abandon ≡ Commit bytes journal = one_record_holds image (outcome_at n) _ _ h k in cc

  -- nothing has come of the slot, so it has not ended
  no_outcome : image (outcome_at n) ≡ None → HasEnded g image image n → ⊥
  no_outcome none h = ⊎_elim
      (λ (a : IsAbandonedSlot g image image n).
      holds_written image (outcome_at n) _ a.abandoned.abandons.outcome none)
      (λ (d : IsDoneSlot g image n). holds_written image (outcome_at n) _ d.done.commits.outcome none)
      h

  -- the slots up to this one end where its own cells do
  ends_there : (s l next : ℕ) → Reserves g image n s l → EndsBelow g image (n + 1) next → s + l ≡ next
  ends_there s l next r ends = ⊎_elim
      (λ (a : (n + 1 ≡ 0) × (next ≡ pool_at g)). absurd (omega (arith, a.0)))
      (λ (a : (m : ℕ) × (start : ℕ) × (length : ℕ) × (n + 1 ≡ m + 1) × Reserves g image m start length
      × (next ≡ start + length)).
      let same : a.0 ≡ n = omega (arith, a.3) in
      let there = reserves_one g image n s l a.1 a.2 r (subst (λ (m : ℕ). Reserves g image m a.1 a.2) same a.4) in
      omega (arith, there.0, there.1, a.5))
      ends

  -- a slot that is not followed has not ended, or ends elsewhere
  pub not_followed : (state : SlotState) (next : ℕ) → IsState g image image n state → (IsFollowed state next → ⊥)
      → HasEnded g image image n → EndsBelow g image (n + 1) next → ⊥
  not_followed Unused next is other ended ends = no_outcome is.outcome ended
  not_followed (Reserved s l) next is other ended ends = no_outcome is.outcome ended
  not_followed (Abandoned s l) next is other ended ends = other (ends_there s l next is.abandons.reserves ends)
  not_followed (Done s l b j) next is other ended ends = other (ends_there s l next is.commits.reserves ends)
  not_followed (Committed s l b j) next is other ended ends = ⊎_elim
      (λ (a : IsAbandonedSlot g image image n). abandon_or_commit b j a.abandoned.abandons.outcome is.commits.outcome)
      (λ (d : IsDoneSlot g image n). holds_written image (done_at n) _ d.done.done is.done)
      ended
