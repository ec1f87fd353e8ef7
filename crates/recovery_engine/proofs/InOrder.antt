-- The last slot and the one before it, seen one after the other.
use Rattle.std.proofs.Common.{inr, ◌≡◌, ◌≢◌, ◌<◌, ◌+◌, ℕ, Some, None, Ok, Err, sym, ap, ◌∙◌, inl, ⊎_elim, subst, arith}
use Rattle.std.proofs.lemmas.Option.{none-some, same_Some}
use Rattle.std.specs.Prelude.{IsTrue}
use Rattle.cell_types.specs.Image.{Image, Extends, IsUnchanged}
use Rattle.cell_types.specs.Layout.{Layout, pool_at}
use Rattle.cell_types.specs.declared.refusal.Evidence.{Evidence}
use Rattle.cell_types.specs.declared.refusal.Fault.{Fault}
use Rattle.cell_types.specs.declared.refusal.Fault.TheVariants.{Tampered, Failed}
use Rattle.commit_record.specs.Reservations.{reservation_of}
use Rattle.commit_record.specs.States.{IsNoState, IsState, StateEnds}
use Rattle.commit_record.specs.declared.reservation.Reservation.{Reservation}
use Rattle.commit_record.specs.declared.slot.SlotState.{SlotState}
use Rattle.commit_record.specs.declared.slot.SlotState.TheVariants.{Unused, Reserved, Abandoned, Committed, Done}
use Rattle.tamper_rules.specs.Rules.{ReserveRule, ReserveCells}
use Rattle.volume_meaning.specs.Slots.{Reserves, HasEnded, EndsBelow}
use Rattle.volume_meaning.proofs.Extending.{unused_further, reserved_further, abandoned_further, committed_further, done_on, reserves_on, ended_further}
use Rattle.worm_device.specs.Counts.{IsStill}
use Rattle.worm_device.specs.Views.{ViewState, Viewed}
use Rattle.worm_device.proofs.Counting.{still_second}
use Rattle.worm_device.proofs.Images.{extends_self}
use Rattle.worm_device.proofs.Resting.{rests_of}
use Rattle.recovery_engine.specs.LastSlot.{IsFollowed, IsReserveCell, IsSlotEvidence, IsSlotRule, LastEnds}
use Rattle.recovery_engine.proofs.States.{reserved_by, reserves_one, followed, not_followed}

-- a state seen between two images was seen between any that lie further apart
pub state_further : (g : Layout) (before before' after after' : Image) (n : ℕ) (state : SlotState)
    → Extends before' before → Extends after after' → IsState g before after n state
    → IsState g before' after' n state
state_further g before before' after after' n Unused e f is = unused_further e f is
state_further g before before' after after' n (Reserved s l) e f is = reserved_further e f is
state_further g before before' after after' n (Abandoned s l) e f is = abandoned_further e f is
state_further g before before' after after' n (Committed s l b j) e f is = committed_further e f is
state_further g before before' after after' n (Done s l b j) e f is = done_on f is

-- an image in which nothing has changed is extended by the first
unchanged_back : (old new : Image) → IsUnchanged old new → Extends new old
unchanged_back old new same = record { keeps = λ cell value h. sym (same cell) ∙ h }

-- evidence that names the slot's reserve cell, where its cells are out of order
out_of_order : (g : Layout) (n total from to : ℕ) (image : Image) (cells : Reservation) (e : Evidence) → n < g.slots
    → IsReserveCell n cells e → Reserves g image n cells.start cells.length
    → (IsStill from to → ReserveRule g image n → ⊥) → IsSlotEvidence g total from to image e
out_of_order g n total from to image cells e less is r why =
    let stands : image e.cell ≡ Some e.found =
    ap image is.at ∙ r.reserve.stands ∙ ap Some (r.reserve.is.same ∙ sym is.found) in
    record {
      rule = inl is.rule;
      stands = stands;
      place = (ReserveCells, is.rule, (n, less, is.at));
      broken = λ still volume. record {
        layout = g;
        volume = volume;
        rule = ReserveCells;
        named = is.rule;
        place = (n, less, is.at);
        written = record { found = e.found; stands = stands };
        not_met = λ met. why still (met n less is.at);
      };
    }

-- the rule asks that these cells begin where those of the slots below end, and the slot before is abandoned or done
begins_there : (g : Layout) (n : ℕ) (image : Image) (cells : Reservation)
    → Reserves g image n cells.start cells.length → ReserveRule g image n → EndsBelow g image n cells.start
begins_there g n image cells r kept =
    subst (λ (k : ℕ). EndsBelow g image n k)
    (reserves_one g image n kept.start kept.length cells.start cells.length kept.reserves r).0 kept.begins

-- cells that are no state break one of the rules of such cells
no_state_rule : {g : Layout} {before after : Image} {n rule cell : ℕ} → IsNoState g before after n rule cell
    → IsSlotRule rule
no_state_rule (IsNoState.reserves_none r c none) = inl r
no_state_rule (IsNoState.ends_unreserved r c none) = inr (inl r)
no_state_rule (IsNoState.ends_wrongly start length r c reserves no_abandon no_commit) = inr (inl r)
no_state_rule (IsNoState.ends_unstamped start length bytes journal r c reserves commit fits stamped lacks) = inr (inl r)
no_state_rule (IsNoState.done_unreserved r c none blank) = inr (inr r)
no_state_rule (IsNoState.done_unended start length r c reserves none) = inr (inr r)
no_state_rule (IsNoState.done_abandoned start length r c abandons) = inr (inr r)
no_state_rule (IsNoState.done_wrongly start length bytes journal r c commits no_done) = inr (inr r)

-- the slot is no state, or a read failed
pub fault_here : (g : Layout) (n : ℕ) (v0 v1 : ViewState) (fault : Fault) → StateEnds g n v0 v1 (Err fault)
    → LastEnds g n v0 v1 (Err fault)
fault_here g n v0 v1 Failed ends = ends
fault_here g n v0 v1 (Tampered e) ends = λ tells.
    let out = ends.2 tells in
    record {
      rule = no_state_rule out.seen;
      stands = out.shown.stands;
      place = ends.0;
      broken = out.shown.broken;
    }

module _ (g : Layout) (n m : ℕ) (next : n ≡ m + 1) (less : n < g.slots) (v0 v1 v2 : ViewState) (one : Viewed v0 v1)
    (two : Viewed v1 v2) where
  -- the slot before is no state, or a read failed
  pub fault_before : (fault : Fault) → StateEnds g m v1 v2 (Err fault) → LastEnds g n v0 v2 (Err fault)
  fault_before Failed ends = omega (arith, ends, one.called.faults)
  fault_before (Tampered e) ends = λ tells.
      let out = ends.2 (subst IsTrue (sym one.called.tells) tells) in
      record {
        rule = no_state_rule out.seen;
        stands = out.shown.stands;
        place = ends.0;
        broken = λ still volume.
            out.shown.broken (still_second one.called.foreign_writes two.called.foreign_writes still) volume;
      }

  module _ (state before : SlotState) (cells : Reservation) (reserved : reservation_of state ≡ Some cells)
      (s : StateEnds g n v0 v1 (Ok state)) (b : StateEnds g m v1 v2 (Ok before)) where
    tells_1 : IsTrue v0.base.tells → IsTrue v1.base.tells
    tells_1 tells = subst IsTrue (sym one.called.tells) tells

    -- the slot before has not ended, or ends elsewhere
    pub elsewhere : (e : Evidence) → IsReserveCell n cells e → (IsFollowed before cells.start → ⊥)
        → LastEnds g n v0 v2 (Err (Tampered e))
    elsewhere e is other = λ tells.
        let r = reserves_on two.image (reserved_by g v0.image v1.image n state cells (s.2 tells) reserved) in
        out_of_order g n v2.cells v0.base.foreign_writes v2.base.foreign_writes v2.image cells e less is r
        (λ still kept.
        let rest = still_second one.called.foreign_writes two.called.foreign_writes still in
        let there = state_further g v1.image v2.image v2.image v2.image m before
        (unchanged_back v1.image v2.image ((rests_of two).shown rest)) (extends_self v2.image)
        (b.2 (tells_1 tells)) in
        not_followed g v2.image m before cells.start there other (kept.before m next)
        (subst (λ (k : ℕ). EndsBelow g v2.image k cells.start) next (begins_there g n v2.image cells r kept)))

    -- the slot follows the one before
    pub follows_on : IsFollowed before cells.start → LastEnds g n v0 v2 (Ok state)
    follows_on follows = (
      s.0,
      λ tells.
          let ended = followed g v1.image v2.image m before cells.start (b.2 (tells_1 tells)) follows in
          record {
            is = state_further g v0.image v0.image v1.image v2.image n state (extends_self v0.image) two.image
                (s.2 tells);
            follows = λ cells' e.
                let here : cells ≡ cells' = same_Some cells cells' (sym reserved ∙ e) in
                record {
                  begins = subst (λ (k : ℕ). EndsBelow g v2.image k cells'.start) (sym next)
                      (subst (λ (c : Reservation). EndsBelow g v2.image (m + 1) c.start) here ended.1);
                  ended = λ k is. subst (λ (a : ℕ). HasEnded g v0.image v2.image a) (omega (arith, next, is))
                      (ended_further one.image (extends_self v2.image) ended.0);
                };
          },
    )

-- the first slot does not begin where the pool does
pub first_elsewhere : (g : Layout) (n : ℕ) (v0 v1 : ViewState) (state : SlotState) (cells : Reservation) (e : Evidence)
    → n ≡ 0 → n < g.slots → reservation_of state ≡ Some cells → cells.start ≢ pool_at g → IsReserveCell n cells e
    → StateEnds g n v0 v1 (Ok state) → LastEnds g n v0 v1 (Err (Tampered e))
first_elsewhere g n v0 v1 state cells e first less reserved differs is s = λ tells.
    let r = reserved_by g v0.image v1.image n state cells (s.2 tells) reserved in
    out_of_order g n v1.cells v0.base.foreign_writes v1.base.foreign_writes v1.image cells e less is r
    (λ still kept. ⊎_elim
    (λ (a : (n ≡ 0) × (cells.start ≡ pool_at g)). differs a.1)
    (λ (a : (m : ℕ) × (start : ℕ) × (length : ℕ) × (n ≡ m + 1) × Reserves g v1.image m start length
    × (cells.start ≡ start + length)). omega (arith, first, a.3))
    (begins_there g n v1.image cells r kept))

-- it does
pub first_there : (g : Layout) (n : ℕ) (v0 v1 : ViewState) (state : SlotState) (cells : Reservation)
    → n ≡ 0 → reservation_of state ≡ Some cells → cells.start ≡ pool_at g
    → StateEnds g n v0 v1 (Ok state) → LastEnds g n v0 v1 (Ok state)
first_there g n v0 v1 state cells first reserved there s = (
  s.0,
  λ tells. record {
    is = s.2 tells;
    follows = λ cells' e.
        let here : cells ≡ cells' = same_Some cells cells' (sym reserved ∙ e) in
        record {
          begins = inl (first, ap (λ (c : Reservation). c.start) (sym here) ∙ there);
          ended = λ m is. absurd (omega (arith, first, is));
        };
  },
)

-- the slot reserves nothing
pub no_cells : (g : Layout) (n : ℕ) (v0 v1 : ViewState) (state : SlotState) → reservation_of state ≡ None
    → StateEnds g n v0 v1 (Ok state) → LastEnds g n v0 v1 (Ok state)
no_cells g n v0 v1 state none s =
    (s.0, λ tells. record { is = s.2 tells; follows = λ cells e. absurd (none-some cells (sym none ∙ e)) })
