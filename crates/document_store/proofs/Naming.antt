-- Looks at documents, seen from an earlier state on.
use Rattle.std.proofs.Common.{◌≡◌, ◌<◌, ⊎_elim, inl, inr, ℕ, Option, Some, None, Result, Ok, Err, refl, sym, ap, ◌∙◌, subst, arith}
use Rattle.std.specs.Prelude.{IsTrue}
use Rattle.cell_types.specs.Image.{Image, Extends}
use Rattle.cell_types.specs.Layout.{Layout, reserve_at, outcome_at, done_at, spare_at}
use Rattle.cell_types.specs.declared.refusal.Evidence.{Evidence}
use Rattle.cell_types.specs.declared.refusal.Fault.{Fault}
use Rattle.cell_types.specs.declared.refusal.Fault.TheVariants.{Tampered, Failed}
use Rattle.volume_meaning.proofs.Extending.{blank_before, unused_further, reserved_further, abandoned_further, committed_further, done_on, done_slot_on}
use Rattle.tamper_rules.specs.Rules.{IsPlaceOf, Documents}
use Rattle.tamper_rules.specs.declared.numbers.TheConstants.{BROKEN_DOCUMENT}
use Rattle.worm_device.specs.Views.{ViewState, Viewed}
use Rattle.worm_device.proofs.Counting.{still_second}
use Rattle.worm_device.proofs.Images.{extends_self}
use Rattle.commit_record.specs.States.{AsksSlotBelow, IsNoState, IsState, LacksStamp, ShowsBroken, done_abandoned, done_unended, done_unreserved, done_wrongly, ends_unreserved, ends_unstamped, ends_wrongly, reserves_none}
use Rattle.commit_record.specs.declared.slot.SlotState.{SlotState}
use Rattle.commit_record.specs.declared.slot.SlotState.TheVariants.{Unused, Reserved, Abandoned, Committed, Done}
use Rattle.document_store.specs.Heads.{SpellsNone}
use Rattle.document_store.specs.Looks.{IsPartOf, IsUndone, LookFails, NamesDocument, PartEnds, commit_breach, of_document, of_state}
use Rattle.document_store.specs.declared.part.Part.{Part}
use Rattle.document_store.proofs.Holding.{has_document_on, held_on, none_is_held, part_is_done, part_on}

-- a state that was seen between two images was seen between any that lie further apart
pub state_further : (g : Layout) {before before' after after' : Image} (n : ℕ) → Extends before' before
    → Extends after after' → (state : SlotState) → IsState g before after n state → IsState g before' after' n state
state_further g n e f Unused is = unused_further e f is
state_further g n e f (Reserved start length) is = reserved_further e f is
state_further g n e f (Abandoned start length) is = abandoned_further e f is
state_further g n e f (Committed start length bytes journal) is = committed_further e f is
state_further g n e f (Done start length bytes journal) is = done_on f is

-- so is one that is not done
pub undone_further : {g : Layout} {before before' after after' : Image} {n : ℕ} → Extends before' before
    → Extends after after' → IsUndone g before after n → IsUndone g before' after' n
undone_further {g} {before} {before'} {after} {after'} {n} e f u = record {
  state = u.state;
  is = state_further g n e f u.state u.is;
  undone = λ d. u.undone (done_slot_on (extends_self before') e d);
}

-- a slot that lacks its stamp lacked it from an earlier image on
lacks_from : {before before' after : Image} (n : ℕ) → Extends before' before → LacksStamp before after n
    → LacksStamp before' after n
lacks_from n e lacks = ⊎_elim (λ blank. inl (blank_before e blank)) (λ none. inr none) lacks

-- cells that were no state were none from an earlier image on
no_state_from : {g : Layout} {before before' after : Image} {n rule cell : ℕ} → Extends before' before
    → IsNoState g before after n rule cell → IsNoState g before' after n rule cell
no_state_from e (reserves_none r c never) = reserves_none r c never
no_state_from e (ends_unreserved r c blank) = ends_unreserved r c (blank_before e blank)
no_state_from e (ends_wrongly s l r c is never none) = ends_wrongly s l r c is never none
no_state_from {n = n} e (ends_unstamped s l b j r c is commit fits stamped lacks) =
    ends_unstamped s l b j r c is commit fits stamped (lacks_from n e lacks)
no_state_from e (done_unreserved r c blank none) = done_unreserved r c (blank_before e blank) (blank_before e none)
no_state_from e (done_unended s l r c is blank) = done_unended s l r c is (blank_before e blank)
no_state_from e (done_abandoned s l r c is) = done_abandoned s l r c is
no_state_from e (done_wrongly s l b j r c is never) = done_wrongly s l b j r c is never

-- the device below goes on telling
pub told : {old mid : ViewState} → Viewed old mid → IsTrue old.base.tells → IsTrue mid.base.tells
told before tells = subst IsTrue (sym before.called.tells) tells

-- cells that were asked for below go on being so
asks_from : {old mid : ViewState} (n : ℕ) → Viewed old mid → AsksSlotBelow n old → AsksSlotBelow n mid
asks_from n before a = record {
  reserve = ap (λ (p : Image). p (reserve_at n)) before.planned ∙ a.reserve;
  outcome = ap (λ (p : Image). p (outcome_at n)) before.planned ∙ a.outcome;
  done = ap (λ (p : Image). p (done_at n)) before.planned ∙ a.done;
  spare = ap (λ (p : Image). p (spare_at n)) before.planned ∙ a.spare;
  fresh = omega (arith, before.fresh, a.fresh);
}

module _ (g : Layout) {old mid new : ViewState} (before : Viewed old mid) (after : Viewed mid new) where
  -- what evidence shows, from an earlier state on
  shows_from : {image : Image} {e : Evidence} → ShowsBroken g mid new image e → ShowsBroken g old new image e
  shows_from s = record {
    stands = s.stands;
    broken = λ still volume. s.broken (still_second before.called.foreign_writes after.called.foreign_writes still)
        volume;
  }

  -- what evidence of slot n says, from an earlier state on
  pub names_from : (n : ℕ) {e : Evidence} → NamesDocument g n mid new e → NamesDocument g n old new e
  names_from n (of_state out) = of_state (record {
    seen = no_state_from before.image out.seen;
    shown = shows_from out.shown;
    below = λ asks. shows_from (out.below (asks_from n before asks));
  })
  names_from n (of_document broken) = of_document (record {
    rule = broken.rule;
    cell = broken.cell;
    found = broken.found;
    done = broken.done;
    none = λ id body h. broken.none id body (held_on before.image h);
  })

  -- why a look at slot n gave no answer, from an earlier state on
  pub fails_from : (n : ℕ) → mid.base.faults ≡ old.base.faults → (fault : Fault) → LookFails g n mid new fault
      → LookFails g n old new fault
  fails_from n same Failed fails = omega (arith, same, fails)
  fails_from n same (Tampered e) fails =
      (fails.0, fails.1 ∙ same, λ tells. names_from n (fails.2 (told before tells)))

  -- how a look for slot n's part ended, from an earlier state on
  pub part_from : (n : ℕ) → mid.base.faults ≡ old.base.faults → (result : Result (Option Part) Fault)
      → PartEnds g n mid new result → PartEnds g n old new result
  part_from n same (Ok (Some part)) ends = (ends.0, ends.1, ends.2 ∙ same, λ tells. ends.3 (told before tells), ends.4)
  part_from n same (Ok None) ends =
      (ends.0 ∙ same, λ tells. undone_further before.image (extends_self new.image) (ends.1 (told before tells)))
  part_from n same (Err fault) ends = fails_from n same fault ends

-- a commit cell is a place of its rule
pub commit_is_place : (g : Layout) (n rule cell : ℕ) → n < g.slots → rule ≡ BROKEN_DOCUMENT → cell ≡ outcome_at n
    → IsPlaceOf g rule cell
commit_is_place g n rule cell less is at = (Documents, is, (n, less, at))

-- the commit cell of a slot whose part held no document before
pub names_commit_before : (g : Layout) (old new : ViewState) (part : Part) → Viewed old new → part.slot < g.slots
    → new.base.faults ≡ old.base.faults → (IsTrue old.base.tells → IsPartOf g old.image part.slot part)
    → (IsTrue old.base.tells → SpellsNone old.image part.start part.bytes)
    → LookFails g part.slot old new (commit_breach part)
names_commit_before g old new part viewed less same is none = (
  commit_is_place g part.slot BROKEN_DOCUMENT (outcome_at part.slot) less refl refl,
  same,
  λ tells.
      let on = part_on viewed.image (is tells) in
      let outcome = on.done.commits.outcome in
      of_document (record {
        rule = refl;
        cell = refl;
        found = outcome.stands ∙ ap Some outcome.is.same;
        done = part_is_done on;
        none = none_is_held g old.image part.slot part (is tells) (none tells);
      }),
)

-- what spells no document spelled none before
pub spelled_none : {old new : Image} {start bytes : ℕ} → Extends old new → SpellsNone new start bytes
    → SpellsNone old start bytes
spelled_none grows none d = none (has_document_on grows d)

-- the commit cell of a slot whose part holds no document
pub names_commit : (g : Layout) (old new : ViewState) (part : Part) → Viewed old new → part.slot < g.slots
    → new.base.faults ≡ old.base.faults → (IsTrue old.base.tells → IsPartOf g old.image part.slot part)
    → (IsTrue old.base.tells → SpellsNone new.image part.start part.bytes)
    → LookFails g part.slot old new (commit_breach part)
names_commit g old new part viewed less same is none =
    names_commit_before g old new part viewed less same is (λ tells. spelled_none viewed.image (none tells))
