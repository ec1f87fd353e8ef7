-- A walk down a path, level by level, over plain values.
use Rattle.std.proofs.Common.{◌≡◌, ◌<◌, ◌≤◌, ◌+◌, ◌*◌, ◌∙◌, ◌⊎◌, ⊎_elim, inl, inr, ℕ, List, Bool, true, Option, Some, None, Result, Ok, Err, refl, ap, sym, subst, arith}
use Rattle.std.specs.Prelude.{IsTrue}
use Rattle.cell_types.specs.Image.{Image}
use Rattle.cell_types.specs.Layout.{Layout, pool_at}
use Rattle.cell_types.specs.Records.{IsRecordCell}
use Rattle.cell_types.specs.declared.record_cell.RecordCell.TheVariants.{Child}
use Rattle.cell_types.specs.declared.refusal.Evidence.{Evidence}
use Rattle.cell_types.specs.declared.refusal.Fault.{Fault}
use Rattle.cell_types.specs.declared.refusal.Fault.TheVariants.{Tampered, Failed}
use Rattle.volume_meaning.specs.Volumes.{Holds}
use Rattle.volume_meaning.proofs.Extending.{holds_on}
use Rattle.volume_meaning.specs.HashPaths.{nibble}
use Rattle.volume_meaning.specs.Nodes.{under}
use Rattle.tamper_rules.specs.declared.numbers.TheConstants.{FAKE_BUCKET, LOST_CHILD}
use Rattle.worm_device.specs.Views.{IsView, ViewState, Viewed}
use Rattle.worm_device.proofs.Counting.{rose_from}
use Rattle.worm_device.proofs.Resting.{viewed_self, viewed_then}
use Rattle.hash_tree.specs.Levels.{AreBounds, IsLedWithin, IsLevelPlaced, IsLevelReached, bucket_at, child_at, level_below, node_of}
use Rattle.hash_tree.specs.Licences.{AsksPathsBelow}
use Rattle.hash_tree.specs.Looking.{IsBlankAt, LooksAtNode}
use Rattle.hash_tree.specs.Steps.{ComesTo, here, HasNoneLeft, IsNoBucket, IsNoChild, LeadsBy, EndsAt, IsOpenAt, PassesAbove, StepEnds, Steps, answered_level, candidate, blank_bucket, blank_child, full, no_bucket, no_child}
use Rattle.hash_tree.specs.declared.level.ChildCell.{ChildCell}
use Rattle.hash_tree.specs.declared.level.Level.{Level}
use Rattle.hash_tree.specs.declared.looks.Here.TheVariants.{Fits, Ends, Last, Leads}
use Rattle.hash_tree.specs.declared.path.Open.{Open}
use Rattle.hash_tree.specs.declared.path.PathStep.{PathStep}
use Rattle.hash_tree.specs.declared.path.PathStep.TheVariants.{Candidate, End, PathFull}
use Rattle.hash_tree.proofs.Growing.{placed_on}
use Rattle.hash_tree.proofs.Licence.{bucket_before, bucket_licensed, bucket_place, child_before, child_licensed, child_place}
use Rattle.hash_tree.proofs.Paths.{comes_below, comes_on, false_never, goes_on, passes_bucket}

-- each child cell before the edge that is shown stands in this image
abbrev pub KeepsChildren : ℕ → Image → Image → Type 0
KeepsChildren edge shown image =
    (at target : ℕ) → at < edge → Holds shown at (Child target) → Holds image at (Child target)

-- where the first level is reached in an image that has the child cells shown, this level is; and the child cell that
-- led to it is one of a node, if that which led to the first level was
abbrev pub LeadsDownTo : Layout → ℕ → Image → Level → Level → Type 0
LeadsDownTo g edge shown first level =
    (image : Image) → KeepsChildren edge shown image → IsLevelReached g image first
    → IsLevelReached g image level × (IsLedWithin g image first.led_by → IsLedWithin g image level.led_by)

-- the path comes down from the first level to this one
pub record WalksTo (g : Layout) (edge : ℕ) (old mid : ViewState) (first level : Level) : Type 0 where
  pub viewed : Viewed old mid
  pub faults : mid.base.faults ≡ old.base.faults
  pub digest : level.digest ≡ first.digest
  pub further : first.number ≤ level.number
  pub still : IsTrue first.answered → (first.number < level.number) ⊎ IsTrue level.answered
  pub reads : mid.base.reads + 2 * first.number ≤ old.base.reads + 2 * level.number
  pub placed : IsLevelPlaced g edge mid level
  pub comes : IsTrue old.base.tells → ComesTo g edge mid.image level first
  pub leads : IsTrue old.base.tells → LeadsDownTo g edge mid.image first level

-- a level, with its bucket answered or not
abbrev with_answer : Level → Bool → Level
with_answer level answered = record {
  digest = level.digest;
  number = level.number;
  answered = answered;
  led_by = level.led_by;
}

-- no level is gone down yet
pub walks_none : (g : Layout) (edge : ℕ) (old : ViewState) (first : Level) → IsLevelPlaced g edge old first
    → WalksTo g edge old old first first
walks_none g edge old first placed = record {
  viewed = viewed_self old;
  faults = refl;
  digest = refl;
  further = omega arith;
  still = λ answered. inr answered;
  reads = omega arith;
  placed = placed;
  comes = λ tells. here first refl;
  leads = λ tells image keeps reached. (reached, λ within. within);
}

-- a child cell that is shown is not planned, where none is planned, and stands below
child_below : (edge : ℕ) (view : ViewState) → IsView view → ((at target : ℕ) → Holds view.planned at (Child target) → ⊥)
    → edge ≤ view.fresh → KeepsChildren edge view.image view.lower
child_below edge view proper none fresh at target before held = by_plan (view.planned at) refl
  where
    by_plan : (planned : Option (List ℕ)) → view.planned at ≡ planned → Holds view.lower at (Child target)
    by_plan None is = record {
      cell = held.cell;
      stands = sym (proper.below at is (omega (arith, before, fresh))) ∙ held.stands;
      is = held.is;
    }
    by_plan (Some value) is =
        let shown : Some value ≡ Some held.cell = sym (proper.planned.keeps at value is) ∙ held.stands in
        absurd (none at target (record { cell = held.cell; stands = is ∙ shown; is = held.is }))

-- the answer that names this evidence
abbrev named : Evidence → Result PathStep Evidence
named e = Err e

-- it is one with this rule and this cell
evidence_is : (e : Evidence) (rule cell : ℕ) → e.rule ≡ rule → e.cell ≡ cell
    → named e ≡ named (record { rule = rule; cell = cell; found = e.found })
evidence_is e rule cell r c =
    ap (λ (n : ℕ). named (record { rule = n; cell = e.cell; found = e.found })) r
    ∙ ap (λ (n : ℕ). named (record { rule = rule; cell = n; found = e.found })) c

-- where the path is open it ends
open_ends : (g : Layout) (edge : ℕ) (image : Image) (level : Level) (bucket : ℕ) (child : Option ℕ)
    → IsOpenAt g level bucket child → IsBlankAt g image level child
    → EndsAt g edge image level level (Ok (End (record { bucket = bucket; child = child })))
open_ends g edge image level bucket None is blank =
    blank_bucket blank refl (ap (λ (n : ℕ). Ok (End (record { bucket = n; child = None }))) is)
open_ends g edge image level bucket (Some child) is blank =
    blank_child blank.0 is.2 blank.1 refl
    (ap (λ (n : ℕ). Ok (End (record { bucket = n; child = Some child }))) is.0
    ∙ ap (λ (n : ℕ). Ok (End (record { bucket = bucket_at g level; child = Some n }))) is.1)

-- and the bucket above a blank child cell is passed
passes_above : (g : Layout) (edge : ℕ) (image : Image) (first level : Level) (child : Option ℕ)
    → ComesTo g edge image level first → IsBlankAt g image level child → PassesAbove g edge image first level child
passes_above g edge image first level None comes blank = tt
passes_above g edge image first level (Some child) comes blank = passes_bucket comes blank.0

module _ (g : Layout) (edge : ℕ) (old mid new : ViewState) (first level : Level) (bounds : AreBounds g edge)
    (proper : IsView new) (walk : WalksTo g edge old mid first level) where
  told : IsTrue old.base.tells → IsTrue mid.base.tells
  told tells = subst IsTrue (sym walk.viewed.called.tells) tells

  -- the way down is one at the exit too
  comes_now : Viewed mid new → IsTrue old.base.tells → ComesTo g edge new.image level first
  comes_now viewed tells = comes_on viewed.image (walk.comes tells)

  leads_now : Viewed mid new → IsTrue old.base.tells → LeadsDownTo g edge new.image first level
  leads_now viewed tells image keeps =
      walk.leads tells image (λ at target before held. keeps at target before (holds_on viewed.image held))

  reached_now : Viewed mid new → IsTrue old.base.tells → IsLevelReached g new.image first → IsLevelReached g new.image level
  reached_now viewed tells reached = (leads_now viewed tells new.image (λ at target before held. held) reached).0

  led_now : Viewed mid new → IsTrue old.base.tells → IsLevelReached g new.image first → IsLedWithin g new.image first.led_by
      → IsLedWithin g new.image level.led_by
  led_now viewed tells reached = (leads_now viewed tells new.image (λ at target before held. held) reached).1

  reached_under : Viewed mid new → IsTrue old.base.tells → AsksPathsBelow edge old → IsLevelReached g new.lower first
      → IsLevelReached g new.lower level
  reached_under viewed tells asks reached =
      let whole = viewed_then walk.viewed viewed in
      (leads_now viewed tells new.lower (child_below edge new proper
      (subst (λ (p : Image). (at target : ℕ) → Holds p at (Child target) → ⊥) (sym whole.planned) asks.children)
      (omega (arith, whole.fresh, asks.fresh))) reached).0

  -- what a step keeps, whatever it answers
  ends_so : (answered : Bool) (result : Result PathStep Fault) → Viewed mid new
      → new.base.reads ≤ mid.base.reads + 2
      → StepEnds g edge old new first (with_answer level answered) result
      → Steps g edge old new first (with_answer level answered) result
  ends_so answered result viewed reads ends =
      let placed = placed_on viewed walk.placed in
      record {
        viewed = viewed_then walk.viewed viewed;
        digest = walk.digest;
        further = walk.further;
        reads = omega (arith, walk.reads, reads);
        placed = record { number = placed.number; within = placed.within; led = placed.led };
        goes_on = λ tells. goes_on (comes_now viewed tells);
        reached = reached_now viewed;
        led_within = led_now viewed;
        reached_below = reached_under viewed;
        ends = ends;
      }

  -- a candidate
  pub ends_fit : (slot bucket : ℕ) → LooksAtNode g edge level mid new (Ok (Fits slot bucket))
      → Steps g edge old new first (answered_level level) (Ok (Candidate slot bucket))
  ends_fit slot bucket look = ends_so true (Ok (Candidate slot bucket)) look.viewed look.reads (
    (
      look.ends.0.0,
      refl,
      λ answered. ⊎_elim (λ less. less)
          (λ again. absurd (false_never (subst IsTrue look.ends.0.1 again))) (walk.still answered),
      look.ends.0.2,
    ),
    look.ends.1 ∙ walk.faults,
    λ tells. (
      record {
        level = level;
        comes = comes_now look.viewed tells;
        ends = candidate slot look.ends.0.1 (look.ends.2 (told tells)) refl
            (ap (λ (n : ℕ). Ok (Candidate slot n)) look.ends.0.0);
      },
      tt,
    ),
  )

  -- the path is open here
  pub ends_open : (place : Open) → LooksAtNode g edge level mid new (Ok (Ends place))
      → Steps g edge old new first level (Ok (End place))
  ends_open place look = ends_so level.answered (Ok (End place)) look.viewed look.reads (
    look.ends.0,
    look.ends.1 ∙ walk.faults,
    λ tells. (
      record {
        level = level;
        comes = comes_now look.viewed tells;
        ends = open_ends g edge new.image level place.bucket place.child look.ends.0 (look.ends.2 (told tells));
      },
      passes_above g edge new.image first level place.child (comes_now look.viewed tells) (look.ends.2 (told tells)),
    ),
  )

  -- it is full
  pub ends_full : LooksAtNode g edge level mid new (Ok Last) → Steps g edge old new first level (Ok PathFull)
  ends_full look = ends_so level.answered (Ok PathFull) look.viewed look.reads (
    look.ends.0,
    look.ends.1 ∙ walk.faults,
    λ tells. (
      record {
        level = level;
        comes = comes_now look.viewed tells;
        ends = full (look.ends.2 (told tells)) look.ends.0 refl refl;
      },
      passes_bucket (comes_now look.viewed tells) (look.ends.2 (told tells)),
    ),
  )

  -- what is shown in a cell that is not planned stands below
  same_below : (at : ℕ) → Viewed mid new → AsksPathsBelow edge old → at < edge → old.planned at ≡ None
      → new.lower at ≡ new.image at
  same_below at viewed asks before own =
      let whole = viewed_then walk.viewed viewed in
      sym (proper.below at (ap (λ (p : Image). p at) whole.planned ∙ own)
      (omega (arith, before, whole.fresh, asks.fresh)))

  module _ (e : Evidence) (viewed : Viewed mid new) (half : nibble level.digest level.number < 16)
      (faults : new.base.faults ≡ old.base.faults) where
    -- what stands for a bucket is none
    fake_bucket : e.rule ≡ FAKE_BUCKET → e.cell ≡ bucket_at g level
        → (IsTrue mid.base.tells → IsNoBucket new.image (bucket_at g level) e.found)
        → StepEnds g edge old new first level (Err (Tampered e))
    fake_bucket rule cell bad = (
      inl rule,
      bucket_place g edge level bounds walk.placed.within half e rule cell,
      faults,
      λ tells. (
        record {
          level = level;
          comes = comes_now viewed tells;
          ends = no_bucket e.found (bad (told tells)) refl (evidence_is e FAKE_BUCKET (bucket_at g level) rule cell);
        },
        record {
          shown = bucket_licensed g edge level bounds walk.placed.within half first new.cells new.image e rule cell
              (bad (told tells)) (reached_now viewed tells);
          below = λ asks own.
              let at = bucket_at g level in
              let before = bucket_before g edge level bounds walk.placed.within half in
              let same = same_below at viewed asks before (ap old.planned (sym cell) ∙ own) in
              let seen = bad (told tells) in
              bucket_licensed g edge level bounds walk.placed.within half first new.cells new.lower e rule cell
              (record { stands = same ∙ seen.stands; none = seen.none }) (reached_under viewed tells asks);
        },
      ),
    )

    -- what stands for a child cell leads to no node within the bounds
    lost_child : e.rule ≡ LOST_CHILD → e.cell ≡ child_at g level → level.number < 63
        → (IsTrue mid.base.tells
        → HasNoneLeft g new.image level × IsNoChild new.image (pool_at g) edge (child_at g level) e.found)
        → StepEnds g edge old new first level (Err (Tampered e))
    lost_child rule cell less bad = (
      inr rule,
      child_place g edge level bounds walk.placed.within half e rule cell,
      faults,
      λ tells. (
        record {
          level = level;
          comes = comes_now viewed tells;
          ends = no_child e.found ((bad (told tells)).0) less ((bad (told tells)).1) refl
              (evidence_is e LOST_CHILD (child_at g level) rule cell);
        },
        record {
          shown = child_licensed g edge level bounds walk.placed.within half first new.cells new.image e rule cell
              ((bad (told tells)).1) (reached_now viewed tells);
          below = λ asks own.
              let at = child_at g level in
              let before = child_before g edge level bounds walk.placed.within half in
              let same = same_below at viewed asks before (ap old.planned (sym cell) ∙ own) in
              let seen = (bad (told tells)).1 in
              child_licensed g edge level bounds walk.placed.within half first new.cells new.lower e rule cell
              (record { stands = same ∙ seen.stands; none = seen.none }) (reached_under viewed tells asks);
        },
      ),
    )

  -- a fault
  pub ends_fault : (fault : Fault) → LooksAtNode g edge level mid new (Err fault)
      → Steps g edge old new first level (Err fault)
  ends_fault Failed look = ends_so level.answered (Err Failed) look.viewed look.reads
      (rose_from _ _ _ walk.faults look.ends)
  ends_fault (Tampered e) look = ends_so level.answered (Err (Tampered e)) look.viewed look.reads (⊎_elim
      (λ (b : (e.rule ≡ FAKE_BUCKET) × (e.cell ≡ bucket_at g level)
      × (IsTrue mid.base.tells → IsNoBucket new.image (bucket_at g level) e.found)).
      fake_bucket e look.viewed look.half_byte (look.ends.0 ∙ walk.faults) b.0 b.1 b.2)
      (λ (l : (e.rule ≡ LOST_CHILD) × (e.cell ≡ child_at g level) × (level.number < 63)
      × (IsTrue mid.base.tells
      → HasNoneLeft g new.image level × IsNoChild new.image (pool_at g) edge (child_at g level) e.found)).
      lost_child e look.viewed look.half_byte (look.ends.0 ∙ walk.faults) l.0 l.1 l.2 l.3)
      look.ends.1)

  -- or the path leads on
  pub walks_on : (child : ChildCell) → LooksAtNode g edge level mid new (Ok (Leads child))
      → WalksTo g edge old new first (level_below level child)
  walks_on child look =
      let good = look.ends.0.1 in
      let led : IsTrue old.base.tells → LeadsBy g edge new.image level child = λ tells. record {
        levels = look.ends.0.0;
        at = good.same;
        stands = ap new.image good.same ∙ (look.ends.2 (told tells)).1;
        is = subst (λ (n : ℕ). IsRecordCell (Child child.target) n child.found) (sym good.same) good.is;
        from = good.from;
        to = good.to;
      } in
      record {
        viewed = viewed_then walk.viewed look.viewed;
        faults = look.ends.1 ∙ walk.faults;
        digest = walk.digest;
        further = omega (arith, walk.further);
        still = λ answered. inl (omega (arith, walk.further));
        reads = omega (arith, walk.reads, look.reads);
        placed = record {
          number = omega (arith, look.ends.0.0);
          within = (good.from, good.to);
          led = λ tells.
              let before = subst IsTrue (viewed_then walk.viewed look.viewed).called.tells tells in
              ((led before).stands, (led before).is);
        };
        comes = λ tells. comes_below child (comes_now look.viewed tells) ((look.ends.2 (told tells)).0) (led tells);
        leads = λ tells image keeps reached.
            let above = (leads_now look.viewed tells image keeps reached).0 in
            let held : Holds new.image (child_at g level) (Child child.target) =
            record { cell = child.found; stands = (look.ends.2 (told tells)).1; is = good.is } in (
              under (level.number + 1) child.target level.number (node_of g level) (nibble level.digest level.number) refl
                  above look.half_byte look.ends.0.0
                  (keeps (child_at g level) child.target
                  (child_before g edge level bounds walk.placed.within look.half_byte) held)
                  good.from (omega (arith, good.to, bounds.to)),
              λ within. record {
                level = level.number;
                node = node_of g level;
                half_byte = nibble level.digest level.number;
                is_node = above;
                below = look.half_byte;
                at = good.same;
              },
            );
      }
