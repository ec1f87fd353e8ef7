-- What stands, and what is sure, where the outcome cell of an ingest's slot is written.
use Rattle.std.proofs.Common.{◌≡◌, ◌≤◌, ◌<◌, ◌+◌, ◌-◌, ⊎_elim, inl, inr, ℕ, zero, suc, true, List, [], ◌∷◌, length, slice_get, Some, None, refl, sym, ap, ◌∙◌, arith}
use Rattle.std.proofs.lemmas.Bool.{cases_lt}
use Rattle.std.proofs.lemmas.Option.{none-some}
use Rattle.cell_types.specs.Image.{Image, Between}
use Rattle.cell_types.specs.Layout.{Layout, reserve_at, outcome_at}
use Rattle.worm_device.specs.Counts.{IsStill}
use Rattle.worm_device.specs.State.{DeviceState, LeftSince}
use Rattle.recovery_engine.specs.declared.put.Blame.TheVariants.{Rule}
use Rattle.recovery_engine.specs.declared.put.Put.{Put}
use Rattle.recovery_engine.specs.Putting.{AreStanding, IsInFirst, IsPut, LeavesPhases}
use Rattle.tamper_rules.specs.declared.numbers.TheConstants.{STRAY_CELL}
use Rattle.plan_writer.specs.Planned.{INGEST_PHASES, Suits, document_from, ingest_phases, journal_from, reserve_put, reserved_by}
use Rattle.plan_writer.specs.PuttingPlans.{PutsPlan}
use Rattle.plan_writer.specs.declared.plan.Plan.{Plan}
use Rattle.plan_writer.proofs.LogCells.{commit_in}

-- a row has a cell at each place
pub at_place : (cells : List (List ℕ)) (k : ℕ) → k < length cells → (value : List ℕ) × (slice_get cells k ≡ Some value)
at_place [] k below = absurd (omega (arith, below))
at_place (value ∷ cells) zero below = (value, refl)
at_place (value ∷ cells) (suc k) below = at_place cells k (omega (arith, below))

-- A plan is put into slot n, and nobody else writes.
module _ (g : Layout) (n : ℕ) (p : Plan) (looked new : DeviceState) (less : n < g.slots) (suits : Suits g p)
    (puts : PutsPlan n p looked new) (tells : looked.tells ≡ true) (blank : looked.image (outcome_at n) ≡ None)
    (still : IsStill looked.foreign_writes new.foreign_writes) where
  -- a crash that leaves some cell of it leaves phases
  pub left_phases : (image : Image) (cell : ℕ) (value : List ℕ) → LeftSince new looked.moment image
      → looked.image cell ≡ None → image cell ≡ Some value → LeavesPhases (ingest_phases n p) INGEST_PHASES looked new image
  left_phases image cell value left none stands = ⊎_elim
      (λ (before : LeftSince looked looked.moment image). absurd (not_before before))
      (λ (phases : LeavesPhases (ingest_phases n p) INGEST_PHASES looked new image). phases)
      (puts.crashes tells looked.moment image (omega arith) left)
    where
      not_before : LeftSince looked looked.moment image → ⊥
      not_before before = ⊎_elim
          (λ (now : Between looked.sure looked.image image).
          none-some value (sym none ∙ now.below.keeps cell value stands))
          (λ (then : (m : ℕ) × (looked.moment ≤ m) × (m < looked.moment)
          × Between (looked.past m).sure (looked.past m).image image). absurd (omega (arith, then.1, then.2)))
          before

  was_put : (image : Image) (cell : ℕ) (value : List ℕ)
      (left : LeavesPhases (ingest_phases n p) INGEST_PHASES looked new image) → looked.image cell ≡ None
      → image cell ≡ Some value
      → IsPut (IsInFirst (ingest_phases n p) (left.phase + 1)) looked.image cell value
  was_put image cell value left none stands = ⊎_elim
      (λ (stood : looked.image cell ≡ Some value). absurd (none-some value (sym none ∙ stood)))
      (λ put. put)
      (left.only still cell value stands)

  -- with the outcome cell there are the cells of the first two phases
  pub with_outcome : (image : Image) (value : List ℕ) → LeftSince new looked.moment image
      → image (outcome_at n) ≡ Some value → AreStanding (IsInFirst (ingest_phases n p) 2) image
  with_outcome image value since stands put planned =
      let left = left_phases image (outcome_at n) value since blank stands in
      let was = was_put image (outcome_at n) value left blank stands in
      let is = commit_in g n p less suits was.planned.0 was.put was.planned.2 was.here in
      left.all put (planned.0, omega (arith, is.0, was.planned.1, planned.1), planned.2)

  -- with a cell of the pool there is the reserve cell
  pub with_pooled : (image : Image) (cell : ℕ) (value : List ℕ) → LeftSince new looked.moment image
      → p.start ≤ cell → looked.image cell ≡ None → image cell ≡ Some value → (found : List ℕ) × (image (reserve_at n) ≡ Some found)
  with_pooled image cell value since pooled none stands =
      let left = left_phases image cell value since none stands in
      let was = was_put image cell value left none stands in (
        (reserve_put n (reserved_by p)).value,
        left.all (reserve_put n (reserved_by p)) (
          0,
          some left.phase was.planned.0
              was.put was.planned.1 was.planned.2 (omega (arith, was.here, pooled, suits.from, less)),
          refl,
        ),
      )
    where
      some : (phase j : ℕ) (put : Put) → j < phase + 1 → ingest_phases n p j put → reserve_at n < put.at → 0 < phase
      some phase zero put low is high = absurd (omega (arith, ap (λ (x : Put). x.at) is, high))
      some phase (suc j) put low is high = omega (arith, low)

  -- so all of these stand with the outcome cell: the reserve cell, and those of the document and the journal
  pub reserve_stands : (image : Image) (value : List ℕ) → LeftSince new looked.moment image
      → image (outcome_at n) ≡ Some value → (found : List ℕ) × (image (reserve_at n) ≡ Some found)
  reserve_stands image value since stands = (
    (reserve_put n (reserved_by p)).value,
    with_outcome image value since stands (reserve_put n (reserved_by p)) (0, omega arith, refl),
  )

  pub stored_stand : (image : Image) (value : List ℕ) → LeftSince new looked.moment image
      → image (outcome_at n) ≡ Some value → (i : ℕ) → i < length p.document.now + length p.journal.now
      → (found : List ℕ) × (image (document_from p + i) ≡ Some found)
  stored_stand image value since stands i below = ⊎_elim
      (λ (first : i < length p.document.now).
      let here = at_place p.document.now i first in (
        here.0,
        with_outcome image value since stands
            (record { at = document_from p + i; value = here.0; blame = Rule STRAY_CELL })
            (1, omega arith, inr (inl (record { place = i; at = refl; value = here.1; blame = refl }))),
      ))
      (λ (later : length p.document.now ≤ i).
      let place = i - length p.document.now in
      let here = at_place p.journal.now place (omega (arith, below, later)) in (
        here.0,
        ap image (omega (arith, later)) ∙ with_outcome image value since stands
            (record { at = journal_from p + place; value = here.0; blame = Rule STRAY_CELL })
            (1, omega arith, inr (inr (record { place = place; at = refl; value = here.1; blame = refl }))),
      ))
      (cases_lt i (length p.document.now))
