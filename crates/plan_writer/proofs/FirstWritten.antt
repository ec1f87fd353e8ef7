-- Why a written cell of a free slot breaks a rule.
use Rattle.std.proofs.Common.{◌≡◌, ◌≤◌, ◌<◌, ◌+◌, ℕ, None, inl, inr, arith}
use Rattle.cell_types.specs.Image.{Image}
use Rattle.cell_types.specs.Layout.{Layout, reserve_at, pool_at}
use Rattle.cell_types.specs.declared.refusal.Evidence.{Evidence}
use Rattle.commit_record.specs.States.{done_unreserved, ends_unreserved}
use Rattle.commit_record.specs.declared.reservation.Reservation.{Reservation}
use Rattle.commit_record.proofs.Breaking.{no_written, breaks}
use Rattle.volume_meaning.specs.Slots.{EndsBelow}
use Rattle.volume_meaning.specs.Volumes.{IsVolume, IsWritten}
use Rattle.tamper_rules.specs.Rules.{DoneCells, IsBroken, IsPlaceOf, OutcomeCells, StrayCells}
use Rattle.plan_writer.specs.Blank.{IsFirstWritten, done, outcome, reserved, spare}

-- it stays the first where the cells before it stay blank
pub first_where : (old new : Image) (n : ℕ) (cells : Reservation) (e : Evidence)
    → ((cell : ℕ) → old cell ≡ None → new cell ≡ None) → IsFirstWritten old n cells e → IsFirstWritten new n cells e
first_where old new n cells e on (outcome r c) = outcome r c
first_where old new n cells e on (done r c a) = done r c (on _ a)
first_where old new n cells e on (spare r c a b) = spare r c (on _ a) (on _ b)
first_where old new n cells e on (reserved r w a b c before) =
    reserved r w (on _ a) (on _ b) (on _ c) (λ cell is less. on cell (before cell is less))

module _ (g : Layout) (n : ℕ) (cells : Reservation) (less : n < g.slots) (from : pool_at g ≤ cells.start)
    (fits : cells.start + cells.length ≤ g.cells) where
  -- it is one of its rule's places
  pub first_place : (image : Image) (e : Evidence) → IsFirstWritten image n cells e → IsPlaceOf g e.rule e.cell
  first_place image e (outcome r c) = (OutcomeCells, r, (n, less, c))
  first_place image e (done r c a) = (DoneCells, r, (n, less, c))
  first_place image e (spare r c a b) = (StrayCells, r, inr (inl (n, less, c)))
  first_place image e (reserved r w a b c before) =
      (StrayCells, r, inr (inr (omega (arith, w.from, from), omega (arith, w.below, fits))))

  -- and breaks it where the slot has no reserve cell, and the cells begin at the edge
  pub first_breaks : (image : Image) (e : Evidence) → IsVolume g.cells image g → image (reserve_at n) ≡ None
      → EndsBelow g image n cells.start → IsWritten image e.cell → IsFirstWritten image n cells e
      → IsBroken g.cells image e.rule e.cell
  first_breaks image e volume free ends written (outcome r c) =
      breaks g.cells g image n e.cell volume less written e.rule (ends_unreserved r c free)
  first_breaks image e volume free ends written (done r c a) =
      breaks g.cells g image n e.cell volume less written e.rule (done_unreserved r c free a)
  first_breaks image e volume free ends written (spare r c a b) = record {
    layout = g;
    volume = volume;
    rule = StrayCells;
    named = r;
    place = inr (inl (n, less, c));
    written = written;
    not_met = λ met. no_written image (reserve_at n) free (met.spare n less c).reserve;
  }
  first_breaks image e volume free ends written (reserved r w a b c before) = record {
    layout = g;
    volume = volume;
    rule = StrayCells;
    named = r;
    place = inr (inr (omega (arith, w.from, from), omega (arith, w.below, fits)));
    written = written;
    not_met = λ met.
        let low = met.edge cells.start (record { u = n; most = omega (arith, less); free = λ some. free; ends = ends })
        (omega (arith, w.from, from)) in
        omega (arith, low, w.from);
  }
