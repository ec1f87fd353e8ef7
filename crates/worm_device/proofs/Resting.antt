-- Views while nobody else writes, over one call after another.
use Rattle.std.proofs.Common.{ℕ, refl, ◌∙◌, arith}
use Rattle.cell_types.specs.Image.{IsUnchanged}
use Rattle.worm_device.specs.Calls.{Called}
use Rattle.worm_device.specs.Counts.{IsStill}
use Rattle.worm_device.specs.State.{DeviceState}
use Rattle.worm_device.specs.Views.{ViewState, Rests, HasRested, Viewed, seen_directly}
use Rattle.worm_device.proofs.Counting.{still_first, still_second}
use Rattle.worm_device.proofs.Elapsing.{called_self, called_then}
use Rattle.worm_device.proofs.Images.{extends_self, extends_then, unchanged_then}

-- nothing happens
pub rests_self : (s : ViewState) → Rests s s
rests_self s = record { later = omega arith; shown = λ still cell. refl; lower = λ still cell. refl; below = λ still cell. refl }

-- one call after another
pub rests_then : {a b c : ViewState} → Rests a b → Rests b c → Rests a c
rests_then {a} {b} {c} p q = record {
  later = omega (arith, p.later, q.later);
  shown = λ still. unchanged_then (p.shown (still_first p.later q.later still)) (q.shown (still_second p.later q.later still));
  lower = λ still. unchanged_then (p.lower (still_first p.later q.later still)) (q.lower (still_second p.later q.later still));
  below = λ still. unchanged_then (p.below (still_first p.later q.later still)) (q.below (still_second p.later q.later still));
}

-- what a view shows of one call, in the form that Viewed has
pub rested_since : {old new : ViewState} → Rests old new → (earlier : ViewState) → HasRested earlier old
    → HasRested earlier new
unfolding HasRested
rested_since q earlier p = rests_then p q

-- what a caller reads off Viewed
pub rests_of : {old new : ViewState} → Viewed old new → Rests old new
unfolding HasRested
rests_of {old} viewed = viewed.quiet old (rests_self old)

-- a row of no reads
pub viewed_self : (s : ViewState) → Viewed s s
viewed_self s = record {
  called = called_self s.base;
  cells = refl;
  image = extends_self s.image;
  planned = refl;
  owners = refl;
  lower = extends_self s.lower;
  fresh = refl;
  loans = refl;
  quiet = λ earlier h. h;
}

-- one row of reads after another
pub viewed_then : {a b c : ViewState} → Viewed a b → Viewed b c → Viewed a c
viewed_then {a} {b} {c} p q = record {
  called = called_then p.called q.called;
  cells = q.cells ∙ p.cells;
  image = extends_then p.image q.image;
  planned = q.planned ∙ p.planned;
  owners = q.owners ∙ p.owners;
  lower = extends_then p.lower q.lower;
  fresh = q.fresh ∙ p.fresh;
  loans = q.loans ∙ p.loans;
  quiet = λ earlier h. q.quiet earlier (p.quiet earlier h);
}

-- A device in which a call changes nothing, as a view of it shows it: the view's own image and the image below are
-- both the device's.
pub viewed_directly : (loan : ℕ) (old new : DeviceState) → Called old new
    → (IsStill old.foreign_writes new.foreign_writes → IsUnchanged old.image new.image)
    → Viewed (seen_directly old loan) (seen_directly new loan)
viewed_directly loan old new called only = record {
  called = called;
  cells = called.cells;
  image = called.image;
  planned = refl;
  owners = refl;
  lower = called.image;
  fresh = called.cells;
  loans = refl;
  quiet = rested_since (record { later = called.foreign_writes; shown = only; lower = only; below = only });
}
