-- Time that goes on: what a crash could have left, over one call after another.
use Rattle.std.proofs.Common.{◌≡◌, ◌<◌, ◌≤◌, refl, sym, ap, ◌∙◌, inl, inr, ⊎_elim, subst, arith}
use Rattle.std.proofs.lemmas.Bool.{cases_lt}
use Rattle.cell_types.specs.Image.{Image, Between}
use Rattle.worm_device.specs.Counts.{Rose}
use Rattle.worm_device.specs.State.{DeviceState, LeftSince}
use Rattle.worm_device.specs.Calls.{Elapses, HasElapsed, LeavesAll, Called, Remembers, HasRemembered}
use Rattle.worm_device.proofs.Images.{extends_self, extends_then, between_wider}

-- no time goes by
pub elapses_self : (s : DeviceState) → Elapses s s
elapses_self s = record {
  later = omega arith;
  image = extends_self s.image;
  sure = extends_self s.sure;
  keeps = λ since image le left. left;
  adds = λ since image le left. inl left;
}

-- time goes on, and then goes on again
pub elapses_then : {a b c : DeviceState} → Elapses a b → Elapses b c → Elapses a c
elapses_then {a} {b} {c} p q = record {
  later = omega (arith, p.later, q.later);
  image = extends_then p.image q.image;
  sure = extends_then p.sure q.sure;
  keeps = λ since image le left. q.keeps since image (omega (arith, le, p.later)) (p.keeps since image le left);
  adds = λ since image le left.
      ⊎_elim
      (λ before. ⊎_elim inl (λ now. inr (between_wider (extends_self a.sure) q.image now)) (p.adds since image le before))
      (λ now. inr (between_wider p.sure (extends_self c.image) now))
      (q.adds since image (omega (arith, le, p.later)) left);
}

-- what a device shows of one call, in the form that Called has
pub elapsed_since : {old new : DeviceState} → Elapses old new → (earlier : DeviceState)
    → HasElapsed earlier old → HasElapsed earlier new
unfolding HasElapsed
elapsed_since q earlier p = elapses_then p q

-- what a caller reads off Called
pub elapses_of : {old new : DeviceState} → Called old new → Elapses old new
unfolding HasElapsed
elapses_of {old} called = called.crashes old (elapses_self old)

pub remembers_self : (s : DeviceState) → Remembers s s
remembers_self s = record {
  later = omega arith;
  past = λ m before. refl;
  last = λ later. absurd (omega (arith, later));
  still = λ same. refl;
  steps = omega arith;
  steps_past = λ m before. refl;
  steps_since = λ m from before. absurd (omega (arith, from, before));
}

pub remembers_then : {a b c : DeviceState} → Remembers a b → Remembers b c → Remembers a c
remembers_then {a} {b} {c} p q = record {
  later = omega (arith, p.later, q.later);
  past = λ m before. q.past m (omega (arith, before, p.later)) ∙ p.past m before;
  last = λ later. ⊎_elim
      (λ (less : a.moment < b.moment). q.past a.moment less ∙ p.last less)
      (λ (most : b.moment ≤ a.moment).
      let same : b.moment ≡ a.moment = omega (arith, most, p.later) in
      ap c.past (sym same) ∙ q.last (omega (arith, later, same)) ∙ p.still same)
      (cases_lt a.moment b.moment);
  still = λ same. q.still (omega (arith, same, p.later, q.later)) ∙ p.still (omega (arith, same, p.later, q.later));
  steps = omega (arith, p.steps, q.steps);
  steps_past = λ m before. q.steps_past m (omega (arith, before, p.later)) ∙ p.steps_past m before;
  steps_since = λ m from before. ⊎_elim
      (λ (less : m < b.moment). subst (λ n. Rose a.steps n) (sym (q.steps_past m less)) (p.steps_since m from less))
      (λ (most : b.moment ≤ m). omega (arith, p.steps, q.steps_since m most before))
      (cases_lt m b.moment);
}

pub remembered_self : (s : DeviceState) → HasRemembered s s
unfolding HasRemembered
remembered_self s = remembers_self s

pub remembered_since : {old new : DeviceState} → Remembers old new → (earlier : DeviceState)
    → HasRemembered earlier old → HasRemembered earlier new
unfolding HasRemembered
remembered_since {old} {new} q earlier p = remembers_then {a = earlier} {b = old} {c = new} p q

-- what was told of the past stays told, as a caller reads it off Called
pub remembers_of : {old new : DeviceState} → Called old new → Remembers old new
unfolding HasRemembered
remembers_of {old} called = called.remembers old (remembers_self old)

-- a row of no calls
pub called_self : (s : DeviceState) → Called s s
called_self s = record {
  cells = refl;
  tells = refl;
  begun = refl;
  image = extends_self s.image;
  sure = extends_self s.sure;
  faults = omega arith;
  foreign_writes = omega arith;
  reads = omega arith;
  crashes = λ earlier h. h;
  remembers = λ earlier h. h;
}

-- one row of calls after another
pub called_then : {a b c : DeviceState} → Called a b → Called b c → Called a c
called_then {a} {b} {c} p q = record {
  cells = q.cells ∙ p.cells;
  tells = q.tells ∙ p.tells;
  begun = q.begun ∙ p.begun;
  image = extends_then p.image q.image;
  sure = extends_then p.sure q.sure;
  faults = omega (arith, p.faults, q.faults);
  foreign_writes = omega (arith, p.foreign_writes, q.foreign_writes);
  reads = omega (arith, p.reads, q.reads);
  crashes = λ earlier h. q.crashes earlier (p.crashes earlier h);
  remembers = λ earlier h. q.remembers earlier (p.remembers earlier h);
}

-- what a crash in a row of calls could leave
pub crash_between : (a b : DeviceState) (image : Image) → Called a b → LeftSince b a.moment image
    → Between a.sure b.image image
crash_between a b image called left =
    let later = elapses_of called in
    ⊎_elim
    (λ (before : LeftSince a a.moment image). ⊎_elim
    (λ (now : Between a.sure a.image image). between_wider (extends_self a.sure) later.image now)
    (λ past. absurd (omega (arith, past.1, past.2)))
    before)
    (λ (now : Between a.sure b.image image). now)
    (later.adds a.moment image (omega arith) left)

-- what a device shows of a crash in the middle of one call, in the form that its contract has
pub leaves_all : (old new : DeviceState) → ((image : Image) → Between old.sure new.image image
    → LeftSince new old.moment image) → LeavesAll old new
unfolding LeavesAll
leaves_all old new h = h

-- and what a caller reads off it
pub leaves_of : (old new : DeviceState) → LeavesAll old new → (image : Image)
    → Between old.sure new.image image → LeftSince new old.moment image
unfolding LeavesAll
leaves_of old new h = h
