-- What every call of a device over a file keeps: by counts alone, or by one change of the file.
use Rattle.std.specs.Prelude.{◌≡◌, ◌≤◌, ℕ, Option, Some}
use Rattle.std.proofs.Common.{refl, ◌∙◌, ap, sym, subst, arith, inl, inr, ⊎_elim}
use Rattle.std.proofs.lemmas.Bool.{cases_lt}
use Rattle.cell_types.specs.Image.{Image, Extends, Between}
use Rattle.worm_device.specs.Calls.{Elapses, Called}
use Rattle.worm_device.specs.State.{Instant}
use Rattle.worm_device.proofs.Images.{extends_self, between_wider}
use Rattle.worm_device.proofs.Elapsing.{elapsed_since, remembered_since}
use Rattle.host_files.specs.Cells.{image_of_bytes}
use Rattle.host_files.specs.Device.{held_instant, now_in, device_at}
use Rattle.host_files.specs.File.{HeldBytes, Told, Becomes}

-- What a crash could leave is read off what is told alone.
elapses_same : (cells reads reads' faults faults' parts parts' : ℕ) (told : Option Told)
    → Elapses (device_at cells reads faults parts told) (device_at cells reads' faults' parts' told)
elapses_same cells reads reads' faults faults' parts parts' told = record {
  later = omega arith;
  image = extends_self (now_in cells told).image;
  sure = extends_self (now_in cells told).sure;
  keeps = λ since image le left. left;
  adds = λ since image le left. inl left;
}

-- what every call keeps is kept where counts alone rise
pub called_same : (cells reads reads' faults faults' parts parts' : ℕ) (told : Option Told) → reads ≤ reads'
    → faults ≤ faults' → parts ≤ parts'
    → Called (device_at cells reads faults parts told) (device_at cells reads' faults' parts' told)
called_same cells reads reads' faults faults' parts parts' told more_reads more_faults more_parts = record {
  cells = refl;
  tells = refl;
  begun = refl;
  image = extends_self (now_in cells told).image;
  sure = extends_self (now_in cells told).sure;
  faults = more_faults;
  foreign_writes = more_parts;
  reads = more_reads;
  crashes = elapsed_since (elapses_same cells reads reads' faults faults' parts parts' told);
  remembers = remembered_since (record {
    later = omega arith;
    past = λ m before. refl;
    last = λ later. absurd (omega (arith, later));
    still = λ same. refl;
    steps = omega arith;
    steps_past = λ m before. refl;
    steps_since = λ m from before. absurd (omega (arith, from, before));
  });
}

-- a crash could have left this image at some instant
abbrev pub Left : Image → Instant → Type 0
Left image now = Between now.sure now.image image

-- the file has become another, in which what stood still stands: time has gone on
elapses_step : (cells reads faults faults' parts parts' : ℕ) (old new : Told) (held : HeldBytes) → Becomes old new held
    → Extends (image_of_bytes cells old.now.bytes) (image_of_bytes cells new.now.bytes)
    → Extends (image_of_bytes cells old.now.sure) (image_of_bytes cells new.now.sure)
    → Elapses (device_at cells reads faults parts (Some old)) (device_at cells reads faults' parts' (Some new))
elapses_step cells reads faults faults' parts parts' old new held step image sure = record {
  later = omega (arith, step.later);
  image = image;
  sure = sure;
  keeps = λ since crash le left.
      ⊎_elim
      (λ now. inr (
        old.moment,
        le,
        omega (arith, step.later),
        subst (λ (h : HeldBytes). Left crash (held_instant cells h))
            (sym step.last) now,
      ))
      (λ before. inr (
        before.0,
        before.1,
        omega (arith, step.later, before.2),
        subst (λ (h : HeldBytes). Left crash (held_instant cells h)) (sym (step.past before.0 before.2)) before.3,
      ))
      left;
  adds = λ since crash le left.
      ⊎_elim
      (λ now. inr (between_wider sure (extends_self (image_of_bytes cells new.now.bytes)) now))
      (λ before.
      ⊎_elim
      (λ earlier. inl (inr (
        before.0,
        before.1,
        earlier,
        subst (λ (h : HeldBytes). Left crash (held_instant cells h)) (step.past before.0 earlier) before.3,
      )))
      (λ last. inl (inl (
      let at : before.0 ≡ old.moment = omega (arith, step.later, before.2, last) in
      subst (λ (h : HeldBytes). Left crash (held_instant cells h)) (ap new.past at ∙ step.last) before.3)))
      (cases_lt before.0 old.moment))
      left;
}

pub called_step : (cells reads faults faults' parts parts' : ℕ) (old new : Told) (held : HeldBytes)
    → Becomes old new held → Extends (image_of_bytes cells old.now.bytes) (image_of_bytes cells new.now.bytes)
    → Extends (image_of_bytes cells old.now.sure) (image_of_bytes cells new.now.sure) → faults ≤ faults' → parts ≤ parts'
    → Called (device_at cells reads faults parts (Some old)) (device_at cells reads faults' parts' (Some new))
called_step cells reads faults faults' parts parts' old new held step image sure more_faults more_parts = record {
  cells = refl;
  tells = refl;
  begun = refl;
  image = image;
  sure = sure;
  faults = more_faults;
  foreign_writes = more_parts;
  reads = omega arith;
  crashes = elapsed_since (elapses_step cells reads faults faults' parts parts' old new held step image sure);
  remembers = remembered_since (record {
    later = omega (arith, step.later);
    past = λ m before. ap (held_instant cells) (step.past m before);
    last = λ later. ap (held_instant cells) step.last;
    still = λ same. absurd (omega (arith, step.later, same));
    steps = omega (arith, step.later);
    steps_past = λ m before. refl;
    steps_since = λ m from before. omega (arith, from);
  });
}
