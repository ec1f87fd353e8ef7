-- What a crash leaves of a file, as cells.
use Rattle.std.specs.Prelude.{ℕ, List, Option, Some, None, nat_lt, if◌then◌else◌}
use Rattle.std.proofs.Common.{◌∙◌, ap, sym, subst, inl, inr, ⊎_elim}
use Rattle.std.proofs.lemmas.Option.{none-some, same_Some}
use Rattle.cell_types.specs.Image.{Between}
use Rattle.worm_device.specs.State.{LeftSince}
use Rattle.host_files.specs.Cells.{cell_in, image_of_bytes}
use Rattle.host_files.specs.Crashes.{CrashLeaves, CouldLeave, CrashesAreSeen}
use Rattle.host_files.specs.Device.{device_at, device_over, held_instant, StandsIn, SureStands}
use Rattle.host_files.specs.File.{FileState, HeldBytes, Told}

-- what a crash leaves lies between what is sure and what stands
pub crash_between : (cells : ℕ) (held : HeldBytes) (bytes : List ℕ) → StandsIn (held_instant cells held)
    → CrashLeaves held bytes → Between (image_of_bytes cells held.sure) (image_of_bytes cells held.bytes) (image_of_bytes cells bytes)
crash_between cells held bytes stands leaves =
    let as_cell = λ (cell : ℕ) (part : List ℕ). if nat_lt cell cells then cell_in part else None in record {
      above = record {
        keeps = λ cell value sure.
            ⊎_elim
            (λ old. ap (as_cell cell) old ∙ sure)
            (λ new. ap (as_cell cell) new ∙ stands.keeps cell value sure)
            (leaves cell);
      };
      below = record {
        keeps = λ cell value found.
            ⊎_elim
            (λ old. stands.keeps cell value (sym (ap (as_cell cell) old) ∙ found))
            (λ new. sym (ap (as_cell cell) new) ∙ found)
            (leaves cell);
      };
    }

-- a crash at a moment of the file is one at that moment of the device
seen_at : (cells reads faults parts since : ℕ) (told : Told) (bytes : List ℕ) → SureStands cells (Some told)
    → CouldLeave told since bytes
    → LeftSince (device_at cells reads faults parts (Some told)) since (image_of_bytes cells bytes)
seen_at cells reads faults parts since told bytes stands could =
    ⊎_elim
    (λ left. inl (crash_between cells told.now bytes stands.now left))
    (λ past. inr (
      past.0,
      past.1,
      past.2,
      crash_between cells (told.past past.0) bytes (stands.before past.0 past.2) past.3,
    ))
    could

-- so it is with what is told
seen_told : (cells reads faults parts : ℕ) (told : Option Told) → SureStands cells told
    → CrashesAreSeen (device_at cells reads faults parts told) told
seen_told cells reads faults parts None stands t since bytes is could = absurd (none-some t is)
seen_told cells reads faults parts (Some told) stands t since bytes is could =
    seen_at cells reads faults parts since told bytes stands
    (subst (λ u. CouldLeave u since bytes) (sym (same_Some told t is)) could)

-- of each file
pub crashes_seen : (cells reads : ℕ) (file : FileState) → SureStands cells file.told
    → CrashesAreSeen (device_over cells reads file) file.told
crashes_seen cells reads file stands = seen_told cells reads file.faults file.parts file.told stands
