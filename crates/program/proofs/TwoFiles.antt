-- What was done with two files that were opened, of what its steps ensure.
use Rattle.std.proofs.Common.{◌≡◌, ◌⊎◌, ℕ, List, ◌∷◌, Option, Some, Result, Err, refl, subst}
use Rattle.cell_types.specs.declared.refusal.CopyRefusal.{CopyRefusal}
use Rattle.worm_device.specs.State.{DeviceState}
use Rattle.host_files.specs.File.{FileState}
use Rattle.host_ports.specs.Memories.{GatheredBytes}
use Rattle.host_ports.specs.Sinks.{SinkState}
use Rattle.program_host.specs.declared.fault.Fault.{Fault}
use Rattle.program_host.specs.declared.fault.Fault.TheVariants.{Usage}
use Rattle.program_host.specs.declared.file_number.FileNumber.{FileNumber}
use Rattle.program.specs.Asking.{IsHyphened, IsSame, TakesTarget}
use Rattle.program.specs.OneFile.{new_device}
use Rattle.program.specs.TwoFiles.{AreHeld, CopiesBy, RanOnto, WereOpened, WorksOnto, no_images, onto}
use Rattle.program.proofs.Target.{behind_image, named_by}

module _ {H F : Type 0} {Opened : H → List ℕ → Option F → H → Type 0}
    {Numbered : H → List ℕ → Option FileNumber → H → Type 0} {Held : H → F → F → F → F → H → Type 0} where
  -- one of the paths is none
  pub not_images : (state : F → FileState) (words left : List (List ℕ)) (image target : List ℕ) (rest : List (List ℕ))
      (host : H) (sink : SinkState) → TakesTarget words target left → left ≡ image ∷ rest
      → IsHyphened image ⊎ IsHyphened target
      → CopiesBy Opened Numbered Held state words host host sink sink (Err Usage)
  not_images state words left image target rest host sink takes is hyphened =
      no_images image takes.command target takes.numbers (named_by words left image target rest takes is) hyphened
      refl refl refl

  -- both are paths, which were handed on as texts
  pub works_onto : (state : F → FileState) (words left : List (List ℕ)) (image target path other : List ℕ)
      (rest : List (List ℕ)) (old new : H) (sink sink' : SinkState) (result : Result Unit Fault)
      → TakesTarget words target left → left ≡ image ∷ rest → ¬ IsHyphened image → ¬ IsHyphened target
      → path ≡ image → other ≡ target
      → WorksOnto Opened Numbered Held state path other rest old new sink sink' result
      → CopiesBy Opened Numbered Held state words old new sink sink' result
  works_onto state words left image target path other rest old new sink sink' result takes is first second image_is
      target_is works =
      onto image takes.command target takes.numbers (named_by words left image target rest takes is) first second
      (subst (λ (p : List ℕ). WorksOnto Opened Numbered Held state p target (takes.command ∷ takes.numbers) old new sink
      sink' result) image_is
      (subst (λ (p : List ℕ). WorksOnto Opened Numbered Held state path p (takes.command ∷ takes.numbers) old new sink
      sink' result) target_is
      (subst (λ (ws : List (List ℕ)). WorksOnto Opened Numbered Held state path other ws old new sink sink' result)
      (behind_image words left image target rest takes is) works)))

  -- the paths lead to two files, and both were opened and held
  pub were_opened : {image target : List ℕ} {one other : Option FileNumber} {old opened new : H}
      {from to from_held to_held : F} (first numbered between : H) → Numbered old image one first
      → Numbered first target other numbered
      → ¬ IsSame one other → Opened numbered image (Some from) between → Opened between target (Some to) opened
      → AreHeld Held one other from from_held to to_held opened new
      → WereOpened Opened Numbered Held image target from to old new
  were_opened {one = one} {other = other} {opened = opened} {from_held = from_held} {to_held = to_held} first numbered
      between asked_one asked_other two from_opened to_opened held = record {
        one = one;
        other = other;
        numbered = numbered;
        asked = record { between = first; first = asked_one; second = asked_other };
        two = two;
        between = between;
        opened = opened;
        from_opened = from_opened;
        to_opened = to_opened;
        from_held = from_held;
        to_held = to_held;
        held = held;
      }

-- the copy ran from the device of one file to that of the other
pub ran_onto : {F : Type 0} (state : F → FileState) (words : List (List ℕ)) (one other : DeviceState) (from to : F)
    (text : GatheredBytes) (done : Result Unit CopyRefusal) → one ≡ new_device (state from)
    → other ≡ new_device (state to) → RanOnto state words one other text done
    → RanOnto state words (new_device (state from)) (new_device (state to)) text done
ran_onto state words one other from to text done from_is to_is ran =
    subst (λ (d : DeviceState). RanOnto state words d (new_device (state to)) text done) from_is
    (subst (λ (d : DeviceState). RanOnto state words one d text done) to_is ran)
