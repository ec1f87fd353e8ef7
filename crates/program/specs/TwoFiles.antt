-- What a copy from one file to another does, and what the program answers.
use Rattle.std.specs.Prelude.{◌≡◌, ◌⊎◌, ℕ, List, ◌∷◌, Option, Some, None, Result, Ok, Err}
use Rattle.cell_types.specs.declared.refusal.CopyRefusal.{CopyRefusal}
use Rattle.cell_types.specs.declared.refusal.CopyRefusal.TheVariants as copies
use Rattle.cell_types.specs.declared.refusal.Refusal.TheVariants as refusals
use Rattle.worm_device.specs.State.{DeviceState}
use Rattle.worm_device.specs.declared.device.Failed.{Failed}
use Rattle.host_files.specs.Device.{device_over}
use Rattle.host_files.specs.File.{FileState}
use Rattle.host_ports.specs.Memories.{GatheredBytes, gathered_of}
use Rattle.host_ports.specs.Sinks.{SinkState}
use Rattle.record_top.specs.Copying.{RunsCopy}
use Rattle.program_host.specs.Faults.{fault_of_copy}
use Rattle.program_host.specs.declared.fault.Fault.{Fault}
use Rattle.program_host.specs.declared.fault.Fault.TheVariants.{Image, Refused, SameFile, Usage}
use Rattle.program_host.specs.declared.file_number.FileNumber.{FileNumber}
use Rattle.program.specs.Asking.{IsFirst, IsHyphened, IsSame, NameTwo}
use Rattle.program.specs.OneFile.{IsNoDevice, IsShown, new_device, no_text}

-- What the program answers, by how the copy ended and whether its text could be shown. What it puts out is kept in
-- memory, so that this sink fails is want of memory.
abbrev pub answer_of_copy : Result Unit CopyRefusal → Result Unit Failed → Result Unit Fault
answer_of_copy (Ok done) (Ok shown) = Ok done
answer_of_copy (Ok done) (Err failed) = Err (Refused refusals.SinkFault)
answer_of_copy (Err copies.SinkFault) shown = Err (Refused refusals.NoMemory)
answer_of_copy (Err refusal) shown = Err (fault_of_copy refusal)

-- Which files two paths lead to was asked, of one and then of the other. By Numbered it was asked of a path.
pub record WereNumbered {H : Type 0} (Numbered : H → List ℕ → Option FileNumber → H → Type 0) (image target : List ℕ)
    (one other : Option FileNumber) (old new : H) : Type 0 where
  pub between : H
  pub first : Numbered old image one between
  pub second : Numbered between target other new

-- Both files were held, in the order that all keep to. By Held one was held, and then another.
pub data AreHeld {H F : Type 0} (Held : H → F → F → F → F → H → Type 0) (one other : Option FileNumber)
    (from from' to to' : F) (old new : H) : Type 0 where
  image_first : IsFirst one other → Held old from from' to to' new → AreHeld Held one other from from' to to' old new
  target_first : ¬ IsFirst one other → Held old to to' from from' new
      → AreHeld Held one other from from' to to' old new

-- The paths lead to two files, as far as the host tells, which were opened and held, one after another.
pub record WereOpened {H F : Type 0} (Opened : H → List ℕ → Option F → H → Type 0)
    (Numbered : H → List ℕ → Option FileNumber → H → Type 0) (Held : H → F → F → F → F → H → Type 0)
    (image target : List ℕ) (from to : F) (old new : H) : Type 0 where
  pub one : Option FileNumber
  pub other : Option FileNumber
  pub numbered : H
  pub asked : WereNumbered Numbered image target one other old numbered
  pub two : ¬ IsSame one other
  pub between : H
  pub opened : H
  pub from_opened : Opened numbered image (Some from) between
  pub to_opened : Opened between target (Some to) opened
  pub from_held : F
  pub to_held : F
  pub held : AreHeld Held one other from from_held to to_held opened new

-- The paths lead to two files, as far as the host tells, of which one could not be opened: the target is not opened
-- where the image can't be.
pub record WasUnopened {H F : Type 0} (Opened : H → List ℕ → Option F → H → Type 0)
    (Numbered : H → List ℕ → Option FileNumber → H → Type 0) (image target : List ℕ) (old new : H) : Type 0 where
  pub one : Option FileNumber
  pub other : Option FileNumber
  pub numbered : H
  pub asked : WereNumbered Numbered image target one other old numbered
  pub two : ¬ IsSame one other
  pub unopened : Opened numbered image None new
      ⊎ ((from : F) × (between : H) × Opened numbered image (Some from) between × Opened between target None new)

-- The copy ran with these words from one device to another, each of which shows a file, and a sink in memory that held
-- nothing.
pub record RanOnto {F : Type 0} (state : F → FileState) (words : List (List ℕ)) (from to : DeviceState)
    (text : GatheredBytes) (done : Result Unit CopyRefusal) : Type 0 where
  -- the files as they were let go, of how many cells the devices over them were, and how many of them were read
  pub from_left : F
  pub from_cells : ℕ
  pub from_reads : ℕ
  pub to_left : F
  pub to_cells : ℕ
  pub to_reads : ℕ
  pub runs : RunsCopy words from (device_over from_cells from_reads (state from_left))
      to (device_over to_cells to_reads (state to_left)) (gathered_of no_text) (gathered_of text) done

-- Two files were opened at these paths, and the copy ran from one to the other, of which nothing was read before. Then
-- the text that it had put out went into the sink.
pub record WasCopied {H F : Type 0} (Opened : H → List ℕ → Option F → H → Type 0)
    (Numbered : H → List ℕ → Option FileNumber → H → Type 0) (Held : H → F → F → F → F → H → Type 0)
    (state : F → FileState) (image target : List ℕ) (words : List (List ℕ)) (old new : H) (sink sink' : SinkState)
    (result : Result Unit Fault) : Type 0 where
  pub from : F
  pub to : F
  pub opened : WereOpened Opened Numbered Held image target from to old new
  -- what the copy put out, and how it ended
  pub text : GatheredBytes
  pub done : Result Unit CopyRefusal
  pub ran : RanOnto state words (new_device (state from)) (new_device (state to)) text done
  -- whether it could be shown
  pub shown : Result Unit Failed
  pub shows : IsShown text.held sink sink' shown
  pub answer : result ≡ answer_of_copy done shown

-- What the program does with two paths and the words of the copy.
pub data WorksOnto {H F : Type 0} (Opened : H → List ℕ → Option F → H → Type 0)
    (Numbered : H → List ℕ → Option FileNumber → H → Type 0) (Held : H → F → F → F → F → H → Type 0)
    (state : F → FileState) (image target : List ℕ) (words : List (List ℕ)) (old new : H) (sink sink' : SinkState)
    (result : Result Unit Fault) : Type 0 where
  -- no memory was to be had, and nothing is done
  lacked : new ≡ old → sink' ≡ sink → result ≡ Err (Refused refusals.NoMemory)
      → WorksOnto Opened Numbered Held state image target words old new sink sink' result
  -- both paths lead to one file
  same : (one other : Option FileNumber) → WereNumbered Numbered image target one other old new → IsSame one other
      → sink' ≡ sink → result ≡ Err SameFile
      → WorksOnto Opened Numbered Held state image target words old new sink sink' result
  -- one could not be opened
  unopened : WasUnopened Opened Numbered image target old new → sink' ≡ sink → result ≡ Err Image
      → WorksOnto Opened Numbered Held state image target words old new sink sink' result
  -- a file that was opened has no cell, or more than a device may have
  no_device : (from to : F) → WereOpened Opened Numbered Held image target from to old new
      → IsNoDevice (state from) ⊎ IsNoDevice (state to) → sink' ≡ sink → result ≡ Err Image
      → WorksOnto Opened Numbered Held state image target words old new sink sink' result
  -- the copy was made, or refused
  copied : WasCopied Opened Numbered Held state image target words old new sink sink' result
      → WorksOnto Opened Numbered Held state image target words old new sink sink' result

-- What the program does with words whose second is `copy`.
pub data CopiesBy {H F : Type 0} (Opened : H → List ℕ → Option F → H → Type 0)
    (Numbered : H → List ℕ → Option FileNumber → H → Type 0) (Held : H → F → F → F → F → H → Type 0)
    (state : F → FileState) (words : List (List ℕ)) (old new : H) (sink sink' : SinkState) (result : Result Unit Fault)
    : Type 0 where
  -- there is no target, and nothing is done
  no_target : ((image command target : List ℕ) (numbers : List (List ℕ)) → ¬ NameTwo words image command target numbers)
      → result ≡ Err Usage → new ≡ old → sink' ≡ sink
      → CopiesBy Opened Numbered Held state words old new sink sink' result
  -- the image or the target begins with a hyphen, and nothing is done
  no_images : (image command target : List ℕ) (numbers : List (List ℕ)) → NameTwo words image command target numbers
      → IsHyphened image ⊎ IsHyphened target → result ≡ Err Usage → new ≡ old → sink' ≡ sink
      → CopiesBy Opened Numbered Held state words old new sink sink' result
  -- both are paths: the copy has the files to which they lead
  onto : (image command target : List ℕ) (numbers : List (List ℕ)) → NameTwo words image command target numbers
      → ¬ IsHyphened image → ¬ IsHyphened target
      → WorksOnto Opened Numbered Held state image target (command ∷ numbers) old new sink sink' result
      → CopiesBy Opened Numbered Held state words old new sink sink' result
