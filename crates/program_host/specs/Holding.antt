-- In which order two files are held.
use Rattle.std.specs.Prelude.{◌≡◌, ◌⊎◌, []}
use Rattle.host_files.specs.HostCalls.{HostCall}
use Rattle.host_files.specs.OsFile.{GoesOn, Stops}
use Rattle.host_files.specs.declared.os_file.Access.TheVariants.{Held}
use Rattle.host_files.specs.declared.os_file.OsFile.{OsFile}

-- The first file is held, and then the second one, if it was to be had; or the first was not to be had, and of the
-- second nothing was asked.
abbrev pub HoldsInOrder : {F : Type 0} → (F → HostCall → F → Type 0) → (first first' second second' : OsFile F) → Type 0
HoldsInOrder Led first first' second second' =
    (GoesOn Led [] Held first first' × (GoesOn Led [] Held second second' ⊎ Stops Led second second'))
    ⊎ (Stops Led first first' × (second' ≡ second))
