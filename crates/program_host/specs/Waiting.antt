-- What a file that says what it waits for asks of the file of the host below it.
use Rattle.std.specs.Prelude.{◌⊎◌, true, false, [], ◌∷◌, Some, None}
use Rattle.host_files.specs.HostCalls.{HostCall, ToHold, ToTryHold, Made}
use Rattle.program_host.specs.declared.waiting.WaitingFile.{WaitingFile}

-- the file of the host
abbrev pub file_below : {F : Type 0} → WaitingFile F → F
file_below waiting = waiting.file

-- It asks first whether the lock can be had at once, and waits for it only where somebody else holds it. Every other
-- call is handed on as it is.
abbrev pub WaitsBy : {F : Type 0} → (F → HostCall → F → Type 0) → F → HostCall → F → Type 0
WaitsBy Led old (ToHold true) new =
    Made Led old (ToTryHold (Some true) ∷ []) new ⊎ Made Led old (ToTryHold (Some false) ∷ ToHold true ∷ []) new
WaitsBy Led old (ToHold false) new =
    Made Led old (ToTryHold None ∷ []) new ⊎ Made Led old (ToTryHold (Some false) ∷ ToHold false ∷ []) new
WaitsBy Led old call new = Led old call new
