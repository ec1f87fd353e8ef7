-- What a page holds after it was read, and after a cell of its file was written.
use Rattle.std.specs.Prelude.{◌≡◌, ◌≤◌, ◌+◌, ◌*◌, ◌++◌, ℕ, List, length, take, drop, Option, Some, IfSome, Result, Ok, OnOk}
use Rattle.std.proofs.Common.{◌∙◌, ap, sym}
use Rattle.std.proofs.lemmas.List.{drop-take, take-take, drop-drop, take-append-le}
use Rattle.worm_device.specs.ReadBytes.{cell_bytes}
use Rattle.host_files.specs.File.{Told}

-- a cell of the first bytes of a page, where these are the bytes of the file from an offset on
pub given_cell : (into rest bytes : List ℕ) (from place : ℕ) → into ≡ take (length into) (drop from bytes)
    → 16 * place + 16 ≤ length into → cell_bytes (into ++ rest) place ≡ take 16 (drop (from + 16 * place) bytes)
given_cell into rest bytes from place given within =
    sym (drop-take (16 * place) 16 (into ++ rest))
    ∙ ap (drop (16 * place)) (
    take-append-le (16 * place + 16) into rest within
    ∙ ap (take (16 * place + 16)) given
    ∙ take-take (16 * place + 16) (length into) (drop from bytes) within)
    ∙ drop-take (16 * place) 16 (drop from bytes)
    ∙ ap (take 16) (drop-drop (16 * place) from bytes)

-- what an answer says, where the call answered and the file tells
pub answered : {E : Type 0} (result : Result Unit E) (told : Option Told) (P : Told → Type 0) (t : Told)
    → result ≡ Ok tt → told ≡ Some t → OnOk result (IfSome told P) → P t
answered result told P t ok is h = let at_ok = rw ok at h in rw is at at_ok
