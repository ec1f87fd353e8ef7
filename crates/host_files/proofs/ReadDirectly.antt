-- Bytes of cells that are read of a page or of the file itself.
use Rattle.std.specs.Prelude.{◌≡◌, ◌<◌, ◌≤◌, ◌+◌, ◌*◌, ◌/◌, ℕ, true, false, List, [], length, take, drop, replicate, Option, Some, None, Result, Ok, Err, IfSome, IsTrue, OnOk, MatchResult, is_some, ⊤}
use Rattle.std.proofs.Common.{refl, ◌∙◌, ap, sym, subst, arith, inl, inr, ⊎_elim}
use Rattle.std.proofs.lemmas.Bool.{false≢true, cases_Bool, cond-true, cond-false}
use Rattle.std.proofs.lemmas.List.{append-nil, length-take, length-drop}
use Rattle.worm_device.specs.Counts.{Rose}
use Rattle.worm_device.specs.ReadBytes.{AreReadBetween, IsReadBetween, ReadsBytes, cell_bytes}
use Rattle.worm_device.specs.declared.device.Failed.{Failed}
use Rattle.host_files.specs.Cells.{are_zeros, image_of_bytes}
use Rattle.host_files.specs.Device.{device_at, device_over, now_in}
use Rattle.host_files.specs.File.{FileState, IsFile, ReadsAt, Told}
use Rattle.host_files.specs.Pages.{AreToldBytes, Mirror}
use Rattle.host_files.specs.declared.pages.Page.{Page}
use Rattle.host_files.specs.Proper.{within_image}
use Rattle.host_files.proofs.Images.{zeros_are}
use Rattle.host_files.proofs.PageBytes.{given_cell}
use Rattle.host_files.proofs.Time.{called_same}

-- the sixteen bytes of a cell in the file are what is read of it
read_in : (cells cell : ℕ) (held : List ℕ) → cell < cells → 16 * cells ≤ length held
    → IsReadBetween (image_of_bytes cells held) (image_of_bytes cells held) cell (cell_bytes held cell)
read_in cells cell held inside room = ⊎_elim
    (λ (zeros : are_zeros (cell_bytes held cell) ≡ true). inr (
      within_image cells cell held inside
          ∙ cond-true (are_zeros (cell_bytes held cell)) None (Some (cell_bytes held cell)) zeros,
      zeros_are (cell_bytes held cell) zeros ∙ ap (λ n. replicate n 0) sixteen,
    ))
    (λ (written : are_zeros (cell_bytes held cell) ≡ false). inl (
    within_image cells cell held inside
    ∙ cond-false (are_zeros (cell_bytes held cell)) None (Some (cell_bytes held cell)) written))
    (cases_Bool (are_zeros (cell_bytes held cell)))
  where
    sixteen : length (cell_bytes held cell) ≡ 16
    sixteen = omega (arith, inside, room, length-take 16 (drop (16 * cell) held), length-drop (16 * cell) held)

-- bytes that were read from a cell of the file on are those of it and of its neighbours
pub given_bytes : (at place : ℕ) (bytes held : List ℕ) → bytes ≡ take (length bytes) (drop (16 * at) held)
    → place < length bytes / 16 → cell_bytes bytes place ≡ cell_bytes held (at + place)
given_bytes at place bytes held given less =
    let within : 16 * place + 16 ≤ length bytes = omega (arith, less) in
    let same : 16 * at + 16 * place ≡ 16 * (at + place) = omega arith in
    ap (λ (l : List ℕ). cell_bytes l place) (sym (append-nil bytes))
    ∙ given_cell bytes [] held (16 * at) place given within
    ∙ ap (λ m. take 16 (drop m held)) same

-- where the file tells its bytes, these are those of its cells from this one on
abbrev AreBytesTold : ℕ → List ℕ → Option Told → Type 0
AreBytesTold at bytes told = (t : Told) → told ≡ Some t → (place : ℕ) → place < length bytes / 16
    → cell_bytes bytes place ≡ cell_bytes t.now.bytes (at + place)

-- bytes that were read, where the file told them
bytes_at : (cells reads reads' at faults faults' parts : ℕ) (room bytes : List ℕ) (told : Option Told)
    (result : Result (Unit {0}) Failed) → at + length bytes / 16 ≤ cells → reads ≤ reads'
    → reads' ≤ reads + length bytes / 16 → length bytes ≡ length room → faults ≤ faults'
    → MatchResult result (λ _. faults' ≡ faults) (λ _. Rose faults faults')
    → ((t : Told) → told ≡ Some t → 16 * cells ≤ length t.now.bytes)
    → OnOk result (AreBytesTold at bytes told)
    → ReadsBytes at room bytes (device_at cells reads faults parts told) (device_at cells reads' faults' parts told)
    result
bytes_at cells reads reads' at faults faults' parts room bytes told result inside later count size faulted cause sized
    answer = record {
      called = called_same cells reads reads' faults faults' parts parts told later faulted (omega arith);
      only = λ still cell. refl;
      size = size;
      answer = answers told result sized answer;
      cause = cause;
      count = count;
    }
  where
    answers : (told : Option Told) (result : Result (Unit {0}) Failed)
        → ((t : Told) → told ≡ Some t → 16 * cells ≤ length t.now.bytes)
        → OnOk result (AreBytesTold at bytes told)
        → IsTrue (is_some told)
        → MatchResult result (λ _. AreReadBetween (length bytes / 16) at bytes (now_in cells told).image
        (now_in cells told).image) (λ _. ⊤)
    answers None result sized given tells = absurd (false≢true tells)
    answers (Some t) (Ok done) sized given tells = λ place less.
        subst (IsReadBetween (image_of_bytes cells t.now.bytes) (image_of_bytes cells t.now.bytes) (at + place))
        (sym (given t refl place less))
        (read_in cells (at + place) t.now.bytes (omega (arith, inside, less)) (sized t refl))
    answers (Some t) (Err failed) sized given tells = tt

-- of the file itself
pub bytes_over : (cells reads reads' at : ℕ) (room bytes : List ℕ) (old new : FileState)
    (result : Result (Unit {0}) Failed) → at + length bytes / 16 ≤ cells → reads ≤ reads'
    → reads' ≤ reads + length bytes / 16 → length bytes ≡ length room → 16 * cells ≤ old.size → IsFile old
    → ReadsAt (16 * at) bytes old new result
    → ReadsBytes at room bytes (device_over cells reads old) (device_over cells reads' new) result
bytes_over cells reads reads' at room bytes old new result inside later count size fits file asks =
    subst (λ told. ReadsBytes at room bytes (device_over cells reads old) (device_at cells reads' new.faults new.parts
    told) result) (sym asks.told)
    (subst (λ parts. ReadsBytes at room bytes (device_over cells reads old) (device_at cells reads' new.faults parts
    old.told) result) (sym asks.parts)
    (bytes_at cells reads reads' at old.faults new.faults old.parts room bytes old.told result inside later count size
    asks.later asks.cause (λ t is. omega (arith, file.size t is, fits)) (given result asks.answer)))
  where
    given : (result : Result (Unit {0}) Failed)
        → OnOk result (IfSome old.told (λ t. bytes ≡ take (length bytes) (drop (16 * at) t.now.bytes)))
        → OnOk result (AreBytesTold at bytes old.told)
    given (Ok done) answer = λ t is place less. given_bytes at place bytes t.now.bytes (rw is at answer) less
    given (Err failed) answer = tt

-- of a page that is held
pub bytes_held : (cells reads reads' at : ℕ) (room bytes : List ℕ) (file : FileState) (pages : List Page)
    → at + length bytes / 16 ≤ cells → reads ≤ reads' → reads' ≤ reads + length bytes / 16
    → length bytes ≡ length room → 16 * cells ≤ file.size → IsFile file → Mirror cells file.told pages
    → AreToldBytes at pages bytes
    → ReadsBytes at room bytes (device_over cells reads file) (device_over cells reads' file) (Ok tt)
bytes_held cells reads reads' at room bytes file pages inside later count size fits is mirror held =
    bytes_at cells reads reads' at file.faults file.faults file.parts room bytes file.told (Ok tt) inside later count
    size (omega arith) refl (λ t told. omega (arith, is.size t told, fits))
    (λ t told. held cells t.now.bytes (mirror t told) inside)
