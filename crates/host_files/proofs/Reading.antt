-- What a read of a device over a file does.
use Rattle.std.specs.Prelude.{◌≡◌, ◌<◌, ◌≤◌, ◌+◌, ◌^◌, ℕ, List, length, Option, Some, None, Result, Ok, Err, IfOk, IsTrue, OnOk, MatchResult, is_some, ⊤}
use Rattle.std.proofs.Common.{refl, ◌∙◌, sym, subst, arith, inl}
use Rattle.std.proofs.lemmas.Bool.{false≢true}
use Rattle.cell_types.specs.Image.{Image}
use Rattle.worm_device.specs.Calls.{Reads}
use Rattle.worm_device.specs.Counts.{next_count, Rose}
use Rattle.worm_device.specs.ReadRows.{AreFoundBetween, IsFoundBetween, ReadsRow}
use Rattle.worm_device.specs.declared.device.Failed.{Failed}
use Rattle.worm_device.proofs.Elapsing.{leaves_all}
use Rattle.worm_device.specs.ReadBytes.{cell_bytes}
use Rattle.host_files.specs.Cells.{AreCellsIn, cell_in, image_of_bytes}
use Rattle.host_files.specs.Device.{device_at, device_over, now_in}
use Rattle.host_files.specs.File.{FileState, Told, AsksFile}
use Rattle.host_files.specs.Pages.{AreToldOf, PagesHold, Mirror}
use Rattle.host_files.specs.declared.pages.Page.{Page}
use Rattle.host_files.specs.Proper.{within_image}
use Rattle.host_files.proofs.Time.{called_same}

-- a read, where the file told it
reads_at : (cells reads at faults faults' parts : ℕ) (told : Option Told) (result : Result (Option (List ℕ)) Failed)
    → reads < 2 ^ 64 → at < cells → faults ≤ faults'
    → MatchResult result (λ _. faults' ≡ faults) (λ _. Rose faults faults')
    → IfOk result (λ found. (t : Told) → told ≡ Some t → found ≡ cell_in (cell_bytes t.now.bytes at))
    → Reads at (device_at cells reads faults parts told) (device_at cells (next_count reads) faults' parts told)
    result
reads_at cells reads at faults faults' parts None result fits inside later cause answer = record {
  called = called_same cells reads (next_count reads) faults faults' parts parts None (omega arith) later
      (omega arith);
  leaves = leaves_all _ _ (λ image between. inl between);
  only = λ still cell. refl;
  answer = λ tells. absurd (false≢true tells);
  cause = cause;
  count = refl;
}
reads_at cells reads at faults faults' parts (Some t) (Ok found) fits inside later cause answer = record {
  called = called_same cells reads (next_count reads) faults faults' parts parts (Some t) (omega arith) later
      (omega arith);
  leaves = leaves_all _ _ (λ image between. inl between);
  only = λ still cell. refl;
  answer = λ tells. answer t refl ∙ sym (within_image cells at t.now.bytes inside);
  cause = cause;
  count = refl;
}
reads_at cells reads at faults faults' parts (Some t) (Err failed) fits inside later cause answer = record {
  called = called_same cells reads (next_count reads) faults faults' parts parts (Some t) (omega arith) later
      (omega arith);
  leaves = leaves_all _ _ (λ image between. inl between);
  only = λ still cell. refl;
  answer = λ tells. tt;
  cause = cause;
  count = refl;
}

pub reads_over : (cells reads at : ℕ) (old new : FileState) (result : Result (Option (List ℕ)) Failed)
    → reads < 2 ^ 64 → at < cells → AsksFile old new result
    → IfOk result (λ found. (t : Told) → old.told ≡ Some t → found ≡ cell_in (cell_bytes t.now.bytes at))
    → Reads at (device_over cells reads old) (device_over cells (next_count reads) new) result
reads_over cells reads at old new result fits inside asks answer =
    subst (λ told. Reads at (device_over cells reads old) (device_at cells (next_count reads) new.faults new.parts
    told) result) (sym asks.told)
    (subst (λ parts. Reads at (device_over cells reads old) (device_at cells (next_count reads) new.faults parts
    old.told) result) (sym asks.parts)
    (reads_at cells reads at old.faults new.faults old.parts old.told result fits inside asks.later asks.cause
    answer))

-- what was read from pages that hold what is told
pub from_pages : (cells at : ℕ) (told : Option Told) (pages : List Page) (result : Result (Option (List ℕ)) Failed)
    → Mirror cells told pages
    → IfOk result (λ found. (t : Told) → told ≡ Some t → PagesHold cells t.now.bytes pages → found ≡ cell_in
    (cell_bytes t.now.bytes at))
    → IfOk result (λ found. (t : Told) → told ≡ Some t → found ≡ cell_in (cell_bytes t.now.bytes at))
from_pages cells at told pages (Ok found) mirror answers = λ t is. answers t is (mirror t is)
from_pages cells at told pages (Err failed) mirror answers = tt

-- a row that was read, where the file told it
row_at : (cells reads reads' at faults faults' parts : ℕ) (room found : List (Option (List ℕ))) (told : Option Told)
    (result : Result (Unit {0}) Failed) → at + length found ≤ cells → reads ≤ reads' → reads' ≤ reads + length found
    → length found ≡ length room → faults ≤ faults'
    → MatchResult result (λ _. faults' ≡ faults) (λ _. Rose faults faults')
    → OnOk result ((t : Told) → told ≡ Some t → AreCellsIn (length found) at found t.now.bytes)
    → ReadsRow at room found (device_at cells reads faults parts told) (device_at cells reads' faults' parts told)
    result
row_at cells reads reads' at faults faults' parts room found told result inside later count size faulted cause
    answer = record {
      called = called_same cells reads reads' faults faults' parts parts told later faulted (omega arith);
      only = λ still cell. refl;
      size = size;
      answer = answers told result answer;
      cause = cause;
      count = count;
    }
  where
    found_is : (cell : ℕ) (held : Option (List ℕ)) (image : Image) → held ≡ image cell
        → IsFoundBetween image image cell held
    found_is cell None image is = sym is
    found_is cell (Some value) image is = sym is

    answers : (told : Option Told) (result : Result (Unit {0}) Failed)
        → OnOk result ((t : Told) → told ≡ Some t → AreCellsIn (length found) at found t.now.bytes)
        → IsTrue (is_some told)
        → MatchResult result (λ _. AreFoundBetween (length found) at found (now_in cells told).image
        (now_in cells told).image) (λ _. ⊤)
    answers None result given tells = absurd (false≢true tells)
    answers (Some t) (Ok done) given tells = λ place held below is.
        found_is (at + place) held (image_of_bytes cells t.now.bytes) (given t refl place held below is
        ∙ sym (within_image cells (at + place) t.now.bytes (omega (arith, inside, below))))
    answers (Some t) (Err failed) given tells = tt

pub row_over : (cells reads reads' at : ℕ) (room found : List (Option (List ℕ))) (old new : FileState)
    (pages : List Page) (result : Result (Unit {0}) Failed) → at + length found ≤ cells → reads ≤ reads'
    → reads' ≤ reads + length found → length found ≡ length room → AsksFile old new result
    → Mirror cells old.told pages → OnOk result (AreToldOf cells at old.told pages found)
    → ReadsRow at room found (device_over cells reads old) (device_over cells reads' new) result
row_over cells reads reads' at room found old new pages result inside later count size asks mirror answer =
    subst (λ told. ReadsRow at room found (device_over cells reads old) (device_at cells reads' new.faults new.parts
    told) result) (sym asks.told)
    (subst (λ parts. ReadsRow at room found (device_over cells reads old) (device_at cells reads' new.faults parts
    old.told) result) (sym asks.parts)
    (row_at cells reads reads' at old.faults new.faults old.parts room found old.told result inside later count size
    asks.later asks.cause (given result answer)))
  where
    given : (result : Result (Unit {0}) Failed) → OnOk result (AreToldOf cells at old.told pages found)
        → OnOk result ((t : Told) → old.told ≡ Some t → AreCellsIn (length found) at found t.now.bytes)
    given (Ok done) answers = λ t is. answers t is (mirror t is)
    given (Err failed) answers = tt
