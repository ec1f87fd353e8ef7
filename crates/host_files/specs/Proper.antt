-- Why a file that tells nothing is a file, and why a device over a file is a device. It stands here and not among the
-- proofs, since the laws of the impls cite it.
use Rattle.std.specs.Prelude.{◌≡◌, ◌<◌, ◌≤◌, ◌*◌, ◌+◌, ℕ, List, length, drop, nat_lt, Option, Some, None, false}
use Rattle.std.proofs.Common.{refl, ◌∙◌, ap, sym, subst, arith, ⊎_elim}
use Rattle.std.proofs.lemmas.Bool.{false≢true, cond-true, cond-false, cases_Bool, cases_lt, lt-ltb, le-ltb}
use Rattle.std.proofs.lemmas.List.{length-take, length-drop, get_or-take, get_or-drop, get_or_past}
use Rattle.std.proofs.lemmas.Option.{none-some, same_Some}
use Rattle.cell_types.specs.Bytes.{AreBytes, IsCell}
use Rattle.cell_types.specs.declared.geometry.TheConstants.{MAX_CELLS}
use Rattle.worm_device.specs.State.{IsDevice}
use Rattle.worm_device.specs.ReadBytes.{cell_bytes}
use Rattle.host_files.specs.Cells.{are_zeros, cell_in, image_of_bytes}
use Rattle.host_files.specs.Device.{device_over, now_in, SureStands}
use Rattle.host_files.specs.Memory.{FileMemory, held_at, file_of}
use Rattle.host_files.specs.File.{FileState, IsFile, Told, part_at}

-- so many bytes and faults, and nothing else
abbrev pub untold : ℕ → ℕ → FileState
untold size faults = record { size = size; told = None; faults = faults; parts = 0; blank_at = None; blank_size = 0 }

pub is_file : (size faults : ℕ) → IsFile (untold size faults)
is_file size faults = record {
  size = λ told is. absurd (none-some told is);
  bytes = λ told is. absurd (none-some told is);
}

-- what is found in a cell is its bytes, and they are written
pub found_in : (bytes value : List ℕ) → cell_in bytes ≡ Some value → (bytes ≡ value) × (are_zeros bytes ≡ false)
found_in bytes value found =
    ⊎_elim
    (λ all. absurd (none-some value (sym (cond-true (are_zeros bytes) None (Some bytes) all) ∙ found)))
    (λ some. (same_Some bytes value (sym (cond-false (are_zeros bytes) None (Some bytes) some) ∙ found), some))
    (cases_Bool (are_zeros bytes))

-- within the device its image is what its bytes are
pub within_image : (cells cell : ℕ) (bytes : List ℕ) → cell < cells
    → image_of_bytes cells bytes cell ≡ cell_in (cell_bytes bytes cell)
within_image cells cell bytes inside =
    cond-true (nat_lt cell cells) (cell_in (cell_bytes bytes cell)) None (lt-ltb cell cells inside)

-- and beyond it there is nothing
pub beyond_image : (cells cell : ℕ) (bytes : List ℕ) (value : List ℕ) → image_of_bytes cells bytes cell ≡ Some value
    → (cell < cells) × (cell_in (cell_bytes bytes cell) ≡ Some value)
beyond_image cells cell bytes value stands =
    ⊎_elim
    (λ inside. (inside, sym (within_image cells cell bytes inside) ∙ stands))
    (λ outside. absurd (none-some value
    (sym (cond-false (nat_lt cell cells) (cell_in (cell_bytes bytes cell)) None (le-ltb cell cells outside))
    ∙ stands)))
    (cases_lt cell cells)

-- sixteen bytes of a file are sixteen, and bytes
pub part_is : (from : ℕ) (bytes : List ℕ) → from + 16 ≤ length bytes → AreBytes bytes
    → (length (part_at from bytes) ≡ 16) × AreBytes (part_at from bytes)
part_is from bytes within fits =
    let count : length (part_at from bytes) ≡ 16 = omega (
      arith,
      length-take 16 (drop from bytes),
      length-drop from
          bytes,
    ) in (
      count,
      record {
        each = λ i.
            ⊎_elim
            (λ inside. subst (λ n. n < 256)
            (sym (get_or-take 16 (drop from bytes) i 0 inside ∙ get_or-drop from bytes i 0)) (fits.each (from + i)))
            (λ outside. subst (λ n. n < 256)
            (sym (get_or_past (part_at from bytes) i 0 (omega (arith, count, outside)))) (omega arith))
            (cases_lt i 16);
      },
    )

-- what is found in a cell of a file is a written cell of the device
inside_is : (cells size : ℕ) (told : Option Told) → 16 * cells ≤ size
    → ((t : Told) → told ≡ Some t → length t.now.bytes ≡ size) → ((t : Told) → told ≡ Some t → AreBytes t.now.bytes)
    → (cell : ℕ) (value : List ℕ) → (now_in cells told).image cell ≡ Some value → (cell < cells) × IsCell value
inside_is cells size None within sized fits cell value stands = absurd (none-some value stands)
inside_is cells size (Some t) within sized fits cell value stands =
    let there = beyond_image cells cell t.now.bytes value stands in
    let found = found_in (cell_bytes t.now.bytes cell) value there.1 in
    let part = part_is (16 * cell) t.now.bytes (omega (arith, within, sized t refl, there.0)) (fits t refl) in (
      there.0,
      record {
        sixteen = sym (ap length found.0) ∙ part.0;
        fits = subst AreBytes found.0 part.1;
        written = λ zeros. false≢true (sym found.1 ∙ ap are_zeros (found.0 ∙ zeros));
      },
    )

pub is_device : (cells reads : ℕ) (file : FileState) → 1 ≤ cells → cells ≤ MAX_CELLS → 16 * cells ≤ file.size
    → SureStands cells file.told → IsFile file → IsDevice (device_over cells reads file)
is_device cells reads file some most within stands is = record {
  sure = stands.now;
  inside = inside_is cells file.size file.told within is.size is.bytes;
  some_cells = some;
  cells = most;
}

-- a file in memory is a file
pub is_memory : (m : FileMemory) (bytes : List ℕ) → bytes ≡ (held_at m m.changes).bytes
    → length bytes ≡ length m.first → AreBytes bytes → IsFile (file_of m)
is_memory m bytes holds sized fits = record {
  size = λ told is. ap (λ (t : Told). length t.now.bytes) (sym (same_Some _ told is)) ∙ ap length (sym holds)
      ∙ sized;
  bytes = λ told is. subst AreBytes (holds ∙ ap (λ (t : Told). t.now.bytes) (same_Some _ told is)) fits;
}
