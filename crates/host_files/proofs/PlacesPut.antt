-- Places that are put one after another over zeros: what each of them keeps, all of them keep.
use Rattle.std.specs.Prelude.{zero, suc, ◌≡◌, ◌<◌, ◌≤◌, ◌+◌, ◌*◌, ℕ, List, length, take, drop, ◌++◌, replicate, Option, Some, None, Ok, IfSome}
use Rattle.std.proofs.Common.{refl, ◌∙◌, ap, sym, subst, arith, inl}
use Rattle.std.proofs.lemmas.Option.{same_Some}
use Rattle.std.proofs.lemmas.List.{length-append, length-take, length-drop}
use Rattle.worm_device.specs.Rows.{WritesRow}
use Rattle.worm_device.specs.declared.device.RowWritten.TheVariants.{Whole}
use Rattle.worm_device.specs.declared.device.Written.TheVariants.{Done}
use Rattle.worm_device.proofs.Rows.{HasWritten, row_more, row_none, row_whole}
use Rattle.worm_device.specs.ReadBytes.{cell_bytes}
use Rattle.host_files.specs.Device.{device_at}
use Rattle.host_files.specs.File.{HeldBytes, Told, PutsBytes, PutsPlaces, part_at, patched}
use Rattle.host_files.specs.Rows.{AreRow}
use Rattle.worm_device.proofs.CellBytes.{put_others}
use Rattle.host_files.proofs.Writing.{writes_left}

-- the places from this one on are blank, and the file has room for the device
pub record AreFree (cells at place count : ℕ) (told : Option Told) : Type 0 where
  pub room : (t : Told) → told ≡ Some t → 16 * cells ≤ length t.now.bytes
  pub blank : (k : ℕ) → place ≤ k → k < count → IfSome told (λ t. replicate 16 0 ≡ cell_bytes t.now.bytes (at + k))

-- one is put, and those behind it are free
pub free_next : (cells at place count : ℕ) (put : List ℕ) (told told' : Option Told) → length put ≡ 16 → at + place < cells
    → PutsBytes (16 * (at + place)) put told told' → AreFree cells at place count told
    → AreFree cells at (place + 1) count told'
free_next cells at place count put None None sixteen inside step free = record {
  room = free.room;
  blank = λ k from below. tt;
}
free_next cells at place count put None (Some new) sixteen inside step free = absurd step
free_next cells at place count put (Some old) None sixteen inside step free = absurd step
free_next cells at place count put (Some old) (Some new) sixteen inside step free =
    let room : 16 * (at + place) + 16 ≤ length old.now.bytes = omega (arith, free.room old refl, inside) in
    let bytes : new.now.bytes ≡ patched (16 * (at + place)) put old.now.bytes = ap (λ (h : HeldBytes). h.bytes) step.now in
    record {
      room = λ t is.
          let same : length (patched (16 * (at + place)) put old.now.bytes) ≡ length old.now.bytes = omega (
            arith,
            room,
            length-append (take (16 * (at + place)) old.now.bytes) (put ++ drop 16 (drop (16 * (at + place)) old.now.bytes)),
            length-append put (drop 16 (drop (16 * (at + place)) old.now.bytes)),
            length-take (16 * (at + place)) old.now.bytes,
            length-drop 16 (drop (16 * (at + place)) old.now.bytes),
            length-drop (16 * (at + place)) old.now.bytes,
            sixteen,
          ) in
          subst (λ n. 16 * cells ≤ n)
          (sym (ap (λ (u : Told). length u.now.bytes) (sym (same_Some new t is)) ∙ ap length bytes ∙ same))
          (free.room old refl);
      blank = λ k from below. free.blank k (omega (arith, from)) below
          ∙ sym (ap (λ b. cell_bytes b (at + k)) bytes
          ∙ put_others (at + place) (16 * (at + place)) 16 (at + k) old.now.bytes put refl refl sixteen
          (omega (arith, room)) (λ same. absurd (omega (arith, same, from))));
    }

-- what goes on with each place that is put holds behind all of them
pub along : (P : ℕ → Option Told → Type 0) (cells at total : ℕ) (bytes : List ℕ) → at + total ≤ cells
    → ((k : ℕ) → k < total → length (part_at (16 * k) bytes) ≡ 16)
    → ((place : ℕ) (old new : Option Told) → place < total → AreFree cells at place total old
    → PutsBytes (16 * (at + place)) (part_at (16 * place) bytes) old new → P place old → P (place + 1) new)
    → (count place : ℕ) (old new : Option Told) → place + count ≡ total → AreFree cells at place total old
    → PutsPlaces count place at bytes old new → P place old → P total new
along P cells at total bytes inside sixteen next zero place old new sum free puts holds =
    subst (λ n. P n new) (let same : place ≡ total = omega (arith, sum) in same) (subst (P place) (sym puts) holds)
along P cells at total bytes inside sixteen next (suc count) place old new sum free puts holds =
    let less : place < total = omega (arith, sum) in
    along P cells at total bytes inside sixteen next count (place + 1) puts.0 new (omega (arith, sum))
    (free_next cells at place total (part_at (16 * place) bytes) old puts.0 (sixteen place less)
    (omega (arith, inside, less)) puts.1 free)
    puts.2 (next place old puts.0 less free puts.1 holds)

-- as a row of writes
pub row_of_places : (cells reads faults parts at : ℕ) (values : List (List ℕ)) (bytes : List ℕ) (old new : Option Told)
    → at + length values ≤ cells → AreRow values bytes → AreFree cells at 0 (length values) old
    → PutsPlaces (length values) 0 at bytes old new
    → WritesRow at values (device_at cells reads faults parts old) (device_at cells reads faults parts new) (Ok Whole)
row_of_places cells reads faults parts at values bytes old new inside row free puts =
    row_whole at values (length values) refl _ _
    (along (λ n told. HasWritten n at values (device_at cells reads faults parts old)
    (device_at cells reads faults parts told)) cells at (length values) bytes inside
    (λ k less. (row.cell k less).sixteen)
    (λ place told told' less here step first.
    let writes = writes_left cells reads (at + place) faults faults parts parts (part_at (16 * place) bytes)
    (part_at (16 * place) bytes) told told' (Ok Done) (omega (arith, inside, less)) here.room
    (row.cell place less).sixteen (row.cell place less) (here.blank place (omega arith) less) step (omega arith)
    (omega arith) refl (inl refl) (refl, refl) in
    row_more at values place (part_at (16 * place) bytes) (row.is place less) first Done writes
    (λ tells. (writes.answer tells).1))
    (length values) 0 old new (omega arith) free puts (row_none at values (device_at cells reads faults parts old)))
