-- A row that the file was asked for, all of it blank, and then written at once.
use Rattle.std.specs.Prelude.{◌≡◌, ◌<◌, ◌≤◌, ◌+◌, ◌-◌, ◌*◌, ◌/◌, ◌%◌, ℕ, List, length, take, drop, replicate, Option, Some, None, Result, Ok, Err, IfSome}
use Rattle.std.proofs.Common.{◌∙◌, ap, sym, subst, arith}
use Rattle.std.proofs.lemmas.List.{drop-drop, drop-take, take-take, drop-replicate, take-replicate}
use Rattle.cell_types.specs.Bytes.{IsCell}
use Rattle.worm_device.specs.Counts.{Rose}
use Rattle.worm_device.specs.Rows.{WritesRow}
use Rattle.worm_device.specs.declared.device.Failed.{Failed}
use Rattle.worm_device.specs.State.{DeviceState}
use Rattle.worm_device.specs.declared.device.RowWritten.{RowWritten}
use Rattle.worm_device.specs.declared.device.RowWritten.TheVariants.{Whole}
use Rattle.worm_device.specs.ReadBytes.{cell_bytes}
use Rattle.host_files.specs.Device.{device_at, device_over, SureStands}
use Rattle.host_files.specs.File.{FileState, IsFile, Told, ReadsAt, PutsPlaces, LeavesPlaces, WritesPlaces}
use Rattle.host_files.specs.Pages.{IsNowhere, Mirror}
use Rattle.host_files.specs.Rows.{AreRow}
use Rattle.host_files.specs.declared.pages.Page.{Page}
use Rattle.host_files.proofs.PlacesPut.{AreFree, row_of_places}
use Rattle.host_files.proofs.PlacesLeft.{mirror_row, puts_left, row_torn, row_unasked, stands_row}

-- a cell of the first bytes is that of all
pub cell_taken : (n k : ℕ) (bytes : List ℕ) → k < n → cell_bytes (take (16 * n) bytes) k ≡ cell_bytes bytes k
cell_taken n k bytes less =
    let most : 16 * k + 16 ≤ 16 * n = omega (arith, less) in
    sym (drop-take (16 * k) 16 (take (16 * n) bytes))
    ∙ ap (drop (16 * k)) (taken (16 * k + 16) (16 * n) bytes most)
    ∙ drop-take (16 * k) 16 bytes
  where
    taken : (a b : ℕ) (xs : List ℕ) → a ≤ b → take a (take b xs) ≡ take a xs
    taken a b xs le = take-take a b xs le

-- so the row stands there, too
pub row_taken : (values : List (List ℕ)) (bytes : List ℕ) → AreRow values bytes
    → AreRow values (take (16 * length values) bytes)
row_taken values bytes row = record {
  is = λ k less. row.is k less ∙ ap (λ (b : List ℕ). Some b) (sym (cell_taken (length values) k bytes less));
  cell = λ k less. subst IsCell (sym (cell_taken (length values) k bytes less)) (row.cell k less);
}

-- each place of zeros is zeros
blank_place : (n at k : ℕ) (into : List ℕ) (told : Option Told) → k < n → length into ≡ 16 * n
    → into ≡ replicate (length into) 0
    → IfSome told (λ t. into ≡ take (length into) (drop (16 * at) t.now.bytes))
    → IfSome told (λ t. replicate 16 0 ≡ cell_bytes t.now.bytes (at + k))
blank_place n at k into None less long zeros given = tt
blank_place n at k into (Some t) less long zeros given =
    let rest : List ℕ = drop (16 * at) t.now.bytes in
    sym (ap (take 16) (ap (drop (16 * k)) (zeros ∙ ap (λ m. replicate m 0) long) ∙ drop-replicate (16 * k) (16 * n) 0)
    ∙ take-replicate 16 (16 * n - 16 * k) 0 (omega (arith, less)))
    ∙ ap (λ (b : List ℕ). cell_bytes b k) (given ∙ ap (λ m. take m rest) long)
    ∙ cell_taken n k rest less
    ∙ ap (take 16) (drop-drop (16 * k) (16 * at) t.now.bytes
    ∙ ap (λ m. drop m t.now.bytes) (let same : 16 * at + 16 * k ≡ 16 * (at + k) = omega arith in same))

count : (bytes : List ℕ) (n : ℕ) → length bytes ≡ 16 * n → length bytes / 16 ≡ n
count bytes n long = omega (arith, long)

place : (at : ℕ) → 16 * at / 16 ≡ at
place at = omega arith

-- The file was asked for the cells of a row, and they were blank.
pub record AskedRow (cells at : ℕ) (values : List (List ℕ)) (into : List ℕ) (old mid : FileState) : Type 0 where
  pub inside : at + length values ≤ cells
  pub room : 16 * cells ≤ old.size
  pub file : IsFile old
  pub long : length into ≡ 16 * length values
  pub zeros : into ≡ replicate (length into) 0
  pub asks : ReadsAt (16 * at) into old mid (Ok tt)

-- what the code has shown where it writes
pub asked_row : {cells at n : ℕ} {values : List (List ℕ)} {into : List ℕ} {old mid : FileState} → n ≡ at
    → at + length values ≤ cells → 16 * cells ≤ old.size → IsFile old → length into ≡ 16 * length values
    → into ≡ replicate (length into) 0 → ReadsAt (16 * n) into old mid (Ok tt) → AskedRow cells at values into old mid
asked_row {into = into} {old = old} {mid = mid} same inside room file long zeros asks = record {
  inside = inside;
  room = room;
  file = file;
  long = long;
  zeros = zeros;
  asks = subst (λ n. ReadsAt (16 * n) into old mid (Ok tt)) same asks;
}

module _ {cells at : ℕ} {values : List (List ℕ)} {into : List ℕ} {old mid : FileState}
    (s : AskedRow cells at values into old mid) where
  free : AreFree cells at 0 (length values) old.told
  free = record {
    room = λ t is. omega (arith, s.file.size t is, s.room);
    blank = λ k from less. blank_place (length values) at k into old.told less s.long s.zeros s.asks.answer;
  }

  module _ (bytes : List ℕ) (row : AreRow values bytes) (long : length bytes ≡ 16 * length values)
      {new : FileState} where
    -- the write answered
    pub row_done : (reads : ℕ) (u : Unit {0}) → WritesPlaces (16 * at) bytes mid new (Ok u)
        → WritesRow at values (device_over cells reads old) (device_over cells reads new) (Ok Whole)
    row_done reads u w =
        subst (λ f. WritesRow at values (device_over cells reads old) (device_at cells reads f new.parts new.told) (Ok Whole))
        (sym (w.cause ∙ s.asks.cause))
        (subst (λ p. WritesRow at values (device_over cells reads old) (device_at cells reads old.faults p new.told) (Ok Whole))
        (sym (w.parts ∙ s.asks.parts))
        (row_of_places cells reads old.faults old.parts at values bytes old.told new.told s.inside row free
        (subst (λ n. PutsPlaces n 0 at bytes old.told new.told) (count bytes (length values) long)
        (subst (λ c. PutsPlaces (length bytes / 16) 0 c bytes old.told new.told) (place at)
        (subst (λ t. PutsPlaces (length bytes / 16) 0 (16 * at / 16) bytes t new.told) s.asks.told w.left)))))

    -- what was left, whether it answered or not
    left_of : (result : Result (Unit {0}) Failed) → WritesPlaces (16 * at) bytes mid new result
        → LeavesPlaces (length values) 0 at bytes (Rose old.parts new.parts) old.told new.told
    left_of (Ok u) w = puts_left (length values) 0 at bytes (Rose old.parts new.parts) old.told new.told
        (λ k from below. (row.cell k (omega (arith, below))).sixteen)
        (subst (λ n. PutsPlaces n 0 at bytes old.told new.told) (count bytes (length values) long)
        (subst (λ c. PutsPlaces (length bytes / 16) 0 c bytes old.told new.told) (place at)
        (subst (λ t. PutsPlaces (length bytes / 16) 0 (16 * at / 16) bytes t new.told) s.asks.told w.left)))
    left_of (Err f) w =
        subst (λ p. LeavesPlaces (length values) 0 at bytes (Rose p new.parts) old.told new.told) s.asks.parts
        (subst (λ n. LeavesPlaces n 0 at bytes (Rose mid.parts new.parts) old.told new.told)
        (count bytes (length values) long)
        (subst (λ c. LeavesPlaces (length bytes / 16) 0 c bytes (Rose mid.parts new.parts) old.told new.told) (place at)
        (subst (λ t. LeavesPlaces (length bytes / 16) 0 (16 * at / 16) bytes (Rose mid.parts new.parts) t new.told)
        s.asks.told w.left)))

    -- it failed
    pub row_failed : (reads : ℕ) (f : Failed) → WritesPlaces (16 * at) bytes mid new (Err f)
        → WritesRow at values (device_over cells reads old) (device_over cells reads new) (Err f)
    row_failed reads f w = row_torn cells reads old.faults new.faults old.parts new.parts at values bytes old.told new.told
        f s.inside row free (left_of (Err f) w) (omega (arith, s.asks.parts, w.parts))
        (subst (λ n. Rose n new.faults) s.asks.cause w.cause) (omega (arith, s.asks.cause, w.later))

    -- and what is sure stands
    pub stands_after : (result : Result (Unit {0}) Failed) → WritesPlaces (16 * at) bytes mid new result
        → SureStands cells old.told → SureStands cells new.told
    stands_after result w stands = stands_row cells at (length values) bytes (Rose old.parts new.parts) old.told new.told
        s.inside free (left_of result w) stands

    -- and the pages hold it
    pub mirror_after : (pages : List Page) (result : Result (Unit {0}) Failed) → WritesPlaces (16 * at) bytes mid new result
        → at % 256 + length values ≤ 256 → IsNowhere pages (at / 256) → Mirror cells old.told pages
        → Mirror cells new.told pages
    mirror_after pages result w low gone mirror = mirror_row cells at (length values) bytes (Rose old.parts new.parts)
        old.told new.told pages s.inside low gone free (left_of result w) mirror

-- the file was not read
pub row_unread : (cells reads at : ℕ) (values : List (List ℕ)) (into : List ℕ) (from : ℕ) (old new : FileState)
    (f : Failed) → ReadsAt from into old new (Err f)
    → WritesRow at values (device_over cells reads old) (device_over cells reads new) (Err f)
row_unread cells reads at values into from old new f asks =
    subst (λ t. WritesRow at values (device_over cells reads old) (device_at cells reads new.faults new.parts t) (Err f))
    (sym asks.told)
    (subst (λ p. WritesRow at values (device_over cells reads old) (device_at cells reads new.faults p old.told) (Err f))
    (sym asks.parts)
    (row_unasked cells reads old.faults new.faults old.parts at values old.told f asks.later asks.cause))

-- it was read, and then written
pub row_behind : (cells reads at : ℕ) (values : List (List ℕ)) (into : List ℕ) (from : ℕ) (old mid : FileState)
    (new : DeviceState) (result : Result RowWritten Failed) → ReadsAt from into old mid (Ok tt)
    → WritesRow at values (device_over cells reads mid) new result
    → WritesRow at values (device_over cells reads old) new result
row_behind cells reads at values into from old mid new result asks w =
    subst (λ t. WritesRow at values (device_at cells reads old.faults old.parts t) new result) asks.told
    (subst (λ p. WritesRow at values (device_at cells reads old.faults p mid.told) new result) asks.parts
    (subst (λ f. WritesRow at values (device_at cells reads f mid.parts mid.told) new result) asks.cause w))
