-- A write of a device over a file, which asks and then writes.
use Rattle.std.specs.Prelude.{◌≡◌, ◌<◌, ◌≤◌, ◌+◌, ◌*◌, ℕ, List, length, replicate, Some, Ok, Err, IfSome, Option}
use Rattle.std.proofs.Common.{refl, ◌∙◌, ap, sym, subst, arith, inl, inr, ⊎_elim}
use Rattle.cell_types.specs.Bytes.{IsCell}
use Rattle.worm_device.specs.Calls.{Writes}
use Rattle.worm_device.specs.Counts.{Rose}
use Rattle.worm_device.specs.declared.device.Failed.{Failed}
use Rattle.worm_device.specs.declared.device.Written.TheVariants.{Done}
use Rattle.worm_device.specs.ReadBytes.{cell_bytes}
use Rattle.host_files.specs.Device.{device_over, SureStands}
use Rattle.host_files.specs.File.{FileState, IsFile, Told, PutsBytes, LeavesAtWrite, ReadsAt, WritesAt, part_at, patched}
use Rattle.host_files.specs.Pages.{PagesHold, Mirror}
use Rattle.host_files.specs.declared.pages.Page.{Page}
use Rattle.host_files.proofs.Images.{put_same}
use Rattle.host_files.proofs.Standing.{stands_left, mirror_left}
use Rattle.host_files.proofs.Writing.{sixteen_given, writes_left, writes_kept}

-- The file was asked for a cell of the device, and it was blank.
pub record Asked (cells at : ℕ) (into : List ℕ) (old mid : FileState) : Type 0 where
  pub inside : at < cells
  pub room : 16 * cells ≤ old.size
  pub file : IsFile old
  pub zeros : into ≡ replicate 16 0
  pub asks : ReadsAt (16 * at) into old mid (Ok tt)

-- what the code has shown where it writes
pub asked_at : {cells at n : ℕ} {into : List ℕ} {old mid : FileState} → n ≡ at → at < cells → 16 * cells ≤ old.size
    → IsFile old → into ≡ replicate 16 0 → ReadsAt (16 * n) into old mid (Ok tt) → Asked cells at into old mid
asked_at {into = into} {old = old} {mid = mid} same inside room file zeros asks = record {
  inside = inside;
  room = room;
  file = file;
  zeros = zeros;
  asks = subst (λ n. ReadsAt (16 * n) into old mid (Ok tt)) same asks;
}

-- there is room for it
within : {cells at : ℕ} {into : List ℕ} {old mid : FileState} → Asked cells at into old mid → (t : Told)
    → old.told ≡ Some t → 16 * cells ≤ length t.now.bytes
within {old = old} s t is = omega (arith, s.file.size t is, s.room)

-- it stood blank
blank : {cells at : ℕ} {into : List ℕ} {old mid : FileState} → Asked cells at into old mid
    → IfSome old.told (λ t. replicate 16 0 ≡ cell_bytes t.now.bytes at)
blank {at = at} {into = into} {old = old} s =
    subst (λ bytes. IfSome old.told (λ t. bytes ≡ cell_bytes t.now.bytes at)) s.zeros
    (sixteen_given (16 * at) into old.told (ap length s.zeros) s.asks.answer)

-- what was put was put over what was asked for
step : {cells at : ℕ} {into : List ℕ} {old mid : FileState}
    (s : Asked cells at into old mid) (put : List ℕ) (new : FileState) → PutsBytes (16 * at) put mid.told new.told
    → PutsBytes (16 * at) put old.told new.told
step {at = at} s put new puts = subst (λ t. PutsBytes (16 * at) put t new.told) s.asks.told puts

-- what is sure stands, where sixteen bytes were put
pub stands_put : {cells at : ℕ} {into : List ℕ} {old mid : FileState} → Asked cells at into old mid
    → (put : List ℕ) (new : FileState) → length put ≡ 16 → PutsBytes (16 * at) put mid.told new.told
    → SureStands cells old.told → SureStands cells new.told
stands_put {cells} {at} {old = old} s put new sixteen puts stands =
    stands_left cells at put old.told new.told stands s.inside (within s) sixteen (blank s) (step s put new puts)

-- and the pages hold what stands, where they were told
pub mirror_put : {cells at : ℕ} {into : List ℕ} {old mid : FileState} → Asked cells at into old mid
    → (put : List ℕ) (new : FileState) (pages pages' : List Page) → PutsBytes (16 * at) put mid.told new.told
    → Mirror cells old.told pages
    → ((bytes : List ℕ) → 16 * at + 16 ≤ length bytes → PagesHold cells bytes pages → PagesHold cells
    (patched (16 * at) put bytes) pages')
    → Mirror cells new.told pages'
mirror_put {cells} {at} {old = old} s put new pages pages' puts mirror holds =
    mirror_left cells at put old.told new.told pages pages' mirror s.inside (within s) (step s put new puts) holds

-- the same after a write that failed
pub stands_failed : {cells at : ℕ} {into : List ℕ} {old mid : FileState} → Asked cells at into old mid
    → (piece : List ℕ) (new : FileState) → LeavesAtWrite (16 * at) piece mid new → SureStands cells old.told
    → SureStands cells new.told
stands_failed {cells} s piece new leaves stands =
    ⊎_elim
    (λ same. subst (SureStands cells) (sym (same ∙ s.asks.told)) stands)
    (λ put. stands_put s put.0 new put.1 put.2 stands)
    leaves

pub mirror_failed : {cells at : ℕ} {into : List ℕ} {old mid : FileState} → Asked cells at into old mid
    → (piece : List ℕ) (new : FileState) (pages pages' : List Page) → LeavesAtWrite (16 * at) piece mid new
    → Mirror cells old.told pages → ((bytes : List ℕ) → PagesHold cells bytes pages → PagesHold cells bytes pages')
    → ((put bytes : List ℕ) → 16 * at + 16 ≤ length bytes → length put ≡ 16 → PagesHold cells bytes pages
    → PagesHold cells (patched (16 * at) put bytes) pages')
    → Mirror cells new.told pages'
mirror_failed {cells} s piece new pages pages' leaves mirror same put =
    ⊎_elim
    (λ kept. λ t is. same t.now.bytes (mirror t (sym (kept ∙ s.asks.told) ∙ is)))
    (λ left. mirror_put s left.0 new pages pages' left.2 mirror (λ bytes room held. put left.0 bytes room left.1
    held))
    leaves

-- the write answered
pub writes_done : {cells at : ℕ} {into : List ℕ} {old mid : FileState} → Asked cells at into old mid
    → (reads : ℕ) (value piece : List ℕ) (new : FileState) → IsCell value → piece ≡ value
    → WritesAt (16 * at) piece mid new (Ok tt)
    → Writes at value (device_over cells reads old) (device_over cells reads new) (Ok Done)
writes_done {cells} {at} {old = old} {mid = mid} s reads value piece new is same w =
    writes_left cells reads at old.faults new.faults old.parts new.parts value piece old.told new.told (Ok Done)
    s.inside (within s) (ap length same ∙ is.sixteen) is
    (blank s) (step s piece new w.left) (omega (arith, s.asks.cause, w.cause)) (omega (arith, s.asks.parts, w.parts))
    (w.cause ∙ s.asks.cause)
    (inl same) (refl, same)

-- it failed
pub writes_failed : {cells at : ℕ} {into : List ℕ} {old mid : FileState} → Asked cells at into old mid
    → (reads : ℕ) (value piece : List ℕ) (new : FileState) (failed : Failed) → IsCell value → piece ≡ value
    → WritesAt (16 * at) piece mid new (Err failed)
    → Writes at value (device_over cells reads old) (device_over cells reads new) (Err failed)
writes_failed {cells} {at} {old = old} {mid = mid} s reads value piece new failed is same w =
    let later : old.faults ≤ new.faults = omega (arith, s.asks.cause, w.later) in
    let more : old.parts ≤ new.parts = omega (arith, s.asks.parts, w.parts) in
    let cause : Rose old.faults new.faults = subst (λ n. Rose n new.faults) s.asks.cause w.cause in
    ⊎_elim
    (λ kept. writes_kept cells reads at value old new failed (kept ∙ s.asks.told) later cause more)
    (λ put.
    writes_left cells reads at old.faults new.faults old.parts new.parts value put.0 old.told new.told (Err failed)
    s.inside (within s) put.1 is
    (blank s) (step s put.0 new put.2) later more cause
    (⊎_elim (λ all. inl (all ∙ same)) (λ rose. inr (subst (λ n. Rose n new.parts) s.asks.parts rose)) put.3)
    tt)
    w.left

at_told : (told : Option Told) (P : Told → Type 0) (t : Told) → told ≡ Some t → IfSome told P → P t
at_told told P t is holds = rw is at holds

-- what was found is put onto its page, where it stands already
pub mirror_taken : (cells at : ℕ) (found : List ℕ) (old mid : FileState) (pages pages' : List Page) → at < cells
    → 16 * cells ≤ old.size → IsFile old → length found ≡ 16 → ReadsAt (16 * at) found old mid (Ok tt)
    → Mirror cells old.told pages
    → ((bytes : List ℕ) → 16 * at + 16 ≤ length bytes → PagesHold cells bytes pages → PagesHold cells
    (patched (16 * at) found bytes) pages')
    → Mirror cells mid.told pages'
mirror_taken cells at found old mid pages pages' inside room file sixteen asks mirror puts = λ t is.
    let is_old : old.told ≡ Some t = sym asks.told ∙ is in
    let given : found ≡ part_at (16 * at) t.now.bytes = at_told old.told _ t is_old
    (sixteen_given (16 * at) found old.told sixteen asks.answer) in
    let same : patched (16 * at) found t.now.bytes ≡ t.now.bytes = ap (λ p. patched (16 * at) p t.now.bytes) given
    ∙ put_same (16 * at) t.now.bytes in
    subst (λ b. PagesHold cells b pages') same (puts t.now.bytes (omega (arith, file.size t is_old, room, inside))
    (mirror t is_old))
