-- Places that were put one after another over zeros, or left, or torn: what a row of writes makes of them, and what is
-- sure of the file.
use Rattle.std.specs.Prelude.{zero, suc, ◌≡◌, ◌<◌, ◌≤◌, ◌+◌, ◌*◌, ◌/◌, ◌%◌, ◌⊎◌, ℕ, List, length, replicate, Option, Some, None, Err, IfSome}
use Rattle.std.proofs.Common.{refl, ◌∙◌, ap, sym, subst, arith, inl, inr, ⊎_elim}
use Rattle.cell_types.specs.Bytes.{IsCell}
use Rattle.cell_types.specs.Image.{Extends, ChangesOnly}
use Rattle.worm_device.specs.Calls.{Called}
use Rattle.worm_device.specs.Counts.{Rose, IsStill}
use Rattle.worm_device.specs.Rows.{ChangesInRow, WritesRow}
use Rattle.worm_device.specs.declared.device.Failed.{Failed}
use Rattle.worm_device.proofs.Counting.{rose_or_still}
use Rattle.worm_device.proofs.Elapsing.{called_self, called_then}
use Rattle.worm_device.proofs.Images.{extends_self}
use Rattle.worm_device.proofs.Rows.{changes_more}
use Rattle.worm_device.specs.ReadBytes.{cell_bytes}
use Rattle.host_files.specs.Cells.{cell_in, image_of_bytes}
use Rattle.host_files.specs.Device.{device_at, now_in, SureStands}
use Rattle.host_files.specs.File.{HeldBytes, Told, PutsBytes, PutsPlaces, LeavesPlaces, part_at, patched}
use Rattle.host_files.specs.Proper.{within_image}
use Rattle.host_files.specs.Pages.{IsNowhere, Mirror}
use Rattle.host_files.specs.Rows.{AreRow}
use Rattle.host_files.specs.declared.pages.Page.{Page}
use Rattle.host_files.proofs.PageSets.{holds_patched}
use Rattle.host_files.proofs.Images.{put_extends, put_changes}
use Rattle.host_files.proofs.PlacesPut.{AreFree, free_next}
use Rattle.host_files.proofs.Standing.{mirror_left, stands_left}
use Rattle.host_files.proofs.Time.{called_same, called_step}

-- what became of one place
abbrev pub IsLeft : ℕ → ℕ → List ℕ → Type 0 → Option Told → Option Told → Type 0
IsLeft at place bytes Torn old mid =
    (mid ≡ old)
    ⊎ ((put : List ℕ) × (length put ≡ 16) × PutsBytes (16 * (at + place)) put old mid
    × ((put ≡ part_at (16 * place) bytes) ⊎ Torn))

-- places that were put are left
pub puts_left : (count place at : ℕ) (bytes : List ℕ) (Torn : Type 0) (old new : Option Told)
    → ((k : ℕ) → place ≤ k → k < place + count → length (part_at (16 * k) bytes) ≡ 16)
    → PutsPlaces count place at bytes old new → LeavesPlaces count place at bytes Torn old new
puts_left zero place at bytes Torn old new sixteen puts = puts
puts_left (suc count) place at bytes Torn old new sixteen puts = (
  puts.0,
  inr (part_at (16 * place) bytes, sixteen place (omega arith) (omega arith), puts.1, inl refl),
  puts_left count (place + 1) at bytes Torn puts.0 new
      (λ k from below. sixteen k (omega (arith, from)) (omega (arith, below))) puts.2,
)

-- what goes on with each place holds behind all of them
pub along_left : (P : ℕ → Option Told → Type 0) (cells at total : ℕ) (bytes : List ℕ) (Torn : Type 0)
    → at + total ≤ cells
    → ((place : ℕ) (old new : Option Told) → place < total → AreFree cells at place total old
    → IsLeft at place bytes Torn old new → P place old → P (place + 1) new)
    → (count place : ℕ) (old new : Option Told) → place + count ≡ total → AreFree cells at place total old
    → LeavesPlaces count place at bytes Torn old new → P place old → P total new
along_left P cells at total bytes Torn inside next zero place old new sum free left holds =
    subst (λ n. P n new) (let same : place ≡ total = omega (arith, sum) in same) (subst (P place) (sym left) holds)
along_left P cells at total bytes Torn inside next (suc count) place old new sum free left holds =
    let less : place < total = omega (arith, sum) in
    along_left P cells at total bytes Torn inside next count (place + 1) left.0 new (omega (arith, sum))
    (⊎_elim
    (λ (same : left.0 ≡ old). subst (AreFree cells at (place + 1) total) (sym same)
    (record { room = free.room; blank = λ k from below. free.blank k (omega (arith, from)) below }))
    (λ put. free_next cells at place total put.0 old left.0 put.1 (omega (arith, inside, less)) put.2 free)
    left.1)
    left.2 (next place old left.0 less free left.1 holds)

-- what is sure stands
pub stands_row : (cells at count : ℕ) (bytes : List ℕ) (Torn : Type 0) (old new : Option Told) → at + count ≤ cells
    → AreFree cells at 0 count old → LeavesPlaces count 0 at bytes Torn old new → SureStands cells old
    → SureStands cells new
stands_row cells at count bytes Torn old new inside free left stands =
    along_left (λ n told. SureStands cells told) cells at count bytes Torn inside
    (λ place told told' less here step first. ⊎_elim
    (λ (same : told' ≡ told). subst (SureStands cells) (sym same) first)
    (λ put. stands_left cells (at + place) put.0 told told' first (omega (arith, inside, less)) here.room put.1
    (here.blank place (omega arith) less) put.2)
    step)
    count 0 old new (omega arith) free left stands

-- and pages that do not hold the page of the row hold what they are told
pub mirror_row : (cells at count : ℕ) (bytes : List ℕ) (Torn : Type 0) (old new : Option Told) (pages : List Page)
    → at + count ≤ cells → at % 256 + count ≤ 256 → IsNowhere pages (at / 256) → AreFree cells at 0 count old
    → LeavesPlaces count 0 at bytes Torn old new → Mirror cells old pages → Mirror cells new pages
mirror_row cells at count bytes Torn old new pages inside low gone free left mirror =
    along_left (λ n told. Mirror cells told pages) cells at count bytes Torn inside
    (λ place told told' less here step first. ⊎_elim
    (λ (same : told' ≡ told). subst (λ (t : Option Told). Mirror cells t pages) (sym same) first)
    (λ put. mirror_left cells (at + place) put.0 told told' pages pages first (omega (arith, inside, less)) here.room put.2
    (λ held room holds frame page is. holds_patched cells (at + place) put.0 held page room put.1 (holds frame page is)
    (λ on.
    let same : (at + place) / 256 ≡ at / 256 = page_same at place low less in
    gone frame (page, is, on ∙ ap (λ (n : ℕ). Some n) same))))
    step)
    count 0 old new (omega arith) free left mirror
  where
    page_same : (at place : ℕ) → at % 256 + count ≤ 256 → place < count → (at + place) / 256 ≡ at / 256
    page_same at place low less = omega (arith, low, less)

-- one place, as far as every call keeps it
called_left : (cells reads faults parts at : ℕ) (put : List ℕ) (told told' : Option Told) → at < cells
    → ((t : Told) → told ≡ Some t → 16 * cells ≤ length t.now.bytes) → length put ≡ 16
    → IfSome told (λ t. replicate 16 0 ≡ cell_bytes t.now.bytes at) → PutsBytes (16 * at) put told told'
    → Called (device_at cells reads faults parts told) (device_at cells reads faults parts told')
called_left cells reads faults parts at put None None inside within sixteen blank step =
    called_same cells reads reads faults faults parts parts None (omega arith) (omega arith) (omega arith)
called_left cells reads faults parts at put None (Some new) inside within sixteen blank step = absurd step
called_left cells reads faults parts at put (Some old) None inside within sixteen blank step = absurd step
called_left cells reads faults parts at put (Some old) (Some new) inside within sixteen blank step =
    let room : 16 * at + 16 ≤ length old.now.bytes = omega (arith, within old refl, inside) in
    let free : image_of_bytes cells old.now.bytes at ≡ None = within_image cells at old.now.bytes inside
    ∙ ap cell_in (sym blank) in
    let bytes : new.now.bytes ≡ patched (16 * at) put old.now.bytes = ap (λ (h : HeldBytes). h.bytes) step.now in
    let sure : new.now.sure ≡ old.now.sure = ap (λ (h : HeldBytes). h.sure) step.now in
    called_step cells reads faults faults parts parts old new _ step
    (subst (λ b. Extends (image_of_bytes cells old.now.bytes) (image_of_bytes cells b)) (sym bytes)
    (put_extends cells at put old.now.bytes room sixteen free))
    (subst (λ b. Extends (image_of_bytes cells old.now.sure) (image_of_bytes cells b)) (sym sure)
    (extends_self (image_of_bytes cells old.now.sure)))
    (omega arith) (omega arith)

-- and what it changes, where all of it was put
changes_left : (cells at : ℕ) (value : List ℕ) (told told' : Option Told) → at < cells
    → ((t : Told) → told ≡ Some t → 16 * cells ≤ length t.now.bytes) → IsCell value
    → IfSome told (λ t. replicate 16 0 ≡ cell_bytes t.now.bytes at) → PutsBytes (16 * at) value told told'
    → ChangesOnly at value (now_in cells told).image (now_in cells told').image
changes_left cells at value None None inside within is blank step = λ cell. inl refl
changes_left cells at value None (Some new) inside within is blank step = absurd step
changes_left cells at value (Some old) None inside within is blank step = absurd step
changes_left cells at value (Some old) (Some new) inside within is blank step =
    let room : 16 * at + 16 ≤ length old.now.bytes = omega (arith, within old refl, inside) in
    let free : image_of_bytes cells old.now.bytes at ≡ None = within_image cells at old.now.bytes inside
    ∙ ap cell_in (sym blank) in
    let bytes : new.now.bytes ≡ patched (16 * at) value old.now.bytes = ap (λ (h : HeldBytes). h.bytes) step.now in
    subst (λ b. ChangesOnly at value (image_of_bytes cells old.now.bytes) (image_of_bytes cells b)) (sym bytes)
    (put_changes cells at value old.now.bytes inside room is free)

-- a row that failed, so far
record IsRowLeft (cells reads faults parts parts' at : ℕ) (values : List (List ℕ)) (old now : Option Told) : Type 0 where
  called : Called (device_at cells reads faults parts old) (device_at cells reads faults parts now)
  only : IsStill parts parts' → ChangesInRow at values (now_in cells old).image (now_in cells now).image

row_left_next : (cells reads faults parts parts' at place : ℕ) (values : List (List ℕ)) (bytes : List ℕ)
    (first told told' : Option Told) → at + length values ≤ cells → AreRow values bytes → place < length values
    → AreFree cells at place (length values) told → IsLeft at place bytes (Rose parts parts') told told'
    → IsRowLeft cells reads faults parts parts' at values first told
    → IsRowLeft cells reads faults parts parts' at values first told'
row_left_next cells reads faults parts parts' at place values bytes first told told' inside row less here step left = ⊎_elim
    (λ (same : told' ≡ told). subst (IsRowLeft cells reads faults parts parts' at values first) (sym same) left)
    (λ put.
    let called = called_left cells reads faults parts (at + place) put.0 told told' (omega (arith, inside, less))
    here.room put.1 (here.blank place (omega arith) less) put.2 in
    record {
      called = called_then left.called called;
      only = λ still. ⊎_elim
          (λ (all : put.0 ≡ part_at (16 * place) bytes).
          changes_more at values place (part_at (16 * place) bytes) (row.is place less) (now_in cells first).image
          (now_in cells told).image (now_in cells told').image left.called.image called.image (left.only still)
          (changes_left cells (at + place) (part_at (16 * place) bytes) told told' (omega (arith, inside, less)) here.room
          (row.cell place less) (here.blank place (omega arith) less)
          (subst (λ p. PutsBytes (16 * (at + place)) p told told') all put.2)))
          (λ rose. absurd (rose_or_still parts parts' rose still))
          put.3;
    })
    step

-- a row that failed
pub row_torn : (cells reads faults faults' parts parts' at : ℕ) (values : List (List ℕ)) (bytes : List ℕ)
    (old new : Option Told) (failed : Failed) → at + length values ≤ cells → AreRow values bytes
    → AreFree cells at 0 (length values) old
    → LeavesPlaces (length values) 0 at bytes (Rose parts parts') old new → parts ≤ parts' → Rose faults faults'
    → faults ≤ faults'
    → WritesRow at values (device_at cells reads faults parts old) (device_at cells reads faults' parts' new) (Err failed)
row_torn cells reads faults faults' parts parts' at values bytes old new failed inside row free left more rose later =
    let all = along_left (λ n told. IsRowLeft cells reads faults parts parts' at values old told) cells at (length values)
    bytes (Rose parts parts') inside
    (λ place told told' less here step first. row_left_next cells reads faults parts parts' at place values bytes old
    told told' inside row less here step first)
    (length values) 0 old new (omega arith) free left
    (record { called = called_self (device_at cells reads faults parts old); only = λ still cell. inl refl }) in
    record {
      called = called_then all.called
          (called_same cells reads reads faults faults' parts parts' new (omega arith) later more);
      only = all.only;
      answer = λ tells. tt;
      cause = rose;
      count = refl;
    }

-- a row that was not begun
pub row_unasked : (cells reads faults faults' parts at : ℕ) (values : List (List ℕ)) (told : Option Told)
    (failed : Failed) → faults ≤ faults' → Rose faults faults'
    → WritesRow at values (device_at cells reads faults parts told) (device_at cells reads faults' parts told) (Err failed)
row_unasked cells reads faults faults' parts at values told failed later rose = record {
  called = called_same cells reads reads faults faults' parts parts told (omega arith) later (omega arith);
  only = λ still cell. inl refl;
  answer = λ tells. tt;
  cause = rose;
  count = refl;
}
