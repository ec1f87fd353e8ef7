-- The bytes of a row of cells, read one cell after another.
use Rattle.std.proofs.Common.{◌≡◌, ◌≢◌, ◌<◌, ◌≤◌, ◌+◌, ◌⊎◌, ℕ, List, length, Option, Some, None, Ok, refl, sym, ap, ◌∙◌, ⊎_elim, subst, arith, inl, inr}
use Rattle.std.specs.Prelude.{IsTrue, replicate}
use Rattle.cell_types.specs.Image.{Image, Extends, IsUnchanged}
use Rattle.worm_device.specs.Calls.{Called, Reads}
use Rattle.worm_device.specs.Counts.{IsStill}
use Rattle.worm_device.specs.ReadBytes.{AreReadBetween, IsReadBetween, bytes_of, cell_bytes}
use Rattle.worm_device.specs.State.{DeviceState}
use Rattle.worm_device.specs.Views.{ViewState, Viewed, ViewReads}
use Rattle.worm_device.proofs.Counting.{still_first, still_second}
use Rattle.worm_device.proofs.Elapsing.{called_then}
use Rattle.worm_device.proofs.Images.{extends_then, unchanged_then}
use Rattle.worm_device.proofs.ReadRows.{blank_before}
use Rattle.worm_device.proofs.Resting.{viewed_then}

-- the bytes of the first so many cells of a row are read
pub record HasReadBytes (count at : ℕ) (room bytes : List ℕ) (old now : DeviceState) : Type 0 where
  pub called : Called old now
  pub only : IsStill old.foreign_writes now.foreign_writes → IsUnchanged old.image now.image
  pub size : length bytes ≡ length room
  pub holds : IsTrue old.tells → AreReadBetween count at bytes old.image now.image
  pub faults : now.faults ≡ old.faults
  pub reads : now.reads ≤ old.reads + count

-- the same of a view
pub record HasViewedBytes (count at : ℕ) (room bytes : List ℕ) (old now : ViewState) : Type 0 where
  pub viewed : Viewed old now
  pub size : length bytes ≡ length room
  pub holds : IsTrue old.base.tells → AreReadBetween count at bytes old.image now.image
  pub faults : now.base.faults ≡ old.base.faults
  pub reads : now.base.reads ≤ old.base.reads + count

-- only the bytes of one cell of a row were put, and they are these
pub record PutsOne (place : ℕ) (put old new : List ℕ) : Type 0 where
  pub size : length new ≡ length old
  pub holds : cell_bytes new place ≡ put
  pub others : (other : ℕ) → other ≢ place → cell_bytes new other ≡ cell_bytes old other

-- what was read stays so while images grow
read_longer : (cell : ℕ) (bytes : List ℕ) (a b c : Image) → Extends b c → IsReadBetween a b cell bytes
    → IsReadBetween a c cell bytes
read_longer cell bytes a b c goes h = ⊎_elim (λ stands. inl (goes.keeps cell bytes stands)) (λ blank. inr blank) h

-- what stands now is read
read_now : (cell : ℕ) (held : Option (List ℕ)) (a c : Image) → Extends a c → held ≡ c cell
    → IsReadBetween a c cell (bytes_of held)
read_now cell None a c grows is = inr (blank_before a c cell grows (sym is), refl)
read_now cell (Some value) a c grows is = inl (sym is)

below_or_at : (k n : ℕ) → k < n + 1 → (k < n) ⊎ (k ≡ n)
below_or_at k n h = grind arith

-- the bytes of one cell more
read_more : (at n : ℕ) (bytes after : List ℕ) (held : Option (List ℕ)) (a b c : Image) → Extends a b → Extends b c
    → PutsOne n (bytes_of held) bytes after → AreReadBetween n at bytes a b → held ≡ c (at + n)
    → AreReadBetween (n + 1) at after a c
read_more at n bytes after held a b c grows goes puts before is place below = ⊎_elim
    (λ (less : place < n). subst (IsReadBetween a c (at + place))
    (sym (puts.others place (λ same. omega (arith, same, less))))
    (read_longer (at + place) (cell_bytes bytes place) a b c goes (before place less)))
    (λ (here : place ≡ n). subst (λ (k : ℕ). IsReadBetween a c (at + k) (cell_bytes after k)) (sym here)
    (subst (IsReadBetween a c (at + n)) (sym puts.holds)
    (read_now (at + n) held a c (extends_then grows goes) is)))
    (below_or_at place n below)

-- one cell more is read
pub bytes_read_more : (at n : ℕ) (room bytes after : List ℕ) (held : Option (List ℕ)) (old mid new : DeviceState)
    → HasReadBytes n at room bytes old mid → Reads (at + n) mid new (Ok held) → PutsOne n (bytes_of held) bytes after
    → HasReadBytes (n + 1) at room after old new
bytes_read_more at n room bytes after held old mid new first reads puts = record {
  called = called_then first.called reads.called;
  only = λ still. unchanged_then (first.only (still_first first.called.foreign_writes reads.called.foreign_writes still))
      (reads.only (still_second first.called.foreign_writes reads.called.foreign_writes still));
  size = puts.size ∙ first.size;
  holds = λ tells. read_more at n bytes after held old.image mid.image new.image first.called.image reads.called.image
      puts (first.holds tells) (reads.answer (subst IsTrue (sym first.called.tells) tells));
  faults = reads.cause ∙ first.faults;
  reads = omega (arith, first.reads, reads.count);
}

-- one cell more is read through a view
pub bytes_viewed_more : (at n : ℕ) (room bytes after : List ℕ) (held : Option (List ℕ)) (old mid new : ViewState)
    → HasViewedBytes n at room bytes old mid → ViewReads (at + n) mid new (Ok held)
    → PutsOne n (bytes_of held) bytes after → HasViewedBytes (n + 1) at room after old new
bytes_viewed_more at n room bytes after held old mid new first reads puts = record {
  viewed = viewed_then first.viewed reads.viewed;
  size = puts.size ∙ first.size;
  holds = λ tells. read_more at n bytes after held old.image mid.image new.image first.viewed.image reads.viewed.image
      puts (first.holds tells) (reads.answer (subst IsTrue (sym first.viewed.called.tells) tells));
  faults = reads.cause ∙ first.faults;
  reads = omega (arith, first.reads, reads.count);
}
