-- A look at a level's bucket in which no candidate is left, and then at the child cell under it.
use Rattle.std.proofs.Common.{◌≡◌, ◌≢◌, ◌<◌, ◌+◌, ◌∙◌, inr, ℕ, false, Option, Some, None, Result, Ok, Err, sym, subst, arith}
use Rattle.std.specs.Prelude.{IsTrue}
use Rattle.cell_types.specs.Layout.{Layout, pool_at}
use Rattle.cell_types.specs.declared.refusal.Fault.{Fault}
use Rattle.cell_types.specs.declared.refusal.Fault.TheVariants.{Tampered, Failed}
use Rattle.volume_meaning.proofs.Extending.{holds_on}
use Rattle.volume_meaning.specs.HashPaths.{nibble}
use Rattle.worm_device.specs.Views.{ViewState}
use Rattle.worm_device.proofs.Counting.{rose_from}
use Rattle.worm_device.proofs.Resting.{viewed_then}
use Rattle.hash_tree.specs.Levels.{bucket_at, child_at, node_of}
use Rattle.hash_tree.specs.Looking.{IsCandidateBucket, LooksAtNode, ReadsBucket, ReadsChild}
use Rattle.hash_tree.specs.Steps.{HasNoneLeft}
use Rattle.hash_tree.specs.declared.level.ChildCell.{ChildCell}
use Rattle.hash_tree.specs.declared.level.Level.{Level}
use Rattle.volume_meaning.specs.declared.held_bucket.HeldBucket.{HeldBucket}
use Rattle.hash_tree.specs.declared.looks.Here.TheVariants.{Ends, Leads}

-- the numbers of the two cells
pub half_byte : (g : Layout) (level : Level) {half : ℕ} → half ≡ nibble level.digest level.number → half < 16
    → nibble level.digest level.number < 16
half_byte g level same less = omega (arith, same, less)

pub bucket_is : (g : Layout) (level : Level) {node x half : ℕ} → node ≡ node_of g level → x ≡ half
    → half ≡ nibble level.digest level.number → node + x ≡ bucket_at g level
bucket_is g level node x half = omega (arith, node, x, half)

pub child_is : (g : Layout) (level : Level) {node x half : ℕ} → node ≡ node_of g level → x ≡ half
    → half ≡ nibble level.digest level.number → node + 16 + x ≡ child_at g level
child_is g level node x half = omega (arith, node, x, half)

-- what is read at a number is read at the same number
pub bucket_read : {at there : ℕ} {old new : ViewState} {result : Result (Option HeldBucket) Fault} → at ≡ there
    → ReadsBucket at old new result → ReadsBucket there old new result
bucket_read {at} {there} {old} {new} {result} is read = subst (λ (n : ℕ). ReadsBucket n old new result) is read

pub child_read : {at there pool start edge : ℕ} {old new : ViewState} {result : Result (Option ChildCell) Fault}
    → at ≡ there → pool ≡ start → ReadsChild at pool edge old new result → ReadsChild there start edge old new result
child_read {at} {there} {pool} {start} {edge} {old} {new} {result} is begins read =
    subst (λ (p : ℕ). ReadsChild there p edge old new result) begins
    (subst (λ (n : ℕ). ReadsChild n pool edge old new result) is read)

module _ (g : Layout) (edge : ℕ) (level : Level) (held : HeldBucket) (old mid new : ViewState)
    (number : level.number < 64) (above_last : level.number ≢ 63) (half : nibble level.digest level.number < 16)
    (bucket : ReadsBucket (bucket_at g level) old mid (Ok (Some held))) (other : IsCandidateBucket level held false) where
  -- the bucket, after the second read
  none_left : {result : Result (Option ChildCell) Fault} → ReadsChild (child_at g level) (pool_at g) edge mid new result
      → IsTrue old.base.tells
      → HasNoneLeft g new.image level
  none_left read tells = record {
    slot = held.slot;
    fingerprint = held.fingerprint;
    bucket = holds_on read.viewed.image (bucket.ends.1 tells);
    other = other;
  }

  told : IsTrue old.base.tells → IsTrue mid.base.tells
  told tells = subst IsTrue (sym bucket.viewed.called.tells) tells

  -- the child cell leads on
  pub leads_on : (child : ChildCell) → ReadsChild (child_at g level) (pool_at g) edge mid new (Ok (Some child))
      → LooksAtNode g edge level old new (Ok (Leads child))
  leads_on child read = record {
    viewed = viewed_then bucket.viewed read.viewed;
    reads = omega (arith, bucket.reads, read.reads);
    half_byte = half;
    ends = (
      (omega (arith, number, above_last), read.ends.0),
      read.ends.1 ∙ bucket.ends.0,
      λ tells. (none_left read tells, read.ends.2 (told tells)),
    );
  }

  -- it is blank
  pub ends_below : (at child : ℕ) → at ≡ bucket_at g level → child ≡ child_at g level
      → ReadsChild (child_at g level) (pool_at g) edge mid new (Ok None)
      → LooksAtNode g edge level old new (Ok (Ends (record { bucket = at; child = Some child })))
  ends_below at child is under read = record {
    viewed = viewed_then bucket.viewed read.viewed;
    reads = omega (arith, bucket.reads, read.reads);
    half_byte = half;
    ends = (
      (is, under, omega (arith, number, above_last)),
      read.ends.0 ∙ bucket.ends.0,
      λ tells. (none_left read tells, read.ends.1 (told tells)),
    );
  }

  -- it can't be read, or is none
  pub fails_below : (fault : Fault) → ReadsChild (child_at g level) (pool_at g) edge mid new (Err fault)
      → LooksAtNode g edge level old new (Err fault)
  fails_below Failed read = record {
    viewed = viewed_then bucket.viewed read.viewed;
    reads = omega (arith, bucket.reads, read.reads);
    half_byte = half;
    ends = rose_from _ _ _ bucket.ends.0 read.ends;
  }
  fails_below (Tampered e) read = record {
    viewed = viewed_then bucket.viewed read.viewed;
    reads = omega (arith, bucket.reads, read.reads);
    half_byte = half;
    ends = (
      read.ends.2 ∙ bucket.ends.0,
      inr (
        read.ends.0,
        read.ends.1,
        omega (arith, number, above_last),
        λ tells. (none_left read tells, read.ends.3 (told tells)),
      ),
    );
  }
