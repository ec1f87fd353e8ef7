-- The bucket of the identifier `a`, where slot 0 alone is taken and the root node has this bucket and no other.
use Rattle.std.proofs.Common.{◌≡◌, ◌<◌, ◌+◌, ℕ, List, true, refl, sym, ◌∙◌, subst, ap, arith, codes}
use Rattle.cell_types.specs.Image.{Image}
use Rattle.cell_types.specs.Layout.{Layout, root_at}
use Rattle.cell_types.specs.declared.record_cell.RecordCell.TheVariants.{Bucket}
use Rattle.volume_meaning.specs.Documents.{Stands}
use Rattle.volume_meaning.specs.HashPaths
use Rattle.volume_meaning.specs.HashPaths.{HashTrail, fingerprint_of, nibble}
use Rattle.volume_meaning.specs.Keeping.{sought_in}
use Rattle.volume_meaning.specs.Nodes.{root}
use Rattle.volume_meaning.specs.Volumes.{Holds, IsWritten}
use Rattle.tamper_rules.specs.Rules.{BucketRule, IsTrueBucket, PathRule}
use Rattle.small_volume.specs.Images.{image_with}
use Rattle.small_volume.specs.SmallVolume.{a_fingerprint}
use Rattle.small_volume.proofs.Digests.{sha256_of_a}
use Rattle.small_volume.proofs.Found.{root_only}
use Rattle.small_volume.proofs.OneSlot.{IsAlone, live_alone}
use Rattle.small_volume.proofs.Values.{has_no}

-- the bucket stands in the root node
abbrev pub HasBucket : Layout → Image → Type 0
HasBucket g image = Holds image (root_at g + 12) (Bucket 0 a_fingerprint)

-- it is a true one
true_bucket : {g : Layout} {image : Image} {start size bytes journal : ℕ} {body : List ℕ}
    → IsAlone g image start size bytes journal → Stands g.cells image 0 (codes "a") body → HasBucket g image
    → IsTrueBucket g image (root_at g) 12
true_bucket {g} {image} {start} {size} {bytes} {journal} {body} a stands bucket = record {
  slot = 0;
  fingerprint = a_fingerprint;
  bucket = bucket;
  live = live_alone a;
  id = codes "a";
  body = body;
  stands = stands;
  same = sym (ap fingerprint_of sha256_of_a);
  level = 0;
  on_path = root 0 (root_at g) refl refl;
  here = sym (ap (λ (d : List ℕ). nibble d 0) sha256_of_a);
}

-- rule 11: no other bucket is written
pub bucket_rule : (cells : List (ℕ × List ℕ)) {g : Layout} {start size bytes journal : ℕ} {body : List ℕ}
    → IsAlone g (image_with cells) start size bytes journal → Stands g.cells (image_with cells) 0 (codes "a") body
    → HasBucket g (image_with cells) → has_no 9 cells ≡ true
    → ((x : ℕ) → x < 16 → IsWritten (image_with cells) (root_at g + x) → x ≡ 12)
    → (cell : ℕ) → IsWritten (image_with cells) cell → BucketRule g (image_with cells) cell
bucket_rule cells {g} a stands bucket none only cell w = λ v node x o less at.
    let is = (root_only g cells none o).1 in
    let one : x ≡ 12 = only x less (subst (IsWritten (image_with cells)) (at ∙ ap (λ (k : ℕ). k + x) is) w) in
    subst (λ (k : ℕ). IsTrueBucket g (image_with cells) k x) (sym is)
    (subst (IsTrueBucket g (image_with cells) (root_at g)) (sym one) (true_bucket a stands bucket))

-- it is the first on the identifier's path
pub path : (g : Layout) (image : Image) → HasBucket g image
    → HashTrail image (sought_in g.cells g (codes "a")) 0 (root_at g) 0
path g image bucket =
    let HasBucketOf : List ℕ → Type 0 = λ d. Holds image (root_at g + nibble d 0) (Bucket 0 (fingerprint_of d)) in
    HashPaths.HashTrail.here (root_at g) 0 (subst HasBucketOf (sym sha256_of_a) bucket)

-- rule 14, of slot 0
pub path_rule : (g : Layout) (image : Image) → HasBucket g image → PathRule g image 0 (codes "a")
path_rule g image bucket = record { path = path g image bucket; alone = λ m other less t. absurd (omega (arith, less)) }
