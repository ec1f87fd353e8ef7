-- Which buckets are true ones, and what all nodes ask.
use Rattle.std.proofs.Common.{◌≡◌, ◌<◌, ◌+◌, inl, inr, ℕ, List, sym, ◌∙◌, subst, ap, arith}
use Rattle.sha2.specs.Sha256.{sha256}
use Rattle.cell_types.specs.Image.{Image}
use Rattle.cell_types.specs.Layout.{Layout, IsLayout}
use Rattle.cell_types.specs.declared.record_cell.RecordCell.TheVariants as records
use Rattle.volume_meaning.specs.HashPaths.{fingerprint_of}
use Rattle.volume_meaning.specs.Nodes.{IsNode}
use Rattle.volume_meaning.specs.Documents.{Stands}
use Rattle.volume_meaning.specs.Volumes.{Holds}
use Rattle.volume_meaning.proofs.Holding.{one_record_holds}
use Rattle.volume_meaning.proofs.OneDocument.{one_document}
use Rattle.tamper_rules.specs.Rules.{Buckets, IsPlace, IsTrueBucket}
use Rattle.tree_audit.specs.Buckets.{AsksBucket}
use Rattle.tree_audit.specs.Documents.{HasDigest}
use Rattle.tree_audit.specs.Paths.{GoesBy}

buckets : (a b : ℕ) (f h : List ℕ) → records.Bucket a f ≡ records.Bucket b h → (a ≡ b) × (f ≡ h)
buckets a b f h e = (cc, cc)

module _ (g : Layout) (image : Image) (node x slot : ℕ) (fingerprint : List ℕ) (held : Holds image (node + x) (records.Bucket slot fingerprint)) where
  -- the slot of a true bucket is the one that it names
  pub same_slot : (t : IsTrueBucket g image node x) → (t.slot ≡ slot) × (t.fingerprint ≡ fingerprint)
  same_slot t = buckets t.slot slot t.fingerprint fingerprint
      (one_record_holds image (node + x) (records.Bucket t.slot t.fingerprint) (records.Bucket slot fingerprint) t.bucket held)

  module _ (digest : List ℕ) (d : HasDigest g image slot digest) where
    -- it has the fingerprint, and the path goes by it
    pub is_true : fingerprint ≡ fingerprint_of digest → GoesBy g image digest node x → IsTrueBucket g image node x
    is_true same by =
        let path = subst (λ (e : List ℕ). GoesBy g image e node x) d.is by in
        record {
          slot = slot;
          fingerprint = fingerprint;
          bucket = held;
          live = d.live;
          id = d.id;
          body = d.body;
          stands = d.stands;
          same = same ∙ ap fingerprint_of d.is;
          level = path.level;
          on_path = path.on_path;
          here = path.here;
        }

    -- one that is true has and does
    one_digest : (t : IsTrueBucket g image node x) → sha256 t.id ≡ digest
    one_digest t =
        let there = subst (λ (n : ℕ). Stands g.cells image n t.id t.body) (same_slot t).0 t.stands in
        ap sha256 (one_document g.cells image slot t.id t.body d.id d.body there d.stands).0 ∙ sym d.is

    pub true_fingerprint : IsTrueBucket g image node x → fingerprint ≡ fingerprint_of digest
    true_fingerprint t = sym (same_slot t).1 ∙ t.same ∙ ap fingerprint_of (one_digest t)

    pub true_path : IsTrueBucket g image node x → GoesBy g image digest node x
    true_path t = subst (λ (e : List ℕ). GoesBy g image e node x) (one_digest t)
        (record { level = t.level; on_path = t.on_path; here = t.here })

-- a bucket of a node lies in the root or in the pool
pub bucket_place : {g : Layout} {image : Image} {level node : ℕ} (x cell : ℕ) → IsLayout g → IsNode g image level node → x < 16 → cell ≡ node + x
    → IsPlace g Buckets cell
bucket_place x cell layout (IsNode.root level node first is) low at =
    inl (record { exists = tt; from = omega (arith, is, at); below = omega (arith, is, at, low) })
bucket_place x cell layout (IsNode.under level node v above y next rest few levels child from to) low at =
    inr (omega (arith, from, at), omega (arith, to, at, low))

-- a node asks nothing of the cells before it
pub asks_none_before : (g : Layout) (image : Image) (node cell : ℕ) → cell < node → AsksBucket g image node cell
asks_none_before g image node cell before x low at = absurd (omega (arith, at, before))
