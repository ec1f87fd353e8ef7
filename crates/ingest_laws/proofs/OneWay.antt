-- A node is reached in one way.
use Rattle.std.proofs.Common.{◌≡◌, ◌<◌, ◌+◌, ◌*◌, ◌/◌, ◌%◌, ⊎_elim, ℕ, List, refl, sym, ◌∙◌, subst, ap, arith, length, slice_index, ext_get_or}
use Rattle.cell_types.specs.Bytes.{AreBytes}
use Rattle.cell_types.specs.Image.{Image}
use Rattle.cell_types.specs.Layout.{Layout, IsLayout}
use Rattle.cell_types.specs.declared.record_cell.RecordCell.TheVariants.{Child, Bucket}
use Rattle.sha2.specs.Sha256.{sha256}
use Rattle.sha2.proofs.Facts256.{length-sha256}
use Rattle.volume_meaning.specs.Documents.{Stands}
use Rattle.tamper_rules.specs.Rules
use Rattle.tamper_rules.specs.Rules.{BucketRule, IsTrueBucket}
use Rattle.tamper_rules.specs.Settling.{IsSettled}
use Rattle.volume_meaning.specs.Volumes.{IsWritten, Holds}
use Rattle.tamper_rules.proofs.Settled.{some_horizon, some_edge}
use Rattle.ingest_laws.proofs.SettledShapes.{settled_rooted}
use Rattle.ingest_laws.proofs.TreeShapes.{one_level}
use Rattle.volume_meaning.proofs.Digests.{digest_is_bytes}
use Rattle.volume_meaning.specs.HashPaths.{nibble, fingerprint_of}
use Rattle.volume_meaning.specs.Nodes.{IsNode, IsOnPath}
use Rattle.volume_meaning.specs.Nodes
use Rattle.ingest_laws.specs.TreeShapes.{IsWellRooted}
use Rattle.tamper_rules.proofs.Writing.{same_or_not}

nibble_low : (d : List ℕ) → AreBytes d → (v : ℕ) → nibble d v < 16
nibble_low d bytes v = let b = bytes.each (v / 2) in grind (arith, b)

on_node : {g : Layout} {image : Image} {d : List ℕ} {v node : ℕ} → AreBytes d → IsOnPath g image d v node
    → IsNode g image v node
on_node bytes (Nodes.IsOnPath.root v node is at) = Nodes.IsNode.root v node is at
on_node {d = d} bytes (Nodes.IsOnPath.under v node u above is rest less child from to) =
    Nodes.IsNode.under v node u above (nibble d u) is (on_node bytes rest) (nibble_low d bytes u) less child from to

-- two ways to a node go by the same half bytes
pub same_way : {g : Layout} {image : Image} {to : ℕ} {d e : List ℕ} → IsWellRooted g image to → AreBytes d
    → AreBytes e → {v node : ℕ} → IsOnPath g image d v node
    → (k : ℕ) → k < v → (w other : ℕ) → w ≡ v → other ≡ node → IsOnPath g image e w other → nibble d k ≡ nibble e k
same_way r a b (Nodes.IsOnPath.root v node is at) k below w other same here way = absurd (omega arith)
same_way {g} {image} r a b (Nodes.IsOnPath.under v node u above is rest less child from to) k below w other same here
    (Nodes.IsOnPath.root _ _ is' at') = absurd (omega arith)
same_way {g} {image} {d = d} {e = e} r a b (Nodes.IsOnPath.under v node u above is rest less child from to) k below w
    other same here (Nodes.IsOnPath.under _ _ j behind is' rest' less' child' from' to') =
    let h = r.once u above (nibble d u) j behind (nibble e j) node (on_node a rest) (nibble_low d a u)
    (on_node b rest') (nibble_low e b j) child
    (subst (λ (t : ℕ). Holds image (behind + 16 + nibble e j) (Child t)) here child') in
    let x = nibble_low d a u in
    let y = nibble_low e b j in
    let there : above ≡ behind = ⊎_elim (λ s. s) (λ far. absurd
    (⊎_elim (λ low. omega arith) (λ high. omega arith) far))
    (r.apart u above j behind (on_node a rest) (on_node b rest')) in
    let level : j ≡ u = omega arith in
    ⊎_elim
    (λ last.
    let equal : nibble d u ≡ nibble e j = omega arith in
    ap (λ (i : ℕ). nibble d i) last ∙ equal ∙ ap (λ (i : ℕ). nibble e i) (level ∙ sym last))
    (λ other. same_way r a b rest k (lower k u v is below other) j behind level (sym there) rest')
    (same_or_not k u)
  where
    lower : (k u v : ℕ) → v ≡ u + 1 → k < v → (k ≡ u → ⊥) → k < u
    lower k u v is below other = omega arith

half_bytes : (d : List ℕ) (i : ℕ) → slice_index d i ≡ 16 * nibble d (2 * i) + nibble d (2 * i + 1)
half_bytes d i =
    let a : 2 * i / 2 ≡ i = omega arith in
    let b : (2 * i + 1) / 2 ≡ i = omega arith in
    let c : 2 * i % 2 ≡ 0 = omega arith in
    let e : (2 * i + 1) % 2 ≡ 1 = omega arith in
    grind (arith, a, b, c, e)

-- digests with the same half bytes are the same
pub same_digest : (d e : List ℕ) → length d ≡ 32 → length e ≡ 32
    → ((k : ℕ) → k < 64 → nibble d k ≡ nibble e k) → d ≡ e
same_digest d e long also same = ext_get_or 0 d e (long ∙ sym also) (λ i below.
    let h = same (2 * i) (omega (arith, long, below)) in
    let l = same (2 * i + 1) (omega (arith, long, below)) in
    half_bytes d i ∙ ap (λ (n : ℕ). 16 * n + nibble d (2 * i + 1)) h ∙ ap (λ (n : ℕ). 16 * nibble e (2 * i) + n) l
    ∙ sym (half_bytes e i))

pub last_bucket : (g : Layout) (image : Image) (id : List ℕ) (node : ℕ) → IsLayout g → IsSettled g image
    → IsOnPath g image (sha256 id) 63 node → IsWritten image (node + nibble (sha256 id) 63)
    → (slot : ℕ) × (other : List ℕ) × (body : List ℕ) × Holds image (node + nibble (sha256 id) 63)
    (Bucket slot (fingerprint_of (sha256 other)))
    × Stands g.cells image slot other body × (sha256 other ≡ sha256 id)
last_bucket g image id node layout s way w =
    let bytes = digest_is_bytes in
    let u = some_horizon g image s in
    let at = some_edge g image s u.0 u.1 in
    let rooted : IsWellRooted g image at.0 = settled_rooted layout s at.1 in
    let n = on_node (bytes id) way in
    let r : BucketRule g image (node + nibble (sha256 id) 63) = s.met Rules.Buckets (node + nibble (sha256 id) 63) w in
    let t : IsTrueBucket g image node (nibble (sha256 id) 63) =
    r 63 node (nibble (sha256 id) 63) n (nibble_low (sha256 id) (bytes id) 63) refl in
    let level : t.level ≡ 63 = one_level rooted (on_node (bytes t.id) t.on_path) 63 n in
    let bucket : Holds image (node + nibble (sha256 id) 63) (Bucket t.slot (fingerprint_of (sha256 t.id))) =
    subst (λ (f : List ℕ). Holds image (node + nibble (sha256 id) 63) (Bucket t.slot f)) t.same t.bucket in (
      t.slot,
      t.id,
      t.body,
      bucket,
      t.stands,
      same_digest (sha256 t.id) (sha256 id) (length-sha256 t.id) (length-sha256 id) (λ k below. ⊎_elim
          (λ last. ap (λ (i : ℕ). nibble (sha256 t.id) i) (last ∙ sym level) ∙ sym t.here
          ∙ ap (λ (i : ℕ). nibble (sha256 id) i) (sym last))
          (λ other. sym (same_way rooted (bytes id) (bytes t.id) way k
          (lower k below other) t.level node level refl t.on_path))
          (same_or_not k 63)),
    )
  where
    lower : (k : ℕ) → k < 64 → (k ≡ 63 → ⊥) → k < 63
    lower k below other = omega arith
