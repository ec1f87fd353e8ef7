-- The new child cells and buckets are the document's.
use Rattle.std.proofs.Common.{◌≡◌, ◌<◌, ◌≤◌, ◌+◌, ⊎_elim, ℕ, List, Option, Some, None, refl, sym, ◌∙◌, subst, arith}
use Rattle.sha2.specs.Sha256.{sha256}
use Rattle.cell_types.specs.Bytes.{AreBytes}
use Rattle.cell_types.specs.Image.{Image}
use Rattle.cell_types.specs.Layout.{Layout, root_at}
use Rattle.cell_types.specs.declared.record_cell.RecordCell.TheVariants.{Bucket, Child}
use Rattle.volume_meaning.specs.Volumes.{Holds, IsWritten}
use Rattle.volume_meaning.proofs.Extending.{holds_on}
use Rattle.volume_meaning.specs.HashPaths.{PassedTo, fingerprint_of, nibble}
use Rattle.volume_meaning.specs.Keeping.{sought_in}
use Rattle.volume_meaning.specs.Nodes.{IsNode, IsOnPath}
use Rattle.volume_meaning.specs.Postings.{ListedPosting}
use Rattle.tamper_rules.proofs.GoingOn.{on_path_on}
use Rattle.ingest_laws.specs.Ingesting.{Plan}
use Rattle.ingest_laws.proofs.ListShapes.{holds_back, written_back}
use Rattle.hash_tree.specs.Levels.{node_of}
use Rattle.hash_tree.specs.declared.level.Level.{Level}
use Rattle.hash_tree.specs.declared.path.Open.{Open}
use Rattle.hash_tree.proofs.InsertionPaths.{on_path}
use Rattle.hash_tree.specs.Readiness.{PassedDown}
use Rattle.plan_laws.proofs.BehindRow as row
use Rattle.plan_laws.specs.Laws.{IsPlannedIndex}
use Rattle.plan_laws.proofs.Behind.{between_blank, is_rooted, pool_before, stand}
use Rattle.plan_laws.proofs.NewImage.{new_image}
use Rattle.plan_laws.proofs.Rows.{extends_new}
use Rattle.plan_laws.proofs.Standing.{child_same, node_back, node_same}

-- its level's node is reached from the root
passed_to : (g : Layout) {image : Image} (id : List ℕ) (level : Level) (child : Option ℕ)
    → PassedDown g image (sought_in g.cells g id) level child
    → PassedTo image (sought_in g.cells g id) (root_at g) (node_of g level) level.number
passed_to g id level None passed = passed
passed_to g id level (Some child) (to, above) = to

module _ {g : Layout} {old laid : Image} {p : Plan} {rows : List ListedPosting} {level : Level} {place : Open} {to : ℕ}
    {planned : Image} (h : IsPlannedIndex g old laid p rows level place to planned) where
  -- a blank cell of a node was blank between postings and bucket
  node_blank : {v node : ℕ} (i : ℕ) → IsNode g laid v node → i < 32 → old (node + i) ≡ None
      → h.stands.between (node + i) ≡ None
  node_blank {v} {node} i is less none = ⊎_elim
      (λ was.
      let there = row.node_back (pool_before h) (stand h).tree h.stands.lists was in
      row.node_same (pool_before h) (stand h).tree h.stands.lists there less ∙ none)
      (λ next. between_blank h (node + i) none (omega (arith, next)))
      ((is_rooted h).nodes v node is)

  pub new_children : (v node x target : ℕ) → IsNode g (new_image h) v node → x < 16 → old (node + 16 + x) ≡ None
      → Holds (new_image h) (node + 16 + x) (Child target) → p.start ≤ target
  new_children v node x target is less none child =
      let there = node_back h is in
      let same : node + (16 + x) ≡ node + 16 + x = omega arith in
      let blank : h.stands.between (node + 16 + x) ≡ None =
      subst (λ (c : ℕ). h.stands.between c ≡ None) same
      (node_blank (16 + x) there (omega (arith, less)) (subst (λ (c : ℕ). old c ≡ None) (sym same) none)) in
      let next = (is_rooted h).new_children v node x target there less blank
      (holds_back (child_same h x there less) child) in
      omega (arith, next, h.stands.lists.more)

  -- the level's node is on the identifier's path
  level_on_path : IsOnPath g h.stands.between level.digest level.number (node_of g level)
  level_on_path =
      let bytes : AreBytes (sha256 p.id) = subst (λ (d : List ℕ). AreBytes d) h.digest h.ends.digest in
      let way = on_path bytes refl (omega arith) (passed_to g p.id level place.child h.passed) in
      on_path_on h.stands.lists.extends
      (subst (λ (d : List ℕ). IsOnPath g old d level.number (node_of g level)) (sym h.digest) way.0)

  pub new_buckets : (v node x : ℕ) → IsNode g (new_image h) v node → x < 16 → old (node + x) ≡ None
      → IsWritten (new_image h) (node + x)
      → Holds (new_image h) (node + x) (Bucket p.slot (fingerprint_of (sha256 p.id)))
      × IsOnPath g (new_image h) (sha256 p.id) v node × (x ≡ nibble (sha256 p.id) v)
  new_buckets v node x is less none written =
      let there = node_back h is in
      let new = (is_rooted h).new_buckets v node x there less (node_blank x there (omega (arith, less)) none)
      (written_back (node_same h x there (omega (arith, less))) written) in (
        holds_on (extends_new h)
            (subst (λ (d : List ℕ). Holds laid (node + x) (Bucket p.slot (fingerprint_of d))) h.digest new.holds),
        on_path_on (extends_new h)
            (subst (λ (d : List ℕ). IsOnPath g laid d v node) h.digest (new.on_path level_on_path)),
        subst (λ (d : List ℕ). x ≡ nibble d v) h.digest new.half_byte,
      )
