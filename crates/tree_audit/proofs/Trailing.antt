-- Hash trails, from node to node.
use Rattle.std.proofs.Common.{◌≡◌, ◌≢◌, ◌<◌, ◌≤◌, ◌+◌, ◌↔◌, ⊎_elim, inl, inr, ℕ, List, sym, ◌∙◌, subst, arith}
use Rattle.sha2.specs.Sha256.{sha256}
use Rattle.cell_types.specs.Image.{Image}
use Rattle.cell_types.specs.Layout.{Layout, root_at, done_at}
use Rattle.cell_types.specs.declared.record_cell.RecordCell.TheVariants as records
use Rattle.volume_meaning.specs.Buckets.{IsOwnBucket}
use Rattle.volume_meaning.specs.declared.held_bucket.HeldBucket.{HeldBucket}
use Rattle.volume_meaning.specs.HashPaths.{HashTrail, LeadsDown, here, below, fingerprint_of, nibble}
use Rattle.volume_meaning.specs.Keeping.{sought_in}
use Rattle.volume_meaning.proofs.HashTrails.{one_hash_trail}
use Rattle.volume_meaning.specs.Documents.{Stands}
use Rattle.volume_meaning.specs.Volumes.{Holds, IsVolume}
use Rattle.volume_meaning.proofs.Holding.{one_record_holds}
use Rattle.volume_meaning.proofs.OneDocument.{one_document}
use Rattle.tamper_rules.specs.Rules.{PathRule}
use Rattle.document_store.proofs.Holding.{stands_held}
use Rattle.log_audit.proofs.Orders.{below_or_at}
use Rattle.log_audit.proofs.Families.{AreFine}
use Rattle.tree_audit.specs.ChildCells.{HasChildInPool}
use Rattle.tree_audit.specs.Paths.{HasRootTrail, IsOther}
use Rattle.tree_audit.proofs.Closing.{one_target}

buckets : (a b : ℕ) (f h : List ℕ) → records.Bucket a f ≡ records.Bucket b h → (a ≡ b) × (f ≡ h)
buckets a b f h e = (cc, cc)

-- Slot n has a hash trail from the root just where it has one from this node, and none where the levels are used up.
pub record IsReached (g : Layout) (image : Image) (id : List ℕ) (n level node : ℕ) : Type 0 where
  pub on : level < 64 → (HashTrail image (sought_in g.cells g id) n node level ↔ HasRootTrail g image id n)
  pub over : 64 ≤ level → HasRootTrail g image id n → ⊥
  pub inside : node + 32 ≤ g.cells

pub at_root : (g : Layout) (image : Image) (id : List ℕ) (n at : ℕ) → at ≡ root_at g → at + 32 ≤ g.cells → IsReached g image id n 0 at
at_root g image id n at is inside = record {
  on = λ _. subst (λ (m : ℕ). HashTrail image (sought_in g.cells g id) n m 0 ↔ HasRootTrail g image id n) (sym is) (λ h. h, λ h. h);
  over = λ past. absurd (omega (arith, past));
  inside = inside;
}

module _ {g : Layout} {image : Image} {id : List ℕ} {n level node : ℕ} (reached : IsReached g image id n level node) (low : level < 64) where
  -- no bucket stands there
  pub no_bucket : ((slot : ℕ) (fingerprint : List ℕ) → Holds image (node + nibble (sha256 id) level) (records.Bucket slot fingerprint) → ⊥)
      → HasRootTrail g image id n → ⊥
  no_bucket none trail = from ((reached.on low).1 trail)
    where
      from : HashTrail image (sought_in g.cells g id) n node level → ⊥
      from (here _ _ bucket) = none n (fingerprint_of (sha256 id)) bucket
      from (below _ _ target passed leads rest) = none passed.slot passed.fingerprint passed.bucket

  module _ (b : HeldBucket) (held : Holds image (node + nibble (sha256 id) level) (records.Bucket b.slot b.fingerprint)) where
    -- the bucket is the slot's own
    pub own_bucket : IsOwnBucket b n (sha256 id) → HasRootTrail g image id n
    own_bucket own = (reached.on low).0 (here node level
        (subst (λ (f : List ℕ). Holds image (node + nibble (sha256 id) level) (records.Bucket n f)) own.1
        (subst (λ (m : ℕ). Holds image (node + nibble (sha256 id) level) (records.Bucket m b.fingerprint)) own.0 held)))

    module _ (other : IsOwnBucket b n (sha256 id) → ⊥) where
      -- and where it is not, a hash trail passes it and goes on below
      goes_below : HasRootTrail g image id n → IsOther g image id b
          × ((target : ℕ) × LeadsDown image (sought_in g.cells g id) node level target
          × HashTrail image (sought_in g.cells g id) n target (level + 1))
      goes_below trail = from ((reached.on low).1 trail)
        where
          from : HashTrail image (sought_in g.cells g id) n node level → IsOther g image id b
              × ((target : ℕ) × LeadsDown image (sought_in g.cells g id) node level target
              × HashTrail image (sought_in g.cells g id) n target (level + 1))
          from (here _ _ bucket) =
              absurd (other (buckets b.slot n b.fingerprint (fingerprint_of (sha256 id)) (one_record_holds image _ _ _ held bucket)))
          from (below _ _ target passed leads rest) =
              let one = buckets passed.slot b.slot passed.fingerprint b.fingerprint (one_record_holds image _ _ _ passed.bucket held) in (
                ⊎_elim
                    (λ (differ : passed.fingerprint ≢ fingerprint_of (sha256 id)). inl (λ same. differ (one.1 ∙ same)))
                    (λ h. inr (h.0, h.1, subst (λ (m : ℕ). Stands g.cells image m h.0 h.1) one.0 h.2, h.3))
                    passed.other,
                (target, leads, rest),
              )

      pub not_passed : (IsOther g image id b → ⊥) → HasRootTrail g image id n → ⊥
      not_passed never trail = never (goes_below trail).0

      -- no child cell leads on
      pub no_child : ((target : ℕ) → HasChildInPool g image (node + 16 + nibble (sha256 id) level) target → ⊥) → HasRootTrail g image id n → ⊥
      no_child none trail = let h = (goes_below trail).1 in
          none h.0 (record { held = h.1.child; from = h.1.inside_from; to = h.1.inside_to })

      -- one level further down
      pub onward : IsOther g image id b → (target : ℕ) → HasChildInPool g image (node + 16 + nibble (sha256 id) level) target
          → IsReached g image id n (level + 1) target
      onward passes target leads = record {
        on = λ less. (
          λ rest. (reached.on low).0 (below node level target
              (record { slot = b.slot; fingerprint = b.fingerprint; bucket = held; other = passes })
              (record { levels = omega (arith, less); child = leads.held; inside_from = leads.from; inside_to = leads.to }) rest),
          λ trail. let h = (goes_below trail).1 in
              let taken : HasChildInPool g image (node + 16 + nibble (sha256 id) level) h.0 =
              record { held = h.1.child; from = h.1.inside_from; to = h.1.inside_to } in
              subst (λ (t : ℕ). HashTrail image (sought_in g.cells g id) n t (level + 1)) (one_target taken leads) h.2,
        );
        over = λ past trail. omega (arith, past, (goes_below trail).1.1.levels);
        inside = leads.to;
      }

-- a bucket of a slot that does not stand is not passed
pub unread_not_passed : (g : Layout) (image : Image) {id : List ℕ} (b : HeldBucket) → b.fingerprint ≡ fingerprint_of (sha256 id)
    → ((own body : List ℕ) → Stands g.cells image b.slot own body → ⊥) → IsOther g image id b → ⊥
unread_not_passed g image {id} b same none other = ⊎_elim
    (λ (differ : b.fingerprint ≢ fingerprint_of (sha256 id)). differ same)
    (λ h. none h.0 h.1 h.2)
    other

-- nor is one of a slot that stands with the identifier
pub same_not_passed : (g : Layout) (image : Image) {id : List ℕ} (b : HeldBucket) → b.fingerprint ≡ fingerprint_of (sha256 id)
    → (own body : List ℕ) → Stands g.cells image b.slot own body → own ≡ id → IsOther g image id b → ⊥
same_not_passed g image {id} b same own body stands is other = ⊎_elim
    (λ (differ : b.fingerprint ≢ fingerprint_of (sha256 id)). differ same)
    (λ h. h.3 ((one_document g.cells image b.slot h.0 h.1 own body h.2 stands).0 ∙ is))
    other

-- the documents of the slots below n have hash trails
pub record HaveTrails (g : Layout) (image : Image) (n : ℕ) : Type 0 where
  pub each : (m : ℕ) (id body : List ℕ) → m < n → Stands g.cells image m id body → HasRootTrail g image id m

pub no_trails : (g : Layout) (image : Image) → HaveTrails g image 0
no_trails g image = record { each = λ m id body less. absurd (omega (arith, less)) }

-- one slot more
pub one_trail : {g : Layout} {image : Image} {n : ℕ} → HaveTrails g image n
    → ((id body : List ℕ) → Stands g.cells image n id body → HasRootTrail g image id n) → HaveTrails g image (n + 1)
one_trail {g} {image} {n} have has = record {
  each = λ m id body less stands. ⊎_elim
      (λ (earlier : m < n). have.each m id body earlier stands)
      (λ (same : m ≡ n). subst (HasRootTrail g image id) (sym same)
      (has id body (subst (λ (k : ℕ). Stands g.cells image k id body) same stands)))
      (below_or_at m n less);
}

-- what rule 14 asks of slot n
abbrev pub IsFound : Layout → Image → ℕ → Type 0
IsFound g image n = (id body : List ℕ) → Stands g.cells image n id body → PathRule g image n id

-- of two documents with one identifier the later one has no hash trail
pub are_found : {g : Layout} {image : Image} {n : ℕ} → HaveTrails g image n → AreFine image done_at (IsFound g image) n
are_found {g} {image} {n} have k less written id body stands =
    let trail = have.each k id body less stands in
    record {
      path = trail;
      alone = λ m other lower there.
          let same : k ≡ m = one_hash_trail trail m body other stands there (have.each m id other (omega (arith, lower, less)) there) in
          omega (arith, same, lower);
    }

-- a slot that stands is one of the volume's
pub stands_slot : {g : Layout} {image : Image} {n : ℕ} {id body : List ℕ} → IsVolume g.cells image g → Stands g.cells image n id body → n < g.slots
stands_slot {g} {image} {n} {id} {body} volume stands = (stands_held g g.cells image n id body volume stands).done.commits.reserves.slot
