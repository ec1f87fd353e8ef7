-- The licence of what a step names: it stands in a place of its rule, and the rule is broken there.
use Rattle.std.proofs.Common.{◌≡◌, ◌<◌, ◌+◌, ◌∙◌, ◌⊎◌, ⊎_elim, inl, inr, ℕ, List, Option, Some, None, refl, ap, sym, subst, arith}
use Rattle.cell_types.specs.Image.{Image}
use Rattle.cell_types.specs.Layout.{Layout, LiesIn, Root, pool_at}
use Rattle.cell_types.specs.Records.{IsRecordCell}
use Rattle.cell_types.specs.declared.record_cell.RecordCell.TheVariants.{Bucket, Child}
use Rattle.cell_types.specs.declared.refusal.Evidence.{Evidence}
use Rattle.volume_meaning.proofs.Holding.{some_is}
use Rattle.volume_meaning.specs.HashPaths.{nibble}
use Rattle.tamper_rules.specs.Rules.{Buckets, Children, IsOfPool, IsPlaceOf}
use Rattle.tamper_rules.specs.declared.numbers.TheConstants.{FAKE_BUCKET, LOST_CHILD}
use Rattle.hash_tree.specs.Levels.{AreBounds, IsLevelReached, IsNodeWithin, bucket_at, child_at, node_in, node_of}
use Rattle.hash_tree.specs.Licences.{IsTreeLicensed}
use Rattle.hash_tree.specs.Steps.{IsNoBucket, IsNoChild}
use Rattle.hash_tree.specs.declared.level.ChildCell.{ChildCell}
use Rattle.hash_tree.specs.declared.level.Level.{Level}

-- a cell of a node that is the root or lies within the bounds is one of the root or of the pool
node_place : (g : Layout) (edge off cell : ℕ) (led : Option ChildCell) → AreBounds g edge → IsNodeWithin g edge led
    → off < 32 → cell ≡ node_in g led + off → LiesIn g Root cell ⊎ IsOfPool g cell
node_place g edge off cell None bounds within less is =
    inl (record { exists = _; from = omega (arith, is); below = omega (arith, is, less) })
node_place g edge off cell (Some child) bounds within less is =
    inr (omega (arith, is, within.0), omega (arith, is, less, within.1, bounds.to))

-- and lies before the edge
node_before : (g : Layout) (edge off cell : ℕ) (led : Option ChildCell) → AreBounds g edge → IsNodeWithin g edge led
    → off < 32 → cell ≡ node_in g led + off → cell < edge
node_before g edge off cell None bounds within less is = omega (arith, is, less, bounds.from)
node_before g edge off cell (Some child) bounds within less is = omega (arith, is, less, within.1)

module _ (g : Layout) (edge : ℕ) (level : Level) (bounds : AreBounds g edge) (within : IsNodeWithin g edge level.led_by)
    (half : nibble level.digest level.number < 16) where
  pub bucket_place : (e : Evidence) → e.rule ≡ FAKE_BUCKET → e.cell ≡ bucket_at g level → IsPlaceOf g e.rule e.cell
  bucket_place e rule cell = (
    Buckets,
    rule,
    node_place g edge (nibble level.digest level.number) e.cell level.led_by bounds within (omega (arith, half)) cell,
  )

  pub child_place : (e : Evidence) → e.rule ≡ LOST_CHILD → e.cell ≡ child_at g level → IsPlaceOf g e.rule e.cell
  child_place e rule cell = (
    Children,
    rule,
    node_place g edge (16 + nibble level.digest level.number) e.cell level.led_by bounds within (omega (arith, half))
        (omega (arith, cell)),
  )

  pub bucket_before : bucket_at g level < edge
  bucket_before = node_before g edge (nibble level.digest level.number) (bucket_at g level) level.led_by bounds within
      (omega (arith, half)) refl

  pub child_before : child_at g level < edge
  child_before = node_before g edge (16 + nibble level.digest level.number) (child_at g level) level.led_by bounds
      within (omega (arith, half)) (omega arith)

  -- what is no bucket breaks its rule
  pub bucket_licensed : (first : Level) (cells : ℕ) (image : Image) (e : Evidence) → e.rule ≡ FAKE_BUCKET
      → e.cell ≡ bucket_at g level → IsNoBucket image (bucket_at g level) e.found
      → (IsLevelReached g image first → IsLevelReached g image level) → IsTreeLicensed g edge first cells image e
  bucket_licensed first cells image e rule cell bad reaches = record {
    stands = ap image cell ∙ bad.stands;
    broken = λ volume reached ends. record {
      layout = g;
      volume = volume;
      rule = Buckets;
      named = rule;
      place = node_place g edge (nibble level.digest level.number) e.cell level.led_by bounds within
          (omega (arith, half)) cell;
      written = record { found = e.found; stands = ap image cell ∙ bad.stands };
      not_met = λ met.
          let true_one = met level.number (node_of g level) (nibble level.digest level.number) (reaches reached) half
          cell in
          let same : true_one.bucket.cell ≡ e.found =
          some_is true_one.bucket.cell e.found (sym true_one.bucket.stands ∙ bad.stands) in
          bad.none true_one.slot true_one.fingerprint
          (subst (λ (c : List ℕ). IsRecordCell (Bucket true_one.slot true_one.fingerprint) (bucket_at g level) c) same
          true_one.bucket.is);
    };
  }

  -- what is no child cell does, and so does one that leads out of the bounds, where these end at an edge
  pub child_licensed : (first : Level) (cells : ℕ) (image : Image) (e : Evidence) → e.rule ≡ LOST_CHILD
      → e.cell ≡ child_at g level → IsNoChild image (pool_at g) edge (child_at g level) e.found
      → (IsLevelReached g image first → IsLevelReached g image level) → IsTreeLicensed g edge first cells image e
  child_licensed first cells image e rule cell bad reaches = record {
    stands = ap image cell ∙ bad.stands;
    broken = λ volume reached ends. record {
      layout = g;
      volume = volume;
      rule = Children;
      named = rule;
      place = node_place g edge (16 + nibble level.digest level.number) e.cell level.led_by bounds within
          (omega (arith, half)) (omega (arith, cell));
      written = record { found = e.found; stands = ap image cell ∙ bad.stands };
      not_met = λ met.
          let well = met level.number (node_of g level) (nibble level.digest level.number) (reaches reached) half
          cell in
          let same : well.child.cell ≡ e.found =
          some_is well.child.cell e.found (sym well.child.stands ∙ bad.stands) in
          let out = bad.none well.target
          (subst (λ (c : List ℕ). IsRecordCell (Child well.target) (child_at g level) c) same well.child.is) in
          ⊎_elim
          (λ early. omega (arith, early, well.from))
          (λ late. omega (arith, late, well.edge edge ends))
          out;
    };
  }
