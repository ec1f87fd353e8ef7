-- A hash trail from one node on, over plain values.
use Rattle.std.proofs.Common.{◌≡◌, ◌<◌, ◌≤◌, ◌+◌, ◌⊎◌, ⊎_elim, inl, inr, ℕ, List, Bool, true, false, None, Some, Result, Ok, Err, refl, ap, sym, subst, arith, ◌∙◌}
use Rattle.std.specs.Prelude.{◌↔◌, IsTrue}
use Rattle.sha2.specs.Sha256.{sha256}
use Rattle.cell_types.specs.Image.{Image}
use Rattle.cell_types.specs.Layout.{Layout, pool_at}
use Rattle.cell_types.specs.declared.record_cell.RecordCell.TheVariants as records
use Rattle.volume_meaning.specs.Documents.{Stands}
use Rattle.volume_meaning.specs.Volumes.{Holds}
use Rattle.volume_meaning.proofs.Extending.{holds_on}
use Rattle.volume_meaning.proofs.Holding.{one_record_holds}
use Rattle.volume_meaning.specs.HashPaths.{HashTrail, IsPassed, LeadsDown, Sought, below, fingerprint_of, here, nibble}
use Rattle.volume_meaning.specs.Keeping.{sought_in}
use Rattle.volume_meaning.proofs.HashTrails.{hash_trail_on}
use Rattle.worm_device.specs.Views.{ViewState, Viewed}
use Rattle.worm_device.specs.declared.device.Failed.{Failed}
use Rattle.worm_device.proofs.Resting.{viewed_then}
use Rattle.jump_block.proofs.Counting as counts
use Rattle.kept_documents.specs.NodeCells.{AsksBucketCell, AsksChildCell}
use Rattle.kept_documents.specs.HashTrails.{AsksPassed, AsksPath, HasHashTrail, IsOtherBucket}
use Rattle.volume_meaning.specs.Buckets.{IsOwnBucket}
use Rattle.volume_meaning.specs.declared.held_bucket.HeldBucket.{HeldBucket}
use Rattle.kept_documents.proofs.PassedBuckets.{stands_later, volume_later}

no_yes : false ≡ true → ⊥
no_yes e = cc

buckets : (a b : ℕ) (f h : List ℕ) → records.Bucket a f ≡ records.Bucket b h → (a ≡ b) × (f ≡ h)
buckets a b f h e = (cc, cc)

children : (a b : ℕ) → records.Child a ≡ records.Child b → a ≡ b
children a b e = cc

-- a hash trail stays over a row of calls
pub hash_trail_later : (g : Layout) {old new : ViewState} {id : List ℕ} {n node level : ℕ} → Viewed old new
    → HasHashTrail g old id n node level → HasHashTrail g new id n node level
hash_trail_later g {old} {new} {id} {n} {node} {level} viewed trail =
    subst (λ (c : ℕ). HashTrail new.image (sought_in c g id) n node level) (sym viewed.cells)
    (hash_trail_on viewed.image trail)

module _ (g : Layout) (id digest : List ℕ) (n node level at : ℕ) (old mid : ViewState) (is : digest ≡ sha256 id)
    (at_is : at ≡ node + nibble digest level) where
  place_is : at ≡ node + nibble (sha256 id) level
  place_is = at_is ∙ ap (λ (d : List ℕ). node + nibble d level) is

  -- a hash trail begins in a bucket
  in_bucket : (image : Image) (cells : ℕ) → HashTrail image (sought_in cells g id) n node level
      → (slot : ℕ) × (fingerprint : List ℕ) × Holds image at (records.Bucket slot fingerprint)
  in_bucket image cells (here _ _ bucket) = (
    n,
    fingerprint_of (sha256 id),
    subst (λ (c : ℕ). Holds image c (records.Bucket n (fingerprint_of (sha256 id)))) (sym place_is) bucket,
  )
  in_bucket image cells (below _ _ target passed leads rest) = (
    passed.slot,
    passed.fingerprint,
    subst (λ (c : ℕ). Holds image c (records.Bucket passed.slot passed.fingerprint)) (sym place_is) passed.bucket,
  )

  -- the read of the bucket failed
  pub bucket_failed : AsksBucketCell at old mid (Err _) → AsksPath g id n node level old mid (Err _)
  bucket_failed read = record { viewed = read.viewed; ends = read.ends }

  -- no bucket stands there
  pub no_bucket : AsksBucketCell at old mid (Ok None) → AsksPath g id n node level old mid (Ok false)
  no_bucket read = record {
    viewed = read.viewed;
    ends = λ tells volume trail.
        let h = in_bucket old.image old.cells trail in
        read.ends tells h.0 h.1 h.2;
  }

  module _ (b : HeldBucket) (read : AsksBucketCell at old mid (Ok (Some b))) where
    told : IsTrue old.base.tells → IsTrue mid.base.tells
    told tells = subst IsTrue (sym read.viewed.called.tells) tells

    -- it is the slot's own
    pub own_bucket : (IsTrue true ↔ IsOwnBucket b n digest) → AsksPath g id n node level old mid (Ok true)
    own_bucket says = record {
      viewed = read.viewed;
      ends = λ tells volume.
          let same = says.0 refl in
          here node level
          (subst (λ (c : ℕ). Holds mid.image c (records.Bucket n (fingerprint_of (sha256 id)))) place_is
          (subst (λ (f : List ℕ). Holds mid.image at (records.Bucket n f)) (same.1 ∙ ap fingerprint_of is)
          (subst (λ (m : ℕ). Holds mid.image at (records.Bucket m b.fingerprint)) same.0 (read.ends tells))));
    }

    module _ (other : IsTrue false ↔ IsOwnBucket b n digest) where
      -- then a hash trail passes it and goes on below
      goes_below : IsTrue old.base.tells → HasHashTrail g mid id n node level
          → IsOtherBucket g mid id b × ((target : ℕ) × LeadsDown mid.image (sought_in mid.cells g id) node level target
          × HasHashTrail g mid id n target (level + 1))
      goes_below tells (here _ _ bucket) =
          let holds : Holds mid.image at (records.Bucket n (fingerprint_of (sha256 id))) =
          subst (λ (c : ℕ). Holds mid.image c (records.Bucket n (fingerprint_of (sha256 id)))) (sym place_is) bucket in
          let one = buckets b.slot n b.fingerprint (fingerprint_of (sha256 id))
          (one_record_holds mid.image at _ _ (read.ends tells) holds) in
          absurd (no_yes (other.1 (one.0, one.1 ∙ sym (ap fingerprint_of is))))
      goes_below tells (below _ _ target passed leads rest) =
          let holds : Holds mid.image at (records.Bucket passed.slot passed.fingerprint) =
          subst (λ (c : ℕ). Holds mid.image c (records.Bucket passed.slot passed.fingerprint)) (sym place_is)
          passed.bucket in
          let one = buckets passed.slot b.slot passed.fingerprint b.fingerprint
          (one_record_holds mid.image at _ _ holds (read.ends tells)) in (
            ⊎_elim
                (λ differ. inl (λ same. differ (one.1 ∙ same)))
                (λ h. inr (
                  h.0,
                  h.1,
                  subst (λ (m : ℕ). Stands mid.cells mid.image m h.0 h.1) one.0 h.2,
                  h.3,
                ))
                passed.other,
            (target, leads, rest),
          )

      module _ (next : ViewState) where
        -- whether it is passed could not be read
        pub passed_failed : AsksPassed g id b mid next (Err _) → AsksPath g id n node level old next (Err _)
        passed_failed asked = record {
          viewed = viewed_then read.viewed asked.viewed;
          ends = counts.rose_later _ _ _ read.viewed.called.faults asked.ends;
        }

        -- it is not passed
        pub not_passed : AsksPassed g id b mid next (Ok false) → AsksPath g id n node level old next (Ok false)
        not_passed asked = record {
          viewed = viewed_then read.viewed asked.viewed;
          ends = λ tells volume trail.
              asked.ends (told tells) (volume_later read.viewed volume)
              (goes_below tells (hash_trail_later g read.viewed trail)).0;
        }

        module _ (asked : AsksPassed g id b mid next (Ok true)) where
          -- there is no level below
          pub last_level : level ≡ 63 → AsksPath g id n node level old next (Ok false)
          last_level last = record {
            viewed = viewed_then read.viewed asked.viewed;
            ends = λ tells volume trail.
                let h = (goes_below tells (hash_trail_later g read.viewed trail)).1 in
                omega (arith, h.1.levels, last);
          }

          module _ (under : ℕ) (after : ViewState) (under_is : under ≡ node + 16 + nibble digest level) where
            child_place : under ≡ node + 16 + nibble (sha256 id) level
            child_place = under_is ∙ ap (λ (d : List ℕ). node + 16 + nibble d level) is

            -- the child cell that a hash trail takes
            child_taken : IsTrue old.base.tells → HasHashTrail g old id n node level
                → (target : ℕ) × Holds next.image under (records.Child target) × (pool_at g ≤ target)
                × (target + 32 ≤ next.cells) × HasHashTrail g next id n target (level + 1)
            child_taken tells trail =
                let h = (goes_below tells (hash_trail_later g read.viewed trail)).1 in (
                  h.0,
                  subst (λ (c : ℕ). Holds next.image c (records.Child h.0)) (sym child_place)
                      (holds_on asked.viewed.image h.1.child),
                  h.1.inside_from,
                  omega (arith, h.1.inside_to, asked.viewed.cells),
                  hash_trail_later g asked.viewed h.2,
                )

            told_next : IsTrue old.base.tells → IsTrue next.base.tells
            told_next tells = subst IsTrue (sym (viewed_then read.viewed asked.viewed).called.tells) tells

            -- the read of the child cell failed
            pub child_failed : AsksChildCell under next after (Err _) → AsksPath g id n node level old after (Err _)
            child_failed child = record {
              viewed = viewed_then (viewed_then read.viewed asked.viewed) child.viewed;
              ends = counts.rose_later _ _ _ (viewed_then read.viewed asked.viewed).called.faults child.ends;
            }

            -- no child cell stands there
            pub no_child : AsksChildCell under next after (Ok None) → AsksPath g id n node level old after (Ok false)
            no_child child = record {
              viewed = viewed_then (viewed_then read.viewed asked.viewed) child.viewed;
              ends = λ tells volume trail.
                  let h = child_taken tells trail in
                  child.ends (told_next tells) h.0 h.1;
            }

            module _ (target : ℕ) (child : AsksChildCell under next after (Ok (Some target))) where
              so_far : Viewed old after
              so_far = viewed_then (viewed_then read.viewed asked.viewed) child.viewed

              one_target : IsTrue old.base.tells → (taken : ℕ) → Holds next.image under (records.Child taken)
                  → taken ≡ target
              one_target tells taken holds = children taken target
                  (one_record_holds after.image under (records.Child taken) (records.Child target)
                  (holds_on child.viewed.image holds) (child.ends (told_next tells)))

              -- it leads to no node of the pool
              pub leads_out : (target < pool_at g) ⊎ (after.cells < target + 32)
                  → AsksPath g id n node level old after (Ok false)
              leads_out out = record {
                viewed = so_far;
                ends = λ tells volume trail.
                    let h = child_taken tells trail in
                    let same = one_target tells h.0 h.1 in
                    ⊎_elim
                    (λ (less : target < pool_at g). omega (arith, h.2, same))
                    (λ (past : after.cells < target + 32). omega (arith, h.3, same, child.viewed.cells))
                    out;
              }

              -- the node that it leads to was asked
              pub onward : (new : ViewState) (result : Result Bool Failed) → level < 63 → pool_at g ≤ target
                  → target + 32 ≤ after.cells → AsksPath g id n target (level + 1) after new result
                  → AsksPath g id n node level old new result
              onward new (Err failed) levels from to rest = record {
                viewed = viewed_then so_far rest.viewed;
                ends = counts.rose_later _ _ _ so_far.called.faults rest.ends;
              }
              onward new (Ok false) levels from to rest = record {
                viewed = viewed_then so_far rest.viewed;
                ends = λ tells volume trail.
                    let h = child_taken tells trail in
                    rest.ends (subst IsTrue (sym so_far.called.tells) tells) (volume_later so_far volume)
                    (subst (λ (t : ℕ). HasHashTrail g after id n t (level + 1)) (one_target tells h.0 h.1)
                    (hash_trail_later g child.viewed h.4));
              }
              onward new (Ok true) levels from to rest = record {
                viewed = viewed_then so_far rest.viewed;
                ends = λ tells volume.
                    let s : Sought = sought_in new.cells g id in
                    let trail = rest.ends (subst IsTrue (sym so_far.called.tells) tells) (volume_later so_far volume) in
                    let on = viewed_then child.viewed rest.viewed in
                    let all = viewed_then asked.viewed on in
                    let bucket : Holds new.image (node + nibble (sha256 id) level) (records.Bucket b.slot b.fingerprint)
                    = subst (λ (c : ℕ). Holds new.image c (records.Bucket b.slot b.fingerprint)) place_is
                    (holds_on all.image (read.ends tells)) in
                    let passed : IsPassed new.image s (node + nibble (sha256 id) level) = record {
                      slot = b.slot;
                      fingerprint = b.fingerprint;
                      bucket = bucket;
                      other = ⊎_elim
                          (λ differ. inl differ)
                          (λ h. inr (h.0, h.1, stands_later on h.2, h.3))
                          (asked.ends (told tells) (volume_later read.viewed volume));
                    } in
                    let leads : LeadsDown new.image s node level target = record {
                      levels = levels;
                      child = subst (λ (c : ℕ). Holds new.image c (records.Child target)) child_place
                          (holds_on rest.viewed.image (child.ends (told_next tells)));
                      inside_from = from;
                      inside_to = omega (arith, to, rest.viewed.cells);
                    } in
                    below node level target passed leads trail;
              }
