-- The cells of a hash path, over plain values.
use Rattle.std.proofs.Common.{◌≡◌, ◌≢◌, ◌<◌, ◌+◌, ◌⊎◌, inl, inr, ⊎_elim, ℕ, List, true, false, Some, None, Result, Ok, Err, refl, ap, sym, subst, arith, ◌∙◌}
use Rattle.std.specs.Prelude.{◌↔◌, IsTrue}
use Rattle.sha2.specs.Sha256.{sha256}
use Rattle.cell_types.specs.Image.{Image, Extends}
use Rattle.cell_types.specs.Layout.{Layout}
use Rattle.cell_types.specs.declared.record_cell.RecordCell.TheVariants as records
use Rattle.volume_meaning.specs.Documents.{Stands}
use Rattle.volume_meaning.specs.HashPaths.{HashTrail, IsPassed, LeadsDown, Sought, below, fingerprint_of, here, nibble}
use Rattle.volume_meaning.specs.Keeping.{sought_in}
use Rattle.volume_meaning.specs.Slots.{IsDoneSlot}
use Rattle.volume_meaning.specs.Volumes.{Holds}
use Rattle.volume_meaning.proofs.Extending.{holds_on}
use Rattle.volume_meaning.proofs.HashTrails.{leads_on, not_passed, one_child, passed_on}
use Rattle.volume_meaning.proofs.Holding.{one_record_holds}
use Rattle.worm_device.specs.Views.{ViewState, Viewed}
use Rattle.worm_device.proofs.Resting.{viewed_then}
use Rattle.document_store.proofs.Holding.{held_is_done, stands_held}
use Rattle.volume_meaning.specs.Buckets.{IsOwnBucket}
use Rattle.kept_documents.specs.declared.fault.AskFault.{AskFault}
use Rattle.volume_meaning.specs.declared.held_bucket.HeldBucket.{HeldBucket}
use Rattle.kept_documents.proofs.PassedBuckets.{stands_later, volume_later}
use Rattle.kept_documents.proofs.Pathing.{hash_trail_later}
use Rattle.receipt_cells.specs.Needed.{PathRests, SlotRests, bucket_cell, child_cell, from_child, passed_slot}
use Rattle.receipt_cells.specs.Path.{IsOfMate, ListsBucket, ListsChild, ListsDown, ListsMate}
use Rattle.receipt_cells.proofs.Listing.{just_as, just_then}
use Rattle.receipt_cells.proofs.SlotListing.{fails_later, slot_rests_back, slot_rests_on}

no_yes : false ≡ true → ⊥
no_yes e = cc

buckets : (a b : ℕ) (f h : List ℕ) → records.Bucket a f ≡ records.Bucket b h → (a ≡ b) × (f ≡ h)
buckets a b f h e = (cc, cc)

children : (a b : ℕ) → records.Child a ≡ records.Child b → a ≡ b
children a b e = cc

-- a hash trail begins in a bucket
trail_bucket : {image : Image} {s : Sought} {n node level : ℕ} → HashTrail image s n node level
    → (slot : ℕ) × (fingerprint : List ℕ) × Holds image (node + nibble s.digest level) (records.Bucket slot fingerprint)
trail_bucket {s = s} {n = n} (here node level bucket) = (n, fingerprint_of s.digest, bucket)
trail_bucket (below node level target passed leads rest) = (passed.slot, passed.fingerprint, passed.bucket)

-- from a slot's own bucket a path rests on this bucket alone
own_rests : {g : Layout} {image : Image} {s : Sought} {n c node level : ℕ} (body : List ℕ)
    → Stands s.cells image n s.id body
    → Holds image (node + nibble s.digest level) (records.Bucket n (fingerprint_of s.digest))
    → PathRests g image s c node level → c ≡ node + nibble s.digest level
own_rests body stands bucket (bucket_cell node level is) = is
own_rests body stands bucket (passed_slot node level m passed holds rests) =
    absurd (not_passed body stands bucket passed)
own_rests body stands bucket (child_cell node level target passed leads is) =
    absurd (not_passed body stands bucket passed)
own_rests body stands bucket (from_child node level target passed leads rests) =
    absurd (not_passed body stands bucket passed)

-- a trail whose bucket is not the slot's own goes on below
goes_below : {image : Image} {s : Sought} {n node level : ℕ} (slot : ℕ) (fingerprint : List ℕ)
    → Holds image (node + nibble s.digest level) (records.Bucket slot fingerprint)
    → (slot ≡ n → fingerprint ≡ fingerprint_of s.digest → ⊥) → HashTrail image s n node level
    → IsPassed image s (node + nibble s.digest level)
    × (target : ℕ) × LeadsDown image s node level target × HashTrail image s n target (level + 1)
goes_below {image} slot fingerprint holds other (here node level bucket) =
    let one = buckets _ _ _ _ (one_record_holds image _ _ _ holds bucket) in absurd (other one.0 one.1)
goes_below slot fingerprint holds other (below node level target passed leads rest) = (passed, target, leads, rest)

-- a bucket that is passed with the digest's fingerprint names a slot that stands
mate_stands : {image : Image} {s : Sought} {at : ℕ} (slot : ℕ) (fingerprint : List ℕ)
    → Holds image at (records.Bucket slot fingerprint) → IsPassed image s at → fingerprint ≡ fingerprint_of s.digest
    → (id : List ℕ) × (body : List ℕ) × Stands s.cells image slot id body
mate_stands {image} {s} {at} slot fingerprint holds passed same =
    let one = buckets _ _ _ _ (one_record_holds image at _ _ passed.bucket holds) in
    ⊎_elim
    (λ (differ : passed.fingerprint ≢ fingerprint_of s.digest). absurd (differ (one.1 ∙ same)))
    (λ (h : (id : List ℕ) × (body : List ℕ) × Stands s.cells image passed.slot id body × (id ≢ s.id)).
    (h.0, h.1, subst (λ (m : ℕ). Stands s.cells image m h.0 h.1) one.0 h.2))
    passed.other

-- a bucket that is passed stays so over a row of calls, and a child cell leads on
passed_later : (g : Layout) {old new : ViewState} {id : List ℕ} {at : ℕ} → Viewed old new
    → IsPassed old.image (sought_in old.cells g id) at → IsPassed new.image (sought_in new.cells g id) at
passed_later g {old} {new} {id} {at} viewed passed =
    subst (λ (c : ℕ). IsPassed new.image (sought_in c g id) at) (sym viewed.cells) (passed_on viewed.image passed)

leads_later : (g : Layout) {old new : ViewState} {id : List ℕ} {node level target : ℕ} → Viewed old new
    → LeadsDown old.image (sought_in old.cells g id) node level target
    → LeadsDown new.image (sought_in new.cells g id) node level target
leads_later g {old} {new} {id} {node} {level} {target} viewed leads =
    subst (λ (c : ℕ). LeadsDown new.image (sought_in c g id) node level target) (sym viewed.cells)
    (leads_on viewed.image leads)

-- the cells of one node that is passed, and those of the path from the node below on
module _ (g : Layout) (image : Image) (s : Sought) (node level : ℕ) (b : HeldBucket) (target : ℕ)
    (bucket : Holds image (node + nibble s.digest level) (records.Bucket b.slot b.fingerprint))
    (passed : IsPassed image s (node + nibble s.digest level)) (leads : LeadsDown image s node level target)
    (before : Image) (e : Extends before image)
    (done : b.fingerprint ≡ fingerprint_of s.digest → IsDoneSlot g before b.slot) where
  abbrev IsOfNode : ℕ → Type 0
  IsOfNode c = ((c ≡ node + nibble s.digest level)
      ⊎ ((b.fingerprint ≡ fingerprint_of s.digest) × SlotRests g before b.slot c))
      ⊎ (c ≡ node + 16 + nibble s.digest level)

  from_node : (c : ℕ) → IsOfNode c ⊎ PathRests g image s c target (level + 1) → PathRests g image s c node level
  from_node c h = ⊎_elim
      (λ (of_node : IsOfNode c). ⊎_elim
      (λ (first : (c ≡ node + nibble s.digest level)
      ⊎ ((b.fingerprint ≡ fingerprint_of s.digest) × SlotRests g before b.slot c)). ⊎_elim
      (λ (is : c ≡ node + nibble s.digest level). bucket_cell node level is)
      (λ (mate : (b.fingerprint ≡ fingerprint_of s.digest) × SlotRests g before b.slot c).
      passed_slot node level b.slot passed
      (subst (λ (f : List ℕ). Holds image (node + nibble s.digest level) (records.Bucket b.slot f)) mate.0 bucket)
      (slot_rests_on e mate.1))
      first)
      (λ (is : c ≡ node + 16 + nibble s.digest level). child_cell node level target passed leads is)
      of_node)
      (λ (rest : PathRests g image s c target (level + 1)). from_child node level target passed leads rest)
      h

  to_node : (c : ℕ) → PathRests g image s c node level → IsOfNode c ⊎ PathRests g image s c target (level + 1)
  to_node c (bucket_cell _ _ is) = inl (inl (inl is))
  to_node c (passed_slot _ _ m passed' holds rests) =
      let one = buckets _ _ _ _ (one_record_holds image _ _ _ bucket holds) in
      inl (inl (inr (
        one.1,
        slot_rests_back e (done one.1) (subst (λ (n : ℕ). SlotRests g image n c) (sym one.0) rests),
      )))
  to_node c (child_cell _ _ target' passed' leads' is) = inl (inr is)
  to_node c (from_child _ _ target' passed' leads' rest) =
      inr (subst (λ (t : ℕ). PathRests g image s c t (level + 1)) (one_child leads' leads) rest)

module _ (g : Layout) (n : ℕ) (digest : List ℕ) (node level half : ℕ) (half_is : half ≡ nibble digest level)
    (old mid : ViewState) (listed first : List (ℕ × List ℕ)) where
  -- the half byte is that of each identifier with this digest
  place_is : (from : ℕ) (id : List ℕ) → digest ≡ sha256 id → from + half ≡ from + nibble (sha256 id) level
  place_is from id is = ap (λ (k : ℕ). from + k) (half_is ∙ ap (λ (d : List ℕ). nibble d level) is)

  -- the bucket is not listed
  pub bucket_fails : (why : AskFault) → ListsBucket (node + half) old mid listed first (Err why)
      → ListsDown g n digest node level old mid listed first (Err why)
  bucket_fails why read = record { viewed = read.viewed; ends = λ id is. read.ends }

  -- there is none
  pub bucket_lacks : ListsBucket (node + half) old mid listed first (Ok None)
      → ListsDown g n digest node level old mid listed first (Ok tt)
  bucket_lacks read = record {
    viewed = read.viewed;
    ends = λ id is tells volume body stands trail.
        let h = trail_bucket trail in
        absurd (read.ends tells h.0 h.1 (subst
        (λ (c : ℕ). Holds old.image c (records.Bucket h.0 h.1)) (sym (place_is node id is)) h.2));
  }

  module _ (b : HeldBucket) (read : ListsBucket (node + half) old mid listed first (Ok (Some b))) where
    there : (id : List ℕ) → digest ≡ sha256 id → IsTrue old.base.tells
        → Holds mid.image (node + nibble (sha256 id) level) (records.Bucket b.slot b.fingerprint)
    there id is tells = subst (λ (c : ℕ). Holds mid.image c (records.Bucket b.slot b.fingerprint)) (place_is node id is)
        (read.ends tells).0

    -- it is the slot's own
    pub own_listed : (IsTrue true ↔ IsOwnBucket b n digest) → ListsDown g n digest node level old mid listed first (Ok tt)
    own_listed says = record {
      viewed = read.viewed;
      ends = λ id is tells volume body stands trail.
          let own = says.0 refl in
          let mine : Holds mid.image (node + nibble (sha256 id) level) (records.Bucket n (fingerprint_of (sha256 id))) =
          subst
          (λ (m : ℕ). Holds mid.image (node + nibble (sha256 id) level) (records.Bucket m (fingerprint_of (sha256 id))))
          own.0
          (subst (λ (f : List ℕ). Holds mid.image (node + nibble (sha256 id) level) (records.Bucket b.slot f))
          (own.1 ∙ ap fingerprint_of is) (there id is tells)) in
          just_as
          (λ (c : ℕ) (same : c ≡ node + half). bucket_cell node level (same ∙ place_is node id is))
          (λ (c : ℕ) (rests : PathRests g mid.image (sought_in mid.cells g id) c node level).
          own_rests body (stands_later read.viewed stands) mine rests ∙ sym (place_is node id is))
          (read.ends tells).1;
    }

    module _ (says : IsTrue false ↔ IsOwnBucket b n digest) where
      onward : (id : List ℕ) → digest ≡ sha256 id → IsTrue old.base.tells
          → HashTrail old.image (sought_in old.cells g id) n node level
          → IsPassed mid.image (sought_in mid.cells g id) (node + nibble (sha256 id) level)
          × (target : ℕ) × LeadsDown mid.image (sought_in mid.cells g id) node level target
          × HashTrail mid.image (sought_in mid.cells g id) n target (level + 1)
      onward id is tells trail =
          goes_below b.slot b.fingerprint (there id is tells)
          (λ slot fingerprint. no_yes (says.1 (slot, fingerprint ∙ sym (ap fingerprint_of is))))
          (hash_trail_later g read.viewed trail)

      module _ (past : ViewState) (second : List (ℕ × List ℕ)) where
        -- the slot of the bucket is not listed
        pub mate_fails : (why : AskFault) → ListsMate g digest b mid past first second (Err why)
            → ListsDown g n digest node level old past listed second (Err why)
        mate_fails why mate = record {
          viewed = viewed_then read.viewed mate.viewed;
          ends = λ id is. fails_later old mid past why read.viewed mate.ends;
        }

        module _ (mate : ListsMate g digest b mid past first second (Ok tt)) (low : ViewState)
            (third : List (ℕ × List ℕ)) where
          told_mid : IsTrue old.base.tells → IsTrue mid.base.tells
          told_mid tells = subst IsTrue (sym read.viewed.called.tells) tells

          told_past : IsTrue old.base.tells → IsTrue past.base.tells
          told_past tells = subst IsTrue (sym mate.viewed.called.tells) (told_mid tells)

          -- the child cell is not listed
          pub child_fails : (why : AskFault) → ListsChild (node + 16 + half) past low second third (Err why)
              → ListsDown g n digest node level old low listed third (Err why)
          child_fails why child = record {
            viewed = viewed_then read.viewed (viewed_then mate.viewed child.viewed);
            ends = λ id is. fails_later old past low why (viewed_then read.viewed mate.viewed) child.ends;
          }

          -- there is none
          pub child_lacks : ListsChild (node + 16 + half) past low second third (Ok None)
              → ListsDown g n digest node level old low listed third (Ok tt)
          child_lacks child = record {
            viewed = viewed_then read.viewed (viewed_then mate.viewed child.viewed);
            ends = λ id is tells volume body stands trail.
                let way = onward id is tells trail in
                let told = told_past tells in
                absurd (child.ends told way.1 (subst (λ (c : ℕ). Holds past.image c (records.Child way.1))
                (sym (place_is (node + 16) id is)) (holds_on mate.viewed.image way.2.child)));
          }

          module _ (target : ℕ) (child : ListsChild (node + 16 + half) past low second third (Ok (Some target))) where
            -- the child is that of the trail
            leads_there : (id : List ℕ) → digest ≡ sha256 id → IsTrue old.base.tells
                → HashTrail old.image (sought_in old.cells g id) n node level
                → LeadsDown low.image (sought_in low.cells g id) node level target
                × HashTrail low.image (sought_in low.cells g id) n target (level + 1)
            leads_there id is tells trail =
                let way = onward id is tells trail in
                let later = viewed_then mate.viewed child.viewed in
                let leads = leads_later g later way.2 in
                let found : Holds low.image (node + 16 + nibble (sha256 id) level) (records.Child target) =
                subst (λ (c : ℕ). Holds low.image c (records.Child target)) (place_is (node + 16) id is)
                (child.ends (told_past tells)).0 in
                let one : way.1 ≡ target = children _ _ (one_record_holds low.image _ _ _ leads.child found) in (
                  subst (λ (t : ℕ). LeadsDown low.image (sought_in low.cells g id) node level t) one leads,
                  subst (λ (t : ℕ). HashTrail low.image (sought_in low.cells g id) n t (level + 1)) one
                      (hash_trail_later g later way.3),
                )

            -- there is no level below
            pub level_ends : level ≡ 63 → ListsDown g n digest node level old low listed third (Ok tt)
            level_ends last = record {
              viewed = viewed_then read.viewed (viewed_then mate.viewed child.viewed);
              ends = λ id is tells volume body stands trail.
                  let way = leads_there id is tells trail in absurd (omega (arith, way.0.levels, last));
            }

            -- the node below lies past the device's end
            pub target_ends : low.cells < target + 32 → ListsDown g n digest node level old low listed third (Ok tt)
            target_ends past_end = record {
              viewed = viewed_then read.viewed (viewed_then mate.viewed child.viewed);
              ends = λ id is tells volume body stands trail.
                  let way = leads_there id is tells trail in absurd (omega (arith, way.0.inside_to, past_end));
            }

            -- the path goes on
            pub path_listed : (new : ViewState) (later : List (ℕ × List ℕ)) (result : Result Unit AskFault)
                → ListsDown g n digest target (level + 1) low new third later result
                → ListsDown g n digest node level old new listed later result
            path_listed new later (Err why) rest = record {
              viewed = viewed_then read.viewed (viewed_then mate.viewed (viewed_then child.viewed rest.viewed));
              ends = λ id is. fails_later old low new why
                  (viewed_then read.viewed (viewed_then mate.viewed child.viewed)) (rest.ends id is);
            }
            path_listed new later (Ok u) rest = record {
              viewed = viewed_then read.viewed (viewed_then mate.viewed (viewed_then child.viewed rest.viewed));
              ends = λ id is tells volume body stands trail.
                  let told = told_past tells in
                  let to_low = viewed_then read.viewed (viewed_then mate.viewed child.viewed) in
                  let from_mid = viewed_then mate.viewed (viewed_then child.viewed rest.viewed) in
                  let from_past = viewed_then child.viewed rest.viewed in
                  let way = onward id is tells trail in
                  let down = leads_there id is tells trail in
                  let mate_there : b.fingerprint ≡ fingerprint_of digest
                  → (other : List ℕ) × (text : List ℕ) × Stands mid.cells mid.image b.slot other text =
                  λ same. mate_stands b.slot b.fingerprint (there id is tells) way.0 (same ∙ ap fingerprint_of is) in
                  let mid_volume = volume_later read.viewed volume in
                  let done : b.fingerprint ≡ fingerprint_of (sha256 id) → IsDoneSlot g past.image b.slot =
                  λ same. (let h = mate_there (same ∙ sym (ap fingerprint_of is)) in
                  held_is_done (stands_held g past.cells past.image b.slot h.0 h.1 (volume_later mate.viewed mid_volume)
                  (stands_later mate.viewed h.2))) in
                  let first_just = just_as (λ (c : ℕ) (same : c ≡ node + half). same ∙ place_is node id is)
                  (λ (c : ℕ) (same : c ≡ node + nibble (sha256 id) level). same ∙ sym (place_is node id is))
                  (read.ends tells).1 in
                  let second_just = just_as
                  (λ (c : ℕ) (k : IsOfMate g past digest b c). (k.0 ∙ ap fingerprint_of is, k.1))
                  (λ (c : ℕ) (k : (b.fingerprint ≡ fingerprint_of (sha256 id)) × SlotRests g past.image b.slot c).
                  (k.0 ∙ sym (ap fingerprint_of is), k.1))
                  (mate.ends (told_mid tells) mid_volume mate_there) in
                  let third_just = just_as (λ (c : ℕ) (same : c ≡ node + 16 + half). same ∙ place_is (node + 16) id is)
                  (λ (c : ℕ) (same : c ≡ node + 16 + nibble (sha256 id) level). same ∙ sym (place_is (node + 16) id is))
                  (child.ends told).1 in
                  let last_just = rest.ends id is (subst IsTrue (sym child.viewed.called.tells) told)
                  (volume_later to_low volume) body (stands_later to_low stands) down.1 in
                  just_as
                  (from_node g new.image (sought_in new.cells g id) node level b target
                  (holds_on from_mid.image (there id is tells)) (passed_later g from_mid way.0)
                  (leads_later g rest.viewed down.0) past.image from_past.image done)
                  (to_node g new.image (sought_in new.cells g id) node level b target
                  (holds_on from_mid.image (there id is tells)) (passed_later g from_mid way.0)
                  (leads_later g rest.viewed down.0) past.image from_past.image done)
                  (just_then rest.viewed.image (just_then child.viewed.image
                  (just_then mate.viewed.image first_just second_just)
                  third_just) last_just);
            }
