-- The cells that a document and a hash path rest on suffice: where they stand in another image, the document stands
-- there, and the path leads there.
use Rattle.std.proofs.Common.{◌≡◌, ◌≢◌, ◌+◌, ◌⊎◌, ⊎_elim, inl, inr, ℕ, List, Bool, true, false, Some, refl, sym, subst, ◌∙◌, true≢false}
use Rattle.std.specs.Prelude.{length}
use Rattle.std.specs.Str.{bytes_eq}
use Rattle.std.proofs.lemmas.Slice.Eq.{bytes_eq-Decides}
use Rattle.cell_types.specs.Image.{Image}
use Rattle.cell_types.specs.Layout.{Layout}
use Rattle.cell_types.specs.declared.record_cell.RecordCell.{RecordCell}
use Rattle.cell_types.specs.declared.record_cell.RecordCell.TheVariants as records
use Rattle.volume_meaning.specs.Documents.{Stands, stored_bytes}
use Rattle.volume_meaning.specs.HashPaths.{HashTrail, IsPassed, LeadsDown, Sought, below, fingerprint_of, here, nibble}
use Rattle.volume_meaning.specs.Slots.{IsDone}
use Rattle.volume_meaning.specs.Volumes.{Holds, IsVolume}
use Rattle.document_store.proofs.Holding.{held_stands, stands_held}
use Rattle.receipt_cells.specs.Needed.{PathRests, SlotRests, bucket_cell, child_cell, commit_cell, document_cell, done_cell, from_child, passed_slot, reserve_cell, stamp_cell}

-- the other image has the volume's cell and each of these cells, with what stands in it
abbrev pub HasThese : (ℕ → Type 0) → Image → Image → Type 0
HasThese These image sub =
    (c : ℕ) (value : List ℕ) → (c ≡ 0) ⊎ These c → image c ≡ Some value → sub c ≡ Some value

-- so it has their records
has_record : {These : ℕ → Type 0} {image sub : Image} {at : ℕ} {r : RecordCell} → HasThese These image sub
    → (at ≡ 0) ⊎ These at → Holds image at r → Holds sub at r
has_record {at = at} has these h = record { cell = h.cell; stands = has at h.cell these h.stands; is = h.is }

has_volume : {These : ℕ → Type 0} {image sub : Image} {cells : ℕ} {g : Layout} → HasThese These image sub
    → IsVolume cells image g → IsVolume cells sub g
has_volume has v = record { volume = has_record has (inl refl) v.volume; size = v.size }

module _ {g : Layout} {image sub : Image} {n : ℕ} (has : HasThese (SlotRests g image n) image sub) where
  has_done : {start length bytes journal : ℕ} → IsDone g image n start length bytes journal
      → IsDone g sub n start length bytes journal
  has_done d = record {
    commits = record {
      reserves = record {
        slot = d.commits.reserves.slot;
        reserve = has_record has (inr (reserve_cell refl)) d.commits.reserves.reserve;
        from = d.commits.reserves.from;
        to = d.commits.reserves.to;
      };
      outcome = has_record has (inr (commit_cell refl)) d.commits.outcome;
      fits = d.commits.fits;
      stamped = λ v. record {
        seconds = (d.commits.stamped v).seconds;
        stamp = has_record has (inr (stamp_cell v refl)) (d.commits.stamped v).stamp;
      };
    };
    done = has_record has (inr (done_cell refl)) d.done;
  }

  -- a document stands by the cells of its slot
  pub stands_by_cells : {cells : ℕ} {id body : List ℕ} → IsVolume cells image g → Stands cells image n id body
      → Stands cells sub n id body
  stands_by_cells {cells} {id} {body} volume stands =
      let h = stands_held g cells image n id body volume stands in
      held_stands g cells sub n id body (has_volume has volume) (record {
        start = h.start;
        reserved = h.reserved;
        journal = h.journal;
        done = has_done h.done;
        spells = λ k less. has _ _ (inr (document_cell h.start h.reserved (length (stored_bytes id body)) h.journal k
            h.done less refl)) (h.spells k less);
        is_identifier = h.is_identifier;
        is_body = h.is_body;
      })

-- what has the cells of a path has those from the node below on
has_below : {g : Layout} {image sub : Image} {s : Sought} {node level target : ℕ}
    → IsPassed image s (node + nibble s.digest level) → LeadsDown image s node level target
    → HasThese (λ c. PathRests g image s c node level) image sub
    → HasThese (λ c. PathRests g image s c target (level + 1)) image sub
has_below {node = node} {level = level} {target = target} passed leads has =
    λ c value these there. has c value (⊎_elim inl (λ rests. inr (from_child node level target passed leads rests)) these) there

-- a bucket is passed by its own cell, and by those of its slot where it has the same fingerprint
has_passed : {g : Layout} {image sub : Image} {s : Sought} {node level : ℕ} → IsVolume s.cells image g
    → HasThese (λ c. PathRests g image s c node level) image sub → IsPassed image s (node + nibble s.digest level)
    → IsPassed sub s (node + nibble s.digest level)
has_passed {g} {image} {sub} {s} {node} {level} volume has passed = record {
  slot = passed.slot;
  fingerprint = passed.fingerprint;
  bucket = has_record has (inr (bucket_cell node level refl)) passed.bucket;
  other = go (bytes_eq passed.fingerprint (fingerprint_of s.digest)) refl;
} where
  go : (same : Bool) → bytes_eq passed.fingerprint (fingerprint_of s.digest) ≡ same
      → (passed.fingerprint ≢ fingerprint_of s.digest)
      ⊎ ((id : List ℕ) × (body : List ℕ) × Stands s.cells sub passed.slot id body × (id ≢ s.id))
  go false e = inl (λ same. true≢false
      (sym ((bytes_eq-Decides passed.fingerprint (fingerprint_of s.digest)).1 same) ∙ e))
  go true e =
      let same = (bytes_eq-Decides passed.fingerprint (fingerprint_of s.digest)).0 e in
      let bucket = subst (λ (f : List ℕ). Holds image (node + nibble s.digest level) (records.Bucket passed.slot f)) same
      passed.bucket in
      let mate : HasThese (SlotRests g image passed.slot) image sub =
      λ c value these there. has c value
      (⊎_elim inl (λ rests. inr (passed_slot node level passed.slot passed bucket rests)) these) there in
      ⊎_elim inl
      (λ (h : (id : List ℕ) × (body : List ℕ) × Stands s.cells image passed.slot id body × (id ≢ s.id)).
      inr (h.0, h.1, stands_by_cells mate volume h.2, h.3))
      passed.other

-- a slot has a hash trail by the cells of its path
pub path_by_cells : {g : Layout} {image sub : Image} {s : Sought} {n node level : ℕ} → IsVolume s.cells image g
    → HasThese (λ c. PathRests g image s c node level) image sub → HashTrail image s n node level
    → HashTrail sub s n node level
path_by_cells volume has (here node level bucket) =
    here node level (has_record has (inr (bucket_cell node level refl)) bucket)
path_by_cells volume has (below node level target passed leads rest) =
    below node level target (has_passed volume has passed)
    (record {
      levels = leads.levels;
      child = has_record has (inr (child_cell node level target passed leads refl)) leads.child;
      inside_from = leads.inside_from;
      inside_to = leads.inside_to;
    })
    (path_by_cells volume (has_below passed leads has) rest)
