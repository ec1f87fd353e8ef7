-- Paths of the hash tree.
use Rattle.std.proofs.Common.{◌≡◌, ◌+◌, ⊎_elim, inl, inr, ℕ, List, None, sym, subst, ◌∙◌, arith}
use Rattle.cell_types.specs.Image.{Image, Extends}
use Rattle.cell_types.specs.declared.record_cell.RecordCell.TheVariants.{Bucket, Child}
use Rattle.volume_meaning.specs.Volumes.{Holds}
use Rattle.volume_meaning.specs.Documents.{Stands}
use Rattle.volume_meaning.specs.HashPaths.{Sought, IsPassed, LeadsDown, HashTrail, here, below, PassedTo, at_root, down, nibble, fingerprint_of}
use Rattle.volume_meaning.proofs.Extending.{holds_on, stands_on}
use Rattle.volume_meaning.proofs.Holding.{one_record_holds}
use Rattle.volume_meaning.proofs.OneDocument.{one_document}
use Rattle.std.proofs.lemmas.Option.{none-some}

pub passed_on : {old new : Image} {s : Sought} {at : ℕ} → Extends old new → IsPassed old s at → IsPassed new s at
passed_on e p = record {
  slot = p.slot;
  fingerprint = p.fingerprint;
  bucket = holds_on e p.bucket;
  other = ⊎_elim inl (λ h. inr (h.0, h.1, stands_on e h.2, h.3)) p.other;
}

pub leads_on : {old new : Image} {s : Sought} {node level target : ℕ} → Extends old new
    → LeadsDown old s node level target → LeadsDown new s node level target
leads_on e l = record {
  levels = l.levels;
  child = holds_on e l.child;
  inside_from = l.inside_from;
  inside_to = l.inside_to;
}

pub hash_trail_on : {old new : Image} {s : Sought} {n node level : ℕ} → Extends old new
    → HashTrail old s n node level → HashTrail new s n node level
hash_trail_on e (here node level bucket) = here node level (holds_on e bucket)
hash_trail_on e (below node level target passed leads rest) =
    below node level target (passed_on e passed) (leads_on e leads) (hash_trail_on e rest)

pub passed_to_on : {old new : Image} {s : Sought} {root node level : ℕ} → Extends old new
    → PassedTo old s root node level → PassedTo new s root node level
passed_to_on e (at_root node level is zero_level) = at_root node level is zero_level
passed_to_on e (down node level above before next rest passed leads) =
    down node level above before next (passed_to_on e rest) (passed_on e passed) (leads_on e leads)

buckets : (a b : ℕ) (f g : List ℕ) → Bucket a f ≡ Bucket b g → (a ≡ b) × (f ≡ g)
buckets a b f g e = (cc, cc)

children : (a b : ℕ) → Child a ≡ Child b → a ≡ b
children a b e = cc

-- the bucket of a slot that stands with the identifier is not passed
pub not_passed : {image : Image} {s : Sought} {n at : ℕ} (body : List ℕ) → Stands s.cells image n s.id body
    → Holds image at (Bucket n (fingerprint_of s.digest)) → IsPassed image s at → ⊥
not_passed {image} {s} {n} {at} body stands bucket passed =
    let same = buckets _ _ _ _ (one_record_holds image at _ _ passed.bucket bucket) in
    ⊎_elim
    (λ differ. differ same.1)
    (λ h. let there : Stands s.cells image n h.0 h.1 = subst (λ (m : ℕ). Stands s.cells image m h.0 h.1) same.0 h.2 in
    h.3 ((one_document s.cells image n h.0 h.1 s.id body there stands).0))
    passed.other

-- one child, one target
pub one_child : {image : Image} {s : Sought} {node level t u : ℕ} → LeadsDown image s node level t
    → LeadsDown image s node level u → t ≡ u
one_child {image} {s} {node} {level} {t} {u} a b = children t u (one_record_holds image _ _ _ a.child b.child)

-- where the bucket is passed a hash trail goes on below it
pub goes_down : {image : Image} {s : Sought} {n node level : ℕ} (body : List ℕ)
    → Stands s.cells image n s.id body → HashTrail image s n node level
    → IsPassed image s (node + nibble s.digest level)
    → (target : ℕ) × LeadsDown image s node level target × HashTrail image s n target (level + 1)
goes_down body stands (here node level bucket) passed = absurd (not_passed body stands bucket passed)
goes_down body stands (below node level target by leads rest) passed = (target, leads, rest)

-- of the slots that stand with an identifier one has a hash trail
pub one_hash_trail : {image : Image} {s : Sought} {n node level : ℕ} → HashTrail image s n node level
    → (m : ℕ) (b c : List ℕ) → Stands s.cells image n s.id b → Stands s.cells image m s.id c
    → HashTrail image s m node level → n ≡ m
one_hash_trail {image} (here node level bucket) m b c stands_n stands_m (here _ _ bucket') =
    (buckets _ _ _ _ (one_record_holds image _ _ _ bucket bucket')).0
one_hash_trail (here node level bucket) m b c stands_n stands_m (below _ _ target passed leads rest) =
    absurd (not_passed b stands_n bucket passed)
one_hash_trail (below node level target passed leads rest) m b c stands_n stands_m (here _ _ bucket) =
    absurd (not_passed c stands_m bucket passed)
one_hash_trail {image} {s} (below node level target passed leads rest) m b c stands_n stands_m
    (below _ _ target' passed' leads' rest') =
    let one : target' ≡ target = one_child leads' leads in
    one_hash_trail rest m b c stands_n stands_m (subst (λ (t : ℕ). HashTrail image s m t (level + 1)) one rest')

-- a hash trail from the root goes on from each node to which the path is passed
pub follows : {image : Image} {s : Sought} {root node level : ℕ} → PassedTo image s root node level
    → (n : ℕ) (body : List ℕ) → Stands s.cells image n s.id body
    → HashTrail image s n root 0 → HashTrail image s n node level
follows {image} {s} (at_root node level is first) n body stands trail =
    subst (λ (v : ℕ). HashTrail image s n node v) (sym first)
    (subst (λ (m : ℕ). HashTrail image s n m 0) (sym is) trail)
follows {image} {s} (down node level above before next rest passed leads) n body stands trail =
    let h = goes_down body stands (follows rest n body stands trail) passed in
    subst (λ (v : ℕ). HashTrail image s n node v) (sym next)
    (subst (λ (m : ℕ). HashTrail image s n m (before + 1)) (one_child h.1 leads) h.2)

-- where the path is passed up to a blank bucket, no slot that stands with the identifier has a hash trail
pub none_at_blank_bucket : {image : Image} {s : Sought} {n node level : ℕ} → HashTrail image s n node level
    → image (node + nibble s.digest level) ≡ None → ⊥
none_at_blank_bucket (here node level bucket) blank = none-some _ (sym blank ∙ bucket.stands)
none_at_blank_bucket (below node level target passed leads rest) blank = none-some _ (sym blank ∙ passed.bucket.stands)

-- nor where it is passed up to a blank child cell
pub none_at_blank_child : {image : Image} {s : Sought} {n node level : ℕ} (body : List ℕ)
    → Stands s.cells image n s.id body → HashTrail image s n node level
    → IsPassed image s (node + nibble s.digest level) → image (node + 16 + nibble s.digest level) ≡ None → ⊥
none_at_blank_child body stands trail passed blank =
    let h = goes_down body stands trail passed in none-some _ (sym blank ∙ h.1.child.stands)

-- nor where all 64 buckets are passed
pub none_at_the_end : {image : Image} {s : Sought} {n node : ℕ} (body : List ℕ)
    → Stands s.cells image n s.id body → HashTrail image s n node 63
    → IsPassed image s (node + nibble s.digest 63) → ⊥
none_at_the_end body stands trail passed =
    let h = goes_down body stands trail passed in omega (arith, h.1.levels)

-- where the bucket at the end of a passed path names a slot that stands with the identifier, it is the one with the
-- hash trail
pub the_found_one : {image : Image} {s : Sought} {n node level : ℕ} → HashTrail image s n node level
    → (m : ℕ) (b c : List ℕ) → Stands s.cells image n s.id b → Stands s.cells image m s.id c
    → Holds image (node + nibble s.digest level) (Bucket m (fingerprint_of s.digest)) → n ≡ m
the_found_one {image} {s} {n} {node} {level} trail m b c stands_n stands_m bucket =
    one_hash_trail trail m b c stands_n stands_m (here node level bucket)
