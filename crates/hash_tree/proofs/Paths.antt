-- The way of a path down to a level, over images that grow, and what is passed on it.
use Rattle.std.proofs.Common.{◌≡◌, ◌+◌, ◌∙◌, ⊎_elim, inl, ℕ, List, false, refl, ap, sym, subst, arith}
use Rattle.std.specs.Prelude.{IsTrue}
use Rattle.cell_types.specs.Image.{Image, Extends}
use Rattle.cell_types.specs.Layout.{Layout}
use Rattle.cell_types.specs.declared.record_cell.RecordCell.TheVariants.{Child}
use Rattle.volume_meaning.specs.Volumes.{Holds}
use Rattle.volume_meaning.proofs.Extending.{holds_on}
use Rattle.volume_meaning.specs.HashPaths.{Sought, IsPassed, down, fingerprint_of, nibble}
use Rattle.hash_tree.specs.Levels.{bucket_at, level_below, node_of}
use Rattle.hash_tree.specs.Steps.{ComesTo, here, further, PathGoesOn, HasNoneLeft, IsPassedUpTo, LeadsBy, PassesBucket}
use Rattle.hash_tree.specs.declared.level.ChildCell.{ChildCell}
use Rattle.hash_tree.specs.declared.level.Level.{Level}

pub false_never : IsTrue false → ⊥
false_never h = cc

-- a bucket in which no candidate is left stays so
pub none_left_on : {g : Layout} {a b : Image} {level : Level} → Extends a b → HasNoneLeft g a level
    → HasNoneLeft g b level
none_left_on e h = record {
  slot = h.slot;
  fingerprint = h.fingerprint;
  bucket = holds_on e h.bucket;
  other = h.other;
}

-- a child cell goes on leading
pub leads_by_on : {g : Layout} {edge : ℕ} {a b : Image} {level : Level} {child : ChildCell} → Extends a b
    → LeadsBy g edge a level child → LeadsBy g edge b level child
leads_by_on {g} {edge} {a} {b} {level} {child} e h = record {
  levels = h.levels;
  at = h.at;
  stands = e.keeps child.cell child.found h.stands;
  is = h.is;
  from = h.from;
  to = h.to;
}

-- so the way stays one
pub comes_on : {g : Layout} {edge : ℕ} {a b : Image} {last level : Level} → Extends a b → ComesTo g edge a last level
    → ComesTo g edge b last level
comes_on e (here level is) = here level is
comes_on e (further level child none leads rest) =
    further level child (none_left_on e none) (leads_by_on e leads) (comes_on e rest)

-- and goes one level further
pub comes_below : {g : Layout} {edge : ℕ} {image : Image} {last level : Level} (child : ChildCell)
    → ComesTo g edge image last level → HasNoneLeft g image last → LeadsBy g edge image last child
    → ComesTo g edge image (level_below last child) level
comes_below {g} {edge} {image} {last} child (here level is) none leads =
    subst (λ (l : Level). ComesTo g edge image (level_below last child) l) (sym is)
    (further last child none leads (here (level_below last child) refl))
comes_below child (further level next passed led rest) none leads =
    further level next passed led (comes_below child rest none leads)

-- a bucket in which no candidate is left is passed, where it is if it was answered
pub bucket_passed : {g : Layout} {edge root : ℕ} {image : Image} {s : Sought} {level : Level}
    → IsPassedUpTo g edge image root s level → HasNoneLeft g image level → IsPassed image s (bucket_at g level)
bucket_passed up none =
    ⊎_elim
    (λ answered. up.answered answered)
    (λ other. record {
      slot = none.slot;
      fingerprint = none.fingerprint;
      bucket = none.bucket;
      other = inl (λ same. other (same ∙ ap fingerprint_of up.digest));
    })
    none.other

-- so is the path up to the level below
passed_below : {g : Layout} {edge root : ℕ} {image : Image} {s : Sought} {level : Level} {child : ChildCell}
    → IsPassedUpTo g edge image root s level → HasNoneLeft g image level → LeadsBy g edge image level child
    → IsPassedUpTo g edge image root s (level_below level child)
passed_below {g} {edge} {root} {image} {s} {level} {child} up none leads =
    let bucket : bucket_at g level ≡ node_of g level + nibble s.digest level.number =
    ap (λ (d : List ℕ). node_of g level + nibble d level.number) (sym up.digest) in
    let cell : child.cell ≡ node_of g level + 16 + nibble s.digest level.number =
    leads.at ∙ ap (λ (d : List ℕ). node_of g level + 16 + nibble d level.number) (sym up.digest) in
    let held : Holds image child.cell (Child child.target) =
    record { cell = child.found; stands = leads.stands; is = leads.is } in
    record {
      digest = up.digest;
      pool = up.pool;
      cells = up.cells;
      passed = down child.target (level.number + 1) (node_of g level) level.number refl up.passed
          (subst (λ (n : ℕ). IsPassed image s n) bucket (bucket_passed up none))
          (record {
            levels = leads.levels;
            child = subst (λ (n : ℕ). Holds image n (Child child.target)) cell held;
            inside_from = omega (arith, up.pool, leads.from);
            inside_to = omega (arith, up.cells, leads.to);
          });
      answered = λ never. absurd (false_never never);
    }

-- and the path up to each level that it comes to
pub passed_along : {g : Layout} {edge root : ℕ} {image : Image} {s : Sought} {last level : Level}
    → ComesTo g edge image last level → IsPassedUpTo g edge image root s level
    → IsPassedUpTo g edge image root s last
passed_along {g} {edge} {root} {image} {s} (here level is) up =
    subst (λ (l : Level). IsPassedUpTo g edge image root s l) is up
passed_along (further level child none leads rest) up = passed_along rest (passed_below up none leads)

-- in the words of a step
pub goes_on : {g : Layout} {edge : ℕ} {image : Image} {first last : Level} → ComesTo g edge image last first
    → PathGoesOn g edge image first last
goes_on comes = λ root s up. (passed_along comes up).passed

pub passes_bucket : {g : Layout} {edge : ℕ} {image : Image} {first last : Level} → ComesTo g edge image last first
    → HasNoneLeft g image last → PassesBucket g edge image first last
passes_bucket comes none = λ root s up. bucket_passed (passed_along comes up) none
