-- The slots of parts.
use Rattle.std.proofs.Common.{◌≡◌, ◌<◌, ℕ, zero, suc, List, [], ◌∷◌, ◌++◌, length, get_or, refl, sym, ap, arith}
use Rattle.std.specs.Prelude.{Contains, slice_index}
use Rattle.document_store.specs.declared.part.Part.{Part}
use Rattle.volume_copy.specs.Reading.{part_slots}

-- there are as many of them
pub slots_count : (ps : List Part) → length (part_slots ps) ≡ length ps
slots_count [] = refl
slots_count (p ∷ ps) = ap (λ (n : ℕ). suc n) (slots_count ps)

-- one more part
pub slots_push : (ps : List Part) (p : Part) → part_slots (ps ++ p ∷ []) ≡ part_slots ps ++ p.slot ∷ []
slots_push [] p = refl
slots_push (q ∷ ps) p = ap (λ (ns : List ℕ). q.slot ∷ ns) (slots_push ps p)

-- a slot is that of a part
pub part_of : (ps : List Part) (n : ℕ) → Contains (part_slots ps) n → (p : Part) × Contains ps p × (p.slot ≡ n)
part_of [] n (k, below, is) = absurd (omega (arith, below))
part_of (p ∷ ps) n (zero, below, is) = (p, (zero, omega arith, refl), is)
part_of (p ∷ ps) n (suc k, below, is) =
    let w = part_of ps n (k, omega (arith, below), is) in (w.0, (suc w.1.0, omega (arith, w.1.1), w.1.2), w.2)

-- the part of a place has the slot of this place
pub part_at : (ps : List Part) (k : ℕ) (p d : Part) → k < length ps → p ≡ get_or ps k d
    → Contains ps p × (p.slot ≡ slice_index (part_slots ps) k)
part_at [] k p d below is = absurd (omega (arith, below))
part_at (q ∷ ps) zero p d below is = ((zero, omega arith, sym is), ap (λ (r : Part). r.slot) is)
part_at (q ∷ ps) (suc k) p d below is =
    let w = part_at ps k p d (omega (arith, below)) is in ((suc w.0.0, omega (arith, w.0.1), w.0.2), w.1)
