-- What is known of a front: it stays known, and says what the known places hold.
use Rattle.std.proofs.Common.{◌≡◌, ◌<◌, ◌≤◌, ◌+◌, ◌-◌, ◌*◌, ◌^◌, ⊎_elim, ℕ, suc, Option, Some, None, ap, sym, subst, arith, ◌∙◌}
use Rattle.std.proofs.lemmas.Bool.{cases_lt}
use Rattle.std.proofs.Math.Nat.{pow-succ'}
use Rattle.cell_types.specs.Image.{Image, Extends}
use Rattle.volume_meaning.specs.Volumes.{Holds}
use Rattle.volume_meaning.specs.Blocks.{PostingFields, posting_record, InFront, at_the_start, behind}
use Rattle.volume_meaning.proofs.Fronts.{front_on, front_holds, one_posting}
use Rattle.jump_block.specs.Entries.{posting_of}
use Rattle.jump_block.specs.Fronts.{AreBelow, EndsWith, HasKeyAt}
use Rattle.jump_block.specs.Keeping.{AreFrontsKept}
use Rattle.jump_block.specs.Known.{IsBelow, IsGreatest, IsKnown, IsPastKey}
use Rattle.jump_block.specs.declared.held_entry.Entry.{Entry}
use Rattle.jump_block.specs.declared.kept_fronts.KeptFronts.{KeptFronts}
use Rattle.jump_block.specs.declared.known_front.KnownFront.{KnownFront}

-- a key at a place of a front stays there
pub key_on : {old new : Image} {block place key : ℕ} → Extends old new → HasKeyAt old block place key
    → HasKeyAt new block place key
key_on e h = record { p = h.p; in_front = front_on e h.in_front; same = h.same }

-- what is known stays so
pub known_on : {old new : Image} {f : KnownFront} → Extends old new → IsKnown old f → IsKnown new f
known_on e k = record { last = λ place is. key_on e (k.last place is) }

-- what is kept stays known
pub kept_on : {old new : Image} {fronts : KeptFronts} → Extends old new → AreFrontsKept old fronts → AreFrontsKept new fronts
kept_on e k = record { each = λ i f is. known_on e (k.each i f is) }

-- keys below x stay so
pub below_on : {old new : Image} {block place x : ℕ} → Extends old new → AreBelow old block place x
    → AreBelow new block place x
below_on e b = record { last = λ before is. let h = b.last before is in (h.0, front_on e h.1, h.2) }

-- each place before one of the front is of the front
pub front_below : {image : Image} {block : ℕ} {j : ℕ} {q : PostingFields} → InFront image block j q → (i : ℕ) → i ≤ j
    → (p : PostingFields) × InFront image block i p
front_below {image} {block} (at_the_start place q is holds) i le = (
  q,
  let same : place ≡ i = omega arith in subst (λ (n : ℕ). InFront image block n q) same
      (at_the_start place q is holds),
)
front_below {image} {block} (behind place before q r is rest less holds) i le =
    ⊎_elim
    (λ below. front_below rest i (omega arith))
    (λ above. (
      q,
      let same : place ≡ i = omega arith in subst (λ (n : ℕ). InFront image block n q) same
          (behind place before q r is rest less holds),
    ))
    (cases_lt i place)

-- known keys below x
pub below_known : (image : Image) (f : KnownFront) (x : ℕ) → IsKnown image f → IsBelow f x
    → AreBelow image f.block f.count x
below_known image f x known below = record {
  last = λ before is. let h = known.last before is in (
    h.p,
    h.in_front,
    omega
        (arith, h.same, below.below (omega arith)),
  );
}

-- a key at or past x stays so
pub past_on : {old new : Image} {block place x : ℕ} → Extends old new → IsPastKey old block place x
    → IsPastKey new block place x
past_on e h = record { p = h.p; in_front = front_on e h.in_front; past = h.past }

-- the last known place holds the greatest known key
pub past_known : (image : Image) (f : KnownFront) (x : ℕ) → IsKnown image f → 1 ≤ f.count → x ≤ f.greatest
    → IsPastKey image f.block (f.count - 1) x
past_known image f x known some past =
    let h = known.last (f.count - 1) (omega arith) in record
    { p = h.p; in_front = h.in_front; past = omega (arith, h.same) }

-- the known places end with the greatest known key
pub ends_known : (image : Image) (f : KnownFront) (greatest : Option ℕ) → IsKnown image f → IsGreatest f greatest
    → EndsWith image f.block f.count greatest
ends_known image f None known is = is
ends_known image f (Some key) known is =
    let last : f.count ≡ (f.count - 1) + 1 = omega (arith, is.0) in
    let h = known.last (f.count - 1) last in
    (f.count - 1, last, record { p = h.p; in_front = h.in_front; same = h.same ∙ sym is.1 })

-- what a known place holds is of the front
pub of_known : (image : Image) (f : KnownFront) (place : ℕ) (p : PostingFields) → IsKnown image f → place < f.count
    → Holds image (f.block + place) (posting_record p) → InFront image f.block place p
of_known image f place p known less holds =
    let h = known.last (f.count - 1) (omega arith) in
    let q = front_below h.in_front place (omega arith) in
    subst (λ (r : PostingFields). InFront image f.block place r)
    (one_posting image (f.block + place) q.0 p (front_holds q.1) holds) q.1

-- a known place holds a posting
pub known_holds : (image : Image) (f : KnownFront) (place : ℕ) → IsKnown image f → place < f.count
    → (p : PostingFields) × Holds image (f.block + place) (posting_record p)
known_holds image f place known less =
    let h = known.last (f.count - 1) (omega arith) in
    let q = front_below h.in_front place (omega arith) in
    (q.0, front_holds q.1)

-- the places up to a known one with a key below x hold such keys
pub below_next : (image : Image) (f : KnownFront) (middle x : ℕ) (e : Entry) → IsKnown image f → middle < f.count
    → Holds image (f.block + middle) (posting_record (posting_of e)) → e.key < x → AreBelow image f.block (middle + 1) x
below_next image f middle x e known less holds below = record {
  last = λ before is. (
    posting_of e,
    subst (λ (n : ℕ). InFront image f.block n (posting_of e)) (omega arith)
        (of_known image f middle (posting_of e) known less holds),
    below,
  );
}

-- the next place is in the front too
pub next_in_front : (image : Image) (f : KnownFront) (p : PostingFields) → IsKnown image f
    → (1 ≤ f.count → f.greatest < p.key)
    → Holds image (f.block + f.count) (posting_record p) → InFront image f.block f.count p
next_in_front image f p known rises holds =
    ⊎_elim
    (λ less. at_the_start f.count p (omega arith) holds)
    (λ more. let h = known.last (f.count - 1) (omega arith) in
    behind f.count (f.count - 1) p h.p (omega arith) h.in_front (omega (arith, h.same, rises more)) holds)
    (cases_lt f.count 1)

-- one halving more leaves half as many places
pub halved : (h : ℕ) → h < 7 → 2 ^ (7 - h) ≡ 2 * 2 ^ (7 - (h + 1))
halved h less = let e : 7 - h ≡ suc (7 - (h + 1)) = omega arith in ap (λ (n : ℕ). 2 ^ n) e ∙ pow-succ' 2 (7 - (h + 1))
