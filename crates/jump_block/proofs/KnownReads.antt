-- A look in a front of which some places are known, over plain values.
use Rattle.std.proofs.Common.{◌≡◌, ◌<◌, ◌≤◌, ◌+◌, ℕ, List, Some, None, Result, Ok, Err, ap, sym, subst, arith, ◌∙◌}
use Rattle.std.specs.Prelude.{IsTrue}
use Rattle.std.proofs.lemmas.Option.{none-some}
use Rattle.cell_types.specs.Image.{Image}
use Rattle.cell_types.specs.declared.refusal.Fault.{Fault}
use Rattle.cell_types.specs.declared.refusal.Fault.TheVariants.{Tampered, Failed}
use Rattle.volume_meaning.proofs.Holding.{some_is}
use Rattle.cell_types.specs.Records.{IsRecordCell}
use Rattle.volume_meaning.specs.Blocks.{PostingFields, posting_record, InFront}
use Rattle.volume_meaning.proofs.Fronts.{one_place}
use Rattle.worm_device.specs.Views.{ViewState, Viewed}
use Rattle.worm_device.proofs.Resting.{viewed_then}
use Rattle.jump_block.specs.Entries.{IsNoPosting, ReadsEntry, posting_of}
use Rattle.jump_block.specs.Fronts.{AreBelow, FirstEnds}
use Rattle.jump_block.specs.Known.{FindsFromKnown, IsKnown, IsPastKey, ReadsOn}
use Rattle.jump_block.specs.declared.held_entry.Entry.{Entry}
use Rattle.jump_block.specs.declared.known_front.Front.{Front}
use Rattle.jump_block.specs.declared.known_front.Front.TheVariants.{At, Open, Full}
use Rattle.jump_block.specs.declared.known_front.KnownFront.{KnownFront}
use Rattle.jump_block.proofs.Counting.{rose_later}
use Rattle.jump_block.proofs.Knowing.{below_next, below_on, known_holds, known_on, of_known, past_on}

-- an ending of a later call is one of the row of calls
pub ends_later : (x block : ℕ) (old mid new : ViewState) → Viewed old mid → (result : Result Front Fault)
    → FirstEnds x block mid new result → FirstEnds x block old new result
ends_later x block old mid new viewed (Ok (At e)) ends =
    (ends.0, ends.1, ends.2, ends.3, λ tells. ends.4 (subst IsTrue (sym viewed.called.tells) tells))
ends_later x block old mid new viewed (Ok (Open n greatest)) ends =
    (ends.0, λ tells. ends.1 (subst IsTrue (sym viewed.called.tells) tells))
ends_later x block old mid new viewed (Ok (Full l)) ends = (
  ends.0,
  λ tells. ends.1
      (subst IsTrue (sym viewed.called.tells) tells),
)
ends_later x block old mid new viewed (Err Failed) rose = rose_later _ _ _ viewed.called.faults rose
ends_later x block old mid new viewed (Err (Tampered e)) ends =
    (ends.0, ends.1, ends.2, ends.3, λ tells. ends.4 (subst IsTrue (sym viewed.called.tells) tells))

-- no known place holds what is no posting
pub not_bad : (image : Image) (f : KnownFront) (place : ℕ) (found : List ℕ) → IsKnown image f → place < f.count
    → IsNoPosting image (f.block + place) found → ⊥
not_bad image f place found known less bad =
    let h = known_holds image f place known less in
    let same : h.1.cell ≡ found = some_is h.1.cell found (sym h.1.stands ∙ bad.stands) in
    bad.none h.0 (subst (λ (c : List ℕ). IsRecordCell (posting_record h.0) (f.block + place) c) same h.1.is)

module _ (f : KnownFront) (x : ℕ) (old mid new : ViewState) (viewed : Viewed old mid)
    (known : IsTrue old.base.tells → IsKnown old.image f)
    (places : f.count ≤ 128) (place : ℕ) (less : place < f.count) where
  told : IsTrue old.base.tells → IsTrue mid.base.tells
  told tells = subst IsTrue (sym viewed.called.tells) tells

  known_then : Viewed mid new → IsTrue old.base.tells → IsKnown new.image f
  known_then later tells = known_on later.image (known_on viewed.image (known tells))

  -- a fault at a known place
  pub fault_at : (fault : Fault) → ReadsEntry f.block place mid new (Err fault)
      → FirstEnds x f.block old new (Err fault)
  fault_at Failed read = rose_later _ _ _ viewed.called.faults read.ends
  fault_at (Tampered e) read = (
    read.ends.0,
    place,
    omega arith,
    read.ends.1,
    λ tells. absurd
        (not_bad new.image f place e.found (known_then read.viewed tells) less (read.ends.2 (told tells))),
  )

  -- the places up to a known one with a smaller key
  pub next_below : (e : Entry) → e.key < x → ReadsEntry f.block place mid new (Ok (Some e))
      → IsTrue old.base.tells → AreBelow new.image f.block (place + 1) x
  next_below e below read tells = below_next new.image f place x e (known_then read.viewed tells) less
      (read.ends.3 (told tells)) below

  -- a known place is not blank
  pub not_blank : ReadsEntry f.block place mid new (Ok None) → IsTrue old.base.tells → ⊥
  not_blank read tells =
      let h = known_holds new.image f place (known_then read.viewed tells) less in
      none-some _ (sym (read.ends (told tells)) ∙ h.1.stands)

  -- a known place is read that holds a key at or past x
  pub past_at : (e : Entry) → x ≤ e.key → ReadsEntry f.block place mid new (Ok (Some e)) → IsTrue old.base.tells
      → IsPastKey new.image f.block place x
  past_at e past read tells = record {
    p = posting_of e;
    in_front = of_known new.image f place (posting_of e) (known_then read.viewed tells) less (read.ends.3 (told tells));
    past = past;
  }

  -- a known place that holds a key at or past x holds no other
  pub not_less : (e : Entry) → e.key < x → (IsTrue old.base.tells → IsPastKey mid.image f.block place x)
      → ReadsEntry f.block place mid new (Ok (Some e)) → IsTrue old.base.tells → ⊥
  not_less e low past read tells =
      let h = past_on read.viewed.image (past tells) in
      let here = of_known new.image f place (posting_of e) (known_then read.viewed tells) less
      (read.ends.3 (told tells)) in
      let same : h.p.key ≡ e.key = ap (λ (q : PostingFields). q.key) (one_place h.in_front here) in
      omega (arith, h.past)

  -- a known place with a key at or past x, behind places with keys below
  pub found_at : (e : Entry) → x ≤ e.key → (IsTrue old.base.tells → AreBelow mid.image f.block place x)
      → ReadsEntry f.block place mid new (Ok (Some e)) → FirstEnds x f.block old new (Ok (At e))
  found_at e past below read = (
    read.ends.0,
    omega (arith, read.ends.1),
    past,
    read.ends.2,
    λ tells. (
      subst (λ (n : ℕ). InFront new.image f.block n (posting_of e)) (sym read.ends.1)
          (of_known new.image f place (posting_of e) (known_then read.viewed tells) less (read.ends.3 (told tells))),
      subst (λ (n : ℕ). AreBelow new.image f.block n x) (sym read.ends.1) (below_on read.viewed.image (below tells)),
    ),
  )

-- reading on, as a look from known places; before it so many reads found that what was known does not stand
pub from_reading : (x : ℕ) (old mid new : ViewState) (front start later : KnownFront) → Viewed old mid
    → start.block ≡ front.block
    → mid.base.reads ≤ old.base.reads + 8 → (IsTrue old.base.tells → (mid.base.reads ≡ old.base.reads)
    × (start.count ≡ front.count))
    → (result : Result Front Fault) → ReadsOn x mid new start later result → FindsFromKnown x old new front later result
from_reading x old mid new front start later viewed same before none result read = record {
  viewed = viewed_then viewed read.viewed;
  block = read.block ∙ same;
  places = read.places;
  known = λ tells. read.known (subst IsTrue (sym viewed.called.tells) tells);
  reads = omega (arith, before, read.reads, read.places);
  cheap = λ tells. let n = none tells in omega (arith, n.0, n.1, read.reads);
  ends = subst (λ (b : ℕ). FirstEnds x b old new result) same
      (ends_later x start.block old mid new viewed result read.ends);
}
