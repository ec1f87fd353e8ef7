-- What is said of written cells goes on holding in each image that extends the first.
use Rattle.std.proofs.Common.{◌≡◌, ◌+◌, ℕ, List, Option, Some, None, refl, sym, ◌∙◌, inl, inr, ⊎_elim}
use Rattle.cell_types.specs.Image.{Image, Extends}
use Rattle.cell_types.specs.Layout.{Layout}
use Rattle.cell_types.specs.declared.record_cell.RecordCell.{RecordCell}
use Rattle.volume_meaning.specs.Volumes.{Holds, IsVolume, IsWritten}
use Rattle.volume_meaning.specs.Slots.{Reserves, Abandons, Commits, IsStamped, IsUnused, IsReserved, IsAbandoned, IsCommitted, IsDone, IsDoneSlot, IsAbandonedSlot, HasEnded, AreTaken, IsHorizon, EndsBelow, IsEdge, IsLive}
use Rattle.volume_meaning.specs.Documents.{Spells, Stands, IsDocument}

-- a record stays where it stands
pub holds_on : {old new : Image} {at : ℕ} {r : RecordCell} → Extends old new → Holds old at r → Holds new at r
holds_on {old} {new} {at} e h = record { cell = h.cell; stands = e.keeps at h.cell h.stands; is = h.is }

-- a volume stays one
pub volume_on : {cells : ℕ} {old new : Image} {g : Layout} → Extends old new → IsVolume cells old g
    → IsVolume cells new g
volume_on e v = record { volume = holds_on e v.volume; size = v.size }

-- a slot keeps its cells
pub reserves_on : {g : Layout} {old new : Image} {n start length : ℕ} → Extends old new
    → Reserves g old n start length → Reserves g new n start length
reserves_on e r = record { slot = r.slot; reserve = holds_on e r.reserve; from = r.from; to = r.to }

-- a slot keeps its stamp
pub stamped_on : {old new : Image} {n : ℕ} → Extends old new → IsStamped old n → IsStamped new n
stamped_on e s = record { seconds = s.seconds; stamp = holds_on e s.stamp }

-- a slot keeps its document and its journal
pub commits_on : {g : Layout} {old new : Image} {n start length bytes journal : ℕ} → Extends old new
    → Commits g old n start length bytes journal → Commits g new n start length bytes journal
commits_on e c = record {
  reserves = reserves_on e c.reserves;
  outcome = holds_on e c.outcome;
  fits = c.fits;
  stamped = λ v. stamped_on e (c.stamped v);
}

-- a slot that is done stays so
pub done_on : {g : Layout} {old new : Image} {n start length bytes journal : ℕ} → Extends old new
    → IsDone g old n start length bytes journal → IsDone g new n start length bytes journal
done_on e d = record { commits = commits_on e d.commits; done = holds_on e d.done }

-- cells that spell bytes go on spelling them
pub spells_on : {old new : Image} (from : ℕ) (stored : List ℕ) → Extends old new → Spells old from stored
    → Spells new from stored
spells_on from stored e spells = λ k below. e.keeps _ _ (spells k below)

-- a document goes on standing
pub stands_on : {cells : ℕ} {old new : Image} {n : ℕ} {id body : List ℕ} → Extends old new
    → Stands cells old n id body → Stands cells new n id body
stands_on e s = record {
  layout = s.layout;
  start = s.start;
  reserved = s.reserved;
  journal = s.journal;
  volume = volume_on e s.volume;
  slot = s.slot;
  done = done_on e s.done;
  spells = spells_on _ _ e s.spells;
  is_identifier = s.is_identifier;
  is_body = s.is_body;
}

-- what is blank in an image was blank in each that it extends
pub blank_before : {old new : Image} {at : ℕ} → Extends old new → new at ≡ None → old at ≡ None
blank_before {old} {new} {at} e none = blank (old at) refl
  where
    blank : (found : Option (List ℕ)) → old at ≡ found → old at ≡ None
    blank None was = was
    blank (Some v) was = absurd (let clash : None ≡ Some v = sym none ∙ e.keeps at v was in cc)

-- what is written stays so
pub written_on : {old new : Image} {at : ℕ} → Extends old new → IsWritten old at → IsWritten new at
written_on {old} {new} {at} e w = record { found = w.found; stands = e.keeps at w.found w.stands }

-- a slot that is given up stays so
pub abandons_on : {g : Layout} {old new : Image} {n start length : ℕ} → Extends old new
    → Abandons g old n start length → Abandons g new n start length
abandons_on e a = record { reserves = reserves_on e a.reserves; outcome = holds_on e a.outcome }

-- slots that are taken stay so
pub taken_on : {old new : Image} (n : ℕ) → Extends old new → AreTaken old n → AreTaken new n
taken_on n e taken = λ m below. written_on e (taken m below)

module _ {before before' after after' : Image} (e : Extends before' before) (f : Extends after after') where
  pub unused_further : {g : Layout} {n : ℕ} → IsUnused g before n → IsUnused g before' n
  unused_further u = record {
    slot = u.slot;
    reserve = blank_before e u.reserve;
    outcome = blank_before e u.outcome;
    done = blank_before e u.done;
  }

  pub reserved_further : {g : Layout} {n start length : ℕ} → IsReserved g before after n start length
      → IsReserved g before' after' n start length
  reserved_further r = record {
    reserves = reserves_on f r.reserves;
    outcome = blank_before e r.outcome;
    done = blank_before e r.done;
  }

  pub abandoned_further : {g : Layout} {n start length : ℕ} → IsAbandoned g before after n start length
      → IsAbandoned g before' after' n start length
  abandoned_further a = record { abandons = abandons_on f a.abandons; done = blank_before e a.done }

  pub committed_further : {g : Layout} {n start length bytes journal : ℕ}
      → IsCommitted g before after n start length bytes journal
      → IsCommitted g before' after' n start length bytes journal
  committed_further c = record { commits = commits_on f c.commits; done = blank_before e c.done }

  pub done_slot_on : {g : Layout} {n : ℕ} → IsDoneSlot g after n → IsDoneSlot g after' n
  done_slot_on d = record {
    start = d.start;
    length = d.length;
    bytes = d.bytes;
    journal = d.journal;
    done = done_on f d.done;
  }

  pub ended_further : {g : Layout} {n : ℕ} → HasEnded g before after n → HasEnded g before' after' n
  ended_further {g} {n} h = ⊎_elim
      (λ (a : IsAbandonedSlot g before after n). inl (record {
        start = a.start;
        length = a.length;
        abandoned = abandoned_further a.abandoned;
      }))
      (λ d. inr (done_slot_on d))
      h

  pub horizon_further : {g : Layout} {u : ℕ} → IsHorizon g before after u → IsHorizon g before' after' u
  horizon_further h = record {
    most = h.most;
    below = λ m is. written_on f (h.below m is);
    free = λ less. blank_before e (h.free less);
  }

  pub ends_on : {g : Layout} {u at : ℕ} → EndsBelow g after u at → EndsBelow g after' u at
  ends_on {g} {u} {at} h = ⊎_elim inl
      (λ (w : (m : ℕ) × (start : ℕ) × (length : ℕ) × (u ≡ m + 1) × Reserves g after m start length
      × (at ≡ start + length)).
      inr (w.0, w.1, w.2, w.3, reserves_on f w.4, w.5))
      h

  pub edge_further : {g : Layout} {at : ℕ} → IsEdge g before after at → IsEdge g before' after' at
  edge_further h = record { u = h.u; most = h.most; free = λ less. blank_before e (h.free less); ends = ends_on h.ends }

  pub live_on : {g : Layout} {n : ℕ} → IsLive g after n → IsLive g after' n
  live_on {g} {n} l = record { slot = l.slot; done = done_slot_on l.done; taken = taken_on n f l.taken }

-- a document of the volume goes on being one
pub document_on : {cells : ℕ} {old new : Image} {n : ℕ} {id body : List ℕ} → Extends old new
    → IsDocument cells old n id body → IsDocument cells new n id body
document_on {cells} {old} {new} {n} e d = record { stands = stands_on e d.stands; taken = taken_on n e d.taken }
