-- Images in which slot 0 alone is taken, and is done: what is found in its slots, and which documents it has.
use Rattle.std.proofs.Common.{◌≡◌, ◌<◌, ◌≤◌, ◌+◌, inl, inr, ℕ, suc, zero, List, [], ◌∷◌, None, sym, ◌∙◌, ap, subst, arith}
use Rattle.std.specs.Prelude.{Contains}
use Rattle.std.proofs.lemmas.Option.{none-some}
use Rattle.cell_types.specs.Image.{Image}
use Rattle.cell_types.specs.Layout.{Layout, reserve_at, outcome_at}
use Rattle.cell_types.specs.declared.record_cell.RecordCell.TheVariants.{Reserve, Commit}
use Rattle.volume_meaning.specs.Documents.{Document, IsDocument, AreDocuments, Stands}
use Rattle.volume_meaning.specs.Slots.{Reserves, Stores, IsDone, IsDoneSlot, IsHorizon, IsEdge, IsLive}
use Rattle.volume_meaning.specs.Volumes.{Holds, IsVolume, IsWritten}
use Rattle.volume_meaning.proofs.Holding.{one_record_holds}
use Rattle.volume_meaning.proofs.OneDocument.{one_document, reserves, commits}
use Rattle.volume_meaning.proofs.KeepingLaws.{documents}
use Rattle.tamper_rules.proofs.DocumentLists.{only_one, the_one}
use Rattle.tamper_rules.proofs.GivenUp.{one_layout}

-- slot 0 is done, with these numbers, and no other slot is taken
pub record IsAlone (g : Layout) (image : Image) (start length bytes journal : ℕ) : Type 0 where
  pub some : 1 ≤ g.slots
  pub only : (n : ℕ) → n < g.slots → IsWritten image (reserve_at n) → n ≡ 0
  pub done : IsDone g image 0 start length bytes journal

-- what is reserved, slot 0 reserves
pub reserves_alone : {g : Layout} {image : Image} {start length bytes journal n at size : ℕ}
    → IsAlone g image start length bytes journal → Reserves g image n at size
    → (n ≡ 0) × (at ≡ start) × (size ≡ length)
reserves_alone {g} {image} {start} {length} {bytes} {journal} {n} {at} {size} a r =
    let first : n ≡ 0 = a.only n r.slot (record { found = r.reserve.cell; stands = r.reserve.stands }) in
    let held = subst (λ (k : ℕ). Holds image (reserve_at k) (Reserve at size)) first r.reserve in
    let mine = a.done.commits.reserves.reserve in
    let same = one_record_holds image 4 (Reserve at size) (Reserve start length) held mine in
    let both = reserves at size start length same in
    (first, both.0, both.1)

-- What holds of slot 0, its cells, its bytes and its journal, holds of each slot that is committed or done.
pub of_one : {g : Layout} {image : Image} {start length bytes journal : ℕ} → IsAlone g image start length bytes journal
    → (P : ℕ → ℕ → ℕ → ℕ → ℕ → Type 0) → P 0 start length bytes journal → {n at size count copies : ℕ}
    → Stores g image n at size count copies → P n at size count copies
of_one {g} {image} {start} {length} {bytes} {journal} a P is {n} {at} {size} {count} {copies} s =
    let place = reserves_alone a s.commits.reserves in
    let held = subst (λ (k : ℕ). Holds image (outcome_at k) (Commit count copies)) place.0 s.commits.outcome in
    let same = one_record_holds image 5 (Commit count copies) (Commit bytes journal) held a.done.commits.outcome in
    let sizes = commits count copies bytes journal same in
    subst (λ (k : ℕ). P k at size count copies) (sym place.0)
    (subst (λ (k : ℕ). P 0 k size count copies) (sym place.1)
    (subst (λ (k : ℕ). P 0 start k count copies) (sym place.2)
    (subst (λ (k : ℕ). P 0 start length k copies) (sym sizes.0)
    (subst (λ (k : ℕ). P 0 start length bytes k) (sym sizes.1) is))))

-- slot 0 is taken
taken : {g : Layout} {image : Image} {start length bytes journal : ℕ} → IsAlone g image start length bytes journal
    → image 4 ≡ None → ⊥
taken a free = none-some _ (sym free ∙ a.done.commits.reserves.reserve.stands)

-- the one edge is at the end of its cells
pub edge_alone : {g : Layout} {image : Image} {start length bytes journal at : ℕ}
    → IsAlone g image start length bytes journal → IsEdge g image image at → at ≡ start + length
edge_alone {g} {image} a e = elim e.ends [
  | inl none ↦
      let blank : image (reserve_at e.u) ≡ None = e.free (omega (arith, none.0, a.some)) in
      absurd (taken a (ap (λ (k : ℕ). image (reserve_at k)) (sym none.0) ∙ blank))
  | inr some ↦ let place = reserves_alone a some.4 in omega (arith, place.1, place.2, some.5)
]

-- 1 is the one horizon
pub horizon_alone : {g : Layout} {image : Image} {start length bytes journal : ℕ}
    → IsAlone g image start length bytes journal → (u : ℕ) → IsHorizon g image image u → u ≡ 1
horizon_alone a zero h = absurd (taken a (h.free (omega (arith, a.some))))
horizon_alone a (suc k) h =
    let first : k ≡ 0 = a.only k (omega (arith, h.most)) (h.below k (omega arith)) in
    omega (arith, first)

-- slot 0 is done
pub done_alone : {g : Layout} {image : Image} {start length bytes journal : ℕ}
    → IsAlone g image start length bytes journal → IsDoneSlot g image 0
done_alone {g} {image} {start} {length} {bytes} {journal} a =
    record { start = start; length = length; bytes = bytes; journal = journal; done = a.done }

-- and live
pub live_alone : {g : Layout} {image : Image} {start length bytes journal : ℕ}
    → IsAlone g image start length bytes journal → IsLive g image 0
live_alone a = record {
  slot = omega (arith, a.some);
  done = done_alone a;
  taken = λ m below. absurd (omega (arith, below));
}

-- each slot below a horizon is done
pub ended_alone : {g : Layout} {image : Image} {start length bytes journal : ℕ}
    → IsAlone g image start length bytes journal → (u m : ℕ) → IsHorizon g image image u → m < u → IsDoneSlot g image m
ended_alone {g} {image} a u m h less =
    let first : m ≡ 0 = omega (arith, horizon_alone a u h, less) in
    subst (IsDoneSlot g image) (sym first) (done_alone a)

-- what stands, stands in slot 0, and is its document
pub stands_alone : {g : Layout} {image : Image} {start length bytes journal n : ℕ} {id body other more : List ℕ}
    → IsAlone g image start length bytes journal → IsVolume g.cells image g → Stands g.cells image 0 id body
    → Stands g.cells image n other more → (n ≡ 0) × (other ≡ id) × (more ≡ body)
stands_alone {g} {image} {start} {length} {bytes} {journal} {n} {id} {body} {other} {more} a volume one t =
    let same : t.layout ≡ g = one_layout t.layout g t.volume volume in
    let reserves : Reserves g image n t.start t.reserved =
    subst (λ (h : Layout). Reserves h image n t.start t.reserved) same t.done.commits.reserves in
    let first : n ≡ 0 = (reserves_alone a reserves).0 in
    let there = subst (λ (k : ℕ). Stands g.cells image k other more) first t in
    let both = one_document g.cells image 0 other more id body there one in
    (first, both.0, both.1)

-- the document of slot 0
abbrev pub in_slot_0 : List ℕ → List ℕ → Document
in_slot_0 id body = record { slot = 0; id = id; body = body }

-- and that document is the only one
pub documents_alone : {g : Layout} {image : Image} {start length bytes journal : ℕ} {id body : List ℕ}
    → IsAlone g image start length bytes journal → IsVolume g.cells image g → Stands g.cells image 0 id body
    → AreDocuments g.cells image (in_slot_0 id body ∷ [])
documents_alone {g} {image} {start} {length} {bytes} {journal} {id} {body} a volume one =
    let document : Document = in_slot_0 id body in
    let is : IsDocument g.cells image 0 id body = record {
      stands = one;
      taken = λ m below. absurd (omega (arith, below));
    } in
    record {
      rise = (omega arith, tt);
      each = λ d. (
        λ i.
            let parts = stands_alone a volume one i.stands in
            let same : d ≡ document = documents d document parts.0 parts.1 parts.2 in
            subst (λ (e : Document). Contains (document ∷ []) e) (sym same) (the_one document),
        λ among.
            let same : d ≡ document = only_one document d among in
            subst (λ (e : Document). IsDocument g.cells image e.slot e.id e.body) (sym same) is,
      );
    }
