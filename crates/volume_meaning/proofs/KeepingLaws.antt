-- What is kept.
use Rattle.std.proofs.Common.{◌≡◌, ℕ, List, ap, sym, subst, ◌∙◌}
use Rattle.cell_types.specs.Image.{Image, Extends}
use Rattle.cell_types.specs.Layout.{Layout, root_at}
use Rattle.volume_meaning.specs.Documents.{Document, Stands}
use Rattle.volume_meaning.specs.HashPaths.{HashTrail}
use Rattle.volume_meaning.specs.Keeping.{sought_in, IsKept, Kept}
use Rattle.volume_meaning.proofs.Extending.{volume_on, stands_on}
use Rattle.volume_meaning.proofs.HashTrails.{hash_trail_on, one_hash_trail}
use Rattle.volume_meaning.proofs.Stamps.{stamp_on}
use Rattle.volume_meaning.proofs.OneDocument.{one_document}
use Rattle.volume_meaning.proofs.Trails.{trail_on}

pub is_kept_on : {cells : ℕ} {old new : Image} {g : Layout} {d : Document} → Extends old new
    → IsKept cells old g d → IsKept cells new g d
is_kept_on {g = g} {d = d} e k = record {
  stands = stands_on e k.stands;
  postings = k.postings;
  stamp = k.stamp;
  is_stamp = stamp_on g d.slot k.stamp e k.is_stamp;
  trails = λ l p below is. let t = k.trails l p below is in (t.0, trail_on e t.1);
  path = hash_trail_on e k.path;
}

pub kept_on : {cells : ℕ} {old new : Image} {documents : List Document} → Extends old new
    → Kept cells old documents → Kept cells new documents
kept_on e k = record {
  layout = k.layout;
  volume = volume_on e k.volume;
  each = λ d among. is_kept_on e (k.each d among);
}

abbrev document : ℕ → List ℕ → List ℕ → Document
document n id body = record { slot = n; id = id; body = body }

pub documents : (a b : Document) → a.slot ≡ b.slot → a.id ≡ b.id → a.body ≡ b.body → a ≡ b
documents a b p q r =
    ap (λ (n : ℕ). document n a.id a.body) p ∙ ap (λ (i : List ℕ). document b.slot i a.body) q
    ∙ ap (λ (t : List ℕ). document b.slot b.id t) r

pub one_kept : (cells : ℕ) (image : Image) (g : Layout) (d e : Document) → IsKept cells image g d
    → IsKept cells image g e → d.id ≡ e.id → d ≡ e
one_kept cells image g d e k h same =
    let P : List ℕ → Type 0 = λ id. Stands cells image e.slot id e.body in
    let Q : List ℕ → Type 0 = λ id. HashTrail image (sought_in cells g id) e.slot (root_at g) 0 in
    let slots : d.slot ≡ e.slot =
    one_hash_trail k.path e.slot d.body e.body k.stands (subst P (sym same) h.stands) (subst Q (sym same) h.path) in
    let R : ℕ → Type 0 = λ n. Stands cells image n e.id e.body in
    let bodies : d.body ≡ e.body =
    (one_document cells image d.slot d.id d.body e.id e.body k.stands (subst R (sym slots) h.stands)).1 in
    documents d e slots same bodies
