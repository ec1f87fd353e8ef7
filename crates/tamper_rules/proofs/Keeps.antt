-- A settled image keeps its documents.
use Rattle.std.proofs.Common.{ℕ, List, refl, sym, subst}
use Rattle.std.specs.Prelude.{Contains}
use Rattle.cell_types.specs.Image.{Image}
use Rattle.cell_types.specs.Layout.{Layout, done_at}
use Rattle.volume_meaning.specs.Documents.{Document, AreDocuments, IsDocument}
use Rattle.volume_meaning.specs.Keeping.{IsKept, Kept}
use Rattle.tamper_rules.specs.Rules.{Trails, Paths, TrailRule, PathRule}
use Rattle.tamper_rules.specs.Settling.{IsSettled, Settled}
use Rattle.volume_meaning.specs.Volumes.{IsWritten}

pub keeps_one : (g : Layout) (image : Image) (d : Document) → IsSettled g image
    → IsDocument g.cells image d.slot d.id d.body → IsKept g.cells image g d
keeps_one g image d s is =
    let w : IsWritten image (done_at d.slot) = record {
      found = is.stands.done.done.cell;
      stands = is.stands.done.done.stands;
    } in
    let trails : TrailRule g image d.slot d.body = s.met Trails (done_at d.slot) w d.slot d.id d.body refl is.stands in
    let path : PathRule g image d.slot d.id = s.met Paths (done_at d.slot) w d.slot d.id d.body refl is.stands in
    record {
      stands = is.stands;
      postings = trails.postings;
      stamp = trails.stamp;
      is_stamp = trails.is_stamp;
      trails = trails.trails;
      path = path.path;
    }

pub keeps_all : (cells : ℕ) (image : Image) (documents : List Document) → Settled cells image
    → AreDocuments cells image documents → Kept cells image documents
keeps_all cells image documents s are =
    let g = s.layout in
    let mine : AreDocuments g.cells image documents =
    subst (λ (c : ℕ). AreDocuments c image documents) (sym s.volume.size) are in
    let kept : (d : Document) → Contains documents d → IsKept g.cells image g d =
    λ d among. keeps_one g image d s.settled ((mine.each d).1 among) in
    record {
      layout = g;
      volume = s.volume;
      each = subst (λ (c : ℕ). (d : Document) → Contains documents d → IsKept c image g d) s.volume.size kept;
    }
