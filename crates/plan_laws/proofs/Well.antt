-- A planned index is well made.
use Rattle.volume_meaning.proofs.Stamps.{one}
use Rattle.volume_meaning.specs.Postings.{IsPostingOf, ListedPosting}
use Rattle.std.proofs.Common.{ℕ, List, Option, subst}
use Rattle.cell_types.specs.Image.{Image}
use Rattle.cell_types.specs.Layout.{Layout}
use Rattle.ingest_laws.specs.Filling.{IsWellPlanned}
use Rattle.ingest_laws.specs.Ingesting.{Plan}
use Rattle.hash_tree.specs.declared.level.Level.{Level}
use Rattle.hash_tree.specs.declared.path.Open.{Open}
use Rattle.plan_laws.specs.Laws.{IsPlannedIndex}
use Rattle.plan_laws.proofs.Filled.{filled, owners}
use Rattle.plan_laws.proofs.Kept.{kept}
use Rattle.plan_laws.proofs.NewImage.{new_image}
use Rattle.plan_laws.proofs.Nodes.{new_buckets, new_children}
use Rattle.plan_laws.proofs.Postings.{postings}
use Rattle.plan_laws.proofs.Standing.{apart, apart_nodes, blocks, lists, nodes, tree}

pub well : {g : Layout} {old laid : Image} {p : Plan} {rows : List ListedPosting} {level : Level}
    {place : Open} {to : ℕ}
    {planned : Image} → IsPlannedIndex g old laid p rows level place to planned
    → (new : Image) × IsWellPlanned g old new p
well {g} {old} {laid} {p} h = (
  new_image h,
  record {
    filled = filled h;
    lists = lists h;
    owners = owners h;
    apart = apart h;
    apart_nodes = apart_nodes h;
    blocks = blocks h;
    postings = postings h;
    has_postings = h.rows_are.exist;
    trails = λ l q below is. (kept h).trails l q below
        (subst (λ (s : Option ℕ). IsPostingOf g s p.body p.slot l q)
        (one g (new_image h) p.slot p.stamp (kept h).stamp (filled h).stamp (kept h).is_stamp) is);
    tree = tree h;
    nodes = nodes h;
    new_children = new_children h;
    new_buckets = new_buckets h;
    path = (kept h).path;
    absent = h.takes.absent;
  },
)
