-- A pointer leads well just where each question about it is answered so.
use Rattle.std.proofs.Common.{◌≡◌, ◌<◌, ◌≤◌, ◌+◌, ◌*◌, ℕ, subst, arith}
use Rattle.cell_types.specs.Image.{Image}
use Rattle.cell_types.specs.Layout.{Layout}
use Rattle.cell_types.specs.declared.record_cell.RecordCell.TheVariants.{Jump}
use Rattle.volume_meaning.specs.Blocks.{pointer_at}
use Rattle.volume_meaning.specs.Nodes.{IsBlockOf}
use Rattle.volume_meaning.specs.Volumes.{Holds}
use Rattle.volume_meaning.proofs.Holding.{one_record_holds}
use Rattle.tamper_rules.specs.Rules.{LeadsWell}
use Rattle.list_audit.proofs.Closing.{leads_on}
use Rattle.log_audit.specs.Logs.{IsLog}
use Rattle.log_audit.specs.declared.log.Log.{Log}
use Rattle.log_audit.proofs.Edges.{is_edge, one_edge}
use Rattle.tree_audit.specs.Leading.{IsBeforeEdge, IsOwned, IsInSpan}
use Rattle.tree_audit.specs.Occupied.{IsAlone, IsOffNodes}

module _ (g : Layout) (image : Image) (log : Log) (is : IsLog g image log) (l block level digit target : ℕ)
    (jump : Holds image (pointer_at block level digit) (Jump target)) where
  -- it leads to this target alone
  one_target : (w : LeadsWell g image l block level digit) → w.target ≡ target
  one_target w = let same : Jump w.target ≡ Jump target =
      one_record_holds image (pointer_at block level digit) (Jump w.target) (Jump target) w.jump jump in cc

  pub inside_so : LeadsWell g image l block level digit → IsBeforeEdge g log.edge target
  inside_so w = subst (IsBeforeEdge g log.edge) (one_target w)
      (record { from = w.from; to = w.to; before = w.edge log.edge (is_edge g image log is) })

  pub owned_so : LeadsWell g image l block level digit → IsOwned g image target
  owned_so w = subst (IsOwned g image) (one_target w) (record { owner = w.owner; first = w.owns_first; last = w.owns_last })

  pub span_so : LeadsWell g image l block level digit → IsInSpan image block level digit target
  span_so w = subst (IsInSpan image block level digit) (one_target w) (record {
    full = w.full;
    greatest = w.greatest;
    ends = w.ends;
    place = w.place;
    some = w.some;
    in_places = w.in_places;
    in_front = w.in_front;
    in_span = w.in_span;
  })

  pub alone_so : LeadsWell g image l block level digit → IsAlone g image l target
  alone_so w = subst (IsAlone g image l) (one_target w) w.blocks

  pub off_nodes_so : LeadsWell g image l block level digit → IsOffNodes g image target
  off_nodes_so w = subst (IsOffNodes g image) (one_target w) w.nodes

  pub well : IsBeforeEdge g log.edge target → IsOwned g image target → IsInSpan image block level digit target → IsAlone g image l target
      → IsOffNodes g image target → LeadsWell g image l block level digit
  well inside owned span alone off = record {
    target = target;
    jump = jump;
    full = span.full;
    from = inside.from;
    to = inside.to;
    edge = λ at e. let one = one_edge g image log is at e in omega (arith, inside.before, one);
    owner = owned.owner;
    owns_first = owned.first;
    owns_last = owned.last;
    greatest = span.greatest;
    ends = span.ends;
    place = span.place;
    some = span.some;
    in_places = span.in_places;
    in_front = span.in_front;
    in_span = span.in_span;
    blocks = alone;
    nodes = off;
  }

  -- the target is a block of the list
  pub target_is : IsBlockOf g image l block → level < 8 → 1 ≤ digit → digit ≤ 15 → IsBeforeEdge g log.edge target → IsBlockOf g image l target
  target_is of levels some digits inside = leads_on {pointer = 127 + 15 * level + digit} of (omega (arith, some)) (omega (arith, levels, digits))
      (record { held = jump; from = inside.from; to = inside.to })
