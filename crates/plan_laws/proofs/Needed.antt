-- What planning answers on a settled volume costs the document's need.
use Rattle.std.proofs.Common.{◌≡◌, ◌<◌, ◌+◌, ℕ, List, Option, Some, None, refl, ap, subst, arith, ◌∙◌}
use Rattle.std.specs.Prelude.{IsTrue, length, take}
use Rattle.std.proofs.lemmas.List.{take_all}
use Rattle.sha2.specs.Sha256.{sha256}
use Rattle.cell_types.specs.Image.{Image}
use Rattle.cell_types.specs.Layout.{Layout, IsLayout}
use Rattle.volume_meaning.specs.Documents.{stored_bytes}
use Rattle.volume_meaning.specs.Slots.{EndsBelow, IsEdge, IsHorizon, IsStampFor, cells_for}
use Rattle.volume_meaning.specs.HashPaths.{IsPassed, nibble}
use Rattle.volume_meaning.specs.Keeping.{sought_in}
use Rattle.volume_meaning.specs.Postings.{ListedPosting}
use Rattle.tamper_rules.specs.Settling.{IsSettled}
use Rattle.ingest_laws.specs.Needs.{BucketCosts, IsNeed, PostingsCost, in_bucket, in_new_node}
use Rattle.worm_device.specs.Counts.{IsStill}
use Rattle.worm_device.specs.State.{DeviceState}
use Rattle.hash_tree.specs.Levels.{node_of}
use Rattle.hash_tree.specs.Steps.{IsOpenAt}
use Rattle.hash_tree.specs.declared.level.Level.{Level}
use Rattle.hash_tree.specs.declared.path.Open.{Open}
use Rattle.hash_tree.specs.Readiness.{PassedDown, blank_in, cost_in, cost_of}
use Rattle.plan_laws.specs.Standing.{EndsPath, below_slot, seconds_of}
use Rattle.plan_laws.proofs.SettledLists.{settled_stand}
use Rattle.ingest_plan.specs.Planning.{IsLater, IsPlanned}
use Rattle.ingest_plan.specs.declared.plan.PlannedIndex.{PlannedIndex}
use Rattle.plan_laws.proofs.Taken.{keys_of_slot, past_stamps, stands_at_cost}

-- where a path ends at this place, the bucket goes there, into the node or into a new one
bucket_costs : (g : Layout) (image : Image) (id : List ℕ) (level : Level) (bucket : ℕ) (child : Option ℕ)
    → level.digest ≡ sha256 id → IsOpenAt g level bucket child → image (blank_in bucket child) ≡ None
    → PassedDown g image (sought_in g.cells g id) level child → BucketCosts g image id (cost_in child)
bucket_costs g image id level bucket None digest at blank passed =
    let here : bucket ≡ node_of g level + nibble (sha256 id) level.number =
    at ∙ ap (λ (d : List ℕ). node_of g level + nibble d level.number) digest in
    in_bucket level.number (node_of g level) passed (subst (λ (cell : ℕ). image cell ≡ None) here blank) refl
bucket_costs g image id level bucket (Some child) digest (same, at, levels) blank (passed, above) =
    let here : child ≡ node_of g level + 16 + nibble (sha256 id) level.number =
    at ∙ ap (λ (d : List ℕ). node_of g level + 16 + nibble d level.number) digest in
    in_new_node level.number (node_of g level) levels passed
    (subst (λ (d : List ℕ). IsPassed image (sought_in g.cells g id) (node_of g level + nibble d level.number)) digest
    above)
    (subst (λ (cell : ℕ). image cell ≡ None) here blank) refl

module _ {g : Layout} {n edge : ℕ} {stamp : Option ℕ} {id body : List ℕ} {level : Level} {place : Open}
    {made : PlannedIndex} {old new : DeviceState} (tells : IsTrue old.tells)
    (still : IsStill old.foreign_writes new.foreign_writes)
    (layout : IsLayout g) (settled : IsSettled g old.image) (horizon : IsHorizon g old.image old.image n)
    (slot : n < g.slots) (begins : EndsBelow g old.image n edge) (given : IsStampFor g stamp)
    (later : IsLater g old.image n stamp) (ends : EndsPath g old.image level place)
    (digest : level.digest ≡ sha256 id) (passed : PassedDown g old.image (sought_in g.cells g id) level place.child)
    (is : IsPlanned g n edge level place stamp body made old new) where
  pub needed : IsNeed g old.image n id body stamp
      (cells_for (length (stored_bytes id body)) + length made.journal.items + made.block_length)
  needed =
      let e : IsEdge g old.image old.image edge =
      record { u = n; most = horizon.most; free = horizon.free; ends = begins } in
      let at_cost =
      stands_at_cost e made settled
      (is.stands tells still (below_slot g n (seconds_of stamp)) (below_slot g (n + 1) (seconds_of stamp + 1))
      (keys_of_slot is.are))
      (settled_stand layout settled e horizon slot (seconds_of stamp) (past_stamps stamp given later)) in
      let row = at_cost.stands.lists in
      let all : take (length is.rows) is.rows ≡ is.rows = take_all (length is.rows) is.rows (omega arith) in
      record {
        edge = edge;
        is_edge = e;
        rows = is.rows;
        are = is.are;
        new = at_cost.stands.between;
        to = at_cost.stands.next;
        postings = row.cost;
        costs = subst
            (λ (rows : List ListedPosting).
            PostingsCost g at_cost.stands.between at_cost.stands.next rows old.image edge row.cost)
            all row.costs;
        bucket = cost_of place;
        bucket_costs =
            bucket_costs g old.image id level place.bucket place.child digest ends.open_at ends.blank passed;
        sum = omega (arith, at_cost.cost);
      }
