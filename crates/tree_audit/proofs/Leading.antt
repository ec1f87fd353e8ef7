-- Whether child cells lead down well.
use Rattle.std.proofs.Common.{◌≡◌, ◌<◌, ◌≤◌, ◌+◌, ◌-◌, ◌*◌, ◌^◌, ◌⊎◌, ⊎_elim, inl, inr, ℕ, List, length, get_or, refl, sym, ◌∙◌, subst, ap, arith}
use Rattle.std.specs.Prelude.{Contains}
use Rattle.std.proofs.lemmas.Bool.{cases_order}
use Rattle.std.proofs.lemmas.Option.{none-some, slice_get-get_or}
use Rattle.cell_types.specs.Image.{Image}
use Rattle.cell_types.specs.Layout.{Layout, IsLayout, pool_at}
use Rattle.cell_types.specs.Records.{IsRecordCell}
use Rattle.cell_types.proofs.OneRecord.{address_in}
use Rattle.slot_audit.specs.Copying.{HasTarget}
use Rattle.cell_types.specs.declared.record_cell.RecordCell.TheVariants.{Child}
use Rattle.volume_meaning.specs.Nodes.{AreApart, IsBlockOf, IsNode}
use Rattle.volume_meaning.specs.Slots.{EndsBelow, IsEdge}
use Rattle.volume_meaning.specs.Volumes.{Holds, IsWritten}
use Rattle.tamper_rules.specs.Journals.{LiesInBlocks, journal_at}
use Rattle.tamper_rules.specs.Rules.{Children, IsPlace, LeadsDownWell, ReserveCells}
use Rattle.tamper_rules.proofs.Settled.{one_end}
use Rattle.log_audit.specs.Between.{HasBetween}
use Rattle.log_audit.specs.Findings.{IsMetAll}
use Rattle.log_audit.specs.Logs.{IsLog}
use Rattle.log_audit.specs.Stored.{IsStored}
use Rattle.log_audit.specs.declared.ended.EndedSlot.TheVariants.{Abandoned}
use Rattle.log_audit.specs.declared.log.Log.{Log}
use Rattle.log_audit.specs.declared.stored.StoredSlot.{StoredSlot}
use Rattle.log_audit.proofs.Beginning.{ended_cells}
use Rattle.log_audit.proofs.Logged.{one_slot}
use Rattle.log_audit.proofs.Storing.{one_row}
use Rattle.list_audit.specs.Numbers.{neighbour_number}
use Rattle.list_audit.specs.declared.listed.TheConstants.{BLOCK_STEP}
use Rattle.tree_audit.specs.ChildCells.{HasChildInPool, IsLeadOf, lead_number}
use Rattle.tree_audit.specs.Children.{AsksChildren, HasCopyOf, IsClear, IsFirstTo, IsJournaled, IsWellLed}
use Rattle.tree_audit.specs.Nodes.{AreNodes, IsSomeNode}
use Rattle.tree_audit.specs.Numbers.{AreAll}
use Rattle.tree_audit.specs.declared.nodes.TreeNodes.{TreeNodes}
use Rattle.tree_audit.proofs.Closing.{deepest, node_inside, one_target}
use Rattle.tree_audit.proofs.Occupying.{AreTold}

-- the edge of a log is one
pub edge_is : {g : Layout} {image : Image} (log : Log) → IsLog g image log → IsEdge g image image log.edge
edge_is log is = record { u = length log.slots.items; most = is.few; free = λ less. is.free (length log.slots.items) (omega arith) less; ends = is.ends }

-- and there is no other
pub edge_is_one : {g : Layout} {image : Image} {log : Log} {at : ℕ} → IsLog g image log → IsEdge g image image at → at ≡ log.edge
edge_is_one {g} {image} {log} {at} is e = ⊎_elim
    (λ same. one_end g image (length log.slots.items) at log.edge
    (subst (λ (n : ℕ). EndsBelow g image n at) same e.ends) is.ends)
    (λ differ. ⊎_elim
    (λ less.
    let slot = get_or log.slots.items e.u (Abandoned 0 0) in
    let ended = is.each e.u slot (slice_get-get_or log.slots.items e.u (Abandoned 0 0) less) in
    let cells = (ended_cells g image e.u slot ended.0).2 in
    absurd (none-some _ (sym (e.free (omega (arith, less, is.few))) ∙ cells.reserve.stands)))
    (λ more. absurd (⊎_elim
    (λ (z : (e.u ≡ 0) × (at ≡ pool_at g)). omega (arith, z.0, more))
    (λ w. none-some _ (sym (is.free w.0 (omega (arith, w.3, more)) (omega (arith, w.3, e.most))) ∙ w.4.reserve.stands))
    e.ends))
    differ)
    (cases_order e.u (length log.slots.items))

-- a number that is one of these stands somewhere
found_at : (numbers : List ℕ) (x low high : ℕ) → Contains numbers x → low ≤ x → x < high → HasBetween numbers low high
found_at numbers x low high h from below =
    record { number = x; there = h; from = from; below = below }

-- rows of cells are apart, or one begins near the other
apart_or_near : (t b size low : ℕ) → low + size ≡ t + 1 → AreApart t 32 b size ⊎ ((low ≤ b) × (b < t + 32))
apart_or_near t b size low is = ⊎_elim
    (λ (less : b < t + 32). ⊎_elim
    (λ (before : b < low). inl (inr (omega (arith, before, is))))
    (λ (from : low ≤ b). inr (from, less))
    (split b low))
    (λ (past : t + 32 ≤ b). inl (inl past))
    (split b (t + 32))
  where
    split : (a b : ℕ) → (a < b) ⊎ (b ≤ a)
    split a b = grind arith

near_not_apart : (t b size low : ℕ) → low + size ≡ t + 1 → low ≤ b → b < t + 32 → AreApart t 32 b size → ⊥
near_not_apart t b size low is from below apart = ⊎_elim
    (λ (past : t + 32 ≤ b). omega (arith, past, below))
    (λ (before : b + size ≤ t). omega (arith, before, is, from))
    apart

module _ {g : Layout} {image : Image} {numbers : List ℕ} (are : AreTold g image numbers) where
  -- no block begins near the target, or one does
  pub no_block_near : {t from to : ℕ} (low high : ℕ) → low + 256 ≡ t + 1 → high ≡ t + 32 → from ≡ low * BLOCK_STEP → to ≡ high * BLOCK_STEP
      → (HasBetween numbers from to → ⊥) → (k other : ℕ) → IsBlockOf g image k other → AreApart t 32 other 256
  no_block_near {t} {from} {to} low high is end first behind none k other block = ⊎_elim
      (λ (apart : AreApart t 32 other 256). apart)
      (λ near. absurd (⊎_elim
      (λ (told : (k < BLOCK_STEP) × Contains numbers (neighbour_number k other)). there k near told.0 told.1)
      (λ twice. there twice.one near twice.small twice.first)
      (are.all_blocks k other block)))
      (apart_or_near t other 256 low is)
    where
      there : (l : ℕ) → (low ≤ other) × (other < t + 32) → l < BLOCK_STEP → Contains numbers (neighbour_number l other) → ⊥
      there l near few has = none (record {
        number = neighbour_number l other;
        there = has;
        from = omega (arith, near.0, first);
        below = omega (arith, near.1, end, behind, few);
      })

  pub block_near : {t from to : ℕ} (low high : ℕ) → low + 256 ≡ t + 1 → high ≡ t + 32 → from ≡ low * BLOCK_STEP → to ≡ high * BLOCK_STEP
      → HasBetween numbers from to → IsClear g image t → ⊥
  block_near {t} {from} {to} low high is end first behind h clear =
      let b = are.block_is h.number h.there in
      near_not_apart t b.block 256 low is (omega (arith, h.from, first, b.number_is, b.small)) (omega (arith, h.below, behind, end, b.number_is))
      (clear.blocks b.list b.block b.is)

module _ {g : Layout} {image : Image} {nodes : List ℕ} (are : AreAll (IsSomeNode g image) nodes) where
  -- no other node does
  pub no_node_near : {t low high : ℕ} → low + 32 ≡ t + 1 → high ≡ t + 32 → (HasBetween nodes low t → ⊥)
      → (HasBetween nodes (t + 1) high → ⊥) → (w other : ℕ) → IsNode g image w other → (other ≡ t) ⊎ AreApart t 32 other 32
  no_node_near {t} {low} {high} is end none_before none_behind w other node = ⊎_elim
      (λ (apart : AreApart t 32 other 32). inr apart)
      (λ near. ⊎_elim
      (λ same. inl same)
      (λ differ. ⊎_elim
      (λ less. absurd (none_before (found_at nodes other low t there near.0 less)))
      (λ more. absurd (none_behind (found_at nodes other (t + 1) high there (omega (arith, more)) (omega (arith, near.1, end)))))
      differ)
      (cases_order other t))
      (apart_or_near t other 32 low is)
    where
      there : Contains nodes other
      there = (are.each other).1 (w, node)

  -- or one does
  pub node_near : {t low high from to : ℕ} → low + 32 ≡ t + 1 → high ≡ t + 32 → HasBetween nodes from to
      → low ≤ from → to ≤ high → (to ≤ t) ⊎ (t < from) → IsClear g image t → ⊥
  node_near {t} {low} {high} {from} {to} is end h low_is high_is beside clear =
      let number = h.number in
      let n = (are.each number).0 h.there in
      ⊎_elim
      (λ (same : number ≡ t). ⊎_elim
      (λ (before : to ≤ t). omega (arith, same, before, h.below))
      (λ (behind : t < from). omega (arith, same, behind, h.from))
      beside)
      (λ (apart : AreApart t 32 number 32).
      near_not_apart t number 32 low is (omega (arith, h.from, low_is)) (omega (arith, h.below, high_is, end)) apart)
      (clear.nodes n.0 number n.1)

module _ {g : Layout} {image : Image} {tree : TreeNodes} (are : AreNodes g image tree) where
  -- no lower child cell leads to the target
  pub no_lead_before : {cell target number high : ℕ} → HasChildInPool g image cell target → number ≡ lead_number target 0 → high ≡ number + cell
      → (HasBetween tree.leads.items number high → ⊥) → IsFirstTo g image cell target
  no_lead_before {cell} {target} {number} {high} leads is end none w other y node low less holds =
      let at : other + 16 + y ≡ other + (16 + y) = omega arith in
      let lead : IsLeadOf g image other 32 (lead_number target (other + (16 + y))) = record {
        place = 16 + y;
        from = omega arith;
        to = omega (arith, low);
        target = target;
        leads = record { held = subst (λ (c : ℕ). Holds image c (Child target)) at holds; from = leads.from; to = leads.to };
        is = refl;
      } in
      none (found_at tree.leads.items (lead_number target (other + (16 + y))) number high
      ((are.leads.each (lead_number target (other + (16 + y)))).1 (other, (w, node), lead)) (omega (arith, is)) (omega (arith, is, end, less)))

  -- or one does
  pub lead_before : {cell target number high : ℕ} → IsLayout g → cell < 2147483648 → number ≡ lead_number target 0 → high ≡ number + cell
      → HasBetween tree.leads.items number high → IsFirstTo g image cell target → ⊥
  lead_before {cell} {target} {number} {high} layout small is end h first =
      let n = (are.leads.each h.number).0 h.there in
      let lead = n.2 in
      let inside = node_inside layout n.1.1 in
      let few : n.0 + lead.place < 4294967296 = omega (arith, inside, layout.cells, lead.to) in
      let same : lead.target ≡ target = omega (arith, lead.is, h.from, h.below, is, end, few, small) in
      let less : n.0 + lead.place < cell = omega (arith, lead.is, h.below, is, end, same) in
      let at : n.0 + lead.place ≡ n.0 + 16 + (lead.place - 16) = omega (arith, lead.from) in
      first n.1.0 n.0 (lead.place - 16) n.1.1 (omega (arith, lead.from, lead.to)) (omega (arith, at, less))
      (subst (λ (c : ℕ). Holds image c (Child target)) at (subst (λ (t : ℕ). Holds image (n.0 + lead.place) (Child t)) same lead.leads.held))

  -- a node that is none of the last level has none below 63
  pub above_last : {v node : ℕ} → (IsNode g image 63 node → ⊥) → IsNode g image v node → v < 63
  above_last {v} {node} none node_is = ⊎_elim
      (λ (same : v ≡ 63). absurd (none (subst (λ (w : ℕ). IsNode g image w node) same node_is)))
      (λ differ. ⊎_elim
      (λ (less : v < 63). less)
      (λ (more : 63 < v). absurd (let most = deepest node_is in omega (arith, most, more)))
      differ)
      (cases_order v 63)

-- the slot that owns the target has a copy of the cell
pub journaled : {g : Layout} {image : Image} {s : StoredSlot} {owner cell target : ℕ} → IsStored g image s → s.slot ≡ owner
    → LiesInBlocks g image owner target → HasCopyOf image s cell → IsJournaled g image cell target
journaled {g} {image} {s} {owner} {cell} {target} stored same lies copy =
    let row = one_row stored same lies.stores in
    let a = row.0 in let b = row.1 in let d = row.3 in
    let at : journal_at lies.start lies.length lies.journal + copy.place ≡ journal_at s.start s.length s.journal + copy.place = cc in
    record {
      owner = owner;
      start = lies.start;
      reserved = lies.length;
      bytes = lies.bytes;
      journal = lies.journal;
      stores = lies.stores;
      place = copy.place;
      in_journal = omega (arith, copy.inside, d);
      same = ap image at ∙ copy.same;
      in_blocks = lies.from;
      before_document = lies.below;
    }

-- a target that is journaled lies in some slot's blocks
pub lies_in : {g : Layout} {image : Image} {cell target : ℕ} (j : IsJournaled g image cell target) → LiesInBlocks g image j.owner target
lies_in j = record {
  start = j.start;
  length = j.reserved;
  bytes = j.bytes;
  journal = j.journal;
  stores = j.stores;
  from = j.in_blocks;
  below = j.before_document;
}

-- which is the one that owns it, and has a copy
pub has_its_copy : {g : Layout} {image : Image} {s : StoredSlot} {owner cell target : ℕ} → IsMetAll g image ReserveCells → IsStored g image s
    → s.slot ≡ owner → LiesInBlocks g image owner target → IsJournaled g image cell target → HasCopyOf image s cell
has_its_copy {g} {image} {s} {owner} {cell} {target} met stored is lies j =
    let one : j.owner ≡ owner = one_slot g image met j.owner owner j.start j.reserved lies.start lies.length target j.stores.commits.reserves
    lies.stores.commits.reserves j.in_blocks (omega (arith, j.before_document)) lies.from (omega (arith, lies.below)) in
    let row = one_row stored (is ∙ sym one) j.stores in
    let a = row.0 in let b = row.1 in let d = row.3 in
    let at : journal_at s.start s.length s.journal + j.place ≡ journal_at j.start j.reserved j.journal + j.place = cc in
    record { place = j.place; inside = omega (arith, j.in_journal, d); same = ap image at ∙ j.same }

-- a child cell that leads down well, by its target
module _ {g : Layout} {image : Image} {v node x target : ℕ} (leads : HasChildInPool g image (node + 16 + x) target) where
  pub leads_well : v < 63 → IsWritten image (node + x) → IsWellLed g image (node + 16 + x) target → LeadsDownWell g image v node x
  leads_well level bucket led = record {
    target = target;
    child = leads.held;
    bucket = bucket;
    level = level;
    from = leads.from;
    to = leads.to;
    edge = led.edge;
    owner = led.journaled.owner;
    start = led.journaled.start;
    reserved = led.journaled.reserved;
    bytes = led.journaled.bytes;
    journal = led.journaled.journal;
    stores = led.journaled.stores;
    place = led.journaled.place;
    in_journal = led.journaled.in_journal;
    same = led.journaled.same;
    in_blocks = led.journaled.in_blocks;
    before_document = led.journaled.before_document;
    once = led.first;
    blocks = led.clear.blocks;
    nodes = led.clear.nodes;
  }

  pub well_led : LeadsDownWell g image v node x → IsWellLed g image (node + 16 + x) target
  well_led w = subst (IsWellLed g image (node + 16 + x)) (one_target (record { held = w.child; from = w.from; to = w.to }) leads) (record {
    edge = w.edge;
    journaled = record {
      owner = w.owner;
      start = w.start;
      reserved = w.reserved;
      bytes = w.bytes;
      journal = w.journal;
      stores = w.stores;
      place = w.place;
      in_journal = w.in_journal;
      same = w.same;
      in_blocks = w.in_blocks;
      before_document = w.before_document;
    };
    first = w.once;
    clear = record { blocks = w.blocks; nodes = w.nodes };
  })

-- a child cell of a node lies in the root or in the pool
pub child_place : {g : Layout} {image : Image} {level node : ℕ} (x cell : ℕ) → IsLayout g → IsNode g image level node → x < 16
    → cell ≡ node + 16 + x → IsPlace g Children cell
child_place x cell layout (IsNode.root level node first is) low at =
    inl (record { exists = tt; from = omega (arith, is, at); below = omega (arith, is, at, low) })
child_place x cell layout (IsNode.under level node v above y next rest few levels child from to) low at =
    inr (omega (arith, from, at), omega (arith, to, at, low))

-- a number between two others is one between the same
pub moved : {xs ys : List ℕ} {a b c d : ℕ} → xs ≡ ys → a ≡ c → b ≡ d → HasBetween xs a b → HasBetween ys c d
moved {xs} {ys} {a} {b} {c} {d} same low high h = subst (λ (zs : List ℕ). HasBetween zs c d) same (record {
  number = h.number;
  there = h.there;
  from = omega (arith, h.from, low);
  below = omega (arith, h.below, high);
})

-- a child cell is a copy of itself
pub copies_itself : {g : Layout} {image : Image} {cell target : ℕ} → HasChildInPool g image cell target → cell < 2 ^ 32 → HasTarget image cell cell
copies_itself {g} {image} {cell} {target} leads small =
    let h = leads.held in
    let at = address_in (Child target) cell h.cell small h.is in
    record {
      cell = h.cell;
      stands = h.stands;
      copy = record { held = Child target; index = tt; is = subst (λ (n : ℕ). IsRecordCell (Child target) n h.cell) (sym at) h.is };
      is = sym at;
    }

-- and what holds the same is a copy of it
pub same_copies : {image : Image} {cell at : ℕ} → HasTarget image cell cell → image at ≡ image cell → HasTarget image at cell
same_copies h same = record { cell = h.cell; stands = same ∙ h.stands; copy = h.copy; is = h.is }

-- a node asks nothing of the cells before it
pub asks_none_before : (g : Layout) (image : Image) (node cell : ℕ) → cell < node → AsksChildren g image node cell
asks_none_before g image node cell before x low at = absurd (omega (arith, at, before))
