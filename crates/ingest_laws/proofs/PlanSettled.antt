-- A plan keeps a volume settled.
use Rattle.std.proofs.Common.{◌≡◌, ◌<◌, ◌≤◌, ◌+◌, ◌⊎◌, ⊎_elim, inl, inr, ℕ, List, Some, None, refl, sym, ◌∙◌, subst, ap, arith, length}
use Rattle.std.proofs.lemmas.Option.{none-some}
use Rattle.sha2.specs.Sha256.{sha256}
use Rattle.cell_types.specs.Image.{Image}
use Rattle.cell_types.specs.Layout.{Layout, done_at, list_at, pool_at, lists_at}
use Rattle.cell_types.specs.declared.record_cell.RecordCell.TheVariants.{Jump, Child}
use Rattle.volume_meaning.specs.Blocks.{PostingFields, posting_record, InFront, at_the_start, behind, pointer_at, Leads}
use Rattle.volume_meaning.specs.Documents.{Stands, document_at}
use Rattle.ingest_laws.specs.Filling.{blocks_end, IsFilled, IsWellPlanned}
use Rattle.volume_meaning.specs.HashPaths.{fingerprint_of}
use Rattle.ingest_laws.specs.Ingesting.{Plan, Phase, Reserving, Storing, Committing, Applying, Finishing, Row, AnyRow, AppliedRow, stored_of}
use Rattle.tamper_rules.specs.Journals.{journal_at, LiesInBlocks}
use Rattle.ingest_laws.specs.ListShapes.{PointsWell}
use Rattle.volume_meaning.specs.Nodes.{IsBlockOf, IsNode, under}
use Rattle.ingest_laws.specs.TreeShapes.{ChildWell}
use Rattle.tamper_rules.specs.Rules
use Rattle.tamper_rules.specs.Rules.{Rule, IsMet, EntryRule, IsTruePosting, PostingRule, PointerRule, IsTrueBucket, BucketRule, LeadsDownWell, ChildRule, TrailRule, PathRule}
use Rattle.tamper_rules.specs.Settling.{IsSettled}
use Rattle.volume_meaning.specs.Slots.{Stores, IsLive}
use Rattle.volume_meaning.specs.Volumes.{Holds, IsWritten}
use Rattle.volume_meaning.proofs.Extending.{holds_on, written_on, volume_on, live_on, stands_on}
use Rattle.ingest_laws.proofs.Filled.{free, keeps, mine, edge_is, stands_back, all_ended, old_low, blocks_from, blocks_to, stored_from, entry_copies, applied_entry, stores_on', rule_1, rule_2, rule_3, rule_4, rule_5, rule_6, rule_7, rule_15}
use Rattle.volume_meaning.proofs.Holding.{one_record_holds}
use Rattle.tamper_rules.proofs.FullFronts.{full_ends}
use Rattle.volume_meaning.proofs.Stamps.{stamp_on}
use Rattle.tamper_rules.proofs.GivenUp.{children, leads_further}
use Rattle.tamper_rules.proofs.GoingOn.{on_path_on}
use Rattle.ingest_laws.proofs.TreeShapes.{node_place}
use Rattle.volume_meaning.proofs.HashTrails.{hash_trail_on}
use Rattle.tamper_rules.proofs.Images.{look}
use Rattle.ingest_laws.proofs.ListShapes.{back}
use Rattle.volume_meaning.proofs.OneDocument.{one_document}
use Rattle.tamper_rules.proofs.Settled.{taken_to}
use Rattle.volume_meaning.proofs.Trails.{trail_on}
use Rattle.tamper_rules.proofs.Writing.{same_or_not}

-- each place up to one in the front is written
pub front_written : {image : Image} {block j : ℕ} {q : PostingFields} → InFront image block j q → (i : ℕ)
    → i ≤ j → IsWritten image (block + i)
front_written {image} {block} (at_the_start j q is holds) i le =
    let same : j ≡ i = omega arith in
    subst (λ (k : ℕ). IsWritten image (block + k)) same (record { found = holds.cell; stands = holds.stands })
front_written {image} {block} (behind j before q r is rest less holds) i le = ⊎_elim
    (λ same. subst (λ (k : ℕ). IsWritten image (block + k)) (sym same) (record {
      found = holds.cell;
      stands = holds.stands;
    }))
    (λ other. front_written rest i (lower i j before le is other))
    (same_or_not i j)
  where
    lower : (i j before : ℕ) → i ≤ j → j ≡ before + 1 → (i ≡ j → ⊥) → i ≤ before
    lower i j before le is other = omega arith

module _ {g : Layout} {old new : Image} {p : Plan} (w : IsWellPlanned g old new p) where
  u : IsFilled g old new p
  u = w.filled

  end_in_device : blocks_end p ≤ g.cells
  end_in_device = let t = u.reserves.to in let b = blocks_to u in omega arith

  narrowed : {l block : ℕ} → IsBlockOf g new l block → Leads new (pool_at g) (blocks_end p) block (list_at g l)
  narrowed {l} b = back end_in_device (w.lists l b.list) b.leads

  rule_8 : (cell : ℕ) → IsWritten new cell → EntryRule g new cell
  rule_8 cell is = record {
    entry = λ l block place b below at. (w.lists l b.list).entries block place (narrowed b) below
        (subst (λ (c : ℕ). IsWritten new c) at is);
    blank = λ l block place b low high at. none-some _ (sym
        ((w.lists l b.list).blank block place (narrowed b) low high) ∙ ap new (sym at) ∙ is.stands);
  }

  mine_stands : Stands g.cells new p.slot p.id p.body
  mine_stands = record {
    layout = g;
    start = p.start;
    reserved = p.reserved;
    journal = length p.journal;
    volume = volume_on (keeps u) u.volume;
    slot = free u;
    done = mine u;
    spells = λ k below. u.rows.adds _ _ (
      Storing,
      inl (inl
          (record { place = k; below = below; at = refl; is = refl })),
    );
    is_identifier = u.is_identifier;
    is_body = u.is_body;
  }

  pub mine_live : IsLive g new p.slot
  mine_live = record {
    slot = free u;
    done = record {
      start = p.start;
      length = p.reserved;
      bytes = length (stored_of p);
      journal = length p.journal;
      done = mine u;
    };
    taken = λ m below. written_on (keeps u) (taken_to g old u.before p.slot u.horizon m below);
  }

  rule_9 : (cell : ℕ) → IsWritten new cell → PostingRule g new cell
  rule_9 cell is l block place q b below at h = ⊎_elim
      (λ none.
      let k = w.postings l block place q b below (ap old (sym at) ∙ none)
      (subst (λ (c : ℕ). Holds new c (posting_record q)) at h) in
      record {
        slot = p.slot;
        live = mine_live;
        id = p.id;
        body = p.body;
        stands = mine_stands;
        postings = w.has_postings;
        stamp = p.stamp;
        is_stamp = u.stamp;
        is = k;
      })
      (λ x. ⊎_elim
      (λ was.
      let r : PostingRule g old cell = u.before.met Rules.Postings cell (record { found = x.0; stands = x.1 }) in
      let held : Holds old cell (posting_record q) = record {
        cell = h.cell;
        stands = x.1 ∙ sym (same x.0 x.1) ∙ refl;
        is = h.is;
      } in
      let t : IsTruePosting g old l q = r l block place q was below at held in
      record {
        slot = t.slot;
        stamp = t.stamp;
        is_stamp = stamp_on g t.slot t.stamp (keeps u) t.is_stamp;
        live = live_on (keeps u) (keeps u) t.live;
        id = t.id;
        body = t.body;
        stands = stands_on (keeps u) t.stands;
        postings = t.postings;
        is = t.is;
      })
      (λ fresh. absurd (
      let inside : pool_at g ≤ cell = omega (arith, fresh, at, u.reserves.from) in
      let less = old_low u cell x.0 x.1 inside in omega arith))
      (w.blocks l block b))
      (look old cell)
    where
      same : (v : List ℕ) → old cell ≡ Some v → Some h.cell ≡ Some v
      same v was = sym h.stands ∙ (keeps u).keeps cell v was

  target_listed : {l block level digit target : ℕ} → IsBlockOf g new l block → level < 8 → 1 ≤ digit
      → digit ≤ 15 → Holds new (pointer_at block level digit) (Jump target)
      → pool_at g ≤ target → target + 256 ≤ g.cells → IsBlockOf g new l target
  target_listed {l} {block} {level} {digit} {target} b ls d1 d2 jump from to = record {
    list = b.list;
    leads = leads_further b.leads level digit target ls d1 d2 jump from to;
  }

  rule_10 : (cell : ℕ) → IsWritten new cell → PointerRule g new cell
  rule_10 cell is l block level digit b ls d1 d2 at =
      let k : PointsWell new (pool_at g) (blocks_end p) block level digit =
      (w.lists l b.list).pointers block level digit (narrowed b) ls d1 d2 (subst (λ (c : ℕ). IsWritten new c) at is) in
      let to : k.target + 256 ≤ g.cells = omega (arith, k.inside_to, end_in_device) in
      let t : IsBlockOf g new l k.target = target_listed b ls d1 d2 k.jump k.inside_from to in
      let o = owner k.target t k.inside_from in
      record {
        target = k.target;
        jump = k.jump;
        full = λ place below. front_written k.is_full place (omega arith);
        from = k.inside_from;
        to = to;
        edge = λ at e. let same = edge_is u at e in let b = blocks_to u in omega (arith, k.inside_to);
        owner = o.0;
        owns_first = o.1;
        owns_last = o.2;
        greatest = k.greatest;
        ends = full_ends k.is_full;
        place = k.place;
        some = k.some;
        in_places = k.in_places;
        in_front = k.in_front;
        in_span = k.in_span;
        blocks = λ j other x. w.apart l j k.target other t x;
        nodes = λ v node x. w.apart_nodes l k.target v node t x;
      }
    where
      owner : (target : ℕ) → IsBlockOf g new l target → pool_at g ≤ target
          → (m : ℕ) × LiesInBlocks g new m target × LiesInBlocks g new m (target + 255)
      owner target t from = ⊎_elim (λ first. absurd (omega (arith, t.list))) (λ o. o) (w.owners l target t)

  rule_13 : (m : ℕ) (id body : List ℕ) → Stands g.cells new m id body → TrailRule g new m body
  rule_13 m id body t = ⊎_elim
      (λ same.
      let e = one_document g.cells new p.slot id body p.id p.body
      (subst (λ (k : ℕ). Stands g.cells new k id body) same t) mine_stands in
      subst (λ (k : ℕ). TrailRule g new k body) (sym same) (subst (λ (b : List ℕ). TrailRule g new p.slot b) (sym e.1)
      (record { postings = w.has_postings; stamp = p.stamp; is_stamp = u.stamp; trails = w.trails })))
      (λ other.
      let b = stands_back u other t in
      let r : TrailRule g old m body = u.before.met Rules.Trails (done_at m)
      (record { found = b.done.done.cell; stands = b.done.done.stands }) m id body refl b in
      record {
        postings = r.postings;
        stamp = r.stamp;
        is_stamp = stamp_on g m r.stamp (keeps u) r.is_stamp;
        trails = λ l q below is. let k = r.trails l q below is in (k.0, trail_on (keeps u) k.1);
      })
      (same_or_not m p.slot)

  rule_14 : (m : ℕ) (id body : List ℕ) → Stands g.cells new m id body → PathRule g new m id
  rule_14 m id body t = ⊎_elim
      (λ same.
      let e = one_document g.cells new p.slot id body p.id p.body
      (subst (λ (k : ℕ). Stands g.cells new k id body) same t) mine_stands in
      subst (λ (k : ℕ). PathRule g new k id) (sym same) (subst (λ (i : List ℕ). PathRule g new p.slot i) (sym e.0)
      (record {
        path = w.path;
        alone = λ k other less there. w.absent k other
            (stands_back u (λ is. omega arith) there);
      })))
      (λ differ.
      let b = stands_back u differ t in
      let r : PathRule g old m id = u.before.met Rules.Paths (done_at m)
      (record { found = b.done.done.cell; stands = b.done.done.stands }) m id body refl b in
      record {
        path = hash_trail_on (keeps u) r.path;
        alone = λ k other less there. ⊎_elim
            (λ same.
            let e = one_document g.cells new p.slot id other p.id p.body
            (subst (λ (j : ℕ). Stands g.cells new j id other) same there) mine_stands in
            w.absent m body (subst (λ (i : List ℕ). Stands g.cells old m i body) e.0 b))
            (λ apart. r.alone k other less (stands_back u apart there))
            (same_or_not k p.slot);
      })
      (same_or_not m p.slot)

  -- where a node lies
  node_low : {v node : ℕ} → IsNode g new v node
      → (lists_at g ≤ node) × ((node + 32 ≤ pool_at g) ⊎ (node + 32 ≤ blocks_end p))
  node_low n = ⊎_elim (λ is. (omega arith, inl (omega arith))) (λ h. (omega (arith, h.0), inr h.1))
      (node_place w.tree n)

  node_high : {v node : ℕ} → IsNode g new v node → node + 32 ≤ blocks_end p
  node_high n = ⊎_elim (λ low. let b = blocks_from u in let f = u.reserves.from in omega arith) (λ high. high)
      ((node_low n).1)

  -- a written cell of a node that was written before is in an old node
  old_node : {v node i : ℕ} (value : List ℕ) → IsNode g new v node → i < 32 → old (node + i) ≡ Some value
      → IsNode g old v node
  old_node {v} {node} {i} value n less was = ⊎_elim (λ o. o)
      (λ fresh. absurd (
      let f = u.reserves.from in
      let low = old_low u (node + i) value was (omega arith) in omega arith))
      (w.nodes v node n)

  rule_11 : (cell : ℕ) → IsWritten new cell → BucketRule g new cell
  rule_11 cell is v node x n xs at = ⊎_elim
      (λ none.
      let k = w.new_buckets v node x n xs none here in
      record {
        slot = p.slot;
        fingerprint = fingerprint_of (sha256 p.id);
        bucket = k.0;
        live = mine_live;
        id = p.id;
        body = p.body;
        stands = mine_stands;
        same = refl;
        level = v;
        on_path = k.1;
        here = k.2;
      })
      (λ z.
      let o = old_node {i = x} z.0 n (omega arith) z.1 in
      let r : BucketRule g old (node + x) = u.before.met Rules.Buckets (node + x) (record {
        found = z.0;
        stands = z.1;
      }) in
      let t : IsTrueBucket g old node x = r v node x o xs refl in
      record {
        slot = t.slot;
        fingerprint = t.fingerprint;
        bucket = holds_on (keeps u) t.bucket;
        live = live_on (keeps u) (keeps u) t.live;
        id = t.id;
        body = t.body;
        stands = stands_on (keeps u) t.stands;
        same = t.same;
        level = t.level;
        on_path = on_path_on (keeps u) t.on_path;
        here = t.here;
      })
      (look old (node + x))
    where
      here : IsWritten new (node + x)
      here = subst (λ (c : ℕ). IsWritten new c) at is

  -- who owns a child cell
  record ChildOwner (cell target : ℕ) : Type 0 where
    owner : ℕ
    start : ℕ
    reserved : ℕ
    bytes : ℕ
    journal : ℕ
    stores : Stores g new owner start reserved bytes journal
    place : ℕ
    in_journal : place < journal
    same : new (journal_at start reserved journal + place) ≡ new cell
    in_blocks : start ≤ target
    before_document : target < document_at start reserved bytes journal

  applied_row : (v node x : ℕ) (value : List ℕ) → IsNode g new v node → x < 16 → (phase : Phase)
      → Row p phase (node + 16 + x) value → AppliedRow p (node + 16 + x) value
  applied_row v node x value n xs Reserving row =
      absurd (let low = (node_low n).0 in let f = free u in omega (arith, row.at))
  applied_row v node x value n xs Storing row = absurd (let high = node_high n in ⊎_elim
      (λ stored. let from = stored_from u stored in omega arith)
      (λ s. let low = (node_low n).0 in let f = free u in omega (arith, s.row.at)) row)
  applied_row v node x value n xs Committing row =
      absurd (let low = (node_low n).0 in let f = free u in omega (arith, row.at))
  applied_row v node x value n xs Applying row = row
  applied_row v node x value n xs Finishing row =
      absurd (let low = (node_low n).0 in let f = free u in omega (arith, row.at))

  new_owner : (v node x : ℕ) → IsNode g new v node → x < 16 → (c : ChildWell g new (blocks_end p) v node x)
      → old (node + 16 + x) ≡ None → ChildOwner (node + 16 + x) c.target
  new_owner v node x n xs c none = ⊎_elim
      (λ was. absurd (none-some _ (sym none ∙ was)))
      (λ (row : AnyRow p (node + 16 + x) c.child.cell).
      let r = applied_row v node x c.child.cell n xs row.0 row.1 in
      let k = entry_copies u (applied_entry u r) in
      record {
        owner = p.slot;
        start = p.start;
        reserved = p.reserved;
        bytes = length (stored_of p);
        journal = length p.journal;
        stores = record { commits = (mine u).commits; done = inr u.done };
        place = r.place;
        in_journal = k.below;
        same = u.rows.adds _ _ (Storing, inl (inr (record { place = r.place; entry = r.entry; at = refl })))
            ∙ sym c.child.stands;
        in_blocks = w.new_children v node x c.target n xs none c.child;
        before_document = omega (arith, c.inside);
      })
      (u.rows.only (node + 16 + x) c.child.cell c.child.stands)

  old_owner : (v node x : ℕ) (value : List ℕ) → IsNode g new v node → x < 16
      → (c : ChildWell g new (blocks_end p) v node x) → old (node + 16 + x) ≡ Some value
      → ChildOwner (node + 16 + x) c.target
  old_owner v node x value n xs c was =
      let o = old_node {i = 16 + x} value n (omega arith) (ap old
      (let z : node + (16 + x) ≡ node + 16 + x = omega arith in z) ∙ was) in
      let r : ChildRule g old (node + 16 + x) = u.before.met Rules.Children (node + 16 + x) (record {
        found = value;
        stands = was;
      }) in
      let t : LeadsDownWell g old v node x = r v node x o xs refl in
      let same : t.target ≡ c.target = children t.target c.target
      (one_record_holds new (node + 16 + x) (Child t.target) (Child c.target) (holds_on (keeps u) t.child) c.child) in
      record {
        owner = t.owner;
        start = t.start;
        reserved = t.reserved;
        bytes = t.bytes;
        journal = t.journal;
        stores = stores_on' u t.stores;
        place = t.place;
        in_journal = t.in_journal;
        same = (keeps u).keeps _ _ (t.same ∙ t.child.stands) ∙ sym ((keeps u).keeps _ _ t.child.stands);
        in_blocks = omega (arith, t.in_blocks, same);
        before_document = omega (arith, t.before_document, same);
      }

  rule_12 : (cell : ℕ) → IsWritten new cell → ChildRule g new cell
  rule_12 cell is v node x n xs at =
      let c : ChildWell g new (blocks_end p) v node x =
      w.tree.children v node x n xs (subst (λ (c : ℕ). IsWritten new c) at is) in
      let to : c.target + 32 ≤ g.cells = omega (arith, c.inside, end_in_device) in
      let below : IsNode g new (v + 1) c.target = under (v + 1) c.target v node x refl n xs c.level c.child c.from to in
      let o : ChildOwner (node + 16 + x) c.target = ⊎_elim (λ none. new_owner v node x n xs c none)
      (λ z. old_owner v node x z.0 n xs c z.1) (look old (node + 16 + x)) in
      record {
        target = c.target;
        child = c.child;
        bucket = c.bucket;
        level = c.level;
        from = c.from;
        to = to;
        edge = λ at e. let same = edge_is u at e in let b = blocks_to u in omega (arith, c.inside);
        owner = o.owner;
        start = o.start;
        reserved = o.reserved;
        bytes = o.bytes;
        journal = o.journal;
        stores = o.stores;
        place = o.place;
        in_journal = o.in_journal;
        same = o.same;
        in_blocks = o.in_blocks;
        before_document = o.before_document;
        once = λ k other y m ys lower h.
            let same = w.tree.once v node x k other y c.target n xs m ys c.child h in
            omega arith;
        blocks = λ j other b. ⊎_elim inr inl (w.apart_nodes j other (v + 1) c.target b below);
        nodes = λ k other m. ⊎_elim (λ same. inl (sym same)) inr (w.tree.apart (v + 1) c.target k other below m);
      }

  all_met : (rule : Rule) (cell : ℕ) → IsWritten new cell → IsMet g new rule cell
  all_met Rules.ReserveCells cell is = λ m inside at. rule_1 u m inside (subst (λ (c : ℕ). IsWritten new c) at is)
  all_met Rules.OutcomeCells cell is = λ m inside at. rule_2 u m inside (subst (λ (c : ℕ). IsWritten new c) at is)
  all_met Rules.DoneCells cell is = λ m inside at. rule_3 u m inside (subst (λ (c : ℕ). IsWritten new c) at is)
  all_met Rules.Documents cell is = λ m inside at. rule_4 u m
  all_met Rules.Journals cell is = rule_5 u cell is
  all_met Rules.Targets cell is = rule_6 u cell is
  all_met Rules.StrayCells cell is = rule_7 u cell is
  all_met Rules.Entries cell is = rule_8 cell is
  all_met Rules.Postings cell is = rule_9 cell is
  all_met Rules.Pointers cell is = rule_10 cell is
  all_met Rules.Buckets cell is = rule_11 cell is
  all_met Rules.Children cell is = rule_12 cell is
  all_met Rules.Trails cell is = λ m id body at t. rule_13 m id body t
  all_met Rules.Paths cell is = λ m id body at t. rule_14 m id body t
  all_met Rules.Tilings cell is = λ m from reserved bytes journal at d. rule_15 u m from reserved bytes journal d

  pub plan_is_settled : IsSettled g new × Stands g.cells new p.slot p.id p.body
  plan_is_settled = (record { met = all_met; ended = all_ended u }, mine_stands)
