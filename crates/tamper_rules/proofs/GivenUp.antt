-- A slot that is given up at the horizon of a settled image: where the cells of the image are as they were.
use Rattle.std.proofs.Common.{◌≡◌, ◌<◌, ◌≤◌, ◌+◌, ◌⊎◌, ⊎_elim, inl, inr, ℕ, suc, zero, List, Some, None, refl, sym, ◌∙◌, subst, ap, arith, length}
use Rattle.std.proofs.lemmas.Option.{none-some}
use Rattle.std.proofs.lemmas.Bool.{cases_order}
use Rattle.cell_types.specs.Image.{Image, Extends}
use Rattle.cell_types.specs.Layout.{Layout, reserve_at, outcome_at, done_at, spare_at, list_at, pool_at, lists_at}
use Rattle.cell_types.specs.declared.record_cell.RecordCell.{RecordCell}
use Rattle.cell_types.specs.declared.record_cell.RecordCell.TheVariants.{Commit, Abandon, Jump, Child, Volume}
use Rattle.volume_meaning.specs.Blocks.{Leads, arrived, onwards, pointer_at}
use Rattle.volume_meaning.specs.Documents.{Stands, Spells, document_at}
use Rattle.volume_meaning.specs.Nodes.{IsBlockOf, IsNode, root, under}
use Rattle.tamper_rules.specs.Rules.{Pointers, Children, LeadsWell, LeadsDownWell, IsTrueStamp}
use Rattle.tamper_rules.specs.Settling.{IsSettled}
use Rattle.volume_meaning.specs.Slots.{cells_for, Reserves, Commits, IsStamped, HasStamp, Stores, IsAbandonedSlot, IsDoneSlot, IsDone, HasEnded, IsHorizon, EndsBelow, IsEdge}
use Rattle.volume_meaning.specs.Volumes.{Holds, IsWritten, IsVolume, volume_record}
use Rattle.volume_meaning.proofs.Extending.{holds_on, blank_before, reserves_on, done_on}
use Rattle.volume_meaning.proofs.Holding.{one_record_holds}
use Rattle.tamper_rules.proofs.Images.{look}
use Rattle.tamper_rules.proofs.Settled.{written, taken_below, taken_to, below_horizon, ends_before, edge_horizon, one_end}

-- the cell is the reserve cell, the outcome cell or the spare cell of slot n, or one of those that it reserves
pub data IsOf (n start length cell : ℕ) : Type 0 where
  of_reserve : cell ≡ reserve_at n → IsOf n start length cell
  of_outcome : cell ≡ outcome_at n → IsOf n start length cell
  of_spare : cell ≡ spare_at n → IsOf n start length cell
  of_range : start ≤ cell → cell < start + length → IsOf n start length cell

-- New is old with slot n, at a horizon of old, given up: it reserves cells from the edge on, in which anything may
-- have been written, and has its abandon cell; where its spare cell is written it holds a stamp in order.
pub record IsGivenUp (g : Layout) (old new : Image) (n start length : ℕ) : Type 0 where
  pub horizon : IsHorizon g old old n
  pub keeps : Extends old new
  pub reserves : Reserves g new n start length
  pub begins : EndsBelow g old n start
  pub outcome : Holds new (outcome_at n) Abandon
  pub stamp : IsWritten new (spare_at n) → IsTrueStamp g new n
  pub only : (cell : ℕ) (value : List ℕ) → new cell ≡ Some value → (old cell ≡ Some value) ⊎ IsOf n start length cell

abbrev IsNoAbandon : RecordCell → Type 0
IsNoAbandon Abandon = ⊥
IsNoAbandon _ = Unit {0}

-- a commit cell is no abandon cell
pub no_abandon : (bytes journal : ℕ) → Commit bytes journal ≡ Abandon → ⊥
no_abandon bytes journal same = subst (λ (r : RecordCell). IsNoAbandon r) same tt

pub jumps : (a b : ℕ) → Jump a ≡ Jump b → a ≡ b
jumps a b e = cc

pub children : (a b : ℕ) → Child a ≡ Child b → a ≡ b
children a b e = cc

-- one more block behind the last
pub leads_further : {image : Image} {from to last block : ℕ} → Leads image from to last block
    → (level digit target : ℕ) → level < 8 → 1 ≤ digit → digit ≤ 15
    → Holds image (pointer_at last level digit) (Jump target) → from ≤ target → target + 256 ≤ to
    → Leads image from to target block
leads_further {image} {from} {to} {last} (arrived block is) level digit target l s d jump f t =
    onwards block level digit target l s d (subst (λ (b : ℕ). Holds image (pointer_at b level digit) (Jump target))
    (sym is) jump) f t (arrived target refl)
leads_further (onwards block i j next l' s' d' jump' f' t' rest) level digit target l s d jump f t =
    onwards block i j next l' s' d' jump' f' t' (leads_further rest level digit target l s d jump f t)

module _ {g : Layout} {old new : Image} {n start size : ℕ} (s : IsSettled g old)
    (u : IsGivenUp g old new n start size) where
  free : n < g.slots
  free = u.reserves.slot

  -- cells of the log
  pub log_was : (cell : ℕ) (value : List ℕ) → cell < lists_at g → (cell ≡ reserve_at n → ⊥)
      → (cell ≡ outcome_at n → ⊥) → (cell ≡ spare_at n → ⊥) → new cell ≡ Some value → old cell ≡ Some value
  log_was cell value low no_reserve no_outcome no_spare is =
      ⊎_elim (λ was. was) (λ of. absurd (none of)) (u.only cell value is)
    where
      none : IsOf n start size cell → ⊥
      none (of_reserve at) = no_reserve at
      none (of_outcome at) = no_outcome at
      none (of_spare at) = no_spare at
      none (of_range from to) = omega (arith, u.reserves.from)

  -- cells behind the log and before the edge
  pub was : (cell : ℕ) (value : List ℕ) → lists_at g ≤ cell → cell < start → new cell ≡ Some value
      → old cell ≡ Some value
  was cell value low high is = ⊎_elim (λ h. h) (λ of. absurd (none of)) (u.only cell value is)
    where
      none : IsOf n start size cell → ⊥
      none (of_reserve at) = omega (arith, u.reserves.slot)
      none (of_outcome at) = omega (arith, u.reserves.slot)
      none (of_spare at) = omega (arith, u.reserves.slot)
      none (of_range from to) = omega arith

  pub held : {cell : ℕ} {r : RecordCell} → lists_at g ≤ cell → cell < start → Holds new cell r → Holds old cell r
  held low high h = record { cell = h.cell; stands = was _ h.cell low high h.stands; is = h.is }

  pub stood : {cell : ℕ} → lists_at g ≤ cell → cell < start → IsWritten new cell → IsWritten old cell
  stood low high w = record { found = w.found; stands = was _ w.found low high w.stands }

  pub reserve_was : {m : ℕ} → m < g.slots → (m ≡ n → ⊥) → IsWritten new (reserve_at m) → IsWritten old (reserve_at m)
  reserve_was {m} inside other w = record {
    found = w.found;
    stands = log_was (reserve_at m) w.found (omega arith) (λ same. other (omega arith)) (λ same. omega arith)
        (λ same. omega arith) w.stands;
  }

  pub reserve_held : {m : ℕ} {r : RecordCell} → m < g.slots → (m ≡ n → ⊥) → Holds new (reserve_at m) r
      → Holds old (reserve_at m) r
  reserve_held {m} inside other h = record {
    cell = h.cell;
    stands = log_was (reserve_at m) h.cell (omega arith) (λ same. other (omega arith)) (λ same. omega arith)
        (λ same. omega arith) h.stands;
    is = h.is;
  }

  pub outcome_held : {m : ℕ} {r : RecordCell} → m < g.slots → (m ≡ n → ⊥) → Holds new (outcome_at m) r
      → Holds old (outcome_at m) r
  outcome_held {m} inside other h = record {
    cell = h.cell;
    stands = log_was (outcome_at m) h.cell (omega arith) (λ same. omega arith) (λ same. other (omega arith))
        (λ same. omega arith) h.stands;
    is = h.is;
  }

  pub done_held : {m : ℕ} {r : RecordCell} → m < g.slots → Holds new (done_at m) r → Holds old (done_at m) r
  done_held {m} inside h = record {
    cell = h.cell;
    stands = log_was (done_at m) h.cell (omega arith) (λ same. omega arith) (λ same. omega arith)
        (λ same. omega arith) h.stands;
    is = h.is;
  }

  pub done_blank : (m : ℕ) → m < g.slots → old (done_at m) ≡ None → new (done_at m) ≡ None
  done_blank m inside none = ⊎_elim (λ blank. blank)
      (λ h. absurd (none-some _ (sym none ∙ log_was (done_at m) h.0 (omega arith) (λ same. omega arith)
      (λ same. omega arith) (λ same. omega arith) h.1)))
      (look new (done_at m))

  -- a slot with a commit cell is another slot
  pub is_other : {m start' length' bytes journal : ℕ} → Commits g new m start' length' bytes journal → m ≡ n → ⊥
  is_other {m} {start'} {length'} {bytes} {journal} c same = no_abandon bytes journal
      (one_record_holds new (outcome_at n) (Commit bytes journal) Abandon
      (subst (λ (k : ℕ). Holds new (outcome_at k) (Commit bytes journal)) same c.outcome) u.outcome)

  pub reserves_back : {m start' length' : ℕ} → (m ≡ n → ⊥) → Reserves g new m start' length'
      → Reserves g old m start' length'
  reserves_back other r = record {
    slot = r.slot;
    reserve = reserve_held r.slot other r.reserve;
    from = r.from;
    to = r.to;
  }

  pub stamp_held : {m seconds : ℕ} → m < g.slots → (m ≡ n → ⊥) → HasStamp new m seconds → HasStamp old m seconds
  stamp_held {m} inside other h = record {
    cell = h.cell;
    stands = log_was (spare_at m) h.cell (omega arith) (λ same. omega arith) (λ same. omega arith)
        (λ same. other (omega arith)) h.stands;
    is = h.is;
  }

  stamped_back : {m : ℕ} → m < g.slots → (m ≡ n → ⊥) → IsStamped new m → IsStamped old m
  stamped_back inside other h = record { seconds = h.seconds; stamp = stamp_held inside other h.stamp }

  pub commits_back : {m start' length' bytes journal : ℕ} → Commits g new m start' length' bytes journal
      → Commits g old m start' length' bytes journal
  commits_back c = record {
    reserves = reserves_back (is_other c) c.reserves;
    outcome = outcome_held c.reserves.slot (is_other c) c.outcome;
    fits = c.fits;
    stamped = λ e. stamped_back c.reserves.slot (is_other c) (c.stamped e);
  }

  pub stores_back : {m start' length' bytes journal : ℕ} → Stores g new m start' length' bytes journal
      → Stores g old m start' length' bytes journal
  stores_back c = record {
    commits = commits_back c.commits;
    done = ⊎_elim (λ none. inl (blank_before u.keeps none)) (λ h. inr (done_held c.commits.reserves.slot h)) c.done;
  }

  pub done_back : {m start' length' bytes journal : ℕ} → IsDone g new m start' length' bytes journal
      → IsDone g old m start' length' bytes journal
  done_back d = record { commits = commits_back d.commits; done = done_held d.commits.reserves.slot d.done }

  pub ended_on : {m : ℕ} → HasEnded g old old m → HasEnded g new new m
  ended_on {m} h = ⊎_elim
      (λ (a : IsAbandonedSlot g old old m). inl (record {
        start = a.start;
        length = a.length;
        abandoned = record {
          abandons = record {
            reserves = reserves_on u.keeps a.abandoned.abandons.reserves;
            outcome = holds_on u.keeps a.abandoned.abandons.outcome;
          };
          done = done_blank m a.abandoned.abandons.reserves.slot a.abandoned.done;
        };
      }))
      (λ (d : IsDoneSlot g old m). inr (record {
        start = d.start;
        length = d.length;
        bytes = d.bytes;
        journal = d.journal;
        done = done_on u.keeps d.done;
      }))
      h

  -- the cells of a slot of the old image lie before the edge
  pub ends : {m start' length' : ℕ} → Reserves g old m start' length' → start' + length' ≤ start
  ends {m} r = ends_before g old s n start u.begins m _ _
      (below_horizon g old s n m free u.horizon r.slot (written r)) r

  -- where the new image's edges lie
  pub horizon_is : (k : ℕ) → IsHorizon g new new k → k ≡ n + 1
  horizon_is k h = ⊎_elim (λ same. same) (λ differ. ⊎_elim (λ less. absurd (low less))
      (λ above. absurd (high k h above)) differ) (cases_order k (n + 1))
    where
      low : k < n + 1 → ⊥
      low less = ⊎_elim
          (λ same. none-some _ (sym (h.free (omega (arith, free))) ∙ ap (λ (i : ℕ). new (reserve_at i)) same
          ∙ u.reserves.reserve.stands))
          (λ differ. ⊎_elim
          (λ below. let w = taken_to g old s n u.horizon k below in
          none-some _ (sym (h.free (omega (arith, free))) ∙ u.keeps.keeps (reserve_at k) w.found w.stands))
          (λ above. absurd (omega arith)) differ)
          (cases_order k n)

      high : (k : ℕ) → IsHorizon g new new k → n + 1 < k → ⊥
      high zero h above = omega arith
      high (suc m) h above =
          let w : IsWritten old (reserve_at m) =
          reserve_was (omega (arith, h.most)) (λ same. omega arith) (h.below m (omega arith)) in
          let x = taken_below g old s m (omega (arith, h.most)) w n (omega arith) in
          none-some _ (sym (u.horizon.free free) ∙ x.stands)

  pub edge_is : (at : ℕ) → IsEdge g new new at → at ≡ start + size
  edge_is at e =
      let k = horizon_is e.u (edge_horizon g new at e) in
      let ends : EndsBelow g new (n + 1) (start + size) = inr (n, start, size, refl, u.reserves, refl) in
      one_end g new (n + 1) at (start + size) (subst (λ (i : ℕ). EndsBelow g new i at) k e.ends) ends

  -- the old image's edge
  pub old_edge : IsEdge g old old start
  old_edge = record { u = n; most = u.horizon.most; free = u.horizon.free; ends = u.begins }

  pub pool_before : pool_at g ≤ start
  pool_before = u.reserves.from

  -- a block of a list was one before, and lies before the edge
  pub record IsOldBlock (l block : ℕ) : Type 0 where
    pub is : IsBlockOf g old l block
    pub low : lists_at g ≤ block
    pub high : block + 256 ≤ start

  old_target : {l block level digit target : ℕ} → IsOldBlock l block → level < 8 → 1 ≤ digit → digit ≤ 15
      → Holds new (pointer_at block level digit) (Jump target)
      → pool_at g ≤ target → target + 256 ≤ g.cells → IsOldBlock l target
  old_target {l} {block} {level} {digit} {target} b ls d1 d2 jump from to =
      let jump' : Holds old (pointer_at block level digit) (Jump target) =
      held (omega (arith, b.low)) (omega (arith, b.high)) jump in
      let rule : LeadsWell g old l block level digit = s.met Pointers (pointer_at block level digit)
      (record { found = jump'.cell; stands = jump'.stands }) l block level digit b.is ls d1 d2 refl in
      let same : target ≡ rule.target = jumps target rule.target
      (one_record_holds old (pointer_at block level digit) (Jump target) (Jump rule.target) jump' rule.jump) in
      let edge : rule.target + 256 ≤ start = rule.edge start old_edge in
      record {
        is = record { list = b.is.list; leads = leads_further b.is.leads level digit target ls d1 d2 jump' from to };
        low = omega arith;
        high = omega arith;
      }

  all_old : {l last block : ℕ} → Leads new (pool_at g) g.cells last block → IsOldBlock l block → IsOldBlock l last
  all_old {l} (arrived block is) b = subst (λ (k : ℕ). IsOldBlock l k) is b
  all_old (onwards block level digit target ls d1 d2 jump from to rest) b =
      all_old rest (old_target b ls d1 d2 jump from to)

  pub block_was : {l block : ℕ} → IsBlockOf g new l block → IsOldBlock l block
  block_was {l} b = all_old b.leads (record {
    is = record { list = b.list; leads = arrived (list_at g l) refl };
    low = omega arith;
    high = let inside = b.list in let p = pool_before in omega arith;
  })

  -- a node was one before, and lies before the edge
  pub record IsOldNode (v node : ℕ) : Type 0 where
    pub is : IsNode g old v node
    pub low : lists_at g ≤ node
    pub high : node + 32 ≤ start

  pub node_was : {v node : ℕ} → IsNode g new v node → IsOldNode v node
  node_was (root v node is at) = record {
    is = root v node is at;
    low = omega arith;
    high = let p = pool_before in omega arith;
  }
  node_was (under v node w above x is rest xs less child from to) =
      let a = node_was rest in
      let child' : Holds old (above + 16 + x) (Child node) =
      held (omega (arith, a.low)) (omega (arith, a.high)) child in
      let rule : LeadsDownWell g old w above x = s.met Children (above + 16 + x)
      (record { found = child'.cell; stands = child'.stands }) w above x a.is xs refl in
      let same : node ≡ rule.target = children node rule.target
      (one_record_holds old (above + 16 + x) (Child node) (Child rule.target) child' rule.child) in
      let edge : rule.target + 32 ≤ start = rule.edge start old_edge in
      record { is = under v node w above x is a.is xs less child' from to; low = omega arith; high = omega arith }

  -- a document that stands stood before
  pub spells_back : {m from reserved : ℕ} (journal : ℕ) (stored : List ℕ) → Reserves g old m from reserved
      → cells_for (length stored) + journal ≤ reserved
      → Spells new (document_at from reserved (length stored) journal) stored
      → Spells old (document_at from reserved (length stored) journal) stored
  spells_back {m} {from} {reserved} journal stored r fits spells = λ k below.
      was _ _ (omega (arith, r.from, fits)) (omega (arith, ends r, fits, below)) (spells k below)

abbrev layout_of : RecordCell → Layout
layout_of (Volume version slots lists cells) = record { slots = slots; lists = lists; cells = cells; version = version }
layout_of _ = record { slots = 0; lists = 0; cells = 0; version = 0 }

-- a volume has one layout
volumes : (g h : Layout) → volume_record g ≡ volume_record h → g ≡ h
volumes g h e = ap layout_of e

pub one_layout : {cells more : ℕ} {image : Image} (g h : Layout) → IsVolume cells image g
    → IsVolume more image h → g ≡ h
one_layout {cells} {more} {image} g h v w =
    volumes g h (one_record_holds image 0 (volume_record g) (volume_record h) v.volume w.volume)

-- a document stands in a slot of the volume
pub stands_inside : {g : Layout} {cells n : ℕ} {image : Image} {id body : List ℕ} → IsVolume g.cells image g
    → Stands cells image n id body → n < g.slots
stands_inside {g} {cells} {n} {image} v t =
    subst (λ (h : Layout). n < h.slots) (one_layout t.layout g t.volume v) t.slot
