-- A slot that is given up at the horizon of a settled image leaves it settled: each rule is kept.
use Rattle.std.proofs.Common.{◌≡◌, ◌<◌, ◌≤◌, ◌+◌, ◌⊎◌, ⊎_elim, inl, inr, ℕ, List, [], ◌∷◌, Some, None, refl, sym, ◌∙◌, subst, ap, arith, length}
use Rattle.std.proofs.lemmas.Option.{none-some}
use Rattle.std.proofs.lemmas.Bool.{cases_order, cases_lt}
use Rattle.cell_types.specs.Image.{Image}
use Rattle.cell_types.specs.Layout.{Layout, reserve_at, outcome_at, done_at, spare_at, pool_at, lists_at}
use Rattle.cell_types.specs.declared.record_cell.RecordCell.{RecordCell}
use Rattle.cell_types.specs.declared.record_cell.RecordCell.TheVariants.{Commit, Abandon}
use Rattle.volume_meaning.specs.Blocks.{PostingFields, posting_record}
use Rattle.volume_meaning.specs.Documents.{Stands, stored_bytes, document_at}
use Rattle.tamper_rules.specs.Journals.{journal_at, CopiesIndexCell}
use Rattle.tamper_rules.specs.Rules
use Rattle.tamper_rules.specs.Rules.{Rule, IsMet, ReserveRule, OutcomeRule, DoneRule, DocumentRule, HasDocument, JournalRule, RedoneRule, BlankRule, IsTrueStamp, IsDoneIndexCell, HoldsInOrder, EntryRule, IsTruePosting, PostingRule, LeadsWell, PointerRule, IsTrueBucket, BucketRule, LeadsDownWell, ChildRule, TrailRule, PathRule, HasJump, HasChild, IsSize, Tile, TilingRule}
use Rattle.tamper_rules.specs.Settling.{IsSettled}
use Rattle.volume_meaning.specs.Slots.{Commits, IsCommitted, IsAbandonedSlot, IsDoneSlot, IsDone, HasEnded, IsHorizon, IsLive}
use Rattle.volume_meaning.specs.Volumes.{Holds, IsWritten, IsVolume}
use Rattle.volume_meaning.proofs.Extending.{holds_on, written_on, blank_before, volume_on, reserves_on, ends_on, live_on, spells_on, stands_on, stamped_on}
use Rattle.volume_meaning.proofs.Holding.{one_record_holds}
use Rattle.volume_meaning.proofs.Stamps.{stamp_on}
use Rattle.volume_meaning.proofs.Fronts.{front_on}
use Rattle.tamper_rules.proofs.FullFronts.{ends_full, full_ends}
use Rattle.tamper_rules.proofs.GivenUp.{no_abandon, log_was, held, stood, reserve_was, reserve_held, done_blank, stores_back, done_back, ended_on, ends, horizon_is, edge_is, old_edge, block_was, node_was, spells_back, one_layout, IsGivenUp, IsOf, of_reserve, of_outcome, of_spare, of_range, is_other, stamp_held}
use Rattle.tamper_rules.proofs.GoingOn.{copies_on, copies_back, blocks_on, in_order_goes_on, in_order_on, named_on, on_path_on, stores_go_on}
use Rattle.volume_meaning.proofs.HashTrails.{hash_trail_on}
use Rattle.tamper_rules.proofs.Images.{look}
use Rattle.tamper_rules.proofs.Settled.{written, below_horizon}
use Rattle.volume_meaning.proofs.Trails.{trail_on}

module _ {g : Layout} {old new : Image} {n start size : ℕ} (v : IsVolume g.cells old g) (s : IsSettled g old)
    (u : IsGivenUp g old new n start size) where
  rule_1 : (m : ℕ) → m < g.slots → IsWritten new (reserve_at m) → ReserveRule g new m
  rule_1 m inside w = ⊎_elim
      (λ same. subst (λ (k : ℕ). ReserveRule g new k) (sym same) mine)
      (λ differ. let r : ReserveRule g old m = s.met Rules.ReserveCells (reserve_at m)
      (reserve_was s u inside (λ same. ⊎_elim (λ less. omega arith) (λ above. omega arith) differ) w)
      m inside refl in
      record {
        start = r.start;
        length = r.length;
        reserves = reserves_on u.keeps r.reserves;
        begins = ends_on u.keeps u.keeps r.begins;
        before = λ k is. ended_on s u (r.before k is);
      })
      (cases_order m n)
    where
      mine : ReserveRule g new n
      mine = record {
        start = start;
        length = size;
        reserves = u.reserves;
        begins = ends_on u.keeps u.keeps u.begins;
        before = λ k is. ended_on s u (s.ended n k u.horizon (omega arith));
      }

  rule_2 : (m : ℕ) → m < g.slots → IsWritten new (outcome_at m) → OutcomeRule g new m
  rule_2 m inside w = ⊎_elim
      (λ same. subst (λ (k : ℕ). OutcomeRule g new k) (sym same) (record {
        reserve = written u.reserves;
        outcome = inl u.outcome;
      }))
      (λ differ.
      let other : m ≡ n → ⊥ = λ same. ⊎_elim (λ less. omega arith) (λ above. omega arith) differ in
      let before : IsWritten old (outcome_at m) = record {
        found = w.found;
        stands = log_was s u (outcome_at m) w.found (omega arith) (λ same. omega arith) (λ same. other (omega arith))
            (λ same. omega arith) w.stands;
      } in
      let r : OutcomeRule g old m = s.met Rules.OutcomeCells (outcome_at m) before m inside refl in
      record {
        reserve = written_on u.keeps r.reserve;
        outcome = ⊎_elim (λ h. inl (holds_on u.keeps h))
            (λ h. inr (
              h.0,
              h.1,
              holds_on u.keeps h.2,
              λ from reserved r. h.3 from reserved
                  (reserve_held s u inside other r),
              λ e. stamped_on u.keeps (h.4 e),
            ))
            r.outcome;
      })
      (cases_order m n)

  rule_3 : (m : ℕ) → m < g.slots → IsWritten new (done_at m) → DoneRule new m
  rule_3 m inside w =
      let before : IsWritten old (done_at m) = record {
        found = w.found;
        stands = log_was s u (done_at m) w.found (omega arith) (λ same. omega arith) (λ same. omega arith)
            (λ same. omega arith) w.stands;
      } in
      let r : DoneRule old m = s.met Rules.DoneCells (done_at m) before m inside refl in
      record {
        done = holds_on u.keeps r.done;
        bytes = r.bytes;
        journal = r.journal;
        commit = holds_on u.keeps r.commit;
      }

  rule_4 : (m : ℕ) → DocumentRule g new m
  rule_4 m from reserved bytes journal c =
      let b = stores_back s u c in
      let r : DocumentRule g old m = s.met Rules.Documents (outcome_at m)
      (record { found = b.commits.outcome.cell; stands = b.commits.outcome.stands }) m b.commits.reserves.slot refl in
      let d : HasDocument old (document_at from reserved bytes journal) bytes = r from reserved bytes journal b in
      record {
        id = d.id;
        body = d.body;
        count = d.count;
        spells = spells_on _ _ u.keeps d.spells;
        is_identifier = d.is_identifier;
        is_body = d.is_body;
      }

  rule_5 : (cell : ℕ) → IsWritten new cell → JournalRule g new cell
  rule_5 cell w = record {
    copy = λ m from reserved bytes journal place c below at.
        let b = stores_back s u c in
        let e = ends s u b.commits.reserves in
        let before : IsWritten old cell = stood s u (omega (arith, at, b.commits.fits, b.commits.reserves.from))
        (omega (arith, at, e, below, b.commits.fits)) w in
        let r : JournalRule g old cell = s.met Rules.Journals cell before in
        in_order_on u.keeps (done_blank s u) (r.copy m from reserved bytes journal place b below at);
    commit = λ m from reserved bytes journal place c below at.
        let b = stores_back s u c in
        let before : IsWritten old (outcome_at m) = record {
          found = b.commits.outcome.cell;
          stands = b.commits.outcome.stands;
        } in
        let r : JournalRule g old (outcome_at m) = s.met Rules.Journals (outcome_at m) before in
        written_on u.keeps (r.commit m from reserved bytes journal place b below refl);
  }

  -- a settled image has no committed slot
  no_committed : (m from reserved bytes journal : ℕ) → IsCommitted g old old m from reserved bytes journal → ⊥
  no_committed m from reserved bytes journal c = ⊎_elim
      (λ (a : IsAbandonedSlot g old old m). no_abandon bytes journal
      (one_record_holds old (outcome_at m) (Commit bytes journal) Abandon c.commits.outcome
      a.abandoned.abandons.outcome))
      (λ (d : IsDoneSlot g old m). none-some _ (sym c.done ∙ d.done.done.stands))
      (s.ended n m u.horizon (below_horizon g old s n m u.reserves.slot u.horizon c.commits.reserves.slot
      (written c.commits.reserves)))

  -- a journal cell of a slot stood before
  entry_stood : {m from reserved bytes journal place : ℕ} → Commits g old m from reserved bytes journal
      → place < journal
      → IsWritten new (journal_at from reserved journal + place)
      → IsWritten old (journal_at from reserved journal + place)
  entry_stood c below w =
      let e = ends s u c.reserves in
      stood s u (omega (arith, c.fits, c.reserves.from)) (omega (arith, e, below, c.fits)) w

  copies_was : {m from reserved bytes journal place target : ℕ} {r : RecordCell}
      → Commits g old m from reserved bytes journal
      → CopiesIndexCell new from reserved journal place target r
      → CopiesIndexCell old from reserved journal place target r
  copies_was c k = copies_back u.keeps (entry_stood c k.below (record { found = k.entry; stands = k.stands })) k

  rule_6 : (cell : ℕ) → IsWritten new cell → RedoneRule g new cell
  rule_6 cell w = record {
    done = λ m from reserved bytes journal place target copied d k at.
        let b = done_back s u d in
        let c = copies_was b.commits k in
        let here : old cell ≡ Some c.entry = ap old at ∙ c.stands in
        let r : RedoneRule g old cell = s.met Rules.Targets cell (record { found = c.entry; stands = here }) in
        let same : old target ≡ old cell = r.done m from reserved bytes journal place target copied b c at in
        u.keeps.keeps _ _ (same ∙ here) ∙ sym (u.keeps.keeps _ _ here);
    committed = λ m from reserved bytes journal place target copied d k at.
        let b = stores_back s u (record { commits = d.commits; done = inl d.done }) in
        absurd (no_committed m from reserved bytes journal (record {
          commits = b.commits;
          done = blank_before u.keeps d.done;
        }));
  }

  record WasIndex (cell : ℕ) : Type 0 where
    is : IsDoneIndexCell g old cell
    low : lists_at g ≤ cell
    high : cell < start

  index_was : {cell : ℕ} → IsDoneIndexCell g new cell → WasIndex cell
  index_was {cell} (Rules.IsDoneIndexCell.of_list l lies) = record {
    is = Rules.IsDoneIndexCell.of_list l lies;
    low = omega (arith, lies.from);
    high = let inside = lies.exists in let p = u.reserves.from in omega (arith, lies.below);
  }
  index_was {cell} (Rules.IsDoneIndexCell.of_root lies) = record {
    is = Rules.IsDoneIndexCell.of_root lies;
    low = omega (arith, lies.from);
    high = let p = u.reserves.from in omega (arith, lies.below);
  }
  index_was {cell} (Rules.IsDoneIndexCell.of_slot m from reserved bytes journal d low high) =
      let b = done_back s u d in
      let e = ends s u b.commits.reserves in
      record {
        is = Rules.IsDoneIndexCell.of_slot m from reserved bytes journal b low high;
        low = omega (arith, b.commits.reserves.from);
        high = omega (arith, e, b.commits.fits);
      }

  -- a stamp is that of the slot that is given up, or was one before
  true_stamp : (m : ℕ) → m < g.slots → IsWritten new (spare_at m) → IsTrueStamp g new m
  true_stamp m inside w = ⊎_elim
      (λ same. subst (λ (k : ℕ). IsTrueStamp g new k) (sym same)
      (u.stamp (subst (λ (k : ℕ). IsWritten new (spare_at k)) same w)))
      (λ differ.
      let other : m ≡ n → ⊥ = λ same. ⊎_elim (λ less. omega arith) (λ above. omega arith) differ in
      let before : IsWritten old (spare_at m) = record {
        found = w.found;
        stands = log_was s u (spare_at m) w.found (omega arith) (λ is. omega arith) (λ is. omega arith)
            (λ is. other (omega arith)) w.stands;
      } in
      let r : BlankRule g old (spare_at m) = s.met Rules.StrayCells (spare_at m) before in
      let t : IsTrueStamp g old m = r.spare m inside refl in
      record {
        version = t.version;
        reserve = written_on u.keeps t.reserve;
        seconds = t.seconds;
        stamp = holds_on u.keeps t.stamp;
        rises = λ k lower less d h.
            let b = done_back s u d.done in
            t.rises k lower less (record {
              start = d.start;
              length = d.length;
              bytes = d.bytes;
              journal = d.journal;
              done = b;
            })
            (stamp_held s u b.commits.reserves.slot (is_other s u d.done.commits) h);
      })
      (cases_order m n)

  rule_7 : (cell : ℕ) → IsWritten new cell → BlankRule g new cell
  rule_7 cell w = record {
    kept_blank = λ one. ⊎_elim
        (λ less.
        let before : IsWritten old cell = record {
          found = w.found;
          stands = log_was s u cell w.found (omega arith) (λ same. omega arith) (λ same. omega arith)
              (λ same. omega arith) w.stands;
        } in
        let r : BlankRule g old cell = s.met Rules.StrayCells cell before in
        r.kept_blank one)
        (λ le. le)
        (cases_lt cell 4);
    spare = λ m inside same.
        true_stamp m inside (subst (λ (c : ℕ). IsWritten new c) same w);
    named = λ i.
        let k = index_was i in
        let r : BlankRule g old cell = s.met Rules.StrayCells cell (stood s u k.low k.high w) in
        named_on u.keeps (r.named k.is);
    edge = λ at e pool. in_range at (edge_is s u at e) pool (u.only cell w.found w.stands);
  }
    where
      of_new : (at : ℕ) → at ≡ start + size → pool_at g ≤ cell → IsOf n start size cell → cell < at
      of_new at is pool (of_reserve same) = absurd (omega (arith, u.reserves.slot))
      of_new at is pool (of_outcome same) = absurd (omega (arith, u.reserves.slot))
      of_new at is pool (of_spare same) = absurd (omega (arith, u.reserves.slot))
      of_new at is pool (of_range from to) = omega arith

      in_range : (at : ℕ) → at ≡ start + size → pool_at g ≤ cell
          → (old cell ≡ Some w.found) ⊎ IsOf n start size cell → cell < at
      in_range at is pool h = ⊎_elim
          (λ before.
          let r : BlankRule g old cell = s.met Rules.StrayCells cell (record { found = w.found; stands = before }) in
          let less : cell < start = r.edge start (old_edge s u) pool in omega arith)
          (of_new at is pool)
          h

  rule_8 : (cell : ℕ) → IsWritten new cell → EntryRule g new cell
  rule_8 cell w = record {
    entry = λ l block place b below at.
        let k = block_was s u b in
        let r : EntryRule g old cell =
        s.met Rules.Entries cell (stood s u (omega (arith, k.low)) (omega (arith, k.high)) w) in
        in_order_goes_on u.keeps (r.entry l block place k.is below at);
    blank = λ l block place b from to at.
        let k = block_was s u b in
        let r : EntryRule g old cell =
        s.met Rules.Entries cell (stood s u (omega (arith, k.low)) (omega (arith, k.high)) w) in
        r.blank l block place k.is from to at;
  }

  live : {m : ℕ} → IsLive g old m → IsLive g new m
  live l = live_on u.keeps u.keeps l

  rule_9 : (cell : ℕ) → IsWritten new cell → PostingRule g new cell
  rule_9 cell w l block place p b below at h =
      let k = block_was s u b in
      let low : lists_at g ≤ cell = omega (arith, k.low) in
      let high : cell < start = omega (arith, k.high) in
      let r : PostingRule g old cell = s.met Rules.Postings cell (stood s u low high w) in
      let t : IsTruePosting g old l p = r l block place p k.is below at (held s u low high h) in
      record {
        slot = t.slot;
        stamp = t.stamp;
        is_stamp = stamp_on g t.slot t.stamp u.keeps t.is_stamp;
        live = live t.live;
        id = t.id;
        body = t.body;
        stands = stands_on u.keeps t.stands;
        postings = t.postings;
        is = t.is;
      }

  rule_10 : (cell : ℕ) → IsWritten new cell → PointerRule g new cell
  rule_10 cell w l block level digit b ls d1 d2 at =
      let k = block_was s u b in
      let r : PointerRule g old cell =
      s.met Rules.Pointers cell (stood s u (omega (arith, k.low)) (omega (arith, k.high)) w) in
      let t : LeadsWell g old l block level digit = r l block level digit k.is ls d1 d2 at in
      let entries : (place : ℕ) → place < 128 → HoldsInOrder old block place = λ place below.
      let e : EntryRule g old (block + place) = s.met Rules.Entries (block + place) (t.full place below) in
      e.entry l block place k.is below refl in
      record {
        target = t.target;
        jump = holds_on u.keeps t.jump;
        full = λ place below. written_on u.keeps (t.full place below);
        from = t.from;
        to = t.to;
        edge = λ at e. let is = edge_is s u at e in let less = t.edge start (old_edge s u) in omega arith;
        owner = t.owner;
        owns_first = blocks_on u.keeps (done_blank s u) t.owns_first;
        owns_last = blocks_on u.keeps (done_blank s u) t.owns_last;
        greatest = t.greatest;
        ends = full_ends (front_on u.keeps (ends_full entries t.ends));
        place = t.place;
        some = t.some;
        in_places = t.in_places;
        in_front = front_on u.keeps t.in_front;
        in_span = t.in_span;
        blocks = λ j other o. t.blocks j other ((block_was s u o).is);
        nodes = λ w node o. t.nodes w node ((node_was s u o).is);
      }

  rule_11 : (cell : ℕ) → IsWritten new cell → BucketRule g new cell
  rule_11 cell w level node x o less at =
      let k = node_was s u o in
      let r : BucketRule g old cell =
      s.met Rules.Buckets cell (stood s u (omega (arith, k.low)) (omega (arith, k.high)) w) in
      let t : IsTrueBucket g old node x = r level node x k.is less at in
      record {
        slot = t.slot;
        fingerprint = t.fingerprint;
        bucket = holds_on u.keeps t.bucket;
        live = live t.live;
        id = t.id;
        body = t.body;
        stands = stands_on u.keeps t.stands;
        same = t.same;
        level = t.level;
        on_path = on_path_on u.keeps t.on_path;
        here = t.here;
      }

  rule_12 : (cell : ℕ) → IsWritten new cell → ChildRule g new cell
  rule_12 cell w level node x o less at =
      let k = node_was s u o in
      let r : ChildRule g old cell =
      s.met Rules.Children cell (stood s u (omega (arith, k.low)) (omega (arith, k.high)) w) in
      let t : LeadsDownWell g old level node x = r level node x k.is less at in
      record {
        target = t.target;
        child = holds_on u.keeps t.child;
        bucket = written_on u.keeps t.bucket;
        level = t.level;
        from = t.from;
        to = t.to;
        edge = λ at e. let is = edge_is s u at e in let less = t.edge start (old_edge s u) in omega arith;
        owner = t.owner;
        start = t.start;
        reserved = t.reserved;
        bytes = t.bytes;
        journal = t.journal;
        stores = stores_go_on u.keeps (done_blank s u) t.stores;
        place = t.place;
        in_journal = t.in_journal;
        same = u.keeps.keeps _ _ (t.same ∙ t.child.stands) ∙ sym (u.keeps.keeps _ _ t.child.stands);
        in_blocks = t.in_blocks;
        before_document = t.before_document;
        once = λ w other y o less lower child.
            let i = node_was s u o in
            t.once w other y i.is less lower (held s u (omega (arith, i.low)) (omega (arith, i.high)) child);
        blocks = λ j other o. t.blocks j other ((block_was s u o).is);
        nodes = λ w other o. t.nodes w other ((node_was s u o).is);
      }

  stands_back : {m : ℕ} {id body : List ℕ} → Stands g.cells new m id body → Stands g.cells old m id body
  stands_back {m} {id} {body} t =
      let same : t.layout ≡ g = one_layout t.layout g t.volume (volume_on u.keeps v) in
      let d : IsDone g new m t.start t.reserved (length (stored_bytes id body)) t.journal =
      subst (λ (h : Layout). IsDone h new m t.start t.reserved (length (stored_bytes id body)) t.journal) same t.done in
      let b = done_back s u d in
      record {
        layout = g;
        start = t.start;
        reserved = t.reserved;
        journal = t.journal;
        volume = v;
        slot = b.commits.reserves.slot;
        done = b;
        spells = spells_back s u t.journal (stored_bytes id body) b.commits.reserves b.commits.fits t.spells;
        is_identifier = t.is_identifier;
        is_body = t.is_body;
      }

  done_written : {m : ℕ} {id body : List ℕ} → Stands g.cells old m id body → IsWritten old (done_at m)
  done_written t = record { found = t.done.done.cell; stands = t.done.done.stands }

  rule_13 : (m : ℕ) (id body : List ℕ) → Stands g.cells new m id body → TrailRule g new m body
  rule_13 m id body t =
      let b = stands_back t in
      let r : TrailRule g old m body = s.met Rules.Trails (done_at m) (done_written b) m id body refl b in
      record {
        postings = r.postings;
        stamp = r.stamp;
        is_stamp = stamp_on g m r.stamp u.keeps r.is_stamp;
        trails = λ l p below is. let k = r.trails l p below is in (k.0, trail_on u.keeps k.1);
      }

  rule_14 : (m : ℕ) (id body : List ℕ) → Stands g.cells new m id body → PathRule g new m id
  rule_14 m id body t =
      let b = stands_back t in
      let r : PathRule g old m id = s.met Rules.Paths (done_at m) (done_written b) m id body refl b in
      record {
        path = hash_trail_on u.keeps r.path;
        alone = λ k other less there. r.alone k other less (stands_back there);
      }

  rule_15 : (m from reserved bytes journal : ℕ) → IsDone g new m from reserved bytes journal
      → TilingRule new from reserved bytes journal
  rule_15 m from reserved bytes journal d =
      let r : TilingRule old from reserved bytes journal = s.met Rules.Tilings (outcome_at m)
      (record { found = b.commits.outcome.cell; stands = b.commits.outcome.stands }) m from reserved bytes
      journal refl b in
      record {
        targets = r.targets;
        each = λ target. (
          λ h. (r.each target).0 (⊎_elim (λ j. inl (jump_back j)) (λ c. inr (child_back c)) h.0, h.1, h.2),
          λ among.
              let h = (r.each target).1 among in
              (⊎_elim (λ j. inl (jump_on j)) (λ c. inr (child_on c)) h.0, h.1, h.2),
        );
        tile = tile_on r.targets from (document_at from reserved bytes journal) r.tile;
      }
    where
      b : IsDone g old m from reserved bytes journal
      b = done_back s u d

      jump_back : {target : ℕ} → HasJump new from reserved journal target → HasJump old from reserved journal target
      jump_back h = (h.0, h.1, copies_was b.commits h.2)

      jump_on : {target : ℕ} → HasJump old from reserved journal target → HasJump new from reserved journal target
      jump_on h = (h.0, h.1, copies_on u.keeps h.2)

      child_back : {target : ℕ} → HasChild new from reserved journal target
          → HasChild old from reserved journal target
      child_back h = (h.0, h.1, copies_was b.commits h.2)

      child_on : {target : ℕ} → HasChild old from reserved journal target → HasChild new from reserved journal target
      child_on h = (h.0, h.1, copies_on u.keeps h.2)

      size_on : {target count : ℕ} → IsSize old from reserved journal target count
          → IsSize new from reserved journal target count
      size_on h = ⊎_elim (λ x. inl (x.0, jump_on x.1)) (λ x. inr (x.0, λ j. x.1 (jump_back j))) h

      tile_on : (targets : List ℕ) (low high : ℕ) → Tile old from reserved journal low high targets
          → Tile new from reserved journal low high targets
      tile_on [] low high t = t
      tile_on (target ∷ targets) low high t = (t.0, t.1, size_on t.2, tile_on targets (low + t.1) high t.3)

  all_met : (rule : Rule) (cell : ℕ) → IsWritten new cell → IsMet g new rule cell
  all_met Rules.ReserveCells cell w = λ m inside at. rule_1 m inside (subst (λ (c : ℕ). IsWritten new c) at w)
  all_met Rules.OutcomeCells cell w = λ m inside at. rule_2 m inside (subst (λ (c : ℕ). IsWritten new c) at w)
  all_met Rules.DoneCells cell w = λ m inside at. rule_3 m inside (subst (λ (c : ℕ). IsWritten new c) at w)
  all_met Rules.Documents cell w = λ m inside at. rule_4 m
  all_met Rules.Journals cell w = rule_5 cell w
  all_met Rules.Targets cell w = rule_6 cell w
  all_met Rules.StrayCells cell w = rule_7 cell w
  all_met Rules.Entries cell w = rule_8 cell w
  all_met Rules.Postings cell w = rule_9 cell w
  all_met Rules.Pointers cell w = rule_10 cell w
  all_met Rules.Buckets cell w = rule_11 cell w
  all_met Rules.Children cell w = rule_12 cell w
  all_met Rules.Trails cell w = λ m id body at t. rule_13 m id body t
  all_met Rules.Paths cell w = λ m id body at t. rule_14 m id body t
  all_met Rules.Tilings cell w = λ m from reserved bytes journal at d. rule_15 m from reserved bytes journal d

  pub given_up_is_settled : IsSettled g new
  given_up_is_settled = record { met = all_met; ended = all_ended }
    where
      last : HasEnded g new new n
      last = inl (record {
        start = start;
        length = size;
        abandoned = record {
          abandons = record { reserves = u.reserves; outcome = u.outcome };
          done = done_blank s u n u.reserves.slot nothing_done;
        };
      })
        where
          nothing_done : old (done_at n) ≡ None
          nothing_done = ⊎_elim (λ none. none)
              (λ h.
              let r : DoneRule old n =
              s.met Rules.DoneCells (done_at n) (record { found = h.0; stands = h.1 }) n u.reserves.slot refl in
              let o : OutcomeRule g old n = s.met Rules.OutcomeCells (outcome_at n)
              (record { found = r.commit.cell; stands = r.commit.stands }) n u.reserves.slot refl in
              absurd (none-some _ (sym (u.horizon.free u.reserves.slot) ∙ o.reserve.stands)))
              (look old (done_at n))

      all_ended : (k m : ℕ) → IsHorizon g new new k → m < k → HasEnded g new new m
      all_ended k m h less =
          let is : k ≡ n + 1 = horizon_is s u k h in
          ⊎_elim
          (λ same. subst (λ (i : ℕ). HasEnded g new new i) (sym same) last)
          (λ differ. ⊎_elim (λ below. ended_on s u (s.ended n m u.horizon below))
          (λ above. absurd (omega arith)) differ)
          (cases_order m n)

  -- and its documents are the same
  pub given_up_stands : {m : ℕ} {id body : List ℕ} → Stands g.cells new m id body → Stands g.cells old m id body
  given_up_stands t = stands_back t
