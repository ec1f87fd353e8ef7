-- A plan whose cells are all written: the log, the documents, the journals and the blank cells.
use Rattle.std.proofs.Common.{◌≡◌, ◌<◌, ◌≤◌, ◌+◌, ⊎_elim, inl, inr, ℕ, suc, zero, List, [], ◌∷◌, Some, None, refl, sym, ◌∙◌, subst, ap, arith, length}
use Rattle.std.proofs.lemmas.Option.{none-some, slice_get_within, slice_get-get_or}
use Rattle.std.proofs.lemmas.Bool.{cases_order}
use Rattle.cell_types.specs.Image.{Image, Extends}
use Rattle.cell_types.specs.Layout.{Layout, reserve_at, outcome_at, done_at, spare_at, pool_at, lists_at}
use Rattle.cell_types.specs.declared.record_cell.RecordCell.{RecordCell}
use Rattle.cell_types.specs.declared.record_cell.RecordCell.TheVariants.{Reserve, Commit, Abandon}
use Rattle.volume_meaning.specs.Documents.{Stands, stored_bytes, document_at}
use Rattle.ingest_laws.specs.Filling.{blocks_end, IsCopyInPlan, IsPlannedCopy, IsFilled}
use Rattle.ingest_laws.specs.Ingesting.{Plan, Phase, Reserving, Storing, Committing, Applying, Finishing, stored_of, ContentRow, CopyRow, StoredRow, StampRow, AppliedRow, Row, AnyRow}
use Rattle.tamper_rules.specs.Journals.{journal_at, CopiesIndexCell, of_slot, IsInOrder, IsNamed}
use Rattle.tamper_rules.specs.Rules
use Rattle.tamper_rules.specs.Rules.{ReserveRule, OutcomeRule, DoneRule, DocumentRule, HasDocument, JournalRule, RedoneRule, BlankRule, IsTrueStamp, IsDoneIndexCell, HasJump, HasChild, IsSize, Tile, TilingRule}
use Rattle.volume_meaning.specs.Slots.{cells_for, Reserves, Commits, Stores, IsAbandonedSlot, IsDoneSlot, IsDone, HasEnded, IsHorizon, EndsBelow, IsEdge}
use Rattle.volume_meaning.specs.Volumes.{Holds, IsWritten}
use Rattle.volume_meaning.proofs.Extending.{holds_on, written_on, stamped_on, blank_before, volume_on, reserves_on, commits_on, done_on, ends_on, spells_on}
use Rattle.volume_meaning.proofs.Holding.{one_record_holds, some_is}
use Rattle.volume_meaning.proofs.Stamps.{has_stamp, stands_given}
use Rattle.tamper_rules.proofs.GivenUp.{no_abandon, one_layout}
use Rattle.tamper_rules.proofs.GoingOn.{copies_on, copies_back, in_order_by, index_by, named_on, one_copy, rises_by}
use Rattle.tamper_rules.proofs.Images.{look}
use Rattle.ingest_laws.proofs.Ingests.{IsLogCell, is_reserve, is_outcome, is_done, is_spare}
use Rattle.volume_meaning.proofs.OneDocument.{reserves, commits}
use Rattle.tamper_rules.proofs.Settled.{written, taken_below, taken_to, below_horizon, ends_before, edge_horizon, one_end}
use Rattle.tamper_rules.proofs.SettlingGoesOn.{behind_log}
use Rattle.tamper_rules.proofs.Writing.{same_or_not}

module _ {g : Layout} {old new : Image} {p : Plan} (u : IsFilled g old new p) where
  pub free : p.slot < g.slots
  free = u.reserves.slot

  pub keeps : Extends old new
  keeps = u.rows.keeps

  pub mine : IsDone g new p.slot p.start p.reserved (length (stored_of p)) (length p.journal)
  mine = record {
    commits = record {
      reserves = u.reserves;
      outcome = u.commit;
      fits = u.fits;
      stamped = has_stamp g new p.slot p.stamp u.stamp;
    };
    done = u.done;
  }

  -- the journal of the plan
  pub applied_entry : {cell : ℕ} {value : List ℕ} → (row : AppliedRow p cell value)
      → IsCopyInPlan p row.place cell row.copied
  applied_entry {cell} {value} row = record {
    value = value;
    entry = row.entry;
    index = row.index;
    address = row.address;
    is = row.is;
  }

  pub entry_copies : {place target : ℕ} {r : RecordCell} → IsCopyInPlan p place target r
      → CopiesIndexCell new p.start p.reserved (length p.journal) place target r
  entry_copies {place} {target} {r} e = record {
    below = slice_get_within p.journal place e.value e.entry;
    entry = e.value;
    stands = u.rows.adds (journal_at p.start p.reserved (length p.journal) + place) e.value
        (Storing, inl (inr (record { place = place; entry = e.entry; at = refl })));
    index = e.index;
    address = e.address;
    is = e.is;
  }

  -- what a place copies is applied
  copies_applied : {place target : ℕ} {r : RecordCell}
      → (c : CopiesIndexCell new p.start p.reserved (length p.journal) place target r) → AppliedRow p target c.entry
  copies_applied {place} {target} {r} c =
      let found = slice_get-get_or p.journal place [] c.below in
      let there = u.rows.adds (journal_at p.start p.reserved (length p.journal) + place) _
      (Storing, inl (inr (record { place = place; entry = found; at = refl }))) in
      let same = some_is _ c.entry (sym there ∙ c.stands) in
      record {
        place = place;
        entry = found ∙ ap (λ (v : List ℕ). Some v) same;
        copied = r;
        index = c.index;
        address = c.address;
        is = c.is;
      }

  row_target : {cell : ℕ} {value : List ℕ} → (row : AppliedRow p cell value)
      → (q : IsPlannedCopy g old p row.place) × (cell ≡ q.target)
  row_target {cell} {value} row =
      let e = entry_copies (applied_entry row) in
      let q = u.in_order row.place e.below in (
        q,
        (one_copy new p.start p.reserved (length p.journal) row.place cell q.target row.copied q.copied e
            (entry_copies q.entry)).1,
      )

  pub applied_far : {cell : ℕ} {value : List ℕ} → AppliedRow p cell value → lists_at g ≤ cell
  applied_far row = let q = row_target row in ⊎_elim (λ old. omega (arith, behind_log old, q.1))
      (λ from. omega (arith, from, u.reserves.from, q.1)) (q.0).index

  pub applied_low : {cell : ℕ} {value : List ℕ} → AppliedRow p cell value → cell < blocks_end p
  applied_low row = let q = row_target row in let b = (q.0).before_document in omega (arith, b, q.1)

  pub stored_from : {cell : ℕ} {value : List ℕ} → StoredRow p cell value → blocks_end p ≤ cell
  stored_from {cell} {value} row = ⊎_elim
      (λ (c : ContentRow p cell value). omega (arith, c.at))
      (λ (c : CopyRow p cell value). omega (arith, c.at))
      row

  stored_to : {cell : ℕ} {value : List ℕ} → StoredRow p cell value → cell < p.start + p.reserved
  stored_to {cell} {value} row = ⊎_elim
      (λ (c : ContentRow p cell value). omega (arith, c.at, c.below, u.fits))
      (λ (c : CopyRow p cell value). let below : c.place < length p.journal = slice_get_within p.journal c.place value
      c.entry in omega (arith, c.at, u.fits))
      row

  pub blocks_from : p.start ≤ blocks_end p
  blocks_from = omega (arith, u.fits)

  pub blocks_to : blocks_end p ≤ p.start + p.reserved
  blocks_to = omega arith

  -- the log changes in four cells
  pub log_row : (cell : ℕ) (value : List ℕ) → cell < lists_at g → (phase : Phase) → Row p phase cell value
      → IsLogCell p.slot cell
  log_row cell value low Reserving row = is_reserve row.at
  log_row cell value low Storing row = ⊎_elim
      (λ stored. absurd (let far = stored_from stored in omega (arith, far, blocks_from, u.reserves.from)))
      (λ (s : StampRow p cell value). is_spare s.row.at)
      row
  log_row cell value low Committing row = is_outcome row.at
  log_row cell value low Applying row = absurd (let far = applied_far row in omega arith)
  log_row cell value low Finishing row = is_done row.at

  log_was : (cell : ℕ) (value : List ℕ) → cell < lists_at g → (IsLogCell p.slot cell → ⊥)
      → new cell ≡ Some value → old cell ≡ Some value
  log_was cell value low other is = ⊎_elim (λ was. was) (λ (row : AnyRow p cell value). absurd
      (other (log_row cell value low row.0 row.1))) (u.rows.only cell value is)

  no_reserve : {m : ℕ} → (m ≡ p.slot → ⊥) → IsLogCell p.slot (reserve_at m) → ⊥
  no_reserve other (is_reserve at) = other (omega arith)
  no_reserve other (is_outcome at) = omega arith
  no_reserve other (is_done at) = omega arith
  no_reserve other (is_spare at) = omega arith

  no_outcome : {m : ℕ} → (m ≡ p.slot → ⊥) → IsLogCell p.slot (outcome_at m) → ⊥
  no_outcome other (is_reserve at) = omega arith
  no_outcome other (is_outcome at) = other (omega arith)
  no_outcome other (is_done at) = omega arith
  no_outcome other (is_spare at) = omega arith

  no_done : {m : ℕ} → (m ≡ p.slot → ⊥) → IsLogCell p.slot (done_at m) → ⊥
  no_done other (is_reserve at) = omega arith
  no_done other (is_outcome at) = omega arith
  no_done other (is_done at) = other (omega arith)
  no_done other (is_spare at) = omega arith

  no_spare : {m : ℕ} → (m ≡ p.slot → ⊥) → IsLogCell p.slot (spare_at m) → ⊥
  no_spare other (is_reserve at) = omega arith
  no_spare other (is_outcome at) = omega arith
  no_spare other (is_done at) = omega arith
  no_spare other (is_spare at) = other (omega arith)

  log_held : {cell : ℕ} {r : RecordCell} → cell < lists_at g → (IsLogCell p.slot cell → ⊥) → Holds new cell r
      → Holds old cell r
  log_held {cell} low other h = record { cell = h.cell; stands = log_was cell h.cell low other h.stands; is = h.is }

  pub log_stood : {cell : ℕ} → cell < lists_at g → (IsLogCell p.slot cell → ⊥) → IsWritten new cell
      → IsWritten old cell
  log_stood {cell} low other w = record { found = w.found; stands = log_was cell w.found low other w.stands }

  module _ {m : ℕ} (other : m ≡ p.slot → ⊥) where
    commits_back : {from reserved bytes journal : ℕ} → Commits g new m from reserved bytes journal
        → Commits g old m from reserved bytes journal
    commits_back c = record {
      reserves = record {
        slot = c.reserves.slot;
        reserve = log_held (omega (arith, c.reserves.slot)) (no_reserve other) c.reserves.reserve;
        from = c.reserves.from;
        to = c.reserves.to;
      };
      outcome = log_held (omega (arith, c.reserves.slot)) (no_outcome other) c.outcome;
      fits = c.fits;
      stamped = λ version. let t = c.stamped version in
          record { seconds = t.seconds; stamp = log_held (omega (arith, c.reserves.slot)) (no_spare other) t.stamp };
    }

    done_back : {from reserved bytes journal : ℕ} → IsDone g new m from reserved bytes journal
        → IsDone g old m from reserved bytes journal
    done_back d = record {
      commits = commits_back d.commits;
      done = log_held (omega (arith, d.commits.reserves.slot)) (no_done other) d.done;
    }

    stores_back : {from reserved bytes journal : ℕ} → Stores g new m from reserved bytes journal
        → Stores g old m from reserved bytes journal
    stores_back c = record {
      commits = commits_back c.commits;
      done = ⊎_elim (λ none. inl (blank_before keeps none))
          (λ h. inr (log_held (omega (arith, c.commits.reserves.slot)) (no_done other) h)) c.done;
    }

  -- slot n was unused
  outcome_blank : old (outcome_at p.slot) ≡ None
  outcome_blank = ⊎_elim (λ none. none)
      (λ h. let o : OutcomeRule g old p.slot = u.before.met Rules.OutcomeCells (outcome_at p.slot)
      (record { found = h.0; stands = h.1 }) p.slot free refl in
      absurd (none-some _ (sym (u.horizon.free free) ∙ o.reserve.stands)))
      (look old (outcome_at p.slot))

  -- the old image has no committed slot, so a blank done cell stays so
  done_blank : (m from reserved bytes journal : ℕ) → Commits g old m from reserved bytes journal
      → old (done_at m) ≡ None → ⊥
  done_blank m from reserved bytes journal c none = ⊎_elim
      (λ (a : IsAbandonedSlot g old old m). no_abandon bytes journal
      (one_record_holds old (outcome_at m) (Commit bytes journal) Abandon c.outcome a.abandoned.abandons.outcome))
      (λ (d : IsDoneSlot g old m). none-some _ (sym none ∙ d.done.done.stands))
      (u.before.ended p.slot m u.horizon (below_horizon g old u.before p.slot m free u.horizon c.reserves.slot
      (written c.reserves)))

  pub stores_on' : {m from reserved bytes journal : ℕ} → Stores g old m from reserved bytes journal
      → Stores g new m from reserved bytes journal
  stores_on' {m} {from} {reserved} {bytes} {journal} c = record {
    commits = commits_on keeps c.commits;
    done = ⊎_elim (λ none. absurd (done_blank m from reserved bytes journal c.commits none))
        (λ h. inr (holds_on keeps h)) c.done;
  }

  in_order_on' : {n from reserved bytes journal place : ℕ}
      → IsInOrder g old n from reserved bytes journal place → IsInOrder g new n from reserved bytes journal place
  in_order_on' = in_order_by (λ q target r. copies_on keeps) (λ m from size stored copies. stores_on')

  -- a slot that is done is the plan's, with its numbers, or another
  same_numbers : {m from reserved bytes journal : ℕ} → Commits g new m from reserved bytes journal → m ≡ p.slot
      → (from ≡ p.start) × (reserved ≡ p.reserved) × (bytes ≡ length (stored_of p)) × (journal ≡ length p.journal)
  same_numbers {m} {from} {reserved} {bytes} {journal} c same =
      let r = reserves from reserved p.start p.reserved (one_record_holds new (reserve_at p.slot)
      (Reserve from reserved) (Reserve p.start p.reserved)
      (subst (λ (k : ℕ). Holds new (reserve_at k) (Reserve from reserved)) same c.reserves.reserve)
      u.reserves.reserve) in
      let o = commits bytes journal (length (stored_of p)) (length p.journal)
      (one_record_holds new (outcome_at p.slot) (Commit bytes journal)
      (Commit (length (stored_of p)) (length p.journal))
      (subst (λ (k : ℕ). Holds new (outcome_at k) (Commit bytes journal)) same c.outcome) u.commit) in
      (r.0, r.1, o.0, o.1)

  -- what holds of the plan's numbers holds of these
  by_plan : (P : ℕ → ℕ → ℕ → ℕ → ℕ → Type 0) {m from reserved bytes journal : ℕ}
      → Commits g new m from reserved bytes journal → m ≡ p.slot
      → P p.slot p.start p.reserved (length (stored_of p)) (length p.journal) → P m from reserved bytes journal
  by_plan P {m} {from} {reserved} {bytes} {journal} c same h =
      let e = same_numbers c same in
      let h1 : P m p.start p.reserved (length (stored_of p)) (length p.journal) =
      subst (λ (k : ℕ). P k p.start p.reserved (length (stored_of p)) (length p.journal)) (sym same) h in
      let h2 : P m from p.reserved (length (stored_of p)) (length p.journal) =
      subst (λ (k : ℕ). P m k p.reserved (length (stored_of p)) (length p.journal)) (sym e.0) h1 in
      let h3 : P m from reserved (length (stored_of p)) (length p.journal) =
      subst (λ (k : ℕ). P m from k (length (stored_of p)) (length p.journal)) (sym e.1) h2 in
      let h4 : P m from reserved bytes (length p.journal) =
      subst (λ (k : ℕ). P m from reserved k (length p.journal)) (sym e.2) h3 in
      subst (λ (k : ℕ). P m from reserved bytes k) (sym e.3) h4

  ended_on : {m : ℕ} → HasEnded g old old m → HasEnded g new new m
  ended_on {m} h = ⊎_elim
      (λ (a : IsAbandonedSlot g old old m).
      let r = a.abandoned.abandons.reserves in
      let other : m ≡ p.slot → ⊥ = λ same. none-some _ (sym (u.horizon.free free)
      ∙ ap (λ (k : ℕ). old (reserve_at k)) (sym same) ∙ r.reserve.stands) in
      inl (record {
        start = a.start;
        length = a.length;
        abandoned = record {
          abandons = record { reserves = reserves_on keeps r; outcome = holds_on keeps a.abandoned.abandons.outcome };
          done = ⊎_elim (λ none. none)
              (λ x. absurd (none-some _ (sym a.abandoned.done ∙ log_was (done_at m) x.0 (omega (arith, r.slot))
              (no_done other) x.1)))
              (look new (done_at m));
        };
      }))
      (λ (d : IsDoneSlot g old m). inr (record {
        start = d.start;
        length = d.length;
        bytes = d.bytes;
        journal = d.journal;
        done = done_on keeps d.done;
      }))
      h

  pub rule_1 : (m : ℕ) → m < g.slots → IsWritten new (reserve_at m) → ReserveRule g new m
  rule_1 m inside w = ⊎_elim
      (λ same. subst (λ (k : ℕ). ReserveRule g new k) (sym same) here)
      (λ other. let r : ReserveRule g old m = u.before.met Rules.ReserveCells (reserve_at m)
      (log_stood (omega arith) (no_reserve other) w) m inside refl in
      record {
        start = r.start;
        length = r.length;
        reserves = reserves_on keeps r.reserves;
        begins = ends_on keeps keeps r.begins;
        before = λ k is. ended_on (r.before k is);
      })
      (same_or_not m p.slot)
    where
      here : ReserveRule g new p.slot
      here = record {
        start = p.start;
        length = p.reserved;
        reserves = u.reserves;
        begins = ends_on keeps keeps u.begins;
        before = λ k is. ended_on (u.before.ended p.slot k u.horizon (omega arith));
      }

  pub rule_2 : (m : ℕ) → m < g.slots → IsWritten new (outcome_at m) → OutcomeRule g new m
  rule_2 m inside w = ⊎_elim
      (λ same. subst (λ (k : ℕ). OutcomeRule g new k) (sym same) here)
      (λ other.
      let r : OutcomeRule g old m =
      u.before.met Rules.OutcomeCells (outcome_at m) (log_stood (omega arith) (no_outcome other) w) m inside refl in
      record {
        reserve = written_on keeps r.reserve;
        outcome = ⊎_elim (λ h. inl (holds_on keeps h))
            (λ h. inr (
              h.0,
              h.1,
              holds_on keeps h.2,
              λ from reserved r. h.3 from reserved
                  (log_held (omega arith) (no_reserve other) r),
              λ version. stamped_on keeps (h.4 version),
            ))
            r.outcome;
      })
      (same_or_not m p.slot)
    where
      here : OutcomeRule g new p.slot
      here = record {
        reserve = written u.reserves;
        outcome = inr (
          length (stored_of p),
          length p.journal,
          u.commit,
          λ from reserved h.
              let e = reserves from reserved p.start p.reserved
              (one_record_holds new (reserve_at p.slot) (Reserve from reserved)
              (Reserve p.start p.reserved) h u.reserves.reserve) in
              omega (arith, e.1, u.fits),
          has_stamp g new p.slot p.stamp u.stamp,
        );
      }

  pub rule_3 : (m : ℕ) → m < g.slots → IsWritten new (done_at m) → DoneRule new m
  rule_3 m inside w = ⊎_elim
      (λ same. subst (λ (k : ℕ). DoneRule new k) (sym same) (record {
        done = u.done;
        bytes = length (stored_of p);
        journal = length p.journal;
        commit = u.commit;
      }))
      (λ other.
      let r : DoneRule old m =
      u.before.met Rules.DoneCells (done_at m) (log_stood (omega arith) (no_done other) w) m inside refl in
      record { done = holds_on keeps r.done; bytes = r.bytes; journal = r.journal; commit = holds_on keeps r.commit })
      (same_or_not m p.slot)

  pub rule_4 : (m : ℕ) → DocumentRule g new m
  rule_4 m from reserved bytes journal c = ⊎_elim
      (λ same. by_plan (λ m from reserved bytes journal. HasDocument new
      (document_at from reserved bytes journal) bytes) c.commits same here)
      (λ other.
      let b = stores_back other c in
      let r : DocumentRule g old m = u.before.met Rules.Documents (outcome_at m)
      (record { found = b.commits.outcome.cell; stands = b.commits.outcome.stands }) m b.commits.reserves.slot refl in
      let d : HasDocument old (document_at from reserved bytes journal) bytes = r from reserved bytes journal b in
      record {
        id = d.id;
        body = d.body;
        count = d.count;
        spells = spells_on _ _ keeps d.spells;
        is_identifier = d.is_identifier;
        is_body = d.is_body;
      })
      (same_or_not m p.slot)
    where
      here : HasDocument new (document_at p.start p.reserved (length (stored_of p)) (length p.journal))
          (length (stored_of p))
      here = record {
        id = p.id;
        body = p.body;
        count = refl;
        spells = λ k below. u.rows.adds _ _ (
          Storing,
          inl (inl
              (record { place = k; below = below; at = refl; is = refl })),
        );
        is_identifier = u.is_identifier;
        is_body = u.is_body;
      }

  -- each journal cell of an old slot stood, and was in order
  old_entry : {m from reserved bytes journal : ℕ} → Stores g old m from reserved bytes journal → (place : ℕ)
      → place < journal → IsWritten old (journal_at from reserved journal + place)
  old_entry {m} {from} {reserved} {bytes} {journal} b place below =
      let r : JournalRule g old (outcome_at m) = u.before.met Rules.Journals (outcome_at m) (record {
        found = b.commits.outcome.cell;
        stands = b.commits.outcome.stands;
      }) in
      r.commit m from reserved bytes journal place b below refl

  copies_was : {m from reserved bytes journal place target : ℕ} {r : RecordCell}
      → Stores g old m from reserved bytes journal
      → CopiesIndexCell new from reserved journal place target r
      → CopiesIndexCell old from reserved journal place target r
  copies_was {m} {from} {reserved} {bytes} {journal} {place} b c = copies_back keeps (old_entry b place c.below) c

  planned_order : (place : ℕ) → place < length p.journal
      → IsInOrder g new p.slot p.start p.reserved (length (stored_of p)) (length p.journal) place
  planned_order place below =
      let q = u.in_order place below in
      record {
        target = q.target;
        copied = q.copied;
        copies = entry_copies q.entry;
        rises = rises_by (IsCopyInPlan p) (CopiesIndexCell new p.start p.reserved (length p.journal))
            (λ before lower other. entry_copies) q.rises;
        before_document = q.before_document;
        index = ⊎_elim (index_by (λ m from size stored copies. stores_on'))
            (λ from. of_slot p.slot (omega arith) (record {
              start = p.start;
              length = p.reserved;
              bytes = length (stored_of p);
              journal = length p.journal;
              stores = record { commits = mine.commits; done = inr u.done };
              from = from;
              below = q.before_document;
            }))
            q.index;
      }

  pub rule_5 : (cell : ℕ) → IsWritten new cell → JournalRule g new cell
  rule_5 cell w = record {
    copy = λ m from reserved bytes journal place c below at. ⊎_elim
        (λ same. in_order_at m from reserved bytes journal place c same below)
        (λ other.
        let b = stores_back other c in
        let before = old_entry b place below in
        let r : JournalRule g old (journal_at from reserved journal + place) =
        u.before.met Rules.Journals (journal_at from reserved journal + place) before in
        in_order_on' (r.copy m from reserved bytes journal place b below refl))
        (same_or_not m p.slot);
    commit = λ m from reserved bytes journal place c below at. ⊎_elim
        (λ same. let o = in_order_at m from reserved bytes journal place c same below in record {
          found = o.copies.entry;
          stands = o.copies.stands;
        })
        (λ other. written_on keeps (old_entry (stores_back other c) place below))
        (same_or_not m p.slot);
  }
    where
      in_order_at : (m from reserved bytes journal place : ℕ) → Stores g new m from reserved bytes journal
          → m ≡ p.slot → place < journal → IsInOrder g new m from reserved bytes journal place
      in_order_at m from reserved bytes journal place c same below =
          by_plan (λ m from reserved bytes journal. place < journal
          → IsInOrder g new m from reserved bytes journal place) c.commits same (planned_order place) below

  pub rule_6 : (cell : ℕ) → IsWritten new cell → RedoneRule g new cell
  rule_6 cell w = record {
    done = λ m from reserved bytes journal place target copied d k at. ⊎_elim
        (λ same. by_plan (λ m from reserved bytes journal. CopiesIndexCell new from reserved journal place target
        copied → new target ≡ new (journal_at from reserved journal + place))
        d.commits same (λ c. u.rows.adds target c.entry (Applying, copies_applied c) ∙ sym c.stands) k
        ∙ sym (ap new at))
        (λ other.
        let b = done_back other d in
        let c = copies_was (record { commits = b.commits; done = inr b.done }) k in
        let here : old cell ≡ Some c.entry = ap old at ∙ c.stands in
        let r : RedoneRule g old cell = u.before.met Rules.Targets cell (record { found = c.entry; stands = here }) in
        let same : old target ≡ old cell = r.done m from reserved bytes journal place target copied b c at in
        keeps.keeps _ _ (same ∙ here) ∙ sym (keeps.keeps _ _ here))
        (same_or_not m p.slot);
    committed = λ m from reserved bytes journal place target copied d k at. ⊎_elim
        (λ same. absurd (none-some _ (sym d.done ∙ ap (λ (k : ℕ). new (done_at k)) same ∙ u.done.stands)))
        (λ other. absurd (done_blank m from reserved bytes journal (commits_back other d.commits)
        (blank_before keeps d.done)))
        (same_or_not m p.slot);
  }

  -- where the new image's edge lies
  horizon_is : (k : ℕ) → IsHorizon g new new k → k ≡ p.slot + 1
  horizon_is k h = ⊎_elim (λ same. same) (λ differ. ⊎_elim (λ less. absurd (low less))
      (λ above. absurd (high k h above)) differ) (cases_order k (p.slot + 1))
    where
      low : k < p.slot + 1 → ⊥
      low less = ⊎_elim
          (λ same. none-some _ (sym (h.free (omega (arith, free))) ∙ ap (λ (i : ℕ). new (reserve_at i)) same
          ∙ u.reserves.reserve.stands))
          (λ differ. ⊎_elim
          (λ below. let w = taken_to g old u.before p.slot u.horizon k below in
          none-some _ (sym (h.free (omega (arith, free))) ∙ keeps.keeps (reserve_at k) w.found w.stands))
          (λ above. absurd (omega arith)) differ)
          (cases_order k p.slot)

      high : (k : ℕ) → IsHorizon g new new k → p.slot + 1 < k → ⊥
      high zero h above = omega arith
      high (suc m) h above =
          let w : IsWritten old (reserve_at m) =
          log_stood (omega (arith, h.most)) (no_reserve (λ same. omega arith)) (h.below m (omega arith)) in
          let x = taken_below g old u.before m (omega (arith, h.most)) w p.slot (omega arith) in
          none-some _ (sym (u.horizon.free free) ∙ x.stands)

  pub edge_is : (at : ℕ) → IsEdge g new new at → at ≡ p.start + p.reserved
  edge_is at e =
      let k = horizon_is e.u (edge_horizon g new at e) in
      let ends : EndsBelow g new (p.slot + 1) (p.start + p.reserved) =
      inr (p.slot, p.start, p.reserved, refl, u.reserves, refl) in
      one_end g new (p.slot + 1) at (p.start + p.reserved) (subst (λ (i : ℕ). EndsBelow g new i at) k e.ends) ends

  pub old_edge : IsEdge g old old p.start
  old_edge = record { u = p.slot; most = u.horizon.most; free = u.horizon.free; ends = u.begins }

  ends : {m from length : ℕ} → Reserves g old m from length → from + length ≤ p.start
  ends {m} r = ends_before g old u.before p.slot p.start u.begins m _ _
      (below_horizon g old u.before p.slot m free u.horizon r.slot (written r)) r

  pub all_ended : (k m : ℕ) → IsHorizon g new new k → m < k → HasEnded g new new m
  all_ended k m h less =
      let is : k ≡ p.slot + 1 = horizon_is k h in
      ⊎_elim
      (λ same. inr (subst (λ (i : ℕ). IsDoneSlot g new i) (sym same)
      (record {
        start = p.start;
        length = p.reserved;
        bytes = length
            (stored_of p);
        journal = length p.journal;
        done = mine;
      })))
      (λ other. ended_on (u.before.ended p.slot m u.horizon (below m less is other)))
      (same_or_not m p.slot)
    where
      below : (m : ℕ) → m < k → k ≡ p.slot + 1 → (m ≡ p.slot → ⊥) → m < p.slot
      below m less is other = ⊎_elim (λ same. absurd (other same))
          (λ differ. ⊎_elim (λ low. low) (λ high. absurd (omega arith)) differ) (cases_order m p.slot)

  -- an old cell of the pool lies before the old edge
  pub old_low : (cell : ℕ) (value : List ℕ) → old cell ≡ Some value → pool_at g ≤ cell → cell < p.start
  old_low cell value is pool =
      let r : BlankRule g old cell = u.before.met Rules.StrayCells cell (record { found = value; stands = is }) in
      r.edge p.start old_edge pool

  -- an index cell of the new image that is old was one of the old
  old_index : (cell : ℕ) (value : List ℕ) → old cell ≡ Some value → IsDoneIndexCell g new cell
      → IsDoneIndexCell g old cell
  old_index cell value is (Rules.IsDoneIndexCell.of_list l lies) = Rules.IsDoneIndexCell.of_list l lies
  old_index cell value is (Rules.IsDoneIndexCell.of_root lies) = Rules.IsDoneIndexCell.of_root lies
  old_index cell value is (Rules.IsDoneIndexCell.of_slot m from reserved bytes journal d low high) = ⊎_elim
      (λ same. absurd (
      let e = same_numbers d.commits same in
      let before = old_low cell value is (omega (arith, d.commits.reserves.from)) in
      omega (arith, e.0)))
      (λ other. Rules.IsDoneIndexCell.of_slot m from reserved bytes journal (done_back other d) low high)
      (same_or_not m p.slot)

  -- none of the log's three cells is an index cell, and none of the stored cells
  no_log_index : (cell : ℕ) → cell < lists_at g → IsDoneIndexCell g new cell → ⊥
  no_log_index cell low (Rules.IsDoneIndexCell.of_list l lies) = omega (arith, lies.from)
  no_log_index cell low (Rules.IsDoneIndexCell.of_root lies) = omega (arith, lies.from)
  no_log_index cell low (Rules.IsDoneIndexCell.of_slot m from reserved bytes journal d least high) =
      omega (arith, d.commits.reserves.from)

  no_stored_index : (cell : ℕ) → blocks_end p ≤ cell → IsDoneIndexCell g new cell → ⊥
  no_stored_index cell far (Rules.IsDoneIndexCell.of_list l lies) =
      let inside = lies.exists in let b = blocks_from in let f = u.reserves.from in omega (arith, lies.below)
  no_stored_index cell far (Rules.IsDoneIndexCell.of_root lies) =
      let b = blocks_from in let f = u.reserves.from in omega (arith, lies.below)
  no_stored_index cell far (Rules.IsDoneIndexCell.of_slot m from reserved bytes journal d least high) = ⊎_elim
      (λ same.
      let here : blocks_end p ≤ cell → cell < document_at from reserved bytes journal → ⊥ =
      by_plan (λ m from reserved bytes journal. blocks_end p ≤ cell → cell < document_at from reserved bytes journal
      → ⊥) d.commits same (λ far high. omega arith) in
      here far high)
      (λ other.
      let b = done_back other d in
      let e = ends b.commits.reserves in
      let f = blocks_from in omega (arith, b.commits.fits))
      (same_or_not m p.slot)

  -- the stamp of the plan is in order, and each that stood before is
  mine_true : (seconds : ℕ) → p.stamp ≡ Some seconds → IsTrueStamp g new p.slot
  mine_true seconds given =
      let s = stands_given g new p.slot p.stamp seconds u.stamp given in
      record {
        version = s.0;
        reserve = written u.reserves;
        seconds = seconds;
        stamp = s.1;
        rises = λ m lower less d h.
            let b = done_back (λ same. omega arith) d.done in
            u.rises m lower seconds given (record {
              start = d.start;
              length = d.length;
              bytes = d.bytes;
              journal = d.journal;
              done = b;
            })
            (log_held (omega (arith, b.commits.reserves.slot)) (no_spare (λ same. omega arith)) h);
      }

  old_true : (n : ℕ) → n < g.slots → IsTrueStamp g old n → IsTrueStamp g new n
  old_true n inside t =
      let low = below_horizon g old u.before p.slot n free u.horizon inside t.reserve in
      record {
        version = t.version;
        reserve = written_on keeps t.reserve;
        seconds = t.seconds;
        stamp = holds_on keeps t.stamp;
        rises = λ m lower less d h.
            let b = done_back (λ same. omega arith) d.done in
            t.rises m lower less (record {
              start = d.start;
              length = d.length;
              bytes = d.bytes;
              journal = d.journal;
              done = b;
            })
            (log_held (omega (arith, b.commits.reserves.slot)) (no_spare (λ same. omega arith)) h);
      }

  -- each cell of the plan lies where it may
  record LiesWell (cell : ℕ) : Type 0 where
    kept_blank : 4 ≤ cell
    spare : (n : ℕ) → n < g.slots → cell ≡ spare_at n → IsTrueStamp g new n
    named : IsDoneIndexCell g new cell → IsNamed g new cell
    edge : pool_at g ≤ cell → cell < p.start + p.reserved

  row_lies : (cell : ℕ) (value : List ℕ) → (phase : Phase) → Row p phase cell value → LiesWell cell
  row_lies cell value Reserving row = record {
    kept_blank = omega (arith, row.at);
    spare = λ n inside same. absurd (omega (arith, row.at));
    named = λ i. absurd (no_log_index cell (omega (arith, row.at, free)) i);
    edge = λ pool. absurd (omega (arith, row.at, free));
  }
  row_lies cell value Storing row = ⊎_elim
      (λ stored. let low = stored_from stored in let high = stored_to stored in let b = blocks_from in
      let f = u.reserves.from in record {
        kept_blank = omega arith;
        spare = λ n inside same. absurd (omega arith);
        named = λ i. absurd (no_stored_index cell low i);
        edge = λ pool. high;
      })
      (λ (s : StampRow p cell value). record {
        kept_blank = omega (arith, s.row.at);
        spare = λ n inside same. subst (λ (k : ℕ). IsTrueStamp g new k)
            (let e : p.slot ≡ n = omega (arith, s.row.at, same) in e) (mine_true s.seconds s.given);
        named = λ i. absurd (no_log_index cell (omega (arith, s.row.at, free)) i);
        edge = λ pool. absurd (omega (arith, s.row.at, free));
      })
      row
  row_lies cell value Committing row = record {
    kept_blank = omega (arith, row.at);
    spare = λ n inside same. absurd (omega (arith, row.at));
    named = λ i. absurd (no_log_index cell (omega (arith, row.at, free)) i);
    edge = λ pool. absurd (omega (arith, row.at, free));
  }
  row_lies cell value Applying row =
      let low = applied_far row in let high = applied_low row in let b = blocks_to in record {
        kept_blank = omega arith;
        spare = λ n inside same. absurd (omega arith);
        named = λ i. record {
          m = p.slot;
          start = p.start;
          length = p.reserved;
          bytes = length (stored_of p);
          journal = length p.journal;
          done = mine;
          place = row.place;
          copied = row.copied;
          copies = entry_copies (applied_entry row);
        };
        edge = λ pool. omega arith;
      }
  row_lies cell value Finishing row = record {
    kept_blank = omega (arith, row.at);
    spare = λ n inside same. absurd (omega (arith, row.at));
    named = λ i. absurd (no_log_index cell (omega (arith, row.at, free)) i);
    edge = λ pool. absurd (omega (arith, row.at, free));
  }

  pub rule_7 : (cell : ℕ) → IsWritten new cell → BlankRule g new cell
  rule_7 cell w = ⊎_elim
      (λ was.
      let r : BlankRule g old cell = u.before.met Rules.StrayCells cell (record { found = w.found; stands = was }) in
      record {
        kept_blank = r.kept_blank;
        spare = λ n inside same. old_true n inside (r.spare n inside same);
        named = λ i. named_on keeps (r.named (old_index cell w.found was i));
        edge = λ at e pool. let is = edge_is at e in let less = r.edge p.start old_edge pool in omega arith;
      })
      (λ (row : AnyRow p cell w.found).
      let r = row_lies cell w.found row.0 row.1 in
      record {
        kept_blank = λ one. r.kept_blank;
        spare = r.spare;
        named = r.named;
        edge = λ at e pool. let is = edge_is at e in let less = r.edge pool in omega arith;
      })
      (u.rows.only cell w.found w.stands)

  pub rule_15 : (m from reserved bytes journal : ℕ) → IsDone g new m from reserved bytes journal
      → TilingRule new from reserved bytes journal
  rule_15 m from reserved bytes journal d = ⊎_elim
      (λ same. by_plan (λ m from reserved bytes journal. TilingRule new from reserved bytes journal)
      d.commits same u.tiles)
      (λ other. old_tiles (done_back other d))
      (same_or_not m p.slot)
    where
      old_tiles : IsDone g old m from reserved bytes journal → TilingRule new from reserved bytes journal
      old_tiles b =
          let st : Stores g old m from reserved bytes journal = record { commits = b.commits; done = inr b.done } in
          let r : TilingRule old from reserved bytes journal = u.before.met Rules.Tilings (outcome_at m)
          (record { found = b.commits.outcome.cell; stands = b.commits.outcome.stands }) m from reserved bytes
          journal refl b in
          record {
            targets = r.targets;
            each = λ target. (
              λ h. (r.each target).0 (⊎_elim (λ j. inl (jump_back st j)) (λ c. inr (child_back st c)) h.0, h.1, h.2),
              λ among.
                  let h = (r.each target).1 among in
                  (⊎_elim (λ j. inl (jump_on j)) (λ c. inr (child_on c)) h.0, h.1, h.2),
            );
            tile = tile_on st r.targets from (document_at from reserved bytes journal) r.tile;
          }
        where
          jump_back : Stores g old m from reserved bytes journal → {target : ℕ}
              → HasJump new from reserved journal target → HasJump old from reserved journal target
          jump_back st h = (h.0, h.1, copies_was st h.2)

          jump_on : {target : ℕ} → HasJump old from reserved journal target → HasJump new from reserved journal target
          jump_on h = (h.0, h.1, copies_on keeps h.2)

          child_back : Stores g old m from reserved bytes journal → {target : ℕ}
              → HasChild new from reserved journal target → HasChild old from reserved journal target
          child_back st h = (h.0, h.1, copies_was st h.2)

          child_on : {target : ℕ} → HasChild old from reserved journal target
              → HasChild new from reserved journal target
          child_on h = (h.0, h.1, copies_on keeps h.2)

          size_on : Stores g old m from reserved bytes journal → {target count : ℕ}
              → IsSize old from reserved journal target count → IsSize new from reserved journal target count
          size_on st h = ⊎_elim (λ x. inl (x.0, jump_on x.1)) (λ x. inr (x.0, λ j. x.1 (jump_back st j))) h

          tile_on : Stores g old m from reserved bytes journal → (targets : List ℕ) (low high : ℕ)
              → Tile old from reserved journal low high targets → Tile new from reserved journal low high targets
          tile_on st [] low high t = t
          tile_on st (target ∷ targets) low high t = (t.0, t.1, size_on st t.2, tile_on st targets (low + t.1) high t.3)

  -- a document of another slot stood before
  pub stands_back : {m : ℕ} {id body : List ℕ} → (m ≡ p.slot → ⊥) → Stands g.cells new m id body
      → Stands g.cells old m id body
  stands_back {m} {id} {body} other t =
      let same : t.layout ≡ g = one_layout t.layout g t.volume (volume_on keeps u.volume) in
      let d : IsDone g new m t.start t.reserved (length (stored_bytes id body)) t.journal =
      subst (λ (h : Layout). IsDone h new m t.start t.reserved (length (stored_bytes id body)) t.journal) same t.done in
      let b = done_back other d in
      let r : DocumentRule g old m = u.before.met Rules.Documents (outcome_at m)
      (record { found = b.commits.outcome.cell; stands = b.commits.outcome.stands }) m b.commits.reserves.slot refl in
      let k : HasDocument old (document_at t.start t.reserved (length (stored_bytes id body)) t.journal)
      (length (stored_bytes id body)) =
      r t.start t.reserved (length (stored_bytes id body)) t.journal (record {
        commits = b.commits;
        done = inr b.done;
      }) in
      record {
        layout = g;
        start = t.start;
        reserved = t.reserved;
        journal = t.journal;
        volume = u.volume;
        slot = b.commits.reserves.slot;
        done = b;
        spells = λ j below.
            let there = k.spells j (subst (λ (n : ℕ). j < cells_for n) k.count below) in
            there ∙ sym (keeps.keeps _ _ there) ∙ t.spells j below;
        is_identifier = t.is_identifier;
        is_body = t.is_body;
      }
