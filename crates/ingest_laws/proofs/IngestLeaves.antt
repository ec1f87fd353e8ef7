-- What an ingest that is cut short leaves.
use Rattle.std.proofs.Common.{◌≡◌, ◌<◌, ◌+◌, ◌⊎◌, ⊎_elim, inl, inr, ℕ, List, [], Some, None, refl, sym, ◌∙◌, subst, ap, arith, length}
use Rattle.std.proofs.lemmas.Option.{none-some, slice_get-get_or}
use Rattle.cell_types.specs.Image.{Image, Extends}
use Rattle.cell_types.specs.Layout.{Layout, reserve_at, outcome_at, done_at, spare_at, lists_at}
use Rattle.cell_types.specs.Records.{IsRecordCell, record_bytes}
use Rattle.cell_types.specs.declared.record_cell.RecordCell.{RecordCell}
use Rattle.cell_types.specs.declared.record_cell.RecordCell.TheVariants.{Abandon}
use Rattle.volume_meaning.specs.Documents.{Document, AreDocuments}
use Rattle.ingest_laws.specs.Ingesting.{Plan, Phase, Reserving, Storing, Committing, Applying, Finishing, order_of, stored_of, StampRow, Row, AnyRow, IsInPhases, IsIngest, LeavesSound}
use Rattle.tamper_rules.specs.Journals.{journal_at, CopiesIndexCell, IsInOrder}
use Rattle.tamper_rules.specs.Rules
use Rattle.tamper_rules.specs.Rules.{BlankRule, IsTrueStamp}
use Rattle.tamper_rules.specs.Settling.{Settled, IsOneHorizon, JournalRow, DoneRow, After, nothing, abandoned, completed, of_after}
use Rattle.volume_meaning.specs.Slots.{Reserves, Commits, Stores, IsDone, IsHorizon}
use Rattle.volume_meaning.specs.Volumes.{Holds, IsWritten}
use Rattle.volume_meaning.proofs.Extending.{volume_on, written_on, blank_before, reserves_on, document_on}
use Rattle.volume_meaning.proofs.Holding.{some_is}
use Rattle.tamper_rules.proofs.GivenUp.{stands_inside, IsGivenUp, IsOf, of_reserve, of_outcome, of_spare, of_range}
use Rattle.tamper_rules.proofs.GivenUpRules.{given_up_is_settled, given_up_stands}
use Rattle.tamper_rules.proofs.GoingOn.{copies_on, copies_back, in_order_by}
use Rattle.tamper_rules.proofs.Images.{same_both, look, all_of_it}
use Rattle.ingest_laws.proofs.Ingests.{IsLogCell, is_reserve, is_outcome, is_done, is_spare, applied_far, slot_reserves, slot_commits, in_order, redone, applied_copies, stored_from, stored_to, log_of, outcome_blank, done_blank, next_horizon, begins_there}
use Rattle.tamper_rules.proofs.Settled.{written, taken_below, one_horizon}
use Rattle.tamper_rules.proofs.Writing.{put_cell, put_there, put_other, same_or_not}

-- a record has one cell
pub one_cell : {r : RecordCell} {at : ℕ} {v w : List ℕ} → IsRecordCell r at v → IsRecordCell r at w → v ≡ w
one_cell a b = a.same ∙ sym b.same

module _ {g : Layout} {old new image : Image} {p : Plan} (i : IsIngest g old new p) (e : Extends old image)
    (f : Extends image new) (phases : IsInPhases p old image) where
  -- what stands in the image stood before, or is of the plan
  row_of : (cell : ℕ) (value : List ℕ) → image cell ≡ Some value
      → (old cell ≡ Some value) ⊎ ((old cell ≡ None) × AnyRow p cell value)
  row_of cell value is = ⊎_elim
      (λ none. ⊎_elim (λ was. inl was) (λ row. inr (none, row)) (i.rows.only cell value (f.keeps cell value is)))
      (λ h. inl (h.1 ∙ ap (λ (v : List ℕ). Some v) (some_is h.0 value (sym (e.keeps cell h.0 h.1) ∙ is))))
      (look old cell)

  reserve_row : Row p Reserving (reserve_at p.slot) (i.reserve.cell)
  reserve_row = record { at = refl; is = i.reserve.is }

  commit_row : Row p Committing (outcome_at p.slot) (i.commit.cell)
  commit_row = record { at = refl; is = i.commit.is }

  done_row : Row p Finishing (done_at p.slot) (i.done.cell)
  done_row = record { at = refl; is = i.done.is }

  -- with a commit cell all stands that comes before it, and so on
  has_reserve : (phase : Phase) → order_of Reserving < order_of phase → (cell : ℕ) (value : List ℕ)
      → Row p phase cell value → old cell ≡ None → image cell ≡ Some value
      → image (reserve_at p.slot) ≡ Some i.reserve.cell
  has_reserve phase later cell value row none is =
      phases Reserving phase later cell value row none is (reserve_at p.slot) i.reserve.cell reserve_row

  has_commit : (phase : Phase) → order_of Committing < order_of phase → (cell : ℕ) (value : List ℕ)
      → Row p phase cell value → old cell ≡ None → image cell ≡ Some value
      → image (outcome_at p.slot) ≡ Some i.commit.cell
  has_commit phase later cell value row none is =
      phases Committing phase later cell value row none is (outcome_at p.slot) i.commit.cell commit_row

  same_found : (cell : ℕ) (value found : List ℕ) → new cell ≡ Some value → image cell ≡ Some found
      → image cell ≡ Some value
  same_found cell value found there is = is ∙ sym (f.keeps cell found is) ∙ there

  -- 1. no reserve cell: nothing is written
  untouched : image (reserve_at p.slot) ≡ None → image ≡ old
  untouched blank = same_both e (record {
    keeps = λ cell value is. ⊎_elim (λ was. was)
        (λ (h : (old cell ≡ None) × AnyRow p cell value). absurd (no_row cell value h.0 is (h.1).0 (h.1).1))
        (row_of cell value is);
  })
    where
      no_row : (cell : ℕ) (value : List ℕ) → old cell ≡ None → image cell ≡ Some value → (phase : Phase)
          → Row p phase cell value → ⊥
      no_row cell value none is Reserving row = none-some _ (sym blank ∙ ap image (sym row.at) ∙ is)
      no_row cell value none is Storing row =
          none-some _ (sym blank ∙ has_reserve Storing (omega arith) cell value row none is)
      no_row cell value none is Committing row =
          none-some _ (sym blank ∙ has_reserve Committing (omega arith) cell value row none is)
      no_row cell value none is Applying row =
          none-some _ (sym blank ∙ has_reserve Applying (omega arith) cell value row none is)
      no_row cell value none is Finishing row =
          none-some _ (sym blank ∙ has_reserve Finishing (omega arith) cell value row none is)

  -- with the reserve cell the image has the new image's horizon
  module _ (reserved : image (reserve_at p.slot) ≡ Some i.reserve.cell) where
    reserve_stands : (m : ℕ) (value : List ℕ) → m < g.slots → new (reserve_at m) ≡ Some value
        → image (reserve_at m) ≡ Some value
    reserve_stands m value inside is = ⊎_elim (λ was. e.keeps (reserve_at m) value was)
        (λ of. here of)
        (log_of i (reserve_at m) value (omega arith) is)
      where
        here : IsLogCell p.slot (reserve_at m) → image (reserve_at m) ≡ Some value
        here (is_reserve at) = same_found (reserve_at m) value i.reserve.cell is (ap image at ∙ reserved)
        here (is_outcome at) = absurd (omega arith)
        here (is_done at) = absurd (omega arith)
        here (is_spare at) = absurd (omega arith)

    to_new : (u : ℕ) → IsHorizon g image image u → IsHorizon g new new u
    to_new u h = record {
      most = h.most;
      below = λ m is. written_on f (h.below m is);
      free = λ less. ⊎_elim (λ none. none)
          (λ x. absurd (none-some _ (sym (h.free less) ∙ reserve_stands u x.0 less x.1)))
          (look new (reserve_at u));
    }

    here_horizon : IsOneHorizon g image (p.slot + 1)
    here_horizon = record {
      is = record {
        most = (next_horizon i).most;
        below = λ m is.
            let same : p.slot ≡ m = omega arith in
            subst (λ (k : ℕ). IsWritten image (reserve_at k)) same (record {
              found = i.reserve.cell;
              stands = reserved;
            });
        free = λ less. blank_before f ((next_horizon i).free less);
      };
      one = λ u h. one_horizon g new i.after u (p.slot + 1) (to_new u h) (next_horizon i);
    }

    here_reserves : Reserves g image p.slot p.start p.reserved
    here_reserves = let r = slot_reserves i in record {
      slot = r.slot;
      reserve = record { cell = i.reserve.cell; stands = reserved; is = i.reserve.is };
      from = r.from;
      to = r.to;
    }

    -- 2. a reserve cell and no commit cell: settling gives the slot up
    module _ (blank : image (outcome_at p.slot) ≡ None) where
      is_abandon : IsRecordCell Abandon (outcome_at p.slot) (record_bytes Abandon (outcome_at p.slot))
      is_abandon = record { fits = tt; well_formed = tt; same = refl }

      -- the image with the abandon cell
      abbrev given : Image
      given = put_cell image (outcome_at p.slot) (record_bytes Abandon (outcome_at p.slot))

      there : (cell : ℕ) → cell ≡ outcome_at p.slot → given cell ≡ Some (record_bytes Abandon (outcome_at p.slot))
      there cell is = put_there image (outcome_at p.slot) (record_bytes Abandon (outcome_at p.slot)) cell is

      elsewhere : (cell : ℕ) → (cell ≡ outcome_at p.slot → ⊥) → given cell ≡ image cell
      elsewhere cell other = put_other image (outcome_at p.slot) (record_bytes Abandon (outcome_at p.slot)) cell other

      to_given : Extends image given
      to_given = record {
        keeps = λ cell value is. ⊎_elim
            (λ same. absurd (none-some _ (sym blank ∙ ap image (sym same) ∙ is)))
            (λ other. elsewhere cell other ∙ is)
            (same_or_not cell (outcome_at p.slot));
      }

      from_old : Extends old given
      from_old = record { keeps = λ cell value is. to_given.keeps cell value (e.keeps cell value is) }

      of_row : (cell : ℕ) (value : List ℕ) → old cell ≡ None → image cell ≡ Some value → (phase : Phase)
          → Row p phase cell value → IsOf p.slot p.start p.reserved cell
      of_row cell value none is Reserving row = of_reserve row.at
      of_row cell value none is Storing row = ⊎_elim
          (λ stored. of_range (stored_from i stored) (stored_to i stored))
          (λ (s : StampRow p cell value). of_spare s.row.at)
          row
      of_row cell value none is Committing row = of_outcome row.at
      of_row cell value none is Applying row =
          absurd (none-some _ (sym blank ∙ has_commit Applying (omega arith) cell value row none is))
      of_row cell value none is Finishing row =
          absurd (none-some _ (sym blank ∙ has_commit Finishing (omega arith) cell value row none is))

      -- but for the abandon cell, what it holds the new image holds
      in_new : {cell : ℕ} {r : RecordCell} → (cell ≡ outcome_at p.slot → ⊥) → Holds given cell r → Holds new cell r
      in_new {cell} other h = record {
        cell = h.cell;
        stands = f.keeps cell h.cell (sym (elsewhere cell other) ∙ h.stands);
        is = h.is;
      }

      new_done : {m from reserved bytes journal : ℕ} → m < p.slot → IsDone g given m from reserved bytes journal
          → IsDone g new m from reserved bytes journal
      new_done less d =
          let c = d.commits in
          let r = c.reserves in
          record {
            commits = record {
              reserves = record {
                slot = r.slot;
                reserve = in_new (λ same. omega arith) r.reserve;
                from = r.from;
                to = r.to;
              };
              outcome = in_new (λ same. omega arith) c.outcome;
              fits = c.fits;
              stamped = λ version. let t = c.stamped version in record {
                seconds = t.seconds;
                stamp = in_new (λ same. omega arith) t.stamp;
              };
            };
            done = in_new (λ same. omega arith) d.done;
          }

      -- its stamp is the new image's
      given_stamp : IsWritten given (spare_at p.slot) → IsTrueStamp g given p.slot
      given_stamp w =
          let there' : new (spare_at p.slot) ≡ Some w.found =
          f.keeps (spare_at p.slot) w.found (sym (elsewhere (spare_at p.slot) (λ same. omega arith)) ∙ w.stands) in
          let r : BlankRule g new (spare_at p.slot) = i.after.met Rules.StrayCells (spare_at p.slot) (record {
            found = w.found;
            stands = there';
          }) in
          let t : IsTrueStamp g new p.slot = r.spare p.slot i.free refl in
          record {
            version = t.version;
            reserve = written (reserves_on to_given here_reserves);
            seconds = t.seconds;
            stamp = record {
              cell = t.stamp.cell;
              stands =
                  w.stands ∙ ap (λ (v : List ℕ). Some v) (some_is w.found t.stamp.cell (sym there' ∙ t.stamp.stands));
              is = t.stamp.is;
            };
            rises = λ m lower less d h. t.rises m lower less
                (record {
                  start = d.start;
                  length = d.length;
                  bytes = d.bytes;
                  journal = d.journal;
                  done = new_done less d.done;
                })
                (in_new (λ same. omega arith) h);
          }

      given_up : IsGivenUp g old given p.slot p.start p.reserved
      given_up = record {
        horizon = i.horizon;
        keeps = from_old;
        reserves = reserves_on to_given here_reserves;
        begins = begins_there i;
        outcome = record {
          cell = record_bytes Abandon (outcome_at p.slot);
          stands = there (outcome_at p.slot) refl;
          is = is_abandon;
        };
        stamp = given_stamp;
        only = λ cell value is. ⊎_elim
            (λ same. inr (of_outcome same))
            (λ other. let here : image cell ≡ Some value = sym (elsewhere cell other) ∙ is in
            ⊎_elim inl (λ (h : (old cell ≡ None) × AnyRow p cell value). inr
            (of_row cell value h.0 here (h.1).0 (h.1).1)) (row_of cell value here))
            (same_or_not cell (outcome_at p.slot));
      }

      pub given_settled : Settled g.cells given
      given_settled = record {
        layout = g;
        volume = volume_on from_old i.volume;
        settled = given_up_is_settled i.volume i.before given_up;
      }

      undone : image (done_at p.slot) ≡ None
      undone = ⊎_elim (λ none. none)
          (λ h. absurd (none-some _ (sym blank ∙ has_commit Finishing (omega arith)
          (done_at p.slot) i.done.cell done_row (done_blank i)
          (same_found (done_at p.slot) i.done.cell h.0 i.done.stands h.1))))
          (look image (done_at p.slot))

      pub given_after : After g.cells image given
      given_after = abandoned g p.slot p.start p.reserved (volume_on e i.volume) here_horizon
          (record { reserves = here_reserves; outcome = blank; done = undone })
          (record {
            keeps = to_given;
            adds = λ cell value row. there cell row.at ∙ ap (λ (v : List ℕ). Some v) (one_cell is_abandon row.is);
            only = λ cell value is. ⊎_elim
                (λ same. inr (record {
                  at = same;
                  is = subst (λ (v : List ℕ). IsRecordCell Abandon (outcome_at p.slot) v)
                      (some_is _ value (sym (there cell same) ∙ is)) is_abandon;
                }))
                (λ other. inl (sym (elsewhere cell other) ∙ is))
                (same_or_not cell (outcome_at p.slot));
          })

      pub given_documents : (documents : List Document) → AreDocuments g.cells old documents
          → AreDocuments g.cells given documents
      given_documents documents are = record {
        rise = are.rise;
        each = λ d. (
          λ t.
              let stands = given_up_stands i.volume i.before given_up t.stands in
              (are.each d).0 (record {
                stands = stands;
                taken = taken_below g old i.before d.slot (stands_inside i.volume stands)
                    (written stands.done.commits.reserves);
              }),
          λ among. document_on from_old ((are.each d).1 among),
        );
      }

  -- 3. a commit cell
  module _ (committed : image (outcome_at p.slot) ≡ Some i.commit.cell) where
    stored : (cell : ℕ) (value : List ℕ) → Row p Storing cell value → image cell ≡ Some value
    stored cell value row = phases Storing Committing (omega arith) (outcome_at p.slot) i.commit.cell commit_row
        (outcome_blank i) committed cell value row

    reserved : image (reserve_at p.slot) ≡ Some i.reserve.cell
    reserved = has_reserve Committing (omega arith) (outcome_at p.slot) i.commit.cell commit_row
        (outcome_blank i) committed

    log_here : (cell : ℕ) (value : List ℕ) → cell < lists_at g → (cell ≡ done_at p.slot → ⊥)
        → new cell ≡ Some value → image cell ≡ Some value
    log_here cell value low other is = ⊎_elim (λ was. e.keeps cell value was) here (log_of i cell value low is)
      where
        here : IsLogCell p.slot cell → image cell ≡ Some value
        here (is_reserve at) = same_found cell value i.reserve.cell is (ap image at ∙ reserved)
        here (is_outcome at) = same_found cell value i.commit.cell is (ap image at ∙ committed)
        here (is_done at) = absurd (other at)
        here (is_spare at) = ⊎_elim (λ was. e.keeps cell value was)
            (λ (row : AnyRow p cell value). spared at row.0 row.1) (i.rows.only cell value is)
          where
            spared : cell ≡ spare_at p.slot → (phase : Phase) → Row p phase cell value → image cell ≡ Some value
            spared at Reserving row = absurd (omega (arith, row.at))
            spared at Storing row = stored cell value row
            spared at Committing row = absurd (omega (arith, row.at))
            spared at Applying row = absurd (let far = applied_far i row in omega (arith, far, i.free))
            spared at Finishing row = absurd (omega (arith, row.at))

    holds_here : {cell : ℕ} {r : RecordCell} → cell < lists_at g → (cell ≡ done_at p.slot → ⊥)
        → Holds new cell r → Holds image cell r
    holds_here {cell} low other h = record {
      cell = h.cell;
      stands = log_here cell h.cell low other h.stands;
      is = h.is;
    }

    commits_here : {m from reserved bytes journal : ℕ} → Commits g new m from reserved bytes journal
        → Commits g image m from reserved bytes journal
    commits_here c = record {
      reserves = record {
        slot = c.reserves.slot;
        reserve = holds_here (omega (arith, c.reserves.slot)) (λ same. omega arith) c.reserves.reserve;
        from = c.reserves.from;
        to = c.reserves.to;
      };
      outcome = holds_here (omega (arith, c.reserves.slot)) (λ same. omega arith) c.outcome;
      fits = c.fits;
      stamped = λ version. let t = c.stamped version in
          record {
            seconds = t.seconds;
            stamp = holds_here (omega (arith, c.reserves.slot)) (λ same. omega arith) t.stamp;
          };
    }

    copies_here : {place target : ℕ} {r : RecordCell}
        → CopiesIndexCell new p.start p.reserved (length p.journal) place target r
        → CopiesIndexCell image p.start p.reserved (length p.journal) place target r
    copies_here {place} c =
        let entry = slice_get-get_or p.journal place [] c.below in
        copies_back f (record {
          found = _;
          stands = stored (journal_at p.start p.reserved (length p.journal) + place) _
              (inl (inr (record { place = place; entry = entry; at = refl })));
        }) c

    -- 3. no done cell: settling completes the slot
    module _ (undone : image (done_at p.slot) ≡ None) where
      stores_here : {m from reserved bytes journal : ℕ} → Stores g new m from reserved bytes journal
          → Stores g image m from reserved bytes journal
      stores_here {m} c = record {
        commits = commits_here c.commits;
        done = ⊎_elim (λ none. inl (blank_before f none))
            (λ h. ⊎_elim
            (λ same. inl (ap (λ (k : ℕ). image (done_at k)) same ∙ undone))
            (λ other. inr (holds_here (omega (arith, c.commits.reserves.slot)) (λ same. other (omega arith)) h))
            (same_or_not m p.slot))
            c.done;
      }

      order_here : (place : ℕ) → place < length p.journal
          → IsInOrder g image p.slot p.start p.reserved (length (stored_of p)) (length p.journal) place
      order_here place below =
          in_order_by (λ q target r. copies_here) (λ m from size stored copies. stores_here) (in_order i place below)

      applied : {cell : ℕ} {value : List ℕ}
          → JournalRow image p.start p.reserved (length p.journal) cell value → new cell ≡ Some value
      applied {cell} {value} row =
          redone i row.place cell row.copied value (copies_on f row.copies) (f.keeps _ _ row.stands)

      rest_row : (cell : ℕ) (value : List ℕ) → new cell ≡ Some value → (phase : Phase) → Row p phase cell value
          → (image cell ≡ Some value) ⊎ (JournalRow image p.start p.reserved (length p.journal) cell value
          ⊎ DoneRow p.slot cell value)
      rest_row cell value is Reserving row = inl (same_found cell value i.reserve.cell is (ap image row.at ∙ reserved))
      rest_row cell value is Storing row = inl (stored cell value row)
      rest_row cell value is Committing row = inl (same_found cell value i.commit.cell is (ap image row.at ∙ committed))
      rest_row cell value is Applying row = inr (inl (record {
        place = row.place;
        copied = row.copied;
        copies = copies_here (applied_copies i row);
        stands = stored (journal_at p.start p.reserved (length p.journal) + row.place) value
            (inl (inr (record { place = row.place; entry = row.entry; at = refl })));
      }))
      rest_row cell value is Finishing row = inr (inr row)

      pub completed_after : After g.cells image new
      completed_after = completed g p.slot p.start p.reserved (length (stored_of p)) (length p.journal)
          (volume_on e i.volume) (here_horizon reserved)
          (record { commits = commits_here (slot_commits i); done = undone })
          (record {
            in_order = order_here;
            free = λ cell value row. ⊎_elim inl
                (λ x. inr (same_found cell value x.0 (applied row) x.1))
                (look image cell);
          })
          (record {
            keeps = f;
            adds = λ cell value rows. ⊎_elim (λ row. applied row)
                (λ (row : DoneRow p.slot cell value). ap new row.at ∙ i.done.stands
                ∙ ap (λ (v : List ℕ). Some v) (one_cell i.done.is row.is))
                rows;
            only = λ cell value is. ⊎_elim (λ was. inl (e.keeps cell value was))
                (λ (row : AnyRow p cell value). rest_row cell value is row.0 row.1) (i.rows.only cell value is);
          })

  -- 4. a done cell: all is written
  finished : image (done_at p.slot) ≡ Some i.done.cell → image ≡ new
  finished done = all_of_it i.rows e f (λ cell value row. has_all cell value row.0 row.1)
    where
      has_all : (cell : ℕ) (value : List ℕ) → (phase : Phase) → Row p phase cell value → image cell ≡ Some value
      has_all cell value Reserving row = phases Reserving Finishing (omega arith) (done_at p.slot) i.done.cell done_row
          (done_blank i) done cell value row
      has_all cell value Storing row = phases Storing Finishing (omega arith) (done_at p.slot) i.done.cell done_row
          (done_blank i) done cell value row
      has_all cell value Committing row = phases Committing Finishing (omega arith)
          (done_at p.slot) i.done.cell done_row (done_blank i) done cell value row
      has_all cell value Applying row = phases Applying Finishing (omega arith) (done_at p.slot) i.done.cell done_row
          (done_blank i) done cell value row
      has_all cell value Finishing row =
          ap image row.at ∙ done ∙ ap (λ (v : List ℕ). Some v) (one_cell i.done.is row.is)

-- the law
module _ {g : Layout} {old new image : Image} {p : Plan} (i : IsIngest g old new p) (e : Extends old image)
    (f : Extends image new) (phases : IsInPhases p old image) where
  new_settled : Settled g.cells new
  new_settled = record { layout = g; volume = volume_on f (volume_on e i.volume); settled = i.after }

  old_settled : Settled g.cells old
  old_settled = record { layout = g; volume = i.volume; settled = i.before }

  nothing_yet : image ≡ old → LeavesSound g.cells old new p.slot image
  nothing_yet same =
      let after : After g.cells image old =
      subst (λ (x : Image). After g.cells x old) (sym same) (nothing old_settled (λ cell. refl)) in
      record {
        sound = record { after = old; is = after; settled = old_settled };
        blank = λ none documents are. of_after old after are;
        written = λ w documents are. absurd (none-some _ (sym (outcome_blank i)
            ∙ ap (λ (x : Image). x (outcome_at p.slot)) (sym same) ∙ w.stands));
      }

  is_new : After g.cells image new → ((image (outcome_at p.slot) ≡ None) → ⊥)
      → LeavesSound g.cells old new p.slot image
  is_new after some = record {
    sound = record { after = new; is = after; settled = new_settled };
    blank = λ none documents are. absurd (some none);
    written = λ w documents are. of_after new after are;
  }

  with_commit : image (outcome_at p.slot) ≡ Some i.commit.cell → LeavesSound g.cells old new p.slot image
  with_commit committed = ⊎_elim
      (λ undone. is_new (completed_after i e f phases committed undone) (λ none. none-some _ (sym none ∙ committed)))
      (λ x.
      let same : image ≡ new =
      finished i e f phases (same_found i e f phases (done_at p.slot) i.done.cell x.0 i.done.stands x.1) in
      is_new (subst (λ (y : Image). After g.cells y new) (sym same) (nothing new_settled (λ cell. refl)))
      (λ none. none-some _ (sym none ∙ committed)))
      (look image (done_at p.slot))

  with_reserve : image (reserve_at p.slot) ≡ Some i.reserve.cell → LeavesSound g.cells old new p.slot image
  with_reserve reserved = ⊎_elim
      (λ blank. record {
        sound = record {
          after = given i e f phases reserved blank;
          is = given_after i e f phases reserved blank;
          settled = given_settled i e f phases reserved blank;
        };
        blank = λ none documents are. of_after (given i e f phases reserved blank)
            (given_after i e f phases reserved blank) (given_documents i e f phases reserved blank documents are);
        written = λ w documents are. absurd (none-some _ (sym blank ∙ w.stands));
      })
      (λ x. with_commit (same_found i e f phases (outcome_at p.slot) i.commit.cell x.0 i.commit.stands x.1))
      (look image (outcome_at p.slot))

  pub leaves_sound : LeavesSound g.cells old new p.slot image
  leaves_sound = ⊎_elim
      (λ blank. nothing_yet (untouched i e f phases blank))
      (λ x. with_reserve (same_found i e f phases (reserve_at p.slot) i.reserve.cell x.0 i.reserve.stands x.1))
      (look image (reserve_at p.slot))
