-- The plan's cells fill its slot.
use Rattle.std.proofs.Common.{◌≡◌, ◌<◌, ◌≤◌, ◌+◌, ◌⊎◌, ⊎_elim, inl, inr, ℕ, List, length, refl, arith, Option, Some, None, sym, ◌∙◌, subst}
use Rattle.cell_types.specs.Image.{Image}
use Rattle.cell_types.specs.Layout.{Layout, list_at, reserve_at, outcome_at, done_at, spare_at}
use Rattle.cell_types.specs.Records.{IsRecordCell, record_bytes}
use Rattle.cell_types.specs.declared.record_cell.RecordCell.TheVariants.{Reserve, Commit, Done, Stamp}
use Rattle.volume_meaning.specs.Slots.{Reserves, IsDoneSlot, IsStampFor, IsStampOf}
use Rattle.volume_meaning.specs.Nodes.{IsBlockOf}
use Rattle.volume_meaning.specs.Postings.{ListedPosting}
use Rattle.tamper_rules.specs.Journals.{LiesInBlocks}
use Rattle.tamper_rules.proofs.Settled.{below_horizon, written}
use Rattle.ingest_laws.specs.Filling.{IsFilled}
use Rattle.ingest_laws.specs.Ingesting.{Plan, Reserving, Storing, Committing, Finishing, stored_of}
use Rattle.ingest_laws.proofs.Filled.{mine, stores_on'}
use Rattle.hash_tree.specs.declared.level.Level.{Level}
use Rattle.hash_tree.specs.declared.path.Open.{Open}
use Rattle.ingest_plan.specs.Planning.{IsLater}
use Rattle.plan_laws.specs.Laws.{IsPlannedIndex}
use Rattle.plan_laws.proofs.Behind.{more, pool_before}
use Rattle.plan_laws.proofs.JournalOrder.{in_order}
use Rattle.plan_laws.proofs.NewImage.{ends_there, new_image}
use Rattle.plan_laws.proofs.OldPlaces.{block_owned}
use Rattle.plan_laws.proofs.Rows.{all_rows, commit_cell, done_cell, reserve_cell, stamp_well}
use Rattle.plan_laws.proofs.Standing.{block_back, block_lies, blocks}
use Rattle.plan_laws.proofs.Tiles.{tiles}

module _ {g : Layout} {old laid : Image} {p : Plan} {rows : List ListedPosting} {level : Level} {place : Open} {to : ℕ}
    {planned : Image} (h : IsPlannedIndex g old laid p rows level place to planned) where
  reserves : Reserves g (new_image h) p.slot p.start p.reserved
  reserves = record {
    slot = h.takes.slot;
    reserve = record {
      cell = record_bytes (Reserve p.start p.reserved) (reserve_at p.slot);
      stands = (all_rows h).adds (reserve_at p.slot) (record_bytes (Reserve p.start p.reserved) (reserve_at p.slot))
          (Reserving, record { at = refl; is = reserve_cell h });
      is = reserve_cell h;
    };
    from = pool_before h;
    to = h.takes.inside;
  }

  -- the stamp stands, if there is one
  stamp_of : (stamp : Option ℕ) → p.stamp ≡ stamp → IsStampFor g stamp → IsStampOf g (new_image h) p.slot stamp
  stamp_of None is given = given
  stamp_of (Some seconds) is given = (
    given,
    record {
      cell = record_bytes (Stamp seconds) (spare_at p.slot);
      stands = (all_rows h).adds (spare_at p.slot) (record_bytes (Stamp seconds) (spare_at p.slot))
          (Storing, inr (record { seconds = seconds; given = is; row = record { at = refl; is = well seconds is } }));
      is = well seconds is;
    },
  )
    where
      well : (s : ℕ) → p.stamp ≡ Some s
          → IsRecordCell (Stamp s) (spare_at p.slot) (record_bytes (Stamp s) (spare_at p.slot))
      well s given = stamp_well h p.stamp s given h.takes.seconds

  -- a done slot of the settled image lies below the horizon
  below : (m : ℕ) → IsDoneSlot g old m → m < p.slot
  below m done =
      let reserves = done.done.commits.reserves in
      below_horizon g old h.takes.settled p.slot m h.takes.slot h.takes.horizon reserves.slot (written reserves)

  pub filled : IsFilled g old (new_image h) p
  filled = record {
    volume = h.takes.volume;
    before = h.takes.settled;
    horizon = h.takes.horizon;
    begins = h.takes.begins;
    reserves = reserves;
    commit = record {
      cell = record_bytes (Commit (length (stored_of p)) (length p.journal)) (outcome_at p.slot);
      stands = (all_rows h).adds (outcome_at p.slot)
          (record_bytes (Commit (length (stored_of p)) (length p.journal)) (outcome_at p.slot))
          (Committing, record { at = refl; is = commit_cell h });
      is = commit_cell h;
    };
    done = record {
      cell = record_bytes (Done p.slot) (done_at p.slot);
      stands = (all_rows h).adds (done_at p.slot) (record_bytes (Done p.slot) (done_at p.slot))
          (Finishing, record { at = refl; is = done_cell h });
      is = done_cell h;
    };
    fits = omega (arith, h.takes.room, more h);
    stamp = stamp_of p.stamp refl h.takes.stamp;
    rises = λ m lower seconds given d s.
        subst (λ (t : Option ℕ). IsLater g old p.slot t) given h.takes.later m lower (below m d) d s;
    rows = all_rows h;
    is_identifier = h.takes.identifier;
    is_body = h.takes.body;
    in_order = in_order h;
    tiles = tiles h;
  }

  -- a slot's block part goes on
  lies_on : {m cell : ℕ} → LiesInBlocks g old m cell → LiesInBlocks g (new_image h) m cell
  lies_on lies = record {
    start = lies.start;
    length = lies.length;
    bytes = lies.bytes;
    journal = lies.journal;
    stores = stores_on' filled lies.stores;
    from = lies.from;
    below = lies.below;
  }

  -- and the new cells are the plan's
  lies_in_new : (cell : ℕ) → p.start ≤ cell → cell < to → LiesInBlocks g (new_image h) p.slot cell
  lies_in_new cell from below =
      let done = mine filled in
      record {
        start = p.start;
        length = p.reserved;
        bytes = length (stored_of p);
        journal = length p.journal;
        stores = record { commits = done.commits; done = inr done.done };
        from = from;
        below = omega (arith, below, ends_there h);
      }

  -- each block is its list's first, or lies in the block part of one slot
  pub owners : (l block : ℕ) → IsBlockOf g (new_image h) l block → (block ≡ list_at g l)
      ⊎ ((m : ℕ) × LiesInBlocks g (new_image h) m block × LiesInBlocks g (new_image h) m (block + 255))
  owners l block b = ⊎_elim
      (λ (was : IsBlockOf g old l block). ⊎_elim
      inl
      (λ (owned : (m : ℕ) × LiesInBlocks g old m block × LiesInBlocks g old m (block + 255)).
      inr (owned.0, lies_on owned.1, lies_on owned.2))
      (block_owned h.takes.layout h.takes.settled h.takes.horizon h.takes.slot was))
      (λ far.
      let lies = block_lies h l block b.list (block_back h b) in
      inr (
        p.slot,
        lies_in_new block far (omega (arith, lies.1)),
        lies_in_new (block + 255) (omega (arith, far)) (omega (arith, lies.1)),
      ))
      (blocks h l block b)
