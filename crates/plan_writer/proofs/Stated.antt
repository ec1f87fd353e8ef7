-- What the cells of a plan state, where they stand.
use Rattle.std.proofs.Common.{◌≡◌, ◌≤◌, ◌<◌, ◌^◌, ℕ, length, Option, Some, None, refl, arith}
use Rattle.cell_types.specs.Image.{Image}
use Rattle.cell_types.specs.Layout.{Layout, IsLayout, reserve_at, outcome_at, done_at}
use Rattle.cell_types.specs.declared.record_cell.RecordCell.TheVariants as records
use Rattle.recovery_engine.specs.Putting.{AreStanding}
use Rattle.recovery_engine.specs.Ending.{done_put}
use Rattle.volume_meaning.specs.Slots.{Reserves, Commits, IsStampFor, IsStampOf}
use Rattle.volume_meaning.specs.Volumes.{Holds}
use Rattle.volume_meaning.proofs.Stamps.{has_stamp}
use Rattle.plan_writer.specs.Planned.{IsStampPut, Suits, commit_put, reserve_put, reserved_by, stamp_put}
use Rattle.plan_writer.specs.declared.plan.Plan.{Plan}

module _ (g : Layout) (n : ℕ) (p : Plan) (layout : IsLayout g) (less : n < g.slots) (suits : Suits g p)
    (image : Image) where
  -- the slot reserves the plan's cells
  pub reserves_by : image (reserve_at n) ≡ Some (reserve_put n (reserved_by p)).value
      → Reserves g image n p.start (reserved_by p).length
  reserves_by stands = record {
    slot = less;
    reserve = record {
      cell = (reserve_put n (reserved_by p)).value;
      stands = stands;
      is = record {
        fits = (omega (arith, suits.to, layout.cells), omega (arith, suits.to, layout.cells));
        well_formed = some_cells;
        same = refl;
      };
    };
    from = suits.from;
    to = suits.to;
  }
    where
      some_cells : 1 ≤ (reserved_by p).length
      some_cells = omega (arith, suits.fits.2, suits.fits.3)

  stamp_in : (stamp : Option ℕ) → IsStampFor g stamp → ((seconds : ℕ) → stamp ≡ Some seconds → seconds < 2 ^ 32)
      → AreStanding (IsStampPut n stamp) image → IsStampOf g image n stamp
  stamp_in None given fits stands = given
  stamp_in (Some seconds) given fits stands = (
    given,
    record {
      cell = (stamp_put n seconds).value;
      stands = stands (stamp_put n seconds) (record { seconds = seconds; given = refl; is = refl });
      is = record { fits = fits seconds refl; well_formed = tt; same = refl };
    },
  )

  -- its stamp is the plan's
  pub stamp_by : AreStanding (IsStampPut n p.stamp) image → IsStampOf g image n p.stamp
  stamp_by stands = stamp_in p.stamp suits.stamp suits.stamp_fits stands

  -- and states its document
  pub commits_by : image (reserve_at n) ≡ Some (reserve_put n (reserved_by p)).value
      → AreStanding (IsStampPut n p.stamp) image
      → image (outcome_at n) ≡ Some (commit_put n p.bytes (length p.journal.now)).value
      → Commits g image n p.start (reserved_by p).length p.bytes (length p.journal.now)
  commits_by there stamps here = record {
    reserves = reserves_by there;
    outcome = record {
      cell = (commit_put n p.bytes (length p.journal.now)).value;
      stands = here;
      is = record {
        fits = (omega (arith, suits.fits.1), omega (arith, suits.to, layout.cells));
        well_formed = (suits.fits.0, suits.fits.1, suits.fits.2);
        same = refl;
      };
    };
    fits = suits.fits.3;
    stamped = has_stamp g image n p.stamp (stamp_by stamps);
  }

  -- and is done
  pub done_by : image (done_at n) ≡ Some (done_put n).value → Holds image (done_at n) (records.Done n)
  done_by stands = record {
    cell = (done_put n).value;
    stands = stands;
    is = record {
      fits = omega (arith, less, layout.slots);
      well_formed = omega (arith, less, layout.slots);
      same = refl;
    };
  }
