-- What a plan leaves that was carried out.
use Rattle.std.proofs.Common.{◌≡◌, ◌<◌, ◌+◌, ℕ, List, length, Some, Ok, refl, sym, inl, inr, subst, arith}
use Rattle.std.specs.Prelude.{IsTrue}
use Rattle.cell_types.specs.Image.{Image, Extends}
use Rattle.cell_types.specs.Layout.{Layout, IsLayout}
use Rattle.recovery_engine.specs.declared.put.Put.{Put}
use Rattle.recovery_engine.specs.declared.put.Blame.TheVariants.{Rule, Journal}
use Rattle.recovery_engine.specs.Putting.{AreStanding, PutsPhases}
use Rattle.recovery_engine.specs.Ending.{done_put}
use Rattle.recovery_engine.specs.Entries.{target_of}
use Rattle.volume_meaning.specs.Documents.{Spells, Stands, content_at, document_at, stored_bytes}
use Rattle.volume_meaning.specs.Slots.{IsDone, IsUnused, cells_for}
use Rattle.volume_meaning.specs.Volumes.{IsVolume}
use Rattle.volume_meaning.proofs.Extending.{volume_on}
use Rattle.tamper_rules.specs.declared.numbers.TheConstants.{STRAY_CELL}
use Rattle.worm_device.specs.State.{DeviceState}
use Rattle.worm_device.proofs.Images.{extends_then}
use Rattle.plan_writer.specs.Blank.{IsSlotFree}
use Rattle.plan_writer.specs.Planned.{INGEST_PHASES, IsStampPut, PlansDocument, Suits, commit_put, document_from, ingest_phases, journal_from, reserve_put, reserved_by}
use Rattle.plan_writer.specs.PuttingPlans.{IsCarriedOut}
use Rattle.plan_writer.specs.declared.plan.Plan.{Plan}
use Rattle.plan_writer.proofs.Stated.{commits_by, done_by, stamp_by}

module _ (g : Layout) (n : ℕ) (p : Plan) (old : Image) {s2 s4 : DeviceState} (layout : IsLayout g) (less : n < g.slots)
    (suits : Suits g p) (u : Unit {0}) (phases : PutsPhases (ingest_phases n p) INGEST_PHASES s2 s4 (Ok u))
    (tells : IsTrue s2.tells) (volume : IsVolume s2.cells s2.image g)
    (unused : IsUnused g old n) (free : IsSlotFree old n (reserved_by p)) (synced : Extends old s2.sure) where
  put_sure : (j : ℕ) (put : Put) → j < 5 → ingest_phases n p j put → s4.sure put.at ≡ Some put.value
  put_sure j put below h = (phases.sure tells).0 put (j, below, h)

  up : Extends s2.image s4.sure
  up = (phases.sure tells).1 (omega arith)

  stamp_sure : AreStanding (IsStampPut n p.stamp) s4.sure
  stamp_sure put h = put_sure 1 put (omega arith) (inl h)

  is_done : IsDone g s4.sure n p.start (reserved_by p).length p.bytes (length p.journal.now)
  is_done = record {
    commits = commits_by g n p layout less suits s4.sure
        (put_sure 0 (reserve_put n (reserved_by p)) (omega arith) refl)
        stamp_sure
        (put_sure 2 (commit_put n p.bytes (length p.journal.now)) (omega arith) refl);
    done = done_by g n p layout less suits s4.sure (put_sure 4 (done_put n) (omega arith) refl);
  }

  stands : (id body : List ℕ) → PlansDocument p id body → Stands s4.cells s4.sure n id body
  stands id body d =
      let count = length (stored_bytes id body) in
      let doc : length p.document.now ≡ cells_for p.bytes = suits.document in
      let begins : document_from p ≡ document_at p.start (reserved_by p).length count (length p.journal.now) =
      omega (arith, doc, d.bytes) in
      record {
        layout = g;
        start = p.start;
        reserved = (reserved_by p).length;
        journal = length p.journal.now;
        volume = subst (λ (k : ℕ). IsVolume k s4.sure g) (sym phases.puts.called.cells) (volume_on up volume);
        slot = less;
        done = subst (λ (b : ℕ). IsDone g s4.sure n p.start (reserved_by p).length b (length p.journal.now))
            d.bytes is_done;
        spells = subst (λ (a : ℕ). Spells s4.sure a (stored_bytes id body)) begins
            (λ k below. put_sure 1
            (record { at = document_from p + k; value = content_at (stored_bytes id body) k; blame = Rule STRAY_CELL })
            (omega arith) (inr (inl (record { place = k; at = refl; value = d.each k below; blame = refl }))));
        is_identifier = d.identifier;
        is_body = d.is_body;
      }

  -- the slot is done, its stamp is the plan's, its document is of the volume, the journal stands at its targets, and
  -- all that stood is sure
  pub carried_out : IsCarriedOut g p n s4.cells old s2.image s4.sure
  carried_out = record {
    unused = unused;
    spare = free.spare;
    blank = free.reserved;
    done = is_done;
    stamp = stamp_by g n p layout less suits s4.sure stamp_sure;
    document = stands;
    journal = λ k value is. put_sure 3
        (record { at = target_of value; value = value; blame = Journal (journal_from p + k) })
        (omega arith) (record { k = k; value = is; at = refl; blame = refl });
    synced = extends_then synced phases.puts.called.sure;
    stood = up;
  }
