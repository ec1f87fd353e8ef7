-- Slots that hold documents, by the log.
use Rattle.std.proofs.Common.{◌≡◌, ◌<◌, inr, ℕ, length, Option, Some, None, refl, subst, arith}
use Rattle.std.specs.Prelude.{slice_get}
use Rattle.std.proofs.lemmas.Option.{slice_get_within}
use Rattle.cell_types.specs.Image.{Image}
use Rattle.cell_types.specs.Layout.{Layout, reserve_at, outcome_at}
use Rattle.cell_types.specs.declared.record_cell.RecordCell.TheVariants.{Reserve, Commit}
use Rattle.volume_meaning.specs.Slots.{Reserves, Stores}
use Rattle.volume_meaning.specs.Volumes.{Holds, IsWritten}
use Rattle.volume_meaning.proofs.Holding.{one_record_holds}
use Rattle.volume_meaning.proofs.OneDocument.{reserves, commits}
use Rattle.tamper_rules.proofs.Settled.{written}
use Rattle.log_audit.specs.Logs.{IsLog}
use Rattle.log_audit.specs.Stored.{IsStored, StoredIsLive, LiveIsStored}
use Rattle.log_audit.specs.declared.ended.EndedSlot.{EndedSlot}
use Rattle.log_audit.specs.declared.ended.EndedSlot.TheVariants.{Done}
use Rattle.log_audit.specs.declared.log.Log.{Log}
use Rattle.log_audit.specs.declared.stored.StoredSlot.{StoredSlot}
use Rattle.log_audit.proofs.Beginning.{ended_cells}
use Rattle.log_audit.proofs.Logged.{past_end, stores_of}

-- a slot that is done in the log is stored
pub stored_there : {g : Layout} {image : Image} (log : Log) → IsLog g image log → (n s r b j : ℕ)
    → slice_get log.slots.items n ≡ Some (Done s r b j)
    → IsStored g image (record { slot = n; start = s; length = r; bytes = b; journal = j })
stored_there log is n s r b j there =
    let e = is.each n (Done s r b j) there in
    record { done = e.0; cells = record { end = e.1.0; fits = e.1.1 } }

-- a stored slot is committed or done
pub stores_it : {g : Layout} {image : Image} {s : StoredSlot} → IsStored g image s
    → Stores g image s.slot s.start s.length s.bytes s.journal
stores_it is = record { commits = is.done.commits; done = inr is.done.done }

-- it is so by one row of numbers
pub one_row : {g : Layout} {image : Image} {s : StoredSlot} {n a b c d : ℕ} → IsStored g image s → s.slot ≡ n
    → Stores g image n a b c d → (a ≡ s.start) × (b ≡ s.length) × (c ≡ s.bytes) × (d ≡ s.journal)
one_row {g} {image} {s} {n} {a} {b} {c} {d} is same stores =
    let r : Reserves g image n s.start s.length =
    subst (λ (k : ℕ). Reserves g image k s.start s.length) same is.done.commits.reserves in
    let o : Holds image (outcome_at n) (Commit s.bytes s.journal) =
    subst (λ (k : ℕ). Holds image (outcome_at k) (Commit s.bytes s.journal)) same is.done.commits.outcome in
    let one = reserves a b s.start s.length
    (one_record_holds image (reserve_at n) (Reserve a b) (Reserve s.start s.length)
    stores.commits.reserves.reserve r.reserve) in
    let two = commits c d s.bytes s.journal
    (one_record_holds image (outcome_at n) (Commit c d) (Commit s.bytes s.journal) stores.commits.outcome o) in
    (one.0, one.1, two.0, two.1)

-- it stands in the log, by these numbers
pub logged : {g : Layout} {image : Image} {log : Log} {s : StoredSlot} → IsLog g image log → IsStored g image s
    → slice_get log.slots.items s.slot ≡ Some (Done s.start s.length s.bytes s.journal)
logged {g} {image} {log} {s} is stored =
    stores_of g image log is s.slot s.start s.length s.bytes s.journal (stores_it stored)

-- each slot below one that stands in the log is taken
taken : {g : Layout} {image : Image} {log : Log} → IsLog g image log → (m : ℕ) → m < length log.slots.items
    → IsWritten image (reserve_at m)
taken {g} {image} {log} is m less = at (slice_get log.slots.items m) refl
  where
    at : (found : Option EndedSlot) → slice_get log.slots.items m ≡ found → IsWritten image (reserve_at m)
    at None none = absurd (let past = past_end log.slots.items m none in omega (arith, past, less))
    at (Some slot) some = let cells = ended_cells g image m slot (is.each m slot some).0 in written cells.2

pub stored_is_live : StoredIsLive
stored_is_live g image log is s stored =
    let inside = slice_get_within log.slots.items s.slot _ (logged is stored) in
    record {
      slot = stored.done.commits.reserves.slot;
      done = record { start = s.start; length = s.length; bytes = s.bytes; journal = s.journal; done = stored.done };
      taken = λ m less. taken is m (omega (arith, less, inside));
    }

pub live_is_stored : LiveIsStored
live_is_stored g image log is n live =
    let d = live.done in
    let there = stores_of g image log is n d.start d.length d.bytes d.journal
    (record { commits = d.done.commits; done = inr d.done.done }) in (
      record { slot = n; start = d.start; length = d.length; bytes = d.bytes; journal = d.journal },
      refl,
      stored_there log is n d.start d.length d.bytes d.journal there,
    )
