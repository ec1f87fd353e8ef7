-- A write into a blank cell, and then a sync, where there is room and nothing is planned.
use Rattle.std.proofs.Common.{◌≡◌, ◌≤◌, ◌-◌, ℕ, true, false, List, [], ◌∷◌, Option, Some, None, Result, Ok, Err, is_err, IsTrue, refl, ap, sym, subst, ◌∙◌, arith}
use Rattle.std.proofs.lemmas.Bool.Decides.{nat_tests}
use Rattle.std.proofs.lemmas.Option.{none-some}
use Rattle.cell_types.specs.Image.{Extends}
use Rattle.worm_device.specs.Calls.{Syncs}
use Rattle.worm_device.specs.State.{DeviceState}
use Rattle.worm_device.specs.declared.device.Failed.{Failed}
use Rattle.worm_memory.specs.declared.change.Change.TheVariants.{Wrote}
use Rattle.worm_memory.specs.Memory.{Memory, with_call, with_change}
use Rattle.worm_memory.specs.Outcomes.{Outcome, goes_on, recorded, written_into, synced_over, after_write, after_sync}
use Rattle.worm_memory.specs.Unsure.{unsure_of}
use Rattle.worm_memory.specs.Worlds.{world}
use Rattle.worm_memory.proofs.Calls.{value_stands}

recorded_in_room : (m : Memory) (room : ℕ) (changed : Memory) → 1 ≤ room
    → recorded m room changed ≡ goes_on changed (room - 1)
recorded_in_room m room changed some = grind (arith, nat_tests)

written_blank : (found : Option (List ℕ)) (at : ℕ) (value : List ℕ) (m : Memory) (room : ℕ) → found ≡ None → 1 ≤ room
    → written_into found at value m room ≡ goes_on (with_change m (Wrote at value)) (room - 1)
written_blank None at value m room free some = recorded_in_room m room (with_change m (Wrote at value)) some
written_blank (Some found) at value m room free some = absurd (none-some found (sym free))

-- what a write comes to
pub record HasWritten (m : Memory) (room at : ℕ) (value : List ℕ) (now : Outcome) : Type 0 where
  pub ongoing : now.failed ≡ false
  pub left : now.room ≡ room - 1
  pub plan : now.memory.plan ≡ m.plan
  pub stands : (world now.memory.changes).image at ≡ Some value

pub has_written : (m : Memory) (room at : ℕ) (value : List ℕ) (now : Outcome) → (world m.changes).image at ≡ None
    → 1 ≤ room → now ≡ after_write at value (goes_on (with_call true m) room) → HasWritten m room at value now
has_written m room at value now free some is =
    subst (HasWritten m room at value)
    (sym (is ∙ written_blank ((world m.changes).image at) at value (with_call true m) room free some))
    (record { ongoing = refl; left = refl; plan = refl; stands = value_stands (with_call true m) at value free })

synced_in_room : (unsure : List ℕ) (m : Memory) (room : ℕ) → 1 ≤ room → (synced_over unsure m room).failed ≡ false
synced_in_room [] m room some = refl
synced_in_room (at ∷ unsure) m room some = ap (λ (o : Outcome). o.failed) (recorded_in_room m room _ some)

-- a sync goes on
pub sync_goes_on : (m : Memory) (room : ℕ) (now : Outcome) → 1 ≤ room
    → now ≡ after_sync (goes_on (with_call true m) room) → now.failed ≡ false
sync_goes_on m room now some is =
    ap (λ (o : Outcome). o.failed) is ∙ synced_in_room (unsure_of m.changes) (with_call true m) room some

-- and makes sure what stood
pub sync_makes_sure : {old new : DeviceState} (result : Result Unit Failed) → is_err result ≡ false
    → Syncs old new result → IsTrue old.tells → Extends old.image new.sure
sync_makes_sure (Ok done) is syncs tells = syncs.answer tells
sync_makes_sure (Err failed) is syncs tells = absurd (cc)
