-- What a walk on a device says.
use Rattle.std.proofs.Common.{ℕ, List, Result}
use Rattle.cell_types.specs.declared.refusal.Fault.{Fault}
use Rattle.worm_device.specs.State.{DeviceState}
use Rattle.worm_device.specs.Views.{Viewed, seen_directly}
use Rattle.recovery_engine.specs.declared.settling.Ready.{Ready}
use Rattle.identifier_lookup.specs.Costs.{WalkCosts}
use Rattle.identifier_lookup.specs.Walks.{WalkEnds, WalkNames}
use Rattle.identifier_lookup.specs.declared.answers.Walk.{Walk}
use Rattle.identifier_lookup.proofs.Loaned.{any_loan, costs_by_any, names_by_any}
use Rattle.record_query.specs.Reaching.{WalksOnDevice}
use Rattle.record_query.proofs.Loans.{viewed_by_any}

-- a walk over a loan of the device is one on the device
pub device_walks : (r : Ready) (id : List ℕ) {entry new : DeviceState} {lent back : ℕ}
    → Viewed (seen_directly entry lent) (seen_directly new back)
    → WalkCosts r.volume.geometry id (seen_directly entry lent) (seen_directly new back) → (result : Result Walk Fault)
    → WalkEnds r.volume.geometry r.horizon r.edge id (seen_directly entry lent) (seen_directly new back) result
    → WalkNames r.volume.geometry id (seen_directly entry lent) (seen_directly new back) result
    → WalksOnDevice r id entry new result
device_walks r id {entry} {new} {lent} {back} viewed costs result ends named = record {
  viewed = viewed_by_any entry new lent back viewed;
  costs = costs_by_any r.volume.geometry id entry new lent back costs;
  ends = any_loan r.volume.geometry r.horizon r.edge id entry new lent back result ends;
  named = names_by_any r.volume.geometry id entry new lent back result named;
}
