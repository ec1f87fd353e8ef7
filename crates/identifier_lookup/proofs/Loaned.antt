-- What a walk on a device says does not depend on the name of the loan by which it was made.
use Rattle.std.proofs.Common.{ℕ, List, Result, Ok, Err}
use Rattle.cell_types.specs.Layout.{Layout}
use Rattle.cell_types.specs.declared.refusal.Fault.{Fault}
use Rattle.cell_types.specs.declared.refusal.Fault.TheVariants as faults
use Rattle.worm_device.specs.State.{DeviceState}
use Rattle.worm_device.specs.Views.{seen_directly}
use Rattle.identifier_lookup.specs.Costs.{WalkCosts}
use Rattle.identifier_lookup.specs.Walks.{WalkEnds, WalkNames}
use Rattle.identifier_lookup.specs.declared.answers.Walk.{Walk}
use Rattle.identifier_lookup.specs.declared.answers.Walk.TheVariants as walks

-- how it ends
pub any_loan : (g : Layout) (horizon edge : ℕ) (id : List ℕ) (old new : DeviceState) (lent back : ℕ)
    (result : Result Walk Fault)
    → WalkEnds g horizon edge id (seen_directly old lent) (seen_directly new back) result
    → WalkEnds g horizon edge id (seen_directly old 0) (seen_directly new 0) result
any_loan g horizon edge id old new lent back (Ok (walks.Found part)) h = (
  h.0,
  h.1,
  λ tells. let found = h.2 tells in record { holds = found.holds; first = found.first; alone = found.alone },
  record { slot = h.3.slot; inside = h.3.inside; stated = h.3.stated; is = h.3.is },
)
any_loan g horizon edge id old new lent back (Ok (walks.End place level)) h = (
  h.0,
  record { number = h.1.number; within = h.1.within; led = h.1.led },
  h.2,
  h.3,
  λ tells.
      let end = h.4 tells in
      record {
        blank = end.blank;
        reached = end.reached;
        led_within = end.led_within;
        passed = end.passed;
        none = end.none;
      },
)
any_loan g horizon edge id old new lent back (Ok walks.PathFull) h = (
  h.0,
  λ tells. let full = h.1 tells in record { passed = full.passed; none = full.none },
)
any_loan g horizon edge id old new lent back (Err faults.Failed) h = h
any_loan g horizon edge id old new lent back (Err (faults.Tampered e)) h = (
  h.0,
  h.1,
  λ tells. let seen = h.2 tells in record { rule = seen.rule; stands = seen.stands; broken = seen.broken },
)

-- what it names
pub names_by_any : (g : Layout) (id : List ℕ) (old new : DeviceState) (lent back : ℕ) (result : Result Walk Fault)
    → WalkNames g id (seen_directly old lent) (seen_directly new back) result
    → WalkNames g id (seen_directly old 0) (seen_directly new 0) result
names_by_any g id old new lent back (Ok walked) named = named
names_by_any g id old new lent back (Err faults.Failed) named = named
names_by_any g id old new lent back (Err (faults.Tampered e)) named = named

-- and what it costs
pub costs_by_any : (g : Layout) (id : List ℕ) (old new : DeviceState) (lent back : ℕ)
    → WalkCosts g id (seen_directly old lent) (seen_directly new back)
    → WalkCosts g id (seen_directly old 0) (seen_directly new 0)
costs_by_any g id old new lent back costs = record {
  comparisons = costs.comparisons;
  reads = costs.reads;
  fall = costs.fall;
  each = costs.each;
}
