-- The cell is the body of one record, and an address.
use Rattle.std.proofs.Common.{subst, sym, ap, take, Some, ◌∙◌}
use Rattle.cell_types.specs.Records.{IsWellFormed}
use Rattle.cell_types.proofs.OneRecord.{address_in, body_in, body_is_one, joined, one_record}
use Rattle.cell_types.proofs.codec.decode.Goals as goal

-- the address is another
pub returns-then-address_of-address-clause-none : goal.returns-then-address_of-address-clause-none
returns-then-address_of-address-clause-none c = λ r is.
    c.if-address_of-address.true (c.address_of.ensures ∙ address_in r c.args.address c.args.cell c.ranges.address.fits is)

-- no record has the body
pub returns-in_err-value-clause-none : goal.returns-in_err-value-clause-none
returns-in_err-value-clause-none c = rw c.from_residual.ensures (λ r is.
    c.in_err-value.ensures.none r (body_in r c.args.address c.args.cell is ∙ sym (ap (take 12) c.bytes.ensures.same)))

-- the record is found
pub returns-clause-some : goal.returns-clause-some
returns-clause-some c = record {
  fits = c.in_ok-value.ensures.some.0;
  well_formed = c.is_well_formed.ensures.0 c.if-not-is_well_formed.false;
  same = joined c.in_ok-value.value c.args.address c.args.cell c.bytes.ensures.cell
      (c.in_ok-value.ensures.some.1 ∙ ap (take 12) c.bytes.ensures.same) (sym c.address_of.ensures ∙ c.if-address_of-address.false);
}

-- the one record of the cell is not well-formed there
pub returns-then-not-is_well_formed-clause-none : goal.returns-then-not-is_well_formed-clause-none
returns-then-not-is_well_formed-clause-none c = λ r is.
    let body = body_in r c.args.address c.args.cell is ∙ sym (c.in_ok-value.ensures.some.1 ∙ ap (take 12) c.bytes.ensures.same) in
    let one = body_is_one r c.in_ok-value.value is.fits c.in_ok-value.ensures.some.0 body in
    let held = c.is_well_formed.ensures.1 (subst (λ x. IsWellFormed x c.args.address) one is.well_formed) in
    cc

-- where nothing is found, no record is there: as above, three times
pub returns-then-address_of-address-clause-one : goal.returns-then-address_of-address-clause-one
returns-then-address_of-address-clause-one c = λ r is. absurd (returns-then-address_of-address-clause-none c r is)

pub returns-in_err-value-clause-one : goal.returns-in_err-value-clause-one
returns-in_err-value-clause-one c = λ r is. absurd (
    c.in_err-value.ensures.none r (body_in r c.args.address c.args.cell is ∙ sym (ap (take 12) c.bytes.ensures.same)))

pub returns-then-not-is_well_formed-clause-one : goal.returns-then-not-is_well_formed-clause-one
returns-then-not-is_well_formed-clause-one c = λ r is. absurd (returns-then-not-is_well_formed-clause-none c r is)

-- the record that is found is the only one
pub returns-clause-one : goal.returns-clause-one
returns-clause-one c = λ r is.
    let found = returns-clause-some c in
    ap Some (one_record c.in_ok-value.value r c.args.address c.args.address c.args.cell c.ranges.address.fits c.ranges.address.fits found is).0
