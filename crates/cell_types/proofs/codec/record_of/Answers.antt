-- What is not the body of its own kind is no record's.
use Rattle.std.proofs.Common.{inl, inr, refl}
use Rattle.cell_types.proofs.Bodies.{no_number, no_numbers}
use Rattle.cell_types.proofs.codec.record_of.Goals as goal

-- a reserve cell without its three zeros
pub returns-in_err-start-in-2-clause-none : goal.returns-in_err-start-in-2-clause-none
returns-in_err-start-in-2-clause-none c = rw c.from_residual.ensures (no_numbers c.args.body.now 2 c.in-2.is (inl refl) c.in_err-start-in-2.ensures.none)

-- a commit cell without its three zeros
pub returns-in_err-bytes-in-3-clause-none : goal.returns-in_err-bytes-in-3-clause-none
returns-in_err-bytes-in-3-clause-none c = rw c.from_residual-in_err-bytes-in-3.ensures (no_numbers c.args.body.now 3 c.in-3.is (inr refl) c.in_err-bytes-in-3.ensures.none)

-- a done cell without its seven zeros
pub returns-in_err-slot-in-5-clause-none : goal.returns-in_err-slot-in-5-clause-none
returns-in_err-slot-in-5-clause-none c = rw c.from_residual-in_err-slot-in-5.ensures (no_number c.args.body.now 5 c.in-5.is (inl refl) c.in_err-slot-in-5.ensures.none)

-- a jump cell without its seven zeros
pub returns-in_err-target-in-7-clause-none : goal.returns-in_err-target-in-7-clause-none
returns-in_err-target-in-7-clause-none c = rw c.from_residual-in_err-target-in-7.ensures (no_number c.args.body.now 7 c.in-7.is (inr (inl refl)) c.in_err-target-in-7.ensures.none)

-- a child cell without its seven zeros
pub returns-in_err-target-in-9-clause-none : goal.returns-in_err-target-in-9-clause-none
returns-in_err-target-in-9-clause-none c = rw c.from_residual-in_err-target-in-9.ensures (no_number c.args.body.now 9 c.in-9.is (inr (inr (inl refl))) c.in_err-target-in-9.ensures.none)

-- a stamp cell without its seven zeros
pub returns-in_err-seconds-in-10-clause-none : goal.returns-in_err-seconds-in-10-clause-none
returns-in_err-seconds-in-10-clause-none c = rw c.from_residual-in_err-seconds-in-10.ensures (no_number c.args.body.now 10 c.in-10.is (inr (inr (inr refl))) c.in_err-seconds-in-10.ensures.none)
