-- Each rule in turn, and the log.
use Rattle.std.proofs.Common.{inl}
use Rattle.log_audit.specs.Kept.{image_of_kept}
use Rattle.tamper_rules.specs.Rules.{ReserveCells, OutcomeCells, DoneCells}
use Rattle.log_audit.specs.Findings.{AreMetBelow}
use Rattle.log_audit.proofs.Numbers.{below_1, below_next}
use Rattle.log_audit.proofs.Stopping.{first_found, found_none, log_checks}
use Rattle.log_audit.proofs.checking.check_log.Goals as goal

pub returns-in-Some-first_broken_outcome : goal.returns-in-Some-first_broken_outcome
returns-in-Some-first_broken_outcome c =
    let g = c.args.geometry.now in let image = image_of_kept c.args.kept.now in
    let one : AreMetBelow g image 2 = below_next ReserveCells (below_1 g image) (found_none g image ReserveCells _ c.first_broken_reserve.ensures c.in_default.is) in
    inl (first_found g image OutcomeCells _ _ one c.first_broken_outcome.ensures c.in-Some-first_broken_outcome.is)

pub returns-in-Some-first_broken_done : goal.returns-in-Some-first_broken_done
returns-in-Some-first_broken_done c =
    let g = c.args.geometry.now in let image = image_of_kept c.args.kept.now in
    let one : AreMetBelow g image 2 = below_next ReserveCells (below_1 g image) (found_none g image ReserveCells _ c.first_broken_reserve.ensures c.in_default.is) in
    let two : AreMetBelow g image 3 = below_next OutcomeCells one (found_none g image OutcomeCells _ c.first_broken_outcome.ensures (c.in_default-first_broken_outcome).is) in
    inl (first_found g image DoneCells _ _ two c.first_broken_done.ensures c.in-Some-first_broken_done.is)

pub log_of-requires : goal.log_of-requires
log_of-requires c =
    let g = c.args.geometry.now in let image = image_of_kept c.args.kept.now in
    let one : AreMetBelow g image 2 = below_next ReserveCells (below_1 g image) (found_none g image ReserveCells _ c.first_broken_reserve.ensures c.in_default.is) in
    let two : AreMetBelow g image 3 = below_next OutcomeCells one (found_none g image OutcomeCells _ c.first_broken_outcome.ensures (c.in_default-first_broken_outcome).is) in
    below_next DoneCells two (found_none g image DoneCells _ c.first_broken_done.ensures (c.in_default-first_broken_done).is)

pub returns : goal.returns
returns c =
    let g = c.args.geometry.now in let image = image_of_kept c.args.kept.now in
    let one : AreMetBelow g image 2 = below_next ReserveCells (below_1 g image) (found_none g image ReserveCells _ c.first_broken_reserve.ensures c.in_default.is) in
    let two : AreMetBelow g image 3 = below_next OutcomeCells one (found_none g image OutcomeCells _ c.first_broken_outcome.ensures (c.in_default-first_broken_outcome).is) in
    log_checks g image c.log_of.result (below_next DoneCells two (found_none g image DoneCells _ c.first_broken_done.ensures (c.in_default-first_broken_done).is)) c.log_of.ensures
