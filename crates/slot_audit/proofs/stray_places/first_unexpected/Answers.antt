-- The first that is not expected, one more that is, and all of them.
use Rattle.std.proofs.Common.{◌∙◌, refl, sym, arith}
use Rattle.log_audit.specs.Rows.{rows_of}
use Rattle.log_audit.proofs.Deciding.{decided_no, decided_yes}
use Rattle.slot_audit.proofs.StraysGoing.{all_expected, first_not, one_more}
use Rattle.slot_audit.proofs.stray_places.first_unexpected.Goals as goal

pub returns-then-not-is_expected : goal.returns-then-not-is_expected
returns-then-not-is_expected c = let volume = c.args.volume.now in
    first_not volume.log (rows_of volume.kept) c.in-Some.row _ volume.is_log c.written-place-end.ensures.rows
    c.requires.count
    c.loop-place.invariant (sym c.written_at.ensures ∙ c.in-Some.is)
    (decided_no _ c.is_expected.ensures c.if-not-is_expected.true)
    refl refl refl

pub loop-place-preserved : goal.loop-place-preserved
loop-place-preserved c =
    one_more (rows_of c.args.volume.now.kept) c.loop-place.invariant (sym c.written_at.ensures ∙ c.in-Some.is)
    (decided_yes _ c.is_expected.ensures c.if-not-is_expected.false)

pub returns : goal.returns
returns c =
    all_expected (rows_of c.args.volume.now.kept) c.written-place-end.ensures.rows c.loop-place.invariant
    (omega (arith, c.loop-place-test.false, c.written-place-end.ensures.count))
