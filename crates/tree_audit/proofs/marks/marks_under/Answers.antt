-- A way more: no marked place leads on by it, or one does; and all of them.
use Rattle.std.proofs.Common.{◌≡◌, Some, arith}
use Rattle.std.specs.Prelude.{slice_get, slice_index_or}
use Rattle.std.proofs.lemmas.Option.{slice_get-get_or}
use Rattle.tree_audit.specs.declared.ways.Way.{Way}
use Rattle.tree_audit.proofs.Marking.{all_marked, leads_nowhere, leads_on, number_read}
use Rattle.tree_audit.proofs.marks.marks_under.Goals as goal

pub loop-way-preserved-then-index-way : goal.loop-way-preserved-then-index-way
loop-way-preserved-then-index-way c =
    let way : Way = slice_index_or c.args.ways.now c.loop-way.way-index (record { first = 0; behind = 0; target = 0 }) in
    let there : slice_get c.args.ways.now c.loop-way.way-index ≡ Some way = slice_get-get_or c.args.ways.now c.loop-way.way-index _ c.loop-way-test.true in
    let among = c.requires c.loop-way.way-index way there in
    let last = number_read c.loop-way.invariant.0 way.behind c.index.result.now among.0 c.index.ensures in
    (c.loop-way.invariant.0, leads_nowhere c.loop-way.invariant.1 there (omega (arith, among.1, c.loop-way.invariant.1.count)) last c.if-index-way.true)

pub index_mut-requires : goal.index_mut-requires
index_mut-requires c =
    let way : Way = slice_index_or c.args.ways.now c.loop-way.way-index (record { first = 0; behind = 0; target = 0 }) in
    let there : slice_get c.args.ways.now c.loop-way.way-index ≡ Some way = slice_get-get_or c.args.ways.now c.loop-way.way-index _ c.loop-way-test.true in
    omega (arith, (c.requires c.loop-way.way-index way there).1, c.loop-way.invariant.1.count, c.loop-way.under.ok)

pub loop-way-preserved : goal.loop-way-preserved
loop-way-preserved c =
    let way : Way = slice_index_or c.args.ways.now c.loop-way.way-index (record { first = 0; behind = 0; target = 0 }) in
    let there : slice_get c.args.ways.now c.loop-way.way-index ≡ Some way = slice_get-get_or c.args.ways.now c.loop-way.way-index _ c.loop-way-test.true in
    let among = c.requires c.loop-way.way-index way there in
    let last = number_read c.loop-way.invariant.0 way.behind c.index.result.now among.0 c.index.ensures in
    (c.loop-way.invariant.0, leads_on c.loop-way.invariant.1 there (omega (arith, among.1, c.loop-way.invariant.1.count)) last c.if-index-way.false)

pub returns : goal.returns
returns c = all_marked c.loop-way.invariant.1 (omega (arith, c.loop-way-test.false))
