-- What the list's own search keeps stands now, and what the others keep stands on.
use Rattle.std.proofs.Common.{arith}
use Rattle.std.proofs.lemmas.Option.{slice_get-get_or}
use Rattle.posting_list.proofs.Landing.{keep_each_on}
use Rattle.posting_list.proofs.own_search.own_confirm.Goals as goal

pub confirm_slot-requires-clause-kept : goal.confirm_slot-requires-clause-kept
confirm_slot-requires-clause-kept g c =
    c.requires.kept c.args.own _ (slice_get-get_or c.args.searches.now c.args.own c.index-searches-own.result
    (omega (arith, c.requires.own)))

pub returns-clause-kept : goal.returns-clause-kept
returns-clause-kept g c =
    keep_each_on c.args.searches.now c.args.own c.confirm_slot.new.kept (g.V.View.seen c.args.view.now)
    (g.V.View.seen c.confirm_slot.new.view) c.confirm_slot.ensures.confirms.viewed c.requires.kept c.confirm_slot.ensures.kept
