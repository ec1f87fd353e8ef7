-- What the list's own search keeps stands now, and what the others keep stands on.
use Rattle.std.proofs.Common.{arith}
use Rattle.std.proofs.lemmas.Option.{slice_get-get_or}
use Rattle.posting_list.proofs.Landing.{keep_each_on}
use Rattle.posting_list.proofs.own_search.next_of_own.Goals as goal

pub next_slot-requires-clause-kept : goal.next_slot-requires-clause-kept
next_slot-requires-clause-kept g c =
    c.requires.kept c.args.own _ (slice_get-get_or c.args.searches.now c.args.own c.index-searches-own.result
    (omega (arith, c.requires.own)))

pub returns-clause-kept : goal.returns-clause-kept
returns-clause-kept g c =
    keep_each_on c.args.searches.now c.args.own c.next_slot.new.kept (g.V.View.seen c.args.view.now)
    (g.V.View.seen c.next_slot.new.view) c.next_slot.ensures.next.viewed c.requires.kept c.next_slot.ensures.kept
