-- The lists of terms over a view, as a join sees them.
use Rattle.worm_device.specs.declared.view.View as view
use Rattle.zigzag_join.specs.Lists.{ListsState}
use Rattle.posting_list.specs.States.{counted_lists}
use Rattle.posting_list.specs.declared.term_lists.TermLists.{TermLists}

module _ {V : Type 0} {g : view.Ghosts V} where
  -- what they are, and how often they were asked
  abbrev pub lists_of : TermLists V g → ListsState
  lists_of t = counted_lists t.reach t.sought.now.terms.items t.view.ghost_name (g.seen t.view.now) t.next_asks t.has_asks
