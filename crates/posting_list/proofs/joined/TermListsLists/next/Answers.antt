-- The slot was looked at.
use Rattle.std.proofs.Common.{refl}
use Rattle.posting_list.proofs.joined.TermListsLists.next.Goals as goal

pub returns-clause-knows : goal.returns-clause-knows
returns-clause-knows g c = ((rw c.in-Some.is at c.in_ok-landing.ensures.always) refl).1
