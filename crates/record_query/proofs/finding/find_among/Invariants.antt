-- The slots before this place were searched.
use Rattle.posting_list.specs.Joins.{slots_of}
use Rattle.record_query.proofs.FoundSoFar.{FoundSoFar}
use Rattle.record_query.proofs.finding.find_among.Given as goal

abbrev pub invariant-loop-place : goal.invariant-loop-place
invariant-loop-place g l =
    FoundSoFar l.geometry (slots_of l.parts) l.place (g.D.Device.state l.fn.device) (g.D.Device.state l.device)
    l.fn.matcher l.matcher l.matches.items
