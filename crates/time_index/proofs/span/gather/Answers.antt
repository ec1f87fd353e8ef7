-- Each turn by its search and the document that it comes to.
use Rattle.std.proofs.Common.{refl}
use Rattle.cell_types.proofs.Passed.{handed}
use Rattle.cell_types.specs.Refusals.{refusal_of_fault}
use Rattle.cell_types.specs.declared.refusal.Refusal.TheVariants as refusals
use Rattle.posting_list.proofs.Landing.{keeps_on}
use Rattle.time_index.proofs.SoFar.{match_fails, none_left, not_kept, one_more, search_fails}
use Rattle.time_index.proofs.span.gather.Goals as goal

-- the postings could not be searched
pub returns-in_err-entry : goal.returns-in_err-entry
returns-in_err-entry g c =
    rw (handed c.from_residual.result (refusal_of_fault c.in_err-entry.field-0.0) c.from_residual.ensures.1)
    (search_fails c.args.reach.now c.args.from c.args.to c.in-Some.key c.loop-next.matches.items c.loop-next.last
    (rw c.in-Some.is at c.loop-next.invariant.so_far) c.in_err-entry.field-0.0 c.in_err-entry.ensures.next)

-- there is none left
pub returns-in_default-2 : goal.returns-in_default-2
returns-in_default-2 g c =
    none_left c.args.reach.now c.args.from c.args.to c.in-Some.key c.loop-next.matches.items c.loop-next.last
    (rw c.in-Some.is at c.loop-next.invariant.so_far) c.loop-next.matches refl
    (rw c.in_default-2.is at c.in_ok-entry.ensures.next) c.in_ok-entry.ensures.reads

-- the document was not read
pub returns-in_err-found : goal.returns-in_err-found
returns-in_err-found g c =
    let refusal = c.in_err-found.field-0.0 in
    rw (handed c.from_residual-in_err-found.result refusal c.from_residual-in_err-found.ensures.1)
    (match_fails c.args.reach.now c.args.from c.args.to c.in-Some.key c.loop-next.matches.items c.loop-next.last
    (rw c.in-Some.is at c.loop-next.invariant.so_far) c.in-Some-2.entry
    (rw c.in-Some-2.is at c.in_ok-entry.ensures.next) refusal c.in_err-found.ensures)

-- there was no memory for it
pub returns-in_err-push : goal.returns-in_err-push
returns-in_err-push g c =
    rw (handed c.from_residual-in_err-push.result refusals.NoMemory c.from_residual-in_err-push.ensures.1)
    (not_kept c.args.reach.now c.args.from c.args.to c.in-Some.key c.loop-next.matches.items c.loop-next.last
    (rw c.in-Some.is at c.loop-next.invariant.so_far) c.in-Some-2.entry
    (rw c.in-Some-2.is at c.in_ok-entry.ensures.next) c.in_ok-found.found c.in_ok-found.ensures)

-- one more
pub loop-next-preserved : goal.loop-next-preserved
loop-next-preserved g c = record {
  kept = keeps_on c.next_posting.new.kept _ _ c.match_of.ensures.viewed c.next_posting.ensures.kept;
  so_far = rw c.in_ok-push.ensures.items
      (one_more c.args.reach.now c.args.from c.args.to c.in-Some.key c.loop-next.matches.items c.loop-next.last
      (rw c.in-Some.is at c.loop-next.invariant.so_far) c.in-Some-2.entry
      (rw c.in-Some-2.is at c.in_ok-entry.ensures.next) c.in_ok-found.found c.in_ok-found.ensures
      c.behind-next.result c.behind-next.ensures c.in_ok-entry.ensures.reads);
}
