-- The block is put behind the others, since no two lists have it.
use Rattle.std.proofs.Common.{ℕ, true, refl, subst, arith}
use Rattle.std.specs.Ordering.{nat_cmp}
use Rattle.std.specs.BTreeSet.{Updates as SetUpdates}
use Rattle.list_audit.proofs.Taking.{found_behind}
use Rattle.list_audit.proofs.found.FoundBlocks.put.Goals as goal

pub returns-clause-found : goal.returns-clause-found
returns-clause-found c = found_behind c.requires.found c.args.found refl c.in_ok-push-2.ensures.items
    (subst (λ (n : ℕ). SetUpdates nat_cmp c.args.self.now.numbers c.insert_new.new.set n true) c.neighbour_number.ensures c.in_ok-insert_new.ensures.updates)
    refl c.args.other c.in_ok-push.ensures.items c.requires.other (omega arith, omega arith) c.requires.alone
