-- Not more cells are blank than there are, and nothing stands.
use Rattle.std.proofs.Common.{ℕ, List, sym, ap, ◌∙◌, arith, Option, None, get_or}
use Rattle.worm_memory.specs.Worlds.{world}
use Rattle.worm_memory.specs.declared.change.Change.{Change}
use Rattle.worm_memory.proofs.Blanks.{blanks_most, none_at, only_blank}
use Rattle.worm_memory.proofs.memory_device.MemoryDevice.new.Goals as goal

pub invariant_of-result-clause-few : goal.invariant_of-result-clause-few
invariant_of-result-clause-few c = omega (arith, blanks_most c.in_ok-blank.blank.items, c.new-2.ensures.len)

pub invariant_of-result-clause-holds : goal.invariant_of-result-clause-holds
invariant_of-result-clause-holds c = λ cell.
    ap (λ (l : List (Option (List ℕ))). get_or l cell None) (c.in_ok-blank.ensures.items only_blank)
    ∙ none_at c.args.cells cell
    ∙ sym (ap (λ (ch : List Change). (world ch).image cell) c.new.ensures.items)
