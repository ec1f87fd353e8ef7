-- The numbers are small; and their blocks are those that were found.
use Rattle.std.proofs.Common.{ℕ, List, sym, subst}
use Rattle.list_audit.specs.Blocks.{AreDecoded, AreSmall}
use Rattle.list_audit.proofs.Numbering.{are_numbered, are_rising, are_same, are_small}
use Rattle.list_audit.proofs.found.FoundBlocks.in_order.Goals as goal

pub blocks_of_numbers-requires : goal.blocks_of_numbers-requires
blocks_of_numbers-requires c = subst AreSmall (sym c.deref.ensures.value) (are_small c.in_ok-numbers.numbers.items c.requires c.in_ok-numbers.ensures.same)

pub returns : goal.returns
returns c = let listed : List ℕ = c.in_ok-numbers.numbers.items in let rows = c.in_ok-blocks.blocks.items in
    let decoded : AreDecoded listed rows =
    subst (λ (xs : List ℕ). AreDecoded xs rows) c.deref.ensures.value c.in_ok-blocks.ensures in
    let rises = c.in_ok-numbers.ensures.rises in let same = c.in_ok-numbers.ensures.same in
    record {
      rising = are_rising c.requires listed rows decoded rises same;
      numbered = are_numbered c.requires listed rows decoded rises same;
      same = are_same c.requires listed rows decoded rises same;
    }
