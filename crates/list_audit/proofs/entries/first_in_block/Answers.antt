-- What its entry places ask, what those behind its pointers do, and nothing of those between.
use Rattle.std.proofs.Common.{◌<◌, ◌≤◌, ⊎_elim, sym, subst, arith}
use Rattle.log_audit.specs.Kept.{image_of_kept}
use Rattle.log_audit.specs.Least.{FindsPart}
use Rattle.tamper_rules.specs.Rules.{Entries}
use Rattle.log_audit.proofs.Orders.{below_or_not}
use Rattle.log_audit.proofs.Parts.{as_asked, both_parts}
use Rattle.list_audit.specs.Entries.{BlockAsks, PlacesAsk}
use Rattle.list_audit.proofs.entries.first_in_block.Goals as goal

pub returns : goal.returns
returns c =
    let g = c.args.geometry.now in let image = image_of_kept c.args.kept.now in let block = c.args.listed.now.block in
    subst (FindsPart g image Entries (BlockAsks image block)) (sym c.lower_of.ensures)
    (as_asked g image Entries (λ cell. PlacesAsk image block 0 128 cell × PlacesAsk image block 248 256 cell) (BlockAsks image block) _
    (both_parts g image Entries (PlacesAsk image block 0 128) (PlacesAsk image block 248 256) _ _
    c.first_in_places-entries.ensures c.first_in_places-behind.ensures)
    (λ cell both place few at. ⊎_elim
    (λ (entry : place < 128). both.0 place (omega arith) entry at)
    (λ (past : 128 ≤ place). ⊎_elim
    (λ (pointer : place < 248). record { entry = λ less. absurd (omega (arith, less, past)); blank = pointer })
    (λ (behind : 248 ≤ place). both.1 place behind few at)
    (below_or_not place 248))
    (below_or_not place 128))
    (λ cell asked. (λ place low less at. asked place (omega (arith, less)) at, λ place low less at. asked place less at)))
