-- The table of the tiles: they lie in the block part, and follow one another just where the rule is kept.
use Rattle.std.proofs.Common.{◌↔◌, ℕ, sym, subst, arith}
use Rattle.std.specs.Prelude.{IsTrue}
use Rattle.std.specs.Ordering.{nat_cmp}
use Rattle.std.specs.BTreeMap.{get}
use Rattle.log_audit.specs.Kept.{image_of_kept}
use Rattle.slot_audit.specs.Tables.{Follow, LieWithin}
use Rattle.slot_audit.proofs.Tabling.{lie_within, tiled_rule}
use Rattle.slot_audit.proofs.tilings.is_tiled.Goals as goal

pub follow-requires-clause-within : goal.follow-requires-clause-within
follow-requires-clause-within c =
    subst (LieWithin (λ t. get nat_cmp c.in_ok-tiles.tiles t) c.args.stored.now.start) (sym c.document_at.ensures.at)
    (lie_within (image_of_kept c.args.kept.now) c.args.stored.now c.requires.targets (λ t. get nat_cmp c.in_ok-tiles.tiles t)
    c.in_ok-tiles.ensures)

pub returns : goal.returns
returns c =
    let image = image_of_kept c.args.kept.now in let s = c.args.stored.now in
    let both = subst (λ (to : ℕ). IsTrue c.follow.result ↔ Follow (λ t. get nat_cmp c.in_ok-tiles.tiles t) to s.start)
    c.document_at.ensures.at c.follow.ensures in
    tiled_rule image s c.requires.targets (λ t. get nat_cmp c.in_ok-tiles.tiles t) c.in_ok-tiles.ensures c.follow.result
    (omega (arith, c.document_at.ensures.at, c.document_at.ensures.from)) both
