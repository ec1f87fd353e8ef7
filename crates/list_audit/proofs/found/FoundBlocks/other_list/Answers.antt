-- What stands beside the block.
use Rattle.std.proofs.Common.{ℕ, List, Option, Some, ◌≡◌, refl, subst, arith}
use Rattle.std.specs.Prelude.{slice_get}
use Rattle.std.proofs.lemmas.Option.{slice_get_read}
use Rattle.list_audit.proofs.found.FoundBlocks.other_list.Goals as goal

pub returns-in-Some : goal.returns-in-Some
returns-in-Some c = λ block here. c.requires.others c.args.turn block _ here
    (subst (λ (xs : List (Option ℕ)). slice_get xs c.args.turn ≡ Some c.in-Some.other.now) c.deref.ensures.value
    (slice_get_read c.deref.result.now _ c.args.turn c.in-Some.other.now refl (grind (arith, c.in-Some.ensures.lookup.0)) c.in-Some.ensures.lookup.1))
