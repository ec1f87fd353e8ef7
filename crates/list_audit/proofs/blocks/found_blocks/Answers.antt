-- One block more was followed; and no block is left.
use Rattle.std.proofs.Common.{sym, ◌∙◌, ap, arith, length, List}
use Rattle.std.proofs.lemmas.Option.{slice_get_past}
use Rattle.log_audit.specs.Kept.{image_of_kept}
use Rattle.list_audit.specs.declared.listed.ListBlock.{ListBlock}
use Rattle.list_audit.proofs.Closing.{all_found}
use Rattle.list_audit.proofs.Following.{followed_by, none_yet, turn_by}
use Rattle.list_audit.proofs.blocks.found_blocks.Goals as goal

pub loop-turn-init : goal.loop-turn-init
loop-turn-init c = (
  c.in_ok-found.ensures.mode,
  c.in_ok-found.ensures.closed (image_of_kept c.args.kept.now),
  c.in_ok-found.ensures.found,
  none_yet c.none-followed.ensures,
)

pub add_targets-requires-clause-followed : goal.add_targets-requires-clause-followed
add_targets-requires-clause-followed c = followed_by (sym c.loop-turn.invariant.0) c.loop-turn.invariant.3

pub loop-turn-preserved : goal.loop-turn-preserved
loop-turn-preserved c = let same = c.loop-turn.invariant.0 in
    let another = c.other_list-other.ensures c.in-Some.from (sym c.at.ensures ∙ c.in-Some.is) in
    let turn = turn_by same c.in_ok-add_targets.ensures.closed c.in_ok-add_targets.ensures.followed c.in_ok-add_targets.ensures.leads (omega arith)
    (c.in_ok-add.ensures c.loop-turn.found.for_two another) in
    (c.add_targets.ensures.mode ∙ same, turn.0, c.in_ok-add_targets.ensures.found, turn.1)

pub returns-in_default-clause-taken : goal.returns-in_default-clause-taken
returns-in_default-clause-taken c = all_found c.loop-turn.invariant.1 (sym c.at.ensures ∙ c.in_default.is)

-- Each had its turn.
pub returns-clause-taken : goal.returns-clause-taken
returns-clause-taken c = all_found c.loop-turn.invariant.1
    (slice_get_past c.loop-turn.found.blocks.items c.loop-turn.turn
    (omega (
      arith,
      c.loop-turn-test.false,
      c.in_ok-count_of.ensures.few,
      ap (λ (l : List ListBlock). length l) c.deref.ensures.value,
    )))
