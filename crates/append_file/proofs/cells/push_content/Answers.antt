-- Each turn makes the cell of the next 15 bytes, or of all that are left.
use Rattle.std.proofs.Common.{◌≡◌, ◌<◌, ℕ, length, take, drop, ◌∙◌, ap, rules}
use Rattle.cell_types.specs.Contents.{content_bytes}
use Rattle.append_file.proofs.CellsSoFar.{added_more, added_all, take_min, drop_min}
use Rattle.append_file.proofs.cells.push_content.Goals as goal

pub loop-rest-preserved : goal.loop-rest-preserved
loop-rest-preserved c =
    let some : 0 < length c.loop-rest.rest.now = search rules in
    let front : c.split_at.result.0.now ≡ take 15 c.loop-rest.rest.now = c.split_at.ensures.front ∙ ap (λ (n : ℕ). take n c.loop-rest.rest.now) c.min.ensures ∙ take_min 15 c.loop-rest.rest.now in
    let behind : c.split_at.result.1.now ≡ drop 15 c.loop-rest.rest.now = c.split_at.ensures.back ∙ ap (λ (n : ℕ). drop n c.loop-rest.rest.now) c.min.ensures ∙ drop_min 15 c.loop-rest.rest.now in
    let more = added_more c.args.bytes.now c.loop-rest.rest.now c.args.cells.now.items c.loop-rest.cells.items c.content.result c.loop-rest.invariant some (c.content.ensures ∙ ap content_bytes front) in
    rw (c.in_ok-push.ensures.items, behind) more

pub returns : goal.returns
returns c = added_all c.args.bytes.now c.loop-rest.rest.now c.args.cells.now.items c.loop-rest.cells.items c.loop-rest.invariant (search rules)
