-- The block is not full; or it is, and the target has a key of the span or not.
use Rattle.std.proofs.Common.{◌≡◌, ◌*◌, ◌^◌, arith}
use Rattle.std.proofs.Math.Nat.{mul-le-mul_left}
use Rattle.log_audit.specs.Kept.{image_of_kept}
use Rattle.log_audit.proofs.Deciding.{no}
use Rattle.tree_audit.proofs.Spanning.{in_front, not_full, spans_tell}
use Rattle.tree_audit.proofs.spans.is_in_span.Goals as goal

pub returns-in_default : goal.returns-in_default
returns-in_default c = no (not_full c.args._geometry.now (image_of_kept c.args.kept.now) c.requires.entries c.args.listed.now.list
    c.args.listed.now.block c.requires.block c.in_default.ensures.none c.args.level c.args.digit c.args.target)

pub overflow_mul-low : goal.overflow_mul-low
overflow_mul-low c =
    let most = mul-le-mul_left c.from-2.result c.span_width-width.ensures.most in
    omega (arith, most, c.from-2.ensures, c.requires.digit)

pub overflow_add-low : goal.overflow_add-low
overflow_add-low c =
    let most = mul-le-mul_left c.from-2.result c.span_width-width.ensures.most in
    omega (arith, most, c.from-2.ensures, c.requires.digit, c.from.ensures)

pub overflow_add-low-2 : goal.overflow_add-low-2
overflow_add-low-2 c =
    let most = mul-le-mul_left c.from-2.result c.span_width-width.ensures.most in
    omega (arith, most, c.from-2.ensures, c.requires.digit, c.from.ensures, c.span_width-width.ensures.most)

pub returns : goal.returns
returns c =
    let g = c.args._geometry.now in let image = image_of_kept c.args.kept.now in
    let width = c.span_width-width.ensures.is in
    let product : c.from-2.result * c.span_width-width.result ≡ c.args.digit * 16 ^ c.args.level =
    (let digit = c.from-2.ensures in cc) in
    spans_tell g image c.requires.entries c.args.listed.now.list c.args.listed.now.block c.requires.block c.in-Some.greatest
    c.in-Some.ensures.some c.requires.target (in_front g image c.requires.entries c.args.listed.now.list c.args.target c.requires.target)
    c.requires.level c.requires.some c.requires.digit
    (omega (arith, product, c.from.ensures)) (omega (arith, width)) c.has_key_between.result c.has_key_between.ensures
