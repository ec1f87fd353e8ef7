-- No posting stands there; it is the first; none stands before it; and one does.
use Rattle.std.proofs.Common.{inl, refl, arith}
use Rattle.log_audit.specs.Kept.{image_of_kept}
use Rattle.log_audit.proofs.Deciding.{no, yes}
use Rattle.list_audit.proofs.Ordered.{ordered_behind, none_before}
use Rattle.list_audit.proofs.entries.is_in_order.Goals as goal

pub returns-in_default : goal.returns-in_default
returns-in_default c = no (λ is. c.in_default.ensures.none is.p is.holds)

pub returns-then-place-eq0 : goal.returns-then-place-eq0
returns-then-place-eq0 c = yes (record { p = c.in-Some.posting; holds = c.in-Some.ensures.some; rises = inl (omega (arith, c.if-place-eq0.true)) })

pub returns-in_default-posting_at : goal.returns-in_default-posting_at
returns-in_default-posting_at c = no (none_before (omega (arith, c.if-place-eq0.false)) (c.in_default-posting_at).ensures.none)

pub returns : goal.returns
returns c = ordered_behind (image_of_kept c.args.kept.now) c.args.block c.args.place c.in-Some.posting c.in-Some-posting_at.before _ _
    (omega (arith, c.if-place-eq0.false)) c.in-Some.ensures.some c.in-Some-posting_at.ensures.some refl refl
