-- A block meets it from before, or from behind, or none does.
use Rattle.std.proofs.Common.{refl, sym, arith}
use Rattle.log_audit.specs.Kept.{image_of_kept}
use Rattle.log_audit.proofs.Deciding.{decided_no, decided_yes, no}
use Rattle.tree_audit.proofs.Meeting.{alone, between_same, not_alone_before, not_alone_behind, turned}
use Rattle.tree_audit.proofs.Occupying.{are_told}
use Rattle.tree_audit.proofs.occupied.is_alone.Goals as goal

pub returns-then-has_between : goal.returns-then-has_between
returns-then-has_between c = no (not_alone_before c.args._geometry.now (image_of_kept c.args._kept.now) (are_told _ _ c.requires.blocks)
    c.args.target c.requires.room c.args.list (omega (arith, c.ranges.list.fits))
    (omega (arith, c.from-first.ensures)) (omega (arith, c.from.ensures, c.from-2.ensures))
    (between_same c.deref.ensures.value (decided_yes _ c.has_between.ensures c.if-has_between.true)))

pub returns : goal.returns
returns c = turned c.has_between-2.result c.has_between-2.ensures
    (λ is has. not_alone_behind c.args._geometry.now (image_of_kept c.args._kept.now) (are_told _ _ c.requires.blocks)
    c.args.target c.requires.room c.args.list (omega (arith, c.ranges.list.fits))
    (omega (arith, c.from.ensures, c.from-2.ensures)) (omega (arith, c.from-3.ensures, c.from-4.ensures))
    (between_same (c.deref-2).ensures.value has) is)
    (λ none. alone c.args._geometry.now (image_of_kept c.args._kept.now) (are_told _ _ c.requires.blocks)
    c.args.target c.requires.room c.args.list (omega (arith, c.ranges.list.fits))
    (omega (arith, c.from-first.ensures)) (omega (arith, c.from.ensures, c.from-2.ensures)) refl
    (omega (arith, c.from-3.ensures, c.from-4.ensures))
    (λ h. decided_no _ c.has_between.ensures c.if-has_between.false (between_same (sym c.deref.ensures.value) h))
    (λ h. none (between_same (sym (c.deref-2).ensures.value) h)))
