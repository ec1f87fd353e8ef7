-- By two lists of each block, and by all.
use Rattle.std.proofs.Common.{List, sym, subst, arith}
use Rattle.log_audit.specs.KeptVolumes.{image_in}
use Rattle.tamper_rules.specs.Rules.{Entries, Postings}
use Rattle.log_audit.specs.Least.{FindsPart}
use Rattle.list_audit.specs.Blocks.{AreOfLists, AreRising, AskedOf}
use Rattle.list_audit.specs.Deciding.{AreDecided}
use Rattle.list_audit.specs.declared.listed.ListBlock.{ListBlock}
use Rattle.list_audit.proofs.EachBlock.{all_decide, decided}
use Rattle.list_audit.proofs.Sharing.{two_owe}
use Rattle.list_audit.specs.Owing.{BlockOwes}
use Rattle.list_audit.proofs.Owing.{rule_owes, block_owes}
use Rattle.list_audit.proofs.postings.first_broken_posting.Goals as goal

pub are_decided-requires-clause-rising : goal.are_decided-requires-clause-rising
are_decided-requires-clause-rising c = subst AreRising (sym c.deref.ensures.value) c.requires.blocks.rising

pub least_fake-requires-clause-blocks : goal.least_fake-requires-clause-blocks
least_fake-requires-clause-blocks c = let volume = c.args.volume.now in
    subst (AreOfLists volume.geometry (image_in volume)) (sym c.deref-then-are_decided.ensures.value) c.requires.blocks.taken.each

pub least_fake-requires-2-clause-blocks : goal.least_fake-requires-2-clause-blocks
least_fake-requires-2-clause-blocks c = let volume = c.args.volume.now in
    subst (AreOfLists volume.geometry (image_in volume)) (sym c.deref-2.ensures.value) c.in_ok-all.ensures.taken.each

pub returns-then-are_decided : goal.returns-then-are_decided
returns-then-are_decided c = let volume = c.args.volume.now in
    let g = volume.geometry in let image = image_in volume in let rows : List ListBlock = c.args.blocks.now.blocks.items in
    decided g image Postings rows (BlockOwes g image) c.requires.blocks.taken.each
    (two_owe g image c.args.blocks.now c.requires.blocks
    (subst (AreDecided g image) c.deref.ensures.value (c.are_decided.ensures c.if-are_decided.true)) (c.requires.met Entries (omega arith))) _
    (subst (λ (blocks : List ListBlock). FindsPart g image Postings (AskedOf blocks (BlockOwes g image)) c.least_fake.result)
    c.deref-then-are_decided.ensures.value c.least_fake.ensures)
    (rule_owes g image volume.log c.requires.stated volume.is_log) (block_owes g image volume.log c.requires.stated volume.is_log)

pub returns : goal.returns
returns c = let volume = c.args.volume.now in
    let g = volume.geometry in let image = image_in volume in let rows : List ListBlock = c.in_ok-all.all.blocks.items in
    decided g image Postings rows (BlockOwes g image) c.in_ok-all.ensures.taken.each (all_decide (BlockOwes g image) c.in_ok-all.ensures) _
    (subst (λ (blocks : List ListBlock). FindsPart g image Postings (AskedOf blocks (BlockOwes g image)) c.least_fake-2.result)
    c.deref-2.ensures.value c.least_fake-2.ensures)
    (rule_owes g image volume.log c.requires.stated volume.is_log) (block_owes g image volume.log c.requires.stated volume.is_log)
