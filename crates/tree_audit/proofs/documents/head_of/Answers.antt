-- The slot is not done; its document is always read; and what was read.
use Rattle.std.proofs.Common.{ℕ, length, inr, sym, subst}
use Rattle.volume_meaning.specs.Documents.{stored_bytes}
use Rattle.volume_meaning.specs.Volumes.{IsVolume}
use Rattle.document_store.proofs.Holding.{stands_held}
use Rattle.log_audit.specs.Kept.{image_of_kept, view_of}
use Rattle.log_audit.specs.KeptVolumes.{image_in}
use Rattle.log_audit.specs.declared.kept.KeptCells.{KeptCells}
use Rattle.tamper_rules.specs.Rules.{Documents}
use Rattle.log_audit.specs.Findings.{IsMetAll}
use Rattle.log_audit.specs.Logs.{IsLog}
use Rattle.log_audit.specs.Stored.{IsStored}
use Rattle.tree_audit.specs.Documents.{HasHead}
use Rattle.tree_audit.proofs.Reading.{head_is_read, head_was_read}
use Rattle.tree_audit.proofs.documents.head_of.Goals as goal

pub returns-in_default-clause-none : goal.returns-in_default-clause-none
returns-in_default-clause-none c = λ id body stands.
    let g = c.args.volume.now.geometry in
    let h = stands_held g g.cells (image_in c.args.volume.now) c.args.slot id body c.requires.stated stands in
    c.in_default.ensures.none h.start h.reserved (length (stored_bytes id body)) h.journal (record { commits = h.done.commits; done = inr h.done.done })

pub read_head-requires-clause-begins : goal.read_head-requires-clause-begins
read_head-requires-clause-begins c = c.new-position.ensures.begins (view_of c.new-shown.result.kept.now)

pub unreachable-requires : goal.unreachable-requires
unreachable-requires c =
    let g = c.args.volume.now.geometry in let log = c.args.volume.now.log in let s = c.in-Some.stored in
    let same = sym c.new-shown.ensures in
    let stored = subst (λ (k : KeptCells). IsStored g (image_of_kept k) s) same c.in-Some.ensures.some in
    let met = subst (λ (k : KeptCells). IsMetAll g (image_of_kept k) Documents) same c.requires.documents in
    head_is_read g log s c.document_at-start.result c.new-shown.result.kept.now c.read_head.new.view.kept.now stored c.document_at-start.ensures.at
    (c.in_default-read_head).ensures.viewed met c.read_head.new.position (c.in_default-read_head).field-0 (c.in_default-read_head).ensures.ends

pub returns-clause-some : goal.returns-clause-some
returns-clause-some c =
    let g = c.args.volume.now.geometry in let log = c.args.volume.now.log in let s = c.in-Some.stored in
    let same = sym c.new-shown.ensures in
    let stored = subst (λ (k : KeptCells). IsStored g (image_of_kept k) s) same c.in-Some.ensures.some in
    let volume = subst (λ (k : KeptCells). IsVolume g.cells (image_of_kept k) g) same c.requires.stated in
    let is = subst (λ (k : KeptCells). IsLog g (image_of_kept k) log) same c.args.volume.now.is_log in
    let met = subst (λ (k : KeptCells). IsMetAll g (image_of_kept k) Documents) same c.requires.documents in
    let head = head_was_read g log s c.document_at-start.result c.new-shown.result.kept.now c.read_head.new.view.kept.now stored c.document_at-start.ensures.at
    c.in-Ok.ensures.viewed volume is met c.read_head.new.position c.in-Ok.head c.in-Ok.ensures.ends in
    subst (λ (k : KeptCells). HasHead g (image_of_kept k) c.args.slot c.in-Ok.head) c.new-shown.ensures
    (subst (λ (n : ℕ). HasHead g (image_of_kept c.new-shown.result.kept.now) n c.in-Ok.head) c.in-Some.ensures.same head)
