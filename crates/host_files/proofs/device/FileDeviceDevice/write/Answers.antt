use Rattle.std.proofs.Common.{◌≡◌, arith, ◌*◌, Ok, Err, refl, ap, length, subst, sym, ◌∙◌}
use Rattle.std.proofs.lemmas.Bool.{false≢true}
use Rattle.host_files.specs.File.{ReadsAt, WritesAt, patched}
use Rattle.host_files.specs.Pages.{PagesHold}
use Rattle.host_files.proofs.Writing.{writes_unasked, writes_taken}
use Rattle.host_files.proofs.Stores.{Asked, asked_at, stands_put, mirror_put, stands_failed, mirror_failed, mirror_taken, writes_done, writes_failed}
use Rattle.host_files.proofs.device.FileDeviceDevice.write.Goals as goal
use Rattle.host_files.proofs.device.FileDeviceDevice.write.Goals.{After-put-in-Ok, After-forget}

pub returns-in_err-read_at : goal.returns-in_err-read_at
returns-in_err-read_at g c =
    let old = g.F.HostFile.state c.args.self.now.file in
    let new = g.F.HostFile.state c.read_at.new.self in
    writes_unasked c.args.self.now.cells c.args.self.now.reads c.args.at c.args.value c.read_at.new.into old new
    c.read_at.result
    c.in_err-read_at.field-0.0 c.from_residual.result c.in_err-read_at.was c.from_residual.ensures.0
    (subst (λ n. ReadsAt (16 * n) c.read_at.new.into old new c.read_at.result) c.from-from.ensures c.read_at.ensures)

-- the file was asked, and then the write answered
asked_done : (g : _) (c : After-put-in-Ok g) → Asked c.args.self.now.cells c.args.at c.read_at.new.into
    (g.F.HostFile.state c.args.self.now.file) (g.F.HostFile.state c.read_at.new.self)
asked_done g c =
    asked_at c.from-from.ensures c.requires c.args.self.now.inside (g.met.F.HostFile.proper c.args.self.now.file)
    (c.in_default.ensures.blank.0 refl) c.in_ok-read_at.ensures

done : (g : _) (c : After-put-in-Ok g)
    → WritesAt (16 * c.args.at) c.bytes-bytes.result (g.F.HostFile.state c.read_at.new.self)
    (g.F.HostFile.state c.write_at.new.self) (Ok tt)
done g c =
    subst (λ n. WritesAt (16 * n) c.bytes-bytes.result (g.F.HostFile.state c.read_at.new.self)
    (g.F.HostFile.state c.write_at.new.self) (Ok tt))
    c.from-from.ensures c.in-Ok.ensures

pub invariant_of-self-in-Ok-clause-stands : goal.invariant_of-self-in-Ok-clause-stands
invariant_of-self-in-Ok-clause-stands g c =
    stands_put (asked_done g c) c.bytes-bytes.result (g.F.HostFile.state c.write_at.new.self)
    (ap length c.bytes-bytes.ensures.same ∙ c.bytes-bytes.ensures.cell.sixteen) (done g c).left
    c.args.self.now.stands

pub invariant_of-self-in-Ok-clause-mirror : goal.invariant_of-self-in-Ok-clause-mirror
invariant_of-self-in-Ok-clause-mirror g c =
    let self = c.args.self.now in
    mirror_put (asked_done g c) c.bytes-bytes.result (g.F.HostFile.state c.write_at.new.self) self.pages.pages.items
    c.put-in-Ok.new.self.pages.items (done g c).left self.mirror
    (λ bytes room held.
    subst (λ p. PagesHold self.cells (patched (16 * c.args.at) p bytes) c.put-in-Ok.new.self.pages.items)
    (sym c.bytes-bytes.ensures.same)
    (c.put-in-Ok.ensures self.cells bytes room c.bytes-bytes.ensures.cell.sixteen held))

pub returns-in-Ok : goal.returns-in-Ok
returns-in-Ok g c =
    writes_done (asked_done g c.before) c.args.self.now.reads c.args.value c.bytes-bytes.result
    (g.F.HostFile.state c.write_at.new.self)
    c.bytes-bytes.ensures.cell c.bytes-bytes.ensures.same (done g c.before)

-- and where it failed
asked_failed : (g : _) (c : After-forget g) → Asked c.args.self.now.cells c.args.at c.read_at.new.into
    (g.F.HostFile.state c.args.self.now.file) (g.F.HostFile.state c.read_at.new.self)
asked_failed g c =
    asked_at c.from-from.ensures c.requires c.args.self.now.inside (g.met.F.HostFile.proper c.args.self.now.file)
    (c.in_default.ensures.blank.0 refl) c.in_ok-read_at.ensures

failed : (g : _) (c : After-forget g)
    → WritesAt (16 * c.args.at) c.bytes-bytes.result (g.F.HostFile.state c.read_at.new.self)
    (g.F.HostFile.state c.write_at.new.self) (Err c.in-Err.failed)
failed g c =
    subst (λ n. WritesAt (16 * n) c.bytes-bytes.result (g.F.HostFile.state c.read_at.new.self)
    (g.F.HostFile.state c.write_at.new.self) (Err c.in-Err.failed))
    c.from-from.ensures c.in-Err.ensures

pub invariant_of-self-in-Err-clause-stands : goal.invariant_of-self-in-Err-clause-stands
invariant_of-self-in-Err-clause-stands g c =
    stands_failed (asked_failed g c) c.bytes-bytes.result (g.F.HostFile.state c.write_at.new.self) (failed g c).left
    c.args.self.now.stands

pub invariant_of-self-in-Err-clause-mirror : goal.invariant_of-self-in-Err-clause-mirror
invariant_of-self-in-Err-clause-mirror g c =
    let self = c.args.self.now in
    mirror_failed (asked_failed g c) c.bytes-bytes.result (g.F.HostFile.state c.write_at.new.self)
    self.pages.pages.items c.forget.new.self.pages.items
    (failed g c).left self.mirror
    (λ bytes held. c.forget.ensures.same self.cells bytes held)
    (λ put bytes room sixteen held. c.forget.ensures.put put self.cells bytes room sixteen held)

pub returns-in-Err : goal.returns-in-Err
returns-in-Err g c =
    writes_failed (asked_failed g c.before) c.args.self.now.reads c.args.value c.bytes-bytes.result
    (g.F.HostFile.state c.write_at.new.self) c.in-Err.failed
    c.bytes-bytes.ensures.cell c.bytes-bytes.ensures.same (failed g c.before)

-- what was found is put onto its page
pub invariant_of-self-in-Some-clause-mirror : goal.invariant_of-self-in-Some-clause-mirror
invariant_of-self-in-Some-clause-mirror g c =
    let self = c.args.self.now in
    let old = g.F.HostFile.state self.file in
    let mid = g.F.HostFile.state c.read_at.new.self in
    let found = c.in-Some.found in
    let same : found ≡ c.read_at.new.into = c.in-Some.ensures.same in
    let sixteen : length found ≡ 16 = ap length same ∙ omega arith in
    mirror_taken self.cells c.args.at found old mid self.pages.pages.items c.put.new.self.pages.items c.requires
    self.inside
    (g.met.F.HostFile.proper self.file) sixteen
    (subst (λ bytes. ReadsAt (16 * c.args.at) bytes old mid (Ok tt)) (sym same)
    (subst (λ n. ReadsAt (16 * n) c.read_at.new.into old mid (Ok tt)) c.from-from.ensures c.in_ok-read_at.ensures))
    self.mirror
    (λ bytes room held. c.put.ensures self.cells bytes room sixteen held)

-- it is what stands there
pub returns-in-Some : goal.returns-in-Some
returns-in-Some g c =
    let self = c.args.self.now in
    let found = c.in-Some.found in
    let same : found ≡ c.read_at.new.into = c.in-Some.ensures.same in
    writes_taken self.cells self.reads c.args.at c.args.value found (g.F.HostFile.state self.file)
    (g.F.HostFile.state c.read_at.new.self) c.requires
    (λ zeros. false≢true (sym (c.in-Some.ensures.blank.1 (sym same ∙ zeros))))
    (ap length same ∙ omega arith)
    (subst (λ bytes. ReadsAt (16 * c.args.at) bytes (g.F.HostFile.state self.file)
    (g.F.HostFile.state c.read_at.new.self) (Ok tt)) (sym same)
    (subst (λ n. ReadsAt (16 * n) c.read_at.new.into (g.F.HostFile.state self.file)
    (g.F.HostFile.state c.read_at.new.self) (Ok tt)) c.from-from.ensures c.in_ok-read_at.ensures))
