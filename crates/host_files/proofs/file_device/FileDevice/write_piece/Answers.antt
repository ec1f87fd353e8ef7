-- The file is asked for the row, and takes it at once where all of it is blank.
use Rattle.std.proofs.Common.{rules, ◌*◌, length, take, subst, arith, Ok, Err}
use Rattle.std.proofs.lemmas.List.{length-take}
use Rattle.cell_types.proofs.Passed.{handed}
use Rattle.host_files.specs.File.{WritesPlaces}
use Rattle.host_files.specs.Over.{state_over}
use Rattle.host_files.proofs.RowAsked.{asked_row, row_taken, row_done, row_failed, stands_after, mirror_after, row_unread, row_behind}
use Rattle.host_files.proofs.file_device.FileDevice.write_piece.Goals as goal

pub returns-in_err-read_at : goal.returns-in_err-read_at
returns-in_err-read_at g c =
    rw (handed c.from_residual.result c.in_err-read_at.field-0.0 c.from_residual.ensures.1)
    (row_unread c.args.self.now.cells c.args.self.now.reads c.args.at c.args.values.now c.read_at.new.into
    (16 * c.from-from.result) (g.F.HostFile.state c.args.self.now.file) (g.F.HostFile.state c.read_at.new.self)
    c.in_err-read_at.field-0.0 c.in_err-read_at.ensures)

pub returns-then-not-are_zeros : goal.returns-then-not-are_zeros
returns-then-not-are_zeros g c = row_behind c.args.self.now.cells c.args.self.now.reads c.args.at c.args.values.now
    c.read_at.new.into (16 * c.from-from.result) (g.F.HostFile.state c.args.self.now.file)
    (g.F.HostFile.state c.read_at.new.self) (state_over c.write_each.new.self) c.write_each.result
    c.in_ok-read_at.ensures c.write_each.ensures

pub invariant_of-self-2-clause-stands : goal.invariant_of-self-2-clause-stands
invariant_of-self-2-clause-stands g c =
    stands_after (asked_row c.from-from.ensures c.requires.inside c.args.self.now.inside
    (g.met.F.HostFile.proper c.args.self.now.file) (search rules) (c.are_zeros.ensures c.if-not-are_zeros.false) c.in_ok-read_at.ensures) (take (16 * length c.args.values.now) c.fill.new.bytes)
    (row_taken c.args.values.now c.fill.new.bytes c.fill.ensures)
    (omega (arith, length-take (16 * length c.args.values.now) c.fill.new.bytes, c.fill.array_long, c.requires.page)) c.write_places.result
    (subst (λ n. WritesPlaces (16 * n) (take (16 * length c.args.values.now) c.fill.new.bytes)
    (g.F.HostFile.state c.read_at.new.self) (g.F.HostFile.state c.write_places.new.self) c.write_places.result)
    c.from-from.ensures c.write_places.ensures)
    c.args.self.now.stands

pub invariant_of-self-2-clause-mirror : goal.invariant_of-self-2-clause-mirror
invariant_of-self-2-clause-mirror g c =
    mirror_after (asked_row c.from-from.ensures c.requires.inside c.args.self.now.inside
    (g.met.F.HostFile.proper c.args.self.now.file) (search rules) (c.are_zeros.ensures c.if-not-are_zeros.false) c.in_ok-read_at.ensures) (take (16 * length c.args.values.now) c.fill.new.bytes)
    (row_taken c.args.values.now c.fill.new.bytes c.fill.ensures)
    (omega (arith, length-take (16 * length c.args.values.now) c.fill.new.bytes, c.fill.array_long, c.requires.page))
    c.forget.new.self.pages.items c.write_places.result
    (subst (λ n. WritesPlaces (16 * n) (take (16 * length c.args.values.now) c.fill.new.bytes)
    (g.F.HostFile.state c.read_at.new.self) (g.F.HostFile.state c.write_places.new.self) c.write_places.result)
    c.from-from.ensures c.write_places.ensures)
    c.requires.page c.forget.ensures.gone
    (λ t is. c.forget.ensures.same c.args.self.now.cells t.now.bytes (c.args.self.now.mirror t is))

pub returns-in_err-write_places : goal.returns-in_err-write_places
returns-in_err-write_places g c =
    rw (handed c.from_residual-in_err-write_places.result c.in_err-write_places.field-0.0
    c.from_residual-in_err-write_places.ensures.1)
    (row_failed (asked_row c.from-from.ensures c.requires.inside c.args.self.now.inside
    (g.met.F.HostFile.proper c.args.self.now.file) (search rules) (c.are_zeros.ensures c.if-not-are_zeros.false) c.in_ok-read_at.ensures) (take (16 * length c.args.values.now) c.fill.new.bytes)
    (row_taken c.args.values.now c.fill.new.bytes c.fill.ensures)
    (omega (arith, length-take (16 * length c.args.values.now) c.fill.new.bytes, c.fill.array_long, c.requires.page)) c.args.self.now.reads
    c.in_err-write_places.field-0.0
    (subst (λ n. WritesPlaces (16 * n) (take (16 * length c.args.values.now) c.fill.new.bytes)
    (g.F.HostFile.state c.read_at.new.self) (g.F.HostFile.state c.write_places.new.self)
    (Err c.in_err-write_places.field-0.0))
    c.from-from.ensures c.in_err-write_places.ensures))

pub returns : goal.returns
returns g c =
    row_done (asked_row c.from-from.ensures c.requires.inside c.args.self.now.inside
    (g.met.F.HostFile.proper c.args.self.now.file) (search rules) (c.are_zeros.ensures c.if-not-are_zeros.false) c.in_ok-read_at.ensures) (take (16 * length c.args.values.now) c.fill.new.bytes)
    (row_taken c.args.values.now c.fill.new.bytes c.fill.ensures)
    (omega (arith, length-take (16 * length c.args.values.now) c.fill.new.bytes, c.fill.array_long, c.requires.page)) c.args.self.now.reads
    c.in_ok-write_places.field-0
    (subst (λ n. WritesPlaces (16 * n) (take (16 * length c.args.values.now) c.fill.new.bytes)
    (g.F.HostFile.state c.read_at.new.self) (g.F.HostFile.state c.write_places.new.self)
    (Ok c.in_ok-write_places.field-0))
    c.from-from.ensures c.in_ok-write_places.ensures)
