use Rattle.std.proofs.Common.{arith, ◌≡◌, ◌∙◌, length, ap}
use Rattle.worm_device.proofs.CellBytes.{put_holds, put_others}
use Rattle.host_files.proofs.page.put_at.Goals as goal

-- what was copied is the cell, which has sixteen bytes
sixteen : (c : goal.After-copy_from_slice) → length c.copy_from_slice.new.self ≡ 16
sixteen c = ap length (c.copy_from_slice.ensures.after ∙ c.bytes.ensures.same) ∙ c.bytes.ensures.cell.sixteen

pub returns-clause-holds : goal.returns-clause-holds
returns-clause-holds c =
    put_holds c.args.place _ _ c.args.bytes.now _ c.first_byte-from.ensures (sixteen c) (omega (arith, c.told-bytes))
    ∙ c.copy_from_slice.ensures.after ∙ c.bytes.ensures.same

pub returns-clause-others : goal.returns-clause-others
returns-clause-others c other apart =
    put_others c.args.place _ _ other c.args.bytes.now _ c.first_byte-from.ensures (omega arith) (sixteen c)
    (omega (arith, c.told-bytes)) apart
