-- The bytes are copied into their place.
use Rattle.std.proofs.Common.{arith, ◌≡◌, ◌∙◌, length, ap}
use Rattle.worm_device.proofs.CellBytes.{put_holds, put_others}
use Rattle.worm_device.proofs.row_bytes.put_found.Goals as goal

pub returns-clause-holds : goal.returns-clause-holds
returns-clause-holds c =
    let sixteen : length c.copy_from_slice.new.self ≡ 16 =
    ap length c.copy_from_slice.ensures.after ∙ c.bytes_of.ensures.sixteen in
    put_holds c.args.place _ _ c.args.bytes.now _ (omega arith) sixteen (omega (arith, c.requires))
    ∙ c.copy_from_slice.ensures.after ∙ c.bytes_of.ensures.same

pub returns-clause-others : goal.returns-clause-others
returns-clause-others c other apart =
    let sixteen : length c.copy_from_slice.new.self ≡ 16 =
    ap length c.copy_from_slice.ensures.after ∙ c.bytes_of.ensures.sixteen in
    put_others c.args.place _ _ other c.args.bytes.now _ (omega arith) (omega arith) sixteen
    (omega (arith, c.requires)) apart
