-- The bytes say that the slot is done.
use Rattle.commit_record.proofs.DoneBytes.{done_by_bytes}
use Rattle.commit_record.proofs.slot_bytes.done_stamp.Goals as goal

pub returns : goal.returns
returns c =
    done_by_bytes c.args.geometry.now c.args.slot c.args.bytes.now c.in_ok-length.length c.in_ok-seconds.seconds
    c.slots-slots.ensures.exists c.requires.slot c.requires.four (c.is_framed.ensures c.if-not-is_framed.false)
    c.in_ok-length.ensures (c.names_document.ensures c.if-not-names_document.false) c.in_ok-seconds.ensures
