-- How answers of the device and of the engines become replies.
use Rattle.cell_types.specs.declared.refusal.Refusal.{Refusal}
use Rattle.cell_types.specs.declared.refusal.Refusal.TheVariants as refusals
use Rattle.worm_device.specs.declared.device.Written.{Written}
use Rattle.worm_device.specs.declared.device.Written.TheVariants as written
use Rattle.script_replies.specs.declared.reply.Reply.{Reply}
use Rattle.script_replies.specs.declared.reply.Reply.TheVariants as reply

-- the refusal that a look-up into memory is answered: a sink without room is want of memory
abbrev pub without_sink : Refusal → Refusal
without_sink refusals.SinkFault = refusals.NoMemory
without_sink refusal = refusal

-- the reply to a foreign write
abbrev pub reply_of_foreign : Written → Reply
reply_of_foreign written.Done = reply.ForeignDone
reply_of_foreign (written.Taken found) = reply.ForeignTaken found
