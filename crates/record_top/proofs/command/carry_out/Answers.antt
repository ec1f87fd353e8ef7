-- The command is the one that was asked for.
use Rattle.std.proofs.Common.{subst}
use Rattle.command_line.specs.Requests.{IsAskedFor, request_of}
use Rattle.command_line.specs.declared.words.Command.{Command}
use Rattle.record_top.proofs.command.carry_out.Goals as goal

pub returns-in-Ingest : goal.returns-in-Ingest
returns-in-Ingest g c = rw c.in-Ingest.is c.ingest_body.ensures

pub returns-in-Find : goal.returns-in-Find
returns-in-Find g c = rw c.in-Find.is c.find_documents.ensures

pub returns-in-LookUp : goal.returns-in-LookUp
returns-in-LookUp g c = rw c.in-LookUp.is c.lookup_document.ensures

pub returns-in-Replay : goal.returns-in-Replay
returns-in-Replay g c = rw c.in-Replay.is c.replay_script.ensures

pub exercise_volume-requires-clause-some : goal.exercise_volume-requires-clause-some
exercise_volume-requires-clause-some g c =
    (subst (λ (command : Command). IsAskedFor (request_of command)) c.in-Exercise.is c.requires).1.documents_word.from

pub exercise_volume-requires-clause-most : goal.exercise_volume-requires-clause-most
exercise_volume-requires-clause-most g c =
    (subst (λ (command : Command). IsAskedFor (request_of command)) c.in-Exercise.is c.requires).1.documents_word.to

pub returns-in-Check : goal.returns-in-Check
returns-in-Check g c = rw c.in-Check.is c.check_source.ensures

pub returns-in-MakeReceipt : goal.returns-in-MakeReceipt
returns-in-MakeReceipt g c = rw c.in-MakeReceipt.is c.put_receipt.ensures

pub find_between-requires : goal.find_between-requires
find_between-requires g c =
    (subst (λ (command : Command). IsAskedFor (request_of command)) c.in-FindBetween.is c.requires).1.order

pub returns-in-FindBetween : goal.returns-in-FindBetween
returns-in-FindBetween g c = rw c.in-FindBetween.is c.find_between.ensures
