-- Each by its lemma.
use Rattle.volume_audit.proofs.Comes.{settles_first}
use Rattle.command_laws.proofs.Formatting.{format_leaves}
use Rattle.command_laws.proofs.Queries.{query_leaves, settling_leaves}
use Rattle.command_laws.proofs.laws.commands_leave_what_is_held.Goals as goal

pub returns : goal.returns
returns c = λ old new device device_new begins. record {
  formats = λ g result size does. format_leaves g old new size device begins does.called does.only result does.ends;
  settles = settling_leaves old new device device_new begins;
  searches = λ terms result does. query_leaves old new device device_new begins does.comes;
  looks = λ id from to result does. query_leaves old new device device_new begins does.comes;
  audits = λ result does. query_leaves old new device device_new begins (settles_first does.comes);
}
