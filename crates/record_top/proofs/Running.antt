-- What a call does whose words ask for a request, and that carries it out.
use Rattle.std.proofs.Common.{◌≡◌, ℕ, List, Result, Err, subst}
use Rattle.cell_types.specs.declared.refusal.Refusal.{Refusal}
use Rattle.cell_types.specs.declared.refusal.Refusal.TheVariants.{Usage}
use Rattle.worm_device.specs.State.{IsDevice}
use Rattle.command_line.specs.Requests.{Asks, Request}
use Rattle.command_line.proofs.OneRequest.{asks_once}
use Rattle.volume_commands.specs.Ports.{Ports}
use Rattle.record_top.specs.Commands.{Does}
use Rattle.record_top.specs.Runs.{Runs}
use Rattle.record_top.proofs.Asking.{called_of, completes, is_used}
use Rattle.record_top.proofs.Steadily.{leaves_whole}

module _ (words : List (List ℕ)) (old new : Ports) (device : IsDevice old.device) (device_new : IsDevice new.device)
    (asked : Request) (asks : Asks words asked) (result : Result Unit Refusal) (does : Does asked old new result) where
  never : result ≡ Err Usage → ⊥
  never is = is_used old new asked (subst (λ (r : Result Unit Refusal). Does asked old new r) is does)

  -- the words ask for one request alone
  done : (request : Request) → Asks words request → Does request old new result
  done request also =
      subst (λ (r : Request). Does r old new result) (asks_once words asked request asks also) does

  pub runs : Runs words old new result
  runs = record {
    called = called_of old new asked result does;
    usage = (λ is. absurd (never is), λ none. absurd (none asked asks));
    unused = λ is. absurd (never is);
    does = done;
    complete = λ request also free. completes old new device device_new request result (done request also) free;
    steady = λ request also begins.
        leaves_whole old new device device_new begins request result (done request also);
  }
