-- What stands now is settled, and what was found is of just these.
use Rattle.std.proofs.Common.{Ok, refl}
use Rattle.command_laws.proofs.HeldAnswers.{just_these, stand_now}
use Rattle.command_laws.proofs.laws.finds_tell_what_is_held.Goals as goal

pub returns : goal.returns
returns c = λ terms old new matches documents device device_new begins does held.
    let stand = stand_now old new device device_new begins matches documents held (Ok matches) refl does.comes in (
      stand.1,
      just_these old new device device_new begins stand.0 documents stand.1 terms matches.items
          (does.ends begins.tells),
    )
