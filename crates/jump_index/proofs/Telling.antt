-- Over a row of calls a view tells its image or not.
use Rattle.std.proofs.Common.{sym, subst}
use Rattle.std.specs.Prelude.{IsTrue}
use Rattle.worm_device.specs.Views.{ViewState, Viewed}

-- what told its image tells it still
pub told : {old new : ViewState} → Viewed old new → IsTrue old.base.tells → IsTrue new.base.tells
told viewed tells = subst IsTrue (sym viewed.called.tells) tells

-- what tells its image has told it before
pub told_before : {old new : ViewState} → Viewed old new → IsTrue new.base.tells → IsTrue old.base.tells
told_before viewed tells = subst IsTrue viewed.called.tells tells
