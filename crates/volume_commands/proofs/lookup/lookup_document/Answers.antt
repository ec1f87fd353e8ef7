-- Each exit, by how far the command came.
use Rattle.std.proofs.Common.{Ok, Err, refl, rules}
use Rattle.cell_types.proofs.Passed.{handed}
use Rattle.volume_commands.specs.LookingUp.{looked}
use Rattle.volume_commands.proofs.lookup.lookup_document.Goals as goal

-- the look-up was ended, or found none
pub returns-in_err-lookup_into : goal.returns-in_err-lookup_into
returns-in_err-lookup_into g c =
    let refusal = c.in_err-lookup_into.field-0.0 in
    rw (handed c.from_residual.result refusal c.from_residual.ensures.1)
    (looked (Err refusal) (c.is_identifier.ensures.0 (search rules)) c.in_err-lookup_into.ensures refl refl)

-- the body was put out
pub returns : goal.returns
returns g c =
    looked (Ok c.in_ok-lookup_into.field-0) (c.is_identifier.ensures.0 (search rules)) c.in_ok-lookup_into.ensures refl
    refl
