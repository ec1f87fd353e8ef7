-- A number of three parts is taken apart.
use Rattle.std.proofs.Common.{◌≡◌, ℕ, List, ap, arith}
use Rattle.list_audit.specs.Tables.{number_of}
use Rattle.list_audit.proofs.Tabling.{same_posting}
use Rattle.list_audit.proofs.table.listed_in.Goals as goal

pub returns : goal.returns
returns c = λ l p fits is.
    let number : c.args.row.now.0 ≡ number_of l p.key p.last = ap (λ (x : ℕ × List ℕ). x.0) is in
    let tag : c.args.row.now.1 ≡ p.tag = ap (λ (x : ℕ × List ℕ). x.1) is in (
      omega (arith, number, fits.list, fits.key, fits.last),
      same_posting _ p (omega (arith, number, fits.list, fits.key, fits.last)) (omega (arith, number, fits.list, fits.key, fits.last)) tag,
    )
