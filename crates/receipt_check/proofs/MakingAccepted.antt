-- Why a receipt that was made is accepted later.
use Rattle.std.proofs.Common.{ℕ, sym, subst}
use Rattle.receipt_check.specs.Checks.{ShowsDocument}
use Rattle.receipt_check.specs.Holding.{ReceiptsHoldOn}
use Rattle.receipt_check.specs.MakingLaws.{ReceiptsAreAccepted}

pub accepted : ReceiptsHoldOn → ReceiptsAreAccepted
accepted hold id old new before after r result makes tells told size extends checks =
    let made = makes.ends.1 in
    hold r made.body new.image before after result
    (subst (λ (c : ℕ). ShowsDocument c r made.body) (sym size) made.shows) (made.stand tells) told extends checks
