-- Why a receipt is accepted wherever its cells stand.
use Rattle.cell_types.specs.declared.refusal.NoMemory as lacks
use Rattle.std.proofs.Common.{◌≡◌, ◌⊎◌, inl, inr, ℕ, List, Some, Result, Ok, Err, refl}
use Rattle.worm_device.specs.Counts.{Rose}
use Rattle.receipt_text.specs.Listed.{listed_image}
use Rattle.receipt_check.specs.Checks.{CheckAnswer}
use Rattle.receipt_check.specs.Holding.{ReceiptsHoldOn}
use Rattle.receipt_check.specs.declared.checking.CheckRefusal.{CheckRefusal}
use Rattle.receipt_check.specs.declared.checking.CheckRefusal.TheVariants.{CellDiffers, DeviceFault, NoMemory, NotShown}
use Rattle.receipt_check.specs.declared.checking.Checked.{Checked}

pub hold_on : ReceiptsHoldOn
hold_on r body image old new result shows stand tells extends checks = go result checks.ends
  where
    stands : (c : ℕ) (value : List ℕ) → listed_image r.cells c ≡ Some value → new.image c ≡ Some value
    stands c value is = checks.called.image.keeps c value (extends.keeps c value (stand.keeps c value is))

    go : (result : Result Checked CheckRefusal) → CheckAnswer r old new result
        → ((done : Checked) × (result ≡ Ok done))
        ⊎ (((lack : lacks.NoMemory) × (result ≡ Err (NoMemory lack))) ⊎ ((result ≡ Err DeviceFault) × Rose old.faults new.faults))
    go (Ok done) ends = inl (done, refl)
    go (Err (CellDiffers c)) ends =
        let h = ends tells in
        absurd (h.differs (stands c h.value h.is))
    go (Err (NotShown n)) ends = absurd (ends.1 body shows)
    go (Err DeviceFault) ends = inr (inr (refl, ends))
    go (Err (NoMemory lack)) ends = inr (inl (lack, refl))
