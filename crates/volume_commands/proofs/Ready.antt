-- Why a receipt that was put out is accepted later.
use Rattle.std.proofs.Common.{ℕ, List, Result, Ok, Err, refl, subst, sym}
use Rattle.std.specs.Prelude.{IsTrue}
use Rattle.cell_types.specs.declared.refusal.Refusal.{Refusal}
use Rattle.cell_types.specs.declared.refusal.Refusal.TheVariants as refusals
use Rattle.worm_device.proofs.Images.{extends_then}
use Rattle.receipt_text.specs.Form.{IsReceiptOn, text_of_receipt}
use Rattle.receipt_text.specs.declared.receipt.Receipt.{Receipt}
use Rattle.receipt_check.specs.Checks.{ShowsDocument}
use Rattle.receipt_check.specs.Making.{MakesReceipt}
use Rattle.command_laws.proofs.Results.{no_answer}
use Rattle.volume_commands.specs.Checking.{IsReadyToCheck}
use Rattle.volume_commands.specs.Laws.{IsGivenLater, ReceiptsAreReady}
use Rattle.volume_commands.specs.Ports.{Ports, PutsOut, TellsFromMemory}
use Rattle.volume_commands.specs.Receipting.{made, misnamed}

module _ (id : List ℕ) (old new : Ports) (tells : IsTrue old.device.tells) where
  ready : (answer : Result Receipt Refusal) → MakesReceipt id old.device new.device answer
      → TellsFromMemory text_of_receipt answer old new (Ok tt)
      → (r : Receipt) × (body : List ℕ) × PutsOut (text_of_receipt r) old new
      × ((before after : Ports) → IsGivenLater (text_of_receipt r) new before after
      → IsReadyToCheck r body before after)
  ready (Err refusal) makes told = absurd told
  ready (Ok r) makes told =
      let is = makes.ends.1 in (
        r,
        is.body,
        told,
        λ before after later. record {
          is_receipt = subst (λ (n : ℕ). IsReceiptOn n r) (sym later.cells) makes.ends.0;
          shows = subst (λ (n : ℕ). ShowsDocument n r is.body) (sym later.cells) is.shows;
          tells = later.tells;
          stand = extends_then (is.stand tells) later.image;
          source = later.source;
          no_device_fault = later.no_device_fault;
          no_source_fault = later.no_source_fault;
          no_sink_fault = later.no_sink_fault;
        },
      )

pub receipts_are_ready : ReceiptsAreReady
receipts_are_ready id old new (misnamed bad is same) tells =
    absurd (no_answer (Ok tt) tt refusals.BadIdentifier refl is)
receipts_are_ready id old new (made answer name makes source told) tells = ready id old new tells answer makes told
