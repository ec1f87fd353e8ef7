-- An image at which each rule is kept is settled.
use Rattle.std.proofs.Common.{◌≡◌, ◌<◌, ℕ, zero, suc, Option, Some, None, refl, sym, ◌∙◌, arith}
use Rattle.std.specs.Prelude.{slice_get}
use Rattle.std.proofs.lemmas.Option.{none-some}
use Rattle.cell_types.specs.Image.{Image}
use Rattle.cell_types.specs.Layout.{Layout, reserve_at}
use Rattle.volume_meaning.specs.Slots.{HasEnded, IsHorizon}
use Rattle.volume_meaning.specs.Volumes.{IsWritten}
use Rattle.tamper_rules.specs.Settling.{IsSettled}
use Rattle.log_audit.specs.Findings.{AreMetBelow}
use Rattle.log_audit.specs.Logs.{IsLog}
use Rattle.log_audit.specs.declared.ended.EndedSlot.{EndedSlot}
use Rattle.log_audit.specs.declared.log.Log.{Log}
use Rattle.log_audit.proofs.Beginning.{has_ended}
use Rattle.log_audit.proofs.Logged.{past_end}
use Rattle.log_audit.proofs.Numbers.{below_16}

-- each slot below a horizon is one of the log
all_ended : (g : Layout) (image : Image) (log : Log) → IsLog g image log → (u m : ℕ) → IsHorizon g image image u → m < u
    → HasEnded g image image m
all_ended g image log is zero m h less = absurd (omega (arith, less))
all_ended g image log is (suc k) m h less = at (slice_get log.slots.items m) refl
  where
    at : (found : Option EndedSlot) → slice_get log.slots.items m ≡ found → HasEnded g image image m
    at (Some slot) some = has_ended g image m slot (is.each m slot some).0
    at None none =
        let last : IsWritten image (reserve_at k) = h.below k (omega arith) in
        let past = past_end log.slots.items m none in
        absurd (none-some last.found (sym (is.free k (omega (arith, past, less)) (omega (arith, h.most))) ∙ last.stands))

pub is_settled : (g : Layout) (image : Image) (log : Log) → IsLog g image log → AreMetBelow g image 16 → IsSettled g image
is_settled g image log is met = record {
  met = λ rule. below_16 met rule;
  ended = λ u m h less. all_ended g image log is u m h less;
}
