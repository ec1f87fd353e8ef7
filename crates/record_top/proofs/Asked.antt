-- Words ask for one copy at most.
use Rattle.std.proofs.Common.{◌≡◌, ℕ, List, Result, sym, subst, ap, ◌∙◌}
use Rattle.cell_types.specs.declared.refusal.CopyRefusal.{CopyRefusal}
use Rattle.worm_device.specs.State.{DeviceState}
use Rattle.host_ports.specs.Sinks.{SinkState}
use Rattle.command_line.specs.Words.{digits_value}
use Rattle.command_line.proofs.Listed.{second_is, third_is}
use Rattle.record_top.specs.Copying.{AsksToCopy, DoesCopy}

-- words ask for one number of slots at most, and for one of lists
pub asks_once : (words : List (List ℕ)) (slots lists slots' lists' : ℕ) → AsksToCopy words slots lists
    → AsksToCopy words slots' lists' → (slots ≡ slots') × (lists ≡ lists')
asks_once words slots lists slots' lists' a b =
    let same = sym a.asked ∙ b.asked in (
      a.slots_word.number.value ∙ ap digits_value (second_is _ _ _ _ _ _ same) ∙ sym b.slots_word.number.value,
      a.lists_word.number.value ∙ ap digits_value (third_is _ _ _ _ _ _ same) ∙ sym b.lists_word.number.value,
    )

module _ (from from' to to' : DeviceState) (old new : SinkState) (result : Result Unit CopyRefusal) where
  -- so what is done by the numbers that were read is what the words ask for
  pub does_asked : (words : List (List ℕ)) (slots lists slots' lists' : ℕ) → AsksToCopy words slots lists
      → AsksToCopy words slots' lists' → DoesCopy slots lists from from' to to' old new result
      → DoesCopy slots' lists' from from' to to' old new result
  does_asked words slots lists slots' lists' a b does =
      let one = asks_once words slots lists slots' lists' a b in
      subst (λ (n : ℕ). DoesCopy slots' n from from' to to' old new result) one.1
      (subst (λ (n : ℕ). DoesCopy n lists from from' to to' old new result) one.0 does)
