-- In the block part of one slot.
use Rattle.std.proofs.Common.{◌≡◌, ◌+◌, ℕ, nat_eq, sym, ◌∙◌, subst}
use Rattle.std.specs.Prelude.{◌↔◌, IsTrue}
use Rattle.cell_types.specs.Image.{Image}
use Rattle.cell_types.specs.Layout.{Layout}
use Rattle.tamper_rules.specs.Journals.{LiesInBlocks}
use Rattle.tamper_rules.specs.Rules.{ReserveCells}
use Rattle.log_audit.specs.Findings.{IsMetAll}
use Rattle.log_audit.specs.Logs.{IsLog}
use Rattle.log_audit.specs.declared.log.Log.{Log}
use Rattle.log_audit.proofs.Holders.{log_in_row, one_holder, owner_holds}
use Rattle.log_audit.proofs.Orders.{is_same, same_is}
use Rattle.tree_audit.specs.Leading.{IsOwned}

module _ {g : Layout} {image : Image} {log : Log} (met : IsMetAll g image ReserveCells) (is : IsLog g image log) where
  -- a cell lies in the block part of one slot at most
  pub one_owner : (m n cell : ℕ) → LiesInBlocks g image m cell → LiesInBlocks g image n cell → m ≡ n
  one_owner m n cell a b = one_holder (log_in_row g image log is met) m n (owner_holds is a) (owner_holds is b)

  pub owned_by : {target first last : ℕ} → LiesInBlocks g image first target → LiesInBlocks g image last (target + 255)
      → (IsTrue (nat_eq first last) ↔ IsOwned g image target)
  owned_by {target} {first} {last} a b = (
    λ same. record {
      owner = first;
      first = a;
      last = subst (λ (m : ℕ). LiesInBlocks g image m (target + 255)) (sym (same_is first last same)) b;
    },
    λ owned. is_same first last (one_owner first owned.owner target a owned.first
        ∙ one_owner owned.owner last (target + 255) owned.last b),
  )
