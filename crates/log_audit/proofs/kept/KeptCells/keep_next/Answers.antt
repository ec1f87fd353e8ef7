-- A blank cell more, and a written one.
use Rattle.std.proofs.Common.{◌∙◌, ◌+◌, ◌++◌, ◌∷◌, [], ℕ, refl, ap, arith}
use Rattle.log_audit.specs.AllRows.{all_rows}
use Rattle.log_audit.proofs.OneMore.{kept_blank, kept_more, next_blank, next_written}
use Rattle.log_audit.proofs.kept.KeptCells.keep_next.Goals as goal

pub invariant_of-self : goal.invariant_of-self
invariant_of-self c = record { kept = kept_blank c.begin_page.new.self.kept (omega (arith, c.requires, c.in_ok-begin_page.ensures.count)) }

pub returns-in_default : goal.returns-in_default
returns-in_default c = next_blank c.in_default.is (ap (λ (n : ℕ). n + 1) c.in_ok-begin_page.ensures.count)
    (ap all_rows c.in_ok-begin_page.ensures.rows)

pub invariant_of-self-2 : goal.invariant_of-self-2
invariant_of-self-2 c = record {
  kept = kept_more c.begin_page.new.self.kept (record { number = c.begin_page.new.self.count; cell = c.in-Some.cell }) refl c.bytes-bytes.ensures.cell
      (omega (arith, c.requires, c.in_ok-begin_page.ensures.count)) c.in_ok-push.ensures.adds;
}

pub returns : goal.returns
returns c = next_written (record { number = c.begin_page.new.self.count; cell = c.in-Some.cell }) c.in-Some.is
    c.in_ok-begin_page.ensures.count (ap (λ (n : ℕ). n + 1) c.in_ok-begin_page.ensures.count)
    (c.in_ok-push.ensures.adds ∙ ap (λ v. all_rows v ++ (record { number = c.begin_page.new.self.count; cell = c.in-Some.cell }) ∷ []) c.in_ok-begin_page.ensures.rows)
