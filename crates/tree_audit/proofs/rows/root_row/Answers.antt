-- The root is the one node of the first level.
use Rattle.std.proofs.Common.{◌∙◌, ◌++◌, ◌∷◌, [], List, ℕ, ap}
use Rattle.tree_audit.proofs.Closing.{root_level}
use Rattle.tree_audit.proofs.rows.root_row.Goals as goal

pub returns : goal.returns
returns c = root_level c.from.result _ (c.from.ensures ∙ c.root_at.ensures.at)
    (c.in_ok-push.ensures.items ∙ ap (λ (xs : List ℕ). xs ++ c.from.result ∷ []) c.new-row.ensures.items)
