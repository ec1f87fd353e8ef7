-- The node is none of the tree, or it stands at a place, which is marked or not.
use Rattle.std.proofs.Common.{◌≡◌, ◌∙◌, ℕ, List, Some, true, false, ap, sym, subst, arith}
use Rattle.std.specs.Prelude.{slice_get, slice_index_or, Contains, IsTrue}
use Rattle.std.proofs.lemmas.List.{get_or_read}
use Rattle.std.proofs.lemmas.Option.{slice_get_within}
use Rattle.tree_audit.proofs.nodes.TreeNodes.is_last.Goals as goal

pub returns-in_default : goal.returns-in_default
returns-in_default c = (
  λ (h : IsTrue false). absurd (let both : false ≡ true = h in cc),
  λ node. absurd (c.in_default.ensures.none (subst (λ (xs : List ℕ). Contains xs c.from.result) (sym c.deref.ensures.value)
      (subst (Contains c.args.self.now.nodes.items) (sym c.from.ensures) ((c.requires.nodes.each c.args.node).1 (63, node))))),
)

pub index-requires : goal.index-requires
index-requires c = let inside = slice_get_within c.deref.result.now c.in-Some.place c.from.result c.in-Some.ensures.some in
    omega (arith, inside, c.deref.ensures.len, c.requires.last.count, c.args.self.now.nodes.ok, c.args.self.now.on_last.ok)

pub returns : goal.returns
returns c =
    let nodes = c.args.self.now.nodes.items in let marks = c.args.self.now.on_last.items in let place = c.in-Some.place in
    let there : slice_get nodes place ≡ Some c.args.node =
    subst (λ (xs : List ℕ). slice_get xs place ≡ Some c.args.node) c.deref.ensures.value
    (c.in-Some.ensures.some ∙ ap (λ (n : ℕ). Some n) c.from.ensures) in
    let inside = slice_get_within nodes place c.args.node there in
    let read : c.index.result.now ≡ slice_index_or marks place false =
    get_or_read marks place c.index.result.now (omega (arith, inside, c.requires.last.count)) c.index.ensures false in (
      λ h. (c.requires.last.each place c.args.node there).0 (sym read ∙ h),
      λ node. read ∙ (c.requires.last.each place c.args.node there).1 node,
    )
