-- A look behind the places; a cell that is at its place, which is put behind the places too where it is asked for often.
use Rattle.std.proofs.Common.{◌∙◌, arith, inl, inr, refl, subst, sym, ⊎_elim}
use Rattle.std.proofs.lemmas.Option.{slice_get-get_or}
use Rattle.read_cache.specs.declared.cell_cache.CellCache.{CellCache}
use Rattle.read_cache.specs.Keeping.{HasNoOther}
use Rattle.read_cache.proofs.Recently.{asks_one, found_recent}
use Rattle.read_cache.proofs.cell_cache.CellCache.kept.Goals as goal
use Rattle.read_cache.proofs.cell_cache.CellCache.kept.Goals.{then-held-eq-OFTEN, else-held-eq-OFTEN}

pub returns-in_default-clause-others : goal.returns-in_default-clause-others
returns-in_default-clause-others c = λ at cell has. ⊎_elim (λ recent. inl recent)
    (λ entry. inr (c.kept_cell.ensures.others at cell entry)) has

pub returns-clause-found : goal.returns-clause-found
returns-clause-found c =
    let there = slice_get-get_or c.args.self.now.recent c.place_of-place.result c.index-self-place.result
    (omega (arith, c.place_of-place.ensures.inside)) in
    found_recent c.args.self.now c.args.at c.place_of-place.result _ c.in-Some.cell c.place_of-place.ensures.is there
    (sym c.cell_of.ensures ∙ c.in-Some.is)

pub returns-clause-others : goal.returns-clause-others
returns-clause-others c =
    let there = slice_get-get_or c.args.self.now.recent c.place_of-place.result c.index-self-place.result
    (omega (arith, c.place_of-place.ensures.inside)) in
    elim c.if-held-eq-OFTEN.branch [
      | then-held-eq-OFTEN w ↦ subst (λ (now : CellCache). HasNoOther c.args.self.now now) (sym w.self-is)
          (asks_one c.args.self.now.places c.args.self.now c.place_of-place.result c.args.at _ _ c.in-Some.cell
          w.keep.new.cells there (sym c.cell_of.ensures ∙ c.in-Some.is) refl refl w.keep.ensures)
      | else-held-eq-OFTEN w ↦ subst (λ (now : CellCache). HasNoOther c.args.self.now now) (sym w.self-is)
          (asks_one c.args.self.now.places c.args.self.now c.place_of-place.result c.args.at _ _ c.in-Some.cell
          c.args.self.now.cells there (sym c.cell_of.ensures ∙ c.in-Some.is) refl refl (λ n cell there. inl there))
    ]
