-- A plan adds its document behind the others.
use Rattle.std.proofs.Common.{◌<◌, ⊎_elim, ℕ, List, [], ◌∷◌, ◌++◌, sym, subst, arith}
use Rattle.std.specs.Prelude.{Contains}
use Rattle.std.proofs.lemmas.List.Elements.{Contains-append_left, Contains-append_right, Contains-append_cases}
use Rattle.cell_types.specs.Image.{Image}
use Rattle.cell_types.specs.Layout.{Layout}
use Rattle.volume_meaning.specs.Documents.{Document, IsDocument, AreDocuments, Stands}
use Rattle.ingest_laws.specs.Filling.{IsWellPlanned}
use Rattle.ingest_laws.specs.Ingesting.{Plan}
use Rattle.volume_meaning.proofs.Extending.{document_on}
use Rattle.ingest_laws.proofs.Filled.{keeps, stands_back}
use Rattle.volume_meaning.proofs.KeepingLaws.{documents}
use Rattle.volume_meaning.proofs.OneDocument.{one_document}
use Rattle.ingest_laws.proofs.PlanSettled.{plan_is_settled, mine_live}
use Rattle.tamper_rules.proofs.Settled.{written, taken_below, below_horizon}
use Rattle.tamper_rules.proofs.Writing.{same_or_not}
use Rattle.tamper_rules.proofs.DocumentLists.{rise_last, only_one, the_one}
use Rattle.tamper_rules.proofs.GivenUp.{stands_inside}

module _ {g : Layout} {old new : Image} {p : Plan} (w : IsWellPlanned g old new p) where
  mine : Document
  mine = record { slot = p.slot; id = p.id; body = p.body }

  old_below : {n : ℕ} {id body : List ℕ} → Stands g.cells old n id body → n < p.slot
  old_below {n} t = below_horizon g old w.filled.before p.slot n w.filled.reserves.slot w.filled.horizon
      (stands_inside w.filled.volume t) (written t.done.commits.reserves)

  pub adds_one : (ds : List Document) → AreDocuments g.cells old ds
      → AreDocuments g.cells new (ds ++ record { slot = p.slot; id = p.id; body = p.body } ∷ [])
  adds_one ds are =
      let stands : Stands g.cells new p.slot p.id p.body = (plan_is_settled w).1 in
      let last : Document = record { slot = p.slot; id = p.id; body = p.body } in
      record {
        rise = rise_last 0 ds last are.rise (λ e c. old_below ((are.each e).1 c).stands) (omega arith);
        each = λ d. (
          λ t. ⊎_elim
              (λ same.
              let e = one_document g.cells new p.slot d.id d.body p.id p.body
              (subst (λ (n : ℕ). Stands g.cells new n d.id d.body) same t.stands) stands in
              subst (λ (x : Document). Contains (ds ++ last ∷ []) x) (sym (documents d last same e.0 e.1))
              (Contains-append_right ds (last ∷ []) last (the_one last)))
              (λ other.
              let b = stands_back w.filled other t.stands in
              Contains-append_left ds (last ∷ []) d ((are.each d).0 (record {
                stands = b;
                taken = taken_below g old w.filled.before d.slot (stands_inside w.filled.volume b)
                    (written b.done.commits.reserves);
              })))
              (same_or_not d.slot p.slot),
          λ c. ⊎_elim
              (λ l. document_on (keeps w.filled) ((are.each d).1 l))
              (λ r. subst (λ (x : Document). IsDocument g.cells new x.slot x.id x.body) (sym (only_one last d r))
              (record { stands = stands; taken = (mine_live w).taken }))
              (Contains-append_cases ds (last ∷ []) d c),
        );
      }
