-- Rule 13 at a slot, by the postings of its document.
use Rattle.std.proofs.Common.{◌≡◌, ◌<◌, ◌↔◌, inr, ℕ, List, Option, Some, None, refl, subst, ap, arith}
use Rattle.std.specs.Prelude.{slice_get, IfSome, IfNone}
use Rattle.cell_types.specs.Image.{Image}
use Rattle.cell_types.specs.Layout.{Layout, all_lists, done_at, spare_at}
use Rattle.cell_types.specs.declared.record_cell.RecordCell.TheVariants.{Stamp}
use Rattle.document_store.specs.Standing.{HoldsDocument}
use Rattle.document_store.proofs.Holding.{held_stands, stands_held}
use Rattle.volume_meaning.specs.Postings.{ListedPosting, IsPostingOf}
use Rattle.volume_meaning.specs.Slots.{IsStampOf, Stores}
use Rattle.volume_meaning.specs.Volumes.{IsVolume}
use Rattle.volume_meaning.proofs.Holding.{one_record_holds}
use Rattle.tamper_rules.specs.Rules.{IsMet, Trails}
use Rattle.list_audit.specs.Bodies.{AreRowsOf, HasNoRows}
use Rattle.list_audit.specs.Keeping.{HaveTrails, KeepsTrailRule}

-- a slot has one stamp
pub one_stamp : (g : Layout) (image : Image) (n : ℕ) (a b : Option ℕ) → IsStampOf g image n a → IsStampOf g image n b → a ≡ b
one_stamp g image n None None p q = refl
one_stamp g image n None (Some s) p q = absurd (omega (arith, p, q.0))
one_stamp g image n (Some s) None p q = absurd (omega (arith, q, p.0))
one_stamp g image n (Some s) (Some t) p q =
    let e = one_record_holds image (spare_at n) (Stamp s) (Stamp t) p.1 q.1 in
    let same : s ≡ t = cc in ap Some same

module _ (g : Layout) (image : Image) (n : ℕ) where
  -- the lists of these postings are some of the volume's
  pub in_lists : {rows : List ListedPosting} (id body : List ℕ) → HoldsDocument g image n id body → AreRowsOf g image n rows
      → (i : ℕ) (row : ListedPosting) → slice_get rows i ≡ Some row → row.list < all_lists g
  in_lists id body holds are i row there = ((are id body holds).2.each i row there).0

  -- each has a trail just where the rule is kept
  pub kept_by : {rows : List ListedPosting} (id body : List ℕ) → HoldsDocument g image n id body → AreRowsOf g image n rows
      → HaveTrails g image rows ↔ KeepsTrailRule g image n
  kept_by {rows} id body holds are = (
    λ have a b h.
        let r = are a b h in
        record {
          postings = r.2.exist;
          stamp = r.0;
          is_stamp = r.1;
          trails = λ l p less is. let w = r.2.all l p less is in have w.0 (record { list = l; posting = p }) w.1;
        },
    λ keeps i row there.
        let r = are id body holds in
        let rule = keeps id body holds in
        let e = r.2.each i row there in
        rule.trails row.list row.posting e.0
        (subst (λ (stamp : Option ℕ). IsPostingOf g stamp body n row.list row.posting)
        (one_stamp g image n r.0 rule.stamp r.1 rule.is_stamp) e.1),
  )

  -- it is not kept where there are none
  pub broken_by : (id body : List ℕ) → HoldsDocument g image n id body → HasNoRows g image n → KeepsTrailRule g image n → ⊥
  broken_by id body holds none keeps = none id body holds (keeps id body holds).postings

  -- a slot that is not stored asks nothing
  pub not_stored : ((a b c d : ℕ) → Stores g image n a b c d → ⊥) → KeepsTrailRule g image n
  not_stored none id body h = absurd (none _ _ _ _ (record { commits = h.done.commits; done = inr h.done.done }))

module _ (g : Layout) (image : Image) (volume : IsVolume g.cells image g) where
  -- rule 13 at a cell, by the slot whose done cell it is
  pub rule_at : (cell : ℕ) → ((k : ℕ) → k < g.slots → cell ≡ done_at k → KeepsTrailRule g image k) → IsMet g image Trails cell
  rule_at cell each n id body at stands =
      let h = stands_held g g.cells image n id body volume stands in
      each n h.done.commits.reserves.slot at id body h

  pub rule_of : (cell n : ℕ) → cell ≡ done_at n → IsMet g image Trails cell → KeepsTrailRule g image n
  rule_of cell n at met id body h = met n id body at (held_stands g g.cells image n id body volume h)

-- what is said of an answer, where it is one, and where it is none
pub some_of : {A : Type 0} (P : A → Type 0) (answer : Option A) (x : A) → IfSome answer P → answer ≡ Some x → P x
some_of {A} P answer x said is = subst (λ (o : Option A). IfSome o P) is said

pub none_of : {A : Type 0} (P : Type 0) (answer : Option A) → IfNone answer P → answer ≡ None → P
none_of {A} P answer said is = subst (λ (o : Option A). IfNone o P) is said
