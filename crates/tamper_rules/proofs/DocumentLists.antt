-- The list of a volume's documents.
use Rattle.std.proofs.Common.{◌≡◌, ◌<◌, ◌≤◌, ◌+◌, ⊎_elim, inr, ℕ, suc, zero, List, [], ◌∷◌, ◌++◌, refl, sym, ◌∙◌, subst, ap, arith, length}
use Rattle.std.specs.Prelude.{Contains, ◌↔◌}
use Rattle.std.proofs.lemmas.List.Elements.{Contains-append_left, Contains-append_right, Contains-append_cases}
use Rattle.std.proofs.lemmas.Option.{none-some}
use Rattle.std.proofs.lemmas.Bool.{cases_order}
use Rattle.cell_types.specs.Image.{Image}
use Rattle.cell_types.specs.Layout.{Layout, reserve_at, outcome_at}
use Rattle.cell_types.specs.declared.record_cell.RecordCell.TheVariants.{Commit, Abandon}
use Rattle.volume_meaning.specs.Documents.{Document, Rise, IsDocument, AreDocuments, Spells, Stands, stored_bytes, document_at}
use Rattle.tamper_rules.specs.Rules
use Rattle.tamper_rules.specs.Rules.{DocumentRule, HasDocument}
use Rattle.tamper_rules.specs.Settling.{IsSettled, Settled}
use Rattle.volume_meaning.specs.Slots.{IsDone, IsAbandonedSlot, IsDoneSlot, IsHorizon}
use Rattle.volume_meaning.specs.Volumes.{IsWritten, IsVolume}
use Rattle.volume_meaning.proofs.Holding.{one_record_holds}
use Rattle.tamper_rules.proofs.GivenUp.{no_abandon, stands_inside}
use Rattle.volume_meaning.proofs.KeepingLaws.{documents}
use Rattle.volume_meaning.proofs.OneDocument.{one_document}
use Rattle.tamper_rules.proofs.Settled.{written, taken_below, taken_to, some_horizon}
use Rattle.tamper_rules.proofs.Writing.{same_or_not}

-- one more document behind the others
pub rise_last : (from : ℕ) (ds : List Document) (d : Document) → Rise from ds
    → ((e : Document) → Contains ds e → e.slot < d.slot) → from ≤ d.slot → Rise from (ds ++ d ∷ [])
rise_last from [] d r less le = (le, tt)
rise_last from (e ∷ ds) d r less le = (
  r.0,
  rise_last (e.slot + 1) ds d r.1 (λ x c. less x (suc c.0, omega (arith, c.1), c.2))
      (let h : e.slot < d.slot = less e (zero, omega arith, refl) in omega arith),
)

pub only_one : (d e : Document) → Contains (d ∷ []) e → e ≡ d
only_one d e (zero, low, is) = sym is
only_one d e (suc k, low, is) = absurd (omega (arith, low))

pub the_one : (d : Document) → Contains (d ∷ []) d
the_one d = (zero, omega arith, refl)

-- these are the documents of the slots below k
record AreBelow (cells : ℕ) (image : Image) (k : ℕ) (ds : List Document) : Type 0 where
  rise : Rise 0 ds
  each : (d : Document) → (IsDocument cells image d.slot d.id d.body × (d.slot < k)) ↔ Contains ds d

module _ {g : Layout} {image : Image} (v : IsVolume g.cells image g) (s : IsSettled g image) (u : ℕ)
    (h : IsHorizon g image image u) where
  no_stands : {k : ℕ} {id body : List ℕ} → IsAbandonedSlot g image image k → Stands g.cells image k id body → ⊥
  no_stands {k} {id} {body} a t = no_abandon (length (stored_bytes id body)) t.journal
      (one_record_holds image (outcome_at k) (Commit (length (stored_bytes id body)) t.journal) Abandon
      t.done.commits.outcome a.abandoned.abandons.outcome)

  pub done_stands : {k : ℕ} → IsDoneSlot g image k → (id : List ℕ) × (body : List ℕ) × Stands g.cells image k id body
  done_stands {k} e =
      let r : DocumentRule g image k = s.met Rules.Documents (outcome_at k)
      (record { found = e.done.commits.outcome.cell; stands = e.done.commits.outcome.stands }) k
      e.done.commits.reserves.slot refl in
      let d : HasDocument image (document_at e.start e.length e.bytes e.journal) e.bytes =
      r e.start e.length e.bytes e.journal (record { commits = e.done.commits; done = inr e.done.done }) in (
        d.id,
        d.body,
        record {
          layout = g;
          start = e.start;
          reserved = e.length;
          journal = e.journal;
          volume = v;
          slot = e.done.commits.reserves.slot;
          done = subst (λ (n : ℕ). IsDone g image k e.start e.length n e.journal) d.count e.done;
          spells = subst (λ (n : ℕ). Spells image (document_at e.start e.length n e.journal)
              (stored_bytes d.id d.body)) d.count d.spells;
          is_identifier = d.is_identifier;
          is_body = d.is_body;
        },
      )

  without : {k : ℕ} {ds : List Document} → AreBelow g.cells image k ds → IsAbandonedSlot g image image k
      → AreBelow g.cells image (suc k) ds
  without {k} {ds} b a = record {
    rise = b.rise;
    each = λ d. (
      λ t. (b.each d).0 (
        t.0,
        lower d.slot (λ same. no_stands a
            (subst (λ (n : ℕ). Stands g.cells image n d.id d.body) same (t.0).stands)) t.1,
      ),
      λ c. let x = (b.each d).1 c in (x.0, omega (arith, x.1)),
    );
  }
    where
      lower : (n : ℕ) → (n ≡ k → ⊥) → n < suc k → n < k
      lower n other less = omega arith

  with_one : {k : ℕ} {ds : List Document} → AreBelow g.cells image k ds → k < u → (id body : List ℕ)
      → Stands g.cells image k id body
      → AreBelow g.cells image (suc k) (ds ++ record { slot = k; id = id; body = body } ∷ [])
  with_one {k} {ds} b less id body t =
      let last : Document = record { slot = k; id = id; body = body } in
      record {
        rise = rise_last 0 ds last b.rise (λ e c. let x = (b.each e).1 c in x.1) (omega arith);
        each = λ d. (
          λ x. ⊎_elim
              (λ same.
              let e = one_document g.cells image k d.id d.body id body
              (subst (λ (n : ℕ). Stands g.cells image n d.id d.body) same (x.0).stands) t in
              subst (λ (y : Document). Contains (ds ++ last ∷ []) y) (sym (documents d last same e.0 e.1))
              (Contains-append_right ds (last ∷ []) last (the_one last)))
              (λ other. Contains-append_left ds (last ∷ []) d ((b.each d).0 (x.0, lower d.slot other x.1)))
              (same_or_not d.slot k),
          λ c. ⊎_elim
              (λ l. let x = (b.each d).1 l in (x.0, omega (arith, x.1)))
              (λ r. let same = only_one last d r in
              subst (λ (y : Document). IsDocument g.cells image y.slot y.id y.body × (y.slot < suc k)) (sym same)
              (record { stands = t; taken = λ m below. taken_to g image s u h m (omega arith) }, omega arith))
              (Contains-append_cases ds (last ∷ []) d c),
        );
      }
    where
      lower : (n : ℕ) → (n ≡ k → ⊥) → n < suc k → n < k
      lower n other less = omega arith

  up_to : (k : ℕ) → k ≤ u → (ds : List Document) × AreBelow g.cells image k ds
  up_to zero le = (
    [],
    record {
      rise = tt;
      each = λ d. (λ t. absurd (omega (arith, t.1)), λ c. absurd (omega (arith, c.1)));
    },
  )
  up_to (suc k) le =
      let before = up_to k (omega arith) in
      ⊎_elim
      (λ (a : IsAbandonedSlot g image image k). (before.0, without before.1 a))
      (λ (e : IsDoneSlot g image k). let d = done_stands e in
      (before.0 ++ record { slot = k; id = d.0; body = d.1 } ∷ [], with_one before.1 (omega arith) d.0 d.1 d.2))
      (s.ended u k h (omega arith))

  all_documents : (ds : List Document) × AreDocuments g.cells image ds
  all_documents = let x = up_to u (omega arith) in (
    x.0,
    record {
      rise = (x.1).rise;
      each = λ d. (
        λ t. ((x.1).each d).0 (
          t,
          (let inside : d.slot < g.slots = stands_inside v t.stands in let w = written
              t.stands.done.commits.reserves in lower d.slot inside w),
        ),
        λ c. (((x.1).each d).1 c).0,
      );
    },
  )
    where
      lower : (n : ℕ) → n < g.slots → IsWritten image (reserve_at n) → n < u
      lower n inside w = ⊎_elim (λ same. absurd (blank n same inside w))
          (λ differ. ⊎_elim (λ less. less) (λ above. absurd (over n above inside w)) differ) (cases_order n u)
        where
          blank : (n : ℕ) → n ≡ u → n < g.slots → IsWritten image (reserve_at n) → ⊥
          blank n same inside w =
              none-some _ (sym (h.free (omega arith)) ∙ ap (λ (i : ℕ). image (reserve_at i)) (sym same) ∙ w.stands)

          over : (n : ℕ) → u < n → n < g.slots → IsWritten image (reserve_at n) → ⊥
          over n above inside w =
              let x = taken_below g image s n inside w u above in none-some _ (sym (h.free (omega arith)) ∙ x.stands)

pub documents_exist : (cells : ℕ) (image : Image) → Settled cells image
    → (ds : List Document) × AreDocuments cells image ds
documents_exist cells image s =
    let g = s.layout in
    let v : IsVolume g.cells image g = subst (λ (c : ℕ). IsVolume c image g) (sym s.volume.size) s.volume in
    let u = some_horizon g image s.settled in
    subst (λ (c : ℕ). (ds : List Document) × AreDocuments c image ds) s.volume.size (all_documents v s.settled u.0 u.1)
