-- What a blank or sound image holds comes first in what each such image that extends it holds.
use Rattle.std.proofs.Common.{◌≡◌, ◌<◌, ◌≤◌, ◌+◌, ◌⊎◌, ⊎_elim, inl, inr, ℕ, List, [], ◌∷◌, ◌++◌, Some, None, refl, sym, ap, ◌∙◌, subst, arith}
use Rattle.std.specs.Prelude.{Contains}
use Rattle.std.proofs.lemmas.List.Elements.{Contains-append_left, Contains-append_right, Contains-append_cases}
use Rattle.std.proofs.lemmas.Option.{none-some}
use Rattle.std.proofs.lemmas.Bool.{cases_lt}
use Rattle.cell_types.specs.Image.{Image, Extends}
use Rattle.cell_types.specs.Layout.{Layout, lists_at, outcome_at, reserve_at}
use Rattle.volume_meaning.specs.Documents.{AreDocuments, Document, IsDocument, Rise}
use Rattle.volume_meaning.specs.Slots.{IsAbandonedSlot, IsDoneSlot}
use Rattle.volume_meaning.specs.Volumes.{IsVolume, IsWritten}
use Rattle.volume_meaning.proofs.Extending.{volume_on}
use Rattle.tamper_rules.specs.Settling.{AbandonRow, After, DoneRow, IsSettled, JournalRow, abandoned, completed, nothing}
use Rattle.tamper_rules.proofs.Between.{after_keeps, in_log}
use Rattle.tamper_rules.proofs.DocumentLists.{only_one, the_one}
use Rattle.tamper_rules.proofs.GivenUp.{one_layout, stands_inside}
use Rattle.tamper_rules.proofs.SameDocuments.{document_down_at, document_up, reserve_stood}
use Rattle.tamper_rules.proofs.Settled.{some_horizon, written}
use Rattle.tamper_rules.proofs.SettlingGoesOn.{target_behind_log}

among : (d : Document) (ds : List Document) (x : Document) → Contains (d ∷ ds) x → (x ≡ d) ⊎ Contains ds x
among d ds x has = ⊎_elim (λ (one : Contains (d ∷ []) x). inl (only_one d x one)) (λ (rest : Contains ds x). inr rest)
    (Contains-append_cases (d ∷ []) ds x has)

head_in : (d : Document) (ds : List Document) → Contains (d ∷ ds) d
head_in d ds = Contains-append_left (d ∷ []) ds d (the_one d)

rest_in : (d : Document) (ds : List Document) (x : Document) → Contains ds x → Contains (d ∷ ds) x
rest_in d ds x has = Contains-append_right (d ∷ []) ds x has

same_slot : {d e : Document} → d ≡ e → d.slot ≡ e.slot
same_slot same = ap (λ (x : Document). x.slot) same

-- a list that rises from a number has no lower slot
rises_from : (from : ℕ) (ds : List Document) → Rise from ds → (x : Document) → Contains ds x → from ≤ x.slot
rises_from from [] rise x has = absurd (omega (arith, has.1))
rises_from from (d ∷ ds) rise x has = ⊎_elim
    (λ (same : x ≡ d). omega (arith, same_slot same, rise.0))
    (λ (rest : Contains ds x). omega (arith, rises_from (d.slot + 1) ds rise.1 x rest, rise.0))
    (among d ds x has)

module _ (from : ℕ) (d : Document) (ds : List Document) (e : Document) (es : List Document) (p : Rise from (d ∷ ds))
    (q : Rise from (e ∷ es)) (up : (x : Document) → Contains (d ∷ ds) x → Contains (e ∷ es) x)
    (down : (x y : Document) → Contains (e ∷ es) x → Contains (d ∷ ds) y → x.slot < y.slot → Contains (d ∷ ds) x) where
  heads_same : d ≡ e
  heads_same = ⊎_elim (λ (same : d ≡ e). same)
      (λ (behind : Contains es d).
      let high : e.slot + 1 ≤ d.slot = rises_from (e.slot + 1) es q.1 d behind in
      ⊎_elim (λ (same : e ≡ d). sym same)
      (λ (after : Contains ds e). absurd (omega (arith, high, rises_from (d.slot + 1) ds p.1 e after)))
      (among d ds e (down e d (head_in e es) (head_in d ds) (omega (arith, high)))))
      (among e es d (up d (head_in d ds)))

  up_behind : (x : Document) → Contains ds x → Contains es x
  up_behind x has = ⊎_elim
      (λ (same : x ≡ e). absurd (omega (
        arith,
        same_slot same,
        same_slot heads_same,
        rises_from
            (d.slot + 1) ds p.1 x has,
      )))
      (λ (rest : Contains es x). rest)
      (among e es x (up x (rest_in d ds x has)))

  down_behind : (x y : Document) → Contains es x → Contains ds y → x.slot < y.slot → Contains ds x
  down_behind x y has low less = ⊎_elim
      (λ (same : x ≡ d). absurd (omega (
        arith,
        same_slot same,
        same_slot heads_same,
        rises_from
            (e.slot + 1) es q.1 x has,
      )))
      (λ (rest : Contains ds x). rest)
      (among d ds x (down x y (rest_in e es x has) (rest_in d ds y low) less))

-- A list by rising slot begins with another one, where it has each document of that one, and none else below one of
-- them.
begins_with : (from : ℕ) (ds es : List Document) → Rise from ds → Rise from es
    → ((x : Document) → Contains ds x → Contains es x)
    → ((x y : Document) → Contains es x → Contains ds y → x.slot < y.slot → Contains ds x)
    → (more : List Document) × (es ≡ ds ++ more)
begins_with from [] es p q up down = (es, refl)
begins_with from (d ∷ ds) [] p q up down = absurd (let h = up d (head_in d ds) in omega (arith, h.1))
begins_with from (d ∷ ds) (e ∷ es) p q up down =
    let same = heads_same from d ds e es p q up down in
    let rest = begins_with (d.slot + 1) ds es p.1 (subst (λ (x : Document). Rise (x.slot + 1) es) (sym same) q.1)
    (up_behind from d ds e es p q up down) (down_behind from d ds e es p q up down)
    in
    (rest.0, ap (λ (x : Document). x ∷ es) (sym same) ∙ ap (λ (l : List Document). d ∷ l) rest.1)

-- of two sound images of one volume
module _ {g : Layout} {lower upper a b : Image} (v : IsVolume g.cells lower g) (e : Extends lower upper)
    (x : After g.cells lower a) (y : After g.cells upper b) (sa : IsSettled g a) (sb : IsSettled g b) where
  va : IsVolume g.cells a g
  va = volume_on (after_keeps x) v

  module _ (d : Document) (t : IsDocument g.cells a d.slot d.id d.body) (m : ℕ) (less : m < d.slot) where
    inside : d.slot < g.slots
    inside = stands_inside va t.stands

    inside_m : m < g.slots
    inside_m = omega (arith, less, inside)

    -- the slot behind it is taken before settling
    next_stood : IsWritten lower (reserve_at (m + 1))
    next_stood =
        let here : IsWritten a (reserve_at (m + 1)) = ⊎_elim
        (λ (below : m + 1 < d.slot). t.taken (m + 1) below)
        (λ (last : d.slot ≤ m + 1).
        let same : d.slot ≡ m + 1 = omega (arith, last, less) in
        subst (λ (k : ℕ). IsWritten a (reserve_at k)) same (written t.stands.done.commits.reserves))
        (cases_lt (m + 1) d.slot)
        in
        record {
          found = here.found;
          stands = reserve_stood x (m + 1) here.found g (omega (arith, less, inside)) v here.stands;
        }

    outcome_written : IsWritten a (outcome_at m)
    outcome_written =
        let u = some_horizon g a sa in
        ⊎_elim
        (λ (given : IsAbandonedSlot g a a m).
        let h = given.abandoned.abandons.outcome in record { found = h.cell; stands = h.stands })
        (λ (done : IsDoneSlot g a m).
        let h = done.done.commits.outcome in record { found = h.cell; stands = h.stands })
        (sa.ended u.0 m u.1
        (let high = in_log g a sa u.0 u.1 d.slot inside (written t.stands.done.commits.reserves) in omega
        (arith, high, less)))

    stood : After g.cells lower a → lower (outcome_at m) ≡ Some outcome_written.found
    stood (nothing s same) = sym (same (outcome_at m)) ∙ outcome_written.stands
    stood (abandoned k n start reserved volume h r w) = ⊎_elim (λ was. was)
        (λ (row : AbandonRow n (outcome_at m) outcome_written.found). absurd (
        let same : n ≡ m = omega (arith, row.at) in
        let one : k ≡ g = one_layout k g volume v in
        let free : lower (reserve_at (m + 1)) ≡ None = subst (λ (i : ℕ). lower (reserve_at (i + 1)) ≡ None) same
        (h.is.free (subst (λ (j : Layout). n + 1 < j.slots) (sym one) (omega (arith, same, less, inside)))) in
        none-some _ (sym free ∙ next_stood.stands)))
        (w.only (outcome_at m) outcome_written.found outcome_written.stands)
    stood (completed k n start reserved bytes journal volume h c ready w) = ⊎_elim (λ was. was)
        (λ rows. absurd (⊎_elim
        (λ (row : JournalRow lower start reserved journal (outcome_at m) outcome_written.found).
        let same : k ≡ g = one_layout k g volume v in
        let far : lists_at k ≤ outcome_at m = target_behind_log ready.in_order row.copies in
        let low : outcome_at m < lists_at k = subst (λ (j : Layout). outcome_at m < lists_at j) (sym same)
        (let z : outcome_at m < lists_at g = omega (arith, inside_m) in z) in
        omega (arith, far, low))
        (λ (row : DoneRow n (outcome_at m) outcome_written.found). omega (arith, row.at)) rows))
        (w.only (outcome_at m) outcome_written.found outcome_written.stands)

    -- a slot below that of a document had its outcome before settling
    outcome_stood : IsWritten lower (outcome_at m)
    outcome_stood = record { found = outcome_written.found; stands = stood x }

  -- of what settling makes of the later image, each document below one of the earlier is one of the earlier
  none_between : (c d : Document) → IsDocument g.cells b c.slot c.id c.body → IsDocument g.cells a d.slot d.id d.body
      → c.slot < d.slot → IsDocument g.cells a c.slot c.id c.body
  none_between c d later t less = document_down_at v e x y sa sb c (outcome_stood d t c.slot less) later

  pub first_of_both : (ds es : List Document) → AreDocuments g.cells a ds → AreDocuments g.cells b es
      → (more : List Document) × (es ≡ ds ++ more)
  first_of_both ds es low high = begins_with 0 ds es low.rise high.rise
      (λ d among_low. (high.each d).0 (document_up v e x y sb d ((low.each d).1 among_low)))
      (λ c d among_high among_low less.
      (low.each c).0 (none_between c d ((high.each c).1 among_high) ((low.each d).1 among_low) less))
