-- What a plan names is licensed on the device, which stands below what was planned.
use Rattle.std.proofs.Common.{◌≡◌, ◌≢◌, ◌≤◌, ⊎_elim, inl, inr, ℕ, List, Option, Some, ap, sym, subst, arith, ◌∙◌}
use Rattle.std.specs.Prelude.{IsTrue, slice_get}
use Rattle.std.proofs.lemmas.Bool.{cases_eq}
use Rattle.cell_types.specs.Image.{Image, IsUnchanged}
use Rattle.cell_types.specs.Layout.{Layout}
use Rattle.cell_types.specs.declared.refusal.Evidence.{Evidence}
use Rattle.volume_meaning.specs.Slots.{IsEdge, IsHorizon}
use Rattle.volume_meaning.specs.Volumes.{IsVolume}
use Rattle.tamper_rules.specs.Rules.{Children, IsBroken, IsPlaceOf}
use Rattle.tamper_rules.specs.declared.numbers.TheConstants.{FAKE_POSTING}
use Rattle.volume_meaning.specs.Postings.{HasPostings, ListedPosting}
use Rattle.worm_device.specs.Counts.{IsStill}
use Rattle.worm_device.specs.State.{DeviceState}
use Rattle.worm_device.specs.Views.{IsView, ViewState}
use Rattle.worm_device.specs.declared.owner.Owner.{Owner}
use Rattle.hash_tree.specs.Levels.{IsChildPlace, IsLedWithin}
use Rattle.hash_tree.specs.declared.level.ChildCell.{ChildCell}
use Rattle.hash_tree.specs.declared.level.Level.{Level}
use Rattle.hash_tree.specs.declared.path.Open.{Open}
use Rattle.jump_insertion.specs.Evidence.{AreInTheirPlaces, IsInItsPlace, IsLicensedBelow, IsPastSlots, NothingBelowPlans, ShowsBelow, bad_entry, bad_pointer, late, of_list, of_new, of_tree}
use Rattle.jump_insertion.proofs.Licence.{licensed}
use Rattle.hash_tree.specs.Inserting.{IsPlaceTaken}
use Rattle.hash_tree.specs.InsertionLaws.{LiesByOwner, in_block, in_new, in_node}
use Rattle.hash_tree.proofs.InsertionLicence as tree
use Rattle.ingest_plan.specs.Indexes.{IsIndexEvidence, in_list, in_tree}
use Rattle.ingest_plan.specs.Rows.{AreInOrder}
use Rattle.ingest_plan.specs.Over.{NamesBelow}
use Rattle.ingest_plan.specs.Planning.{IsGrowthRule, IsLater, PlanNamesCell}

-- the rule of what is shown in a list
rule_shown : {s : ViewState} {head floor key : ℕ} {e : Evidence} → ShowsBelow s head floor key e → IsGrowthRule e.rule
rule_shown (bad_entry block place leads stands rule cell below bad) = inl rule
rule_shown (bad_pointer block level digit leads stands rule place cell bad) = inr (inr (inl rule))
rule_shown (late block place p leads stands rule cell below holds past) = inr (inl rule)

-- what is in its place lies where its owner says
lies : {g : Layout} {s : ViewState} {cell : ℕ} {owner : Owner} → IsInItsPlace g s cell owner → LiesByOwner g s cell owner
lies (of_new past from) = in_new past from
lies (of_list l head block from to) = in_block l block head from to
lies (of_tree v head node from to) = in_node v node head from to

-- what is named is licensed over the image below
record IsLicensedThere (g : Layout) (n : ℕ) (stamp : Option ℕ) (level : Level) (s : ViewState) (e : Evidence) : Type 0 where
  pub rule : IsGrowthRule e.rule
  pub stands : s.lower e.cell ≡ Some e.found
  pub place : IsLedWithin g s.lower level.led_by → IsPlaceOf g e.rule e.cell
  pub broken : IsLedWithin g s.lower level.led_by → NothingBelowPlans s → AreInTheirPlaces g s
      → IsVolume g.cells s.lower g → IsHorizon g s.lower s.lower n → IsLater g s.lower n stamp
      → IsEdge g s.lower s.lower s.fresh → IsBroken g.cells s.lower e.rule e.cell

-- where nothing is planned under a written cell, a list's evidence breaks its rule
list_broken : {g : Layout} {s : ViewState} {n l key : ℕ} {e : Evidence} → IsLicensedBelow g s l key e → IsPastSlots g s.lower n l key
    → NothingBelowPlans s → AreInTheirPlaces g s → IsVolume g.cells s.lower g → IsHorizon g s.lower s.lower n
    → IsEdge g s.lower s.lower s.fresh → IsBroken g.cells s.lower e.rule e.cell
list_broken {n = n} {e = e} licence past none places volume horizon edge = ⊎_elim
    (λ (same : e.rule ≡ FAKE_POSTING). licence.past n horizon past same volume edge)
    (λ (other : e.rule ≢ FAKE_POSTING). licence.broken other volume edge none places)
    (cases_eq e.rule FAKE_POSTING)

-- the child cell is one of a node
led_place : {g : Layout} {level : Level} {place : Open} {s : ViewState} {e : Evidence} → IsPlaceTaken g level place s e
    → IsLedWithin g s.lower level.led_by → IsChildPlace g s.lower e.cell
led_place {g} {s = s} taken within =
    subst (λ (c : ℕ). IsChildPlace g s.lower c) (sym taken.cell)
    (subst (λ (l : Option ChildCell). IsLedWithin g s.lower l) taken.led within)

-- the postings' keys are past those of earlier slots, where the stamp is
abbrev pub ArePastSlots : Layout → ℕ → Option ℕ → List ListedPosting → Type 0
ArePastSlots g n stamp rows =
    (image : Image) → IsLater g image n stamp → (i : ℕ) (p : ListedPosting) → slice_get rows i ≡ Some p
    → IsPastSlots g image n p.list p.posting.key

licensed_there : {g : Layout} {n : ℕ} {stamp : Option ℕ} {rows : List ListedPosting} {level : Level} {place : Open}
    {s : ViewState} {e : Evidence} → IsView s → AreInOrder g rows → ArePastSlots g n stamp rows → s.fresh ≤ g.cells
    → IsTrue s.base.tells → IsIndexEvidence g rows level place s e → IsLicensedThere g n stamp level s e
licensed_there {g} {n} {stamp} {rows} {level} {place} {s} {e} view order slot inside tells (in_list i p is shows) =
    let licence = licensed g s p.list p.posting.key e view (order.lists_are i p is) shows in
    record {
      rule = rule_shown shows;
      stands = licence.stands;
      place = λ within. licence.place inside;
      broken = λ within none places volume horizon later edge.
          list_broken licence (slot s.lower later i p is) none places volume horizon edge;
    }
licensed_there {g} {n} {stamp} {rows} {level} {place} {s} {e} view order slot inside tells (in_tree taken) = record {
  rule = inr (inr (inr taken.rule));
  stands = taken.stands tells;
  place = λ within.
      let at = led_place taken within in (Children, taken.rule, tree.child_inside at.is_node at.below at.at);
  broken = λ within none places volume horizon later edge.
      tree.broken g level place s e taken tells volume edge within (λ cell owner is. lies (places cell owner is));
}

-- So it is on a device that stands below the view.
pub names_cell : {g : Layout} {n edge : ℕ} {stamp : Option ℕ} {rows : List ListedPosting} {level : Level} {place : Open}
    {old new : ViewState} {e : Evidence} (body : List ℕ) (start done : DeviceState) → HasPostings g body → AreInOrder g rows
    → ArePastSlots g n stamp rows → edge ≤ g.cells → IsTrue new.base.tells
    → start.image ≡ old.lower → done.image ≡ new.lower
    → (IsStill start.foreign_writes done.foreign_writes → IsUnchanged start.image done.image)
    → NamesBelow g edge rows level place old new e → PlanNamesCell g n edge level stamp body start done e
names_cell {g} {n} {edge} {stamp} {rows} {level} {place} {old} {new} {e} body start done postings order slot inside tells before there quiet h =
    record {
      postings = postings;
      rule = licence.rule;
      stands = ap (λ (i : Image). i e.cell) there ∙ licence.stands;
      place = λ within. licence.place (subst (λ (i : Image). IsLedWithin g i level.led_by) there within);
      broken = λ within still volume horizon later at.
          subst (λ (i : Image). IsBroken done.cells i e.rule e.cell) (sym there)
          (subst (λ (m : ℕ). IsBroken m new.lower e.rule e.cell) volume.size
          (licence.broken (subst (λ (i : Image). IsLedWithin g i level.led_by) there within)
          (h.licensable.below (unchanged still)) (h.licensable.places fits)
          (subst (λ (m : ℕ). IsVolume m new.lower g) (sym volume.size)
          (subst (λ (i : Image). IsVolume done.cells i g) there volume))
          (subst (λ (i : Image). IsHorizon g i i n) there horizon)
          (subst (λ (i : Image). IsLater g i n stamp) there later)
          (subst (λ (m : ℕ). IsEdge g new.lower new.lower m) (sym h.fresh)
          (subst (λ (i : Image). IsEdge g i i edge) there at))));
    }
  where
    fits : new.fresh ≤ g.cells
    fits = omega (arith, h.fresh, inside)

    licence : IsLicensedThere g n stamp level new e
    licence = licensed_there h.view order slot fits tells h.is

    unchanged : IsStill start.foreign_writes done.foreign_writes → IsUnchanged old.lower new.lower
    unchanged still =
        subst (λ (i : Image). IsUnchanged i new.lower) before
        (subst (λ (i : Image). IsUnchanged start.image i) there (quiet still))
