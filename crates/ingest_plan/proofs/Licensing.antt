-- What is planned stays in its place, and licenses what is named.
use Rattle.std.proofs.Common.{◌≡◌, ◌<◌, ◌≤◌, ◌+◌, ℕ, List, None, sym, arith, ◌∙◌}
use Rattle.std.specs.Prelude.{IsTrue}
use Rattle.std.proofs.lemmas.Option.{none-some}
use Rattle.cell_types.specs.Image.{Extends}
use Rattle.cell_types.specs.Layout.{Layout, list_at, pool_at, all_lists}
use Rattle.volume_meaning.specs.Blocks.{PostingFields}
use Rattle.volume_meaning.specs.Postings.{ListedPosting}
use Rattle.worm_device.specs.Views.{IsView, ViewState}
use Rattle.worm_device.specs.declared.owner.Owner.{Owner}
use Rattle.jump_insertion.specs.Evidence.{AreInTheirPlaces, IsInItsPlace, of_list, of_new, of_tree}
use Rattle.jump_insertion.specs.Inserting.{PlansEntry}
use Rattle.jump_insertion.specs.Readiness.{IsReadyList}
use Rattle.jump_insertion.proofs.Licence.{block_on, reached_in_place}
use Rattle.hash_tree.proofs.Rooting.{node_on}
use Rattle.ingest_plan.specs.Licensing.{IsLicensable}
use Rattle.ingest_plan.specs.Rows.{AreInserted}
use Rattle.ingest_plan.proofs.Others.{IsOwned, anew, as_before, owned_in}

-- what is in its place stays there
place_on : {g : Layout} {old new : ViewState} {cell : ℕ} {owner : Owner} → Extends old.lower new.lower
    → new.fresh ≡ old.fresh → IsInItsPlace g old cell owner → IsInItsPlace g new cell owner
place_on more same (of_new past from) = of_new (omega (arith, same, past)) from
place_on more same (of_list l head block from to) =
    of_list l head (block_on more block) from to
place_on more same (of_tree v head node from to) = of_tree v head (node_on more node) from to

-- and so does what was planned before one insertion, beside what this plans
pub places_next : {g : Layout} {l next to at : ℕ} {p : PostingFields} {old new : ViewState} → l < all_lists g
    → PlansEntry (list_at g l) (pool_at g) next to p at old new
    → ((key : ℕ) → p.key < key → IsReadyList new (list_at g l) (pool_at g) to key)
    → Extends old.lower new.lower → new.fresh ≡ old.fresh → new.fresh ≤ g.cells → AreInTheirPlaces g old
    → AreInTheirPlaces g new
places_next {g} {l} {next} {to} {at} {p} {old} {new} list plans ready more same inside before cell owner is =
    by (owned_in plans cell owner is)
  where
    by : IsOwned (list_at g l) (pool_at g) old cell owner → IsInItsPlace g new cell owner
    by (as_before was) = place_on more same (before cell owner was)
    by (anew head from below blocks) =
        reached_in_place list inside head ((ready (p.key + 1) (omega arith)).reached cell owner is head) from below

-- Where nothing was planned at first, what the row has planned licenses what is named behind it.
pub licensable : {g : Layout} {rows : List ListedPosting} {count from to : ℕ} {old mid new : ViewState} → IsView old
    → ((cell : ℕ) → old.planned cell ≡ None) → IsTrue old.base.tells → AreInserted g rows count from to old mid
    → mid.fresh ≡ old.fresh → new.fresh ≡ mid.fresh → ((cell : ℕ) → new.planned cell ≡ mid.planned cell)
    → ((cell : ℕ) → new.owners cell ≡ mid.owners cell) → Extends mid.lower new.lower → IsLicensable g old new
licensable {g} {old = old} {mid} {new} view nothing tells row same_mid same planned owners more = record {
  below = λ still cell value is before.
      still cell
      ∙ sym (view.below cell (nothing cell) (omega (arith, before, same, same_mid)))
      ∙ row.blank tells cell (nothing cell) value (sym (planned cell) ∙ is);
  places = λ inside cell owner is.
      place_on more same
      (row.places tells (omega (arith, inside, same))
      (λ c o was. absurd (none-some o (sym (view.unowned c (nothing c)) ∙ was)))
      cell owner (sym (owners cell) ∙ is));
}
