-- Why a view with planned cells over it is a view. It stands here and not among the proofs, since the law of `Overlay`
-- cites it.
use Rattle.std.specs.Prelude.{◌≡◌, ◌<◌, ℕ, Bool, true, false, List, Option, Some, None, nat_lt, min, if◌then◌else◌}
use Rattle.std.proofs.Common.{arith, refl, sym}
use Rattle.std.proofs.lemmas.Option.{none-some}
use Rattle.std.proofs.lemmas.Bool.{le-ltb, lt-ltb}
use Rattle.std.specs.Ordering.{nat_cmp}
use Rattle.std.specs.BTreeMap.{BTreeMap, get}
use Rattle.cell_types.specs.Bytes.{IsCell}
use Rattle.worm_device.specs.Overlays.{of_overlay, over, seen_over}
use Rattle.worm_device.specs.declared.overlay.Overlay.{Overlay}
use Rattle.worm_device.specs.Owned.{AreOwned}
use Rattle.worm_device.specs.Views.{ViewState, IsView}
use Rattle.worm_device.specs.declared.overlay.TheConstants.{OVERLAY_CELLS}
use Rattle.worm_device.specs.declared.owner.Owner.{Owner}

-- what is shown is planned, or stands below in a cell that is asked for
pub data IsShown (planned below : Option (List ℕ)) (asked : Bool) (value : List ℕ) : Type 0 where
  as_planned : planned ≡ Some value → IsShown planned below asked value
  as_below : planned ≡ None → asked ≡ true → below ≡ Some value → IsShown planned below asked value

pub shown_is : (planned below : Option (List ℕ)) (asked : Bool) (value : List ℕ)
    → over planned (if asked then below else None) ≡ Some value → IsShown planned below asked value
shown_is (Some held) below asked value h = as_planned h
shown_is None below true value h = as_below refl refl h
shown_is None below false value h = absurd (none-some value h)

pub planned_is_shown : (planned below : Option (List ℕ)) (value : List ℕ) → planned ≡ Some value → over planned below ≡ Some value
planned_is_shown (Some held) below value h = h
planned_is_shown None below value h = absurd (none-some value h)

pub asked_is_below : (planned below : Option (List ℕ)) (asked : Bool) → planned ≡ None → asked ≡ true
    → over planned (if asked then below else None) ≡ below
asked_is_below (Some held) below asked free is = absurd (none-some held (sym free))
asked_is_below None below true free is = refl
asked_is_below None below false free is = cc

pub unasked_is_blank : (planned below : Option (List ℕ)) (asked : Bool) → planned ≡ None → asked ≡ false
    → over planned (if asked then below else None) ≡ None
unasked_is_blank (Some held) below asked free is = absurd (none-some held (sym free))
unasked_is_blank None below true free is = cc
unasked_is_blank None below false free is = refl

module _ (s : ViewState) (below : IsView s) (planned : BTreeMap ℕ (List ℕ)) (owners : BTreeMap ℕ Owner)
    (owned : AreOwned planned owners) (name fresh : ℕ) where
  shown_inside : (cell : ℕ) (value : List ℕ)
      → IsShown (get nat_cmp planned cell) (s.image cell) (nat_lt cell (min fresh s.cells)) value
      → (cell < OVERLAY_CELLS) × IsCell value
  shown_inside cell value (as_planned is) = owned.inside cell value is
  shown_inside cell value (as_below free asked is) =
      let there = below.inside cell value is in (omega (arith, there.0, below.cells), there.1)

  pub overlay_is_view : IsView (seen_over s name planned owners fresh)
  overlay_is_view = record {
    cells = omega arith;
    inside = λ cell value h.
        shown_inside cell value (shown_is (get nat_cmp planned cell) (s.image cell) (nat_lt cell (min fresh s.cells)) value h);
    planned = record {
      keeps = λ cell value h.
          planned_is_shown (get nat_cmp planned cell) (if nat_lt cell (min fresh s.cells) then s.image cell else None) value h;
    };
    unowned = owned.unowned;
    unplanned = owned.unplanned;
    below = λ cell free before.
        asked_is_below (get nat_cmp planned cell) (s.image cell) (nat_lt cell (min fresh s.cells)) free
        (lt-ltb cell (min fresh s.cells) before);
    beyond = λ cell free past.
        unasked_is_blank (get nat_cmp planned cell) (s.image cell) (nat_lt cell (min fresh s.cells)) free
        (le-ltb cell (min fresh s.cells) past);
  }

-- the same of an overlay over a view
pub overlay_shows : {V : Type 0} (seen : V → ViewState) → ((view : V) → IsView (seen view)) → (o : Overlay V)
    → IsView (of_overlay seen o)
overlay_shows seen proper o =
    overlay_is_view (seen o.view) (proper o.view) o.own.now.planned o.own.now.owners o.own.now.owned o.own.ghost_name o.fresh
