-- Which nodes a level has, by marks: how those of the next level follow.
use Rattle.std.proofs.Common.{◌≡◌, ◌<◌, ◌≤◌, ◌+◌, ◌-◌, ◌/◌, ◌%◌, ◌↔◌, ⊎_elim, ℕ, zero, suc, Bool, true, false, List, [], ◌∷◌, ◌++◌, length, replicate, set, Some, refl, sym, ◌∙◌, subst, ap, arith}
use Rattle.std.specs.Prelude.{slice_get, slice_index, slice_index_or, Contains}
use Rattle.std.proofs.lemmas.Bool.{cases_eq}
use Rattle.std.proofs.lemmas.List.{get_or_append_left, get_or_at, get_or_read, get_or-set_other, get_or-set_same, length-append, length-replicate, length-set}
use Rattle.std.proofs.lemmas.Option.{same_Some, slice_get-get_or, slice_get_within}
use Rattle.cell_types.specs.Image.{Image}
use Rattle.cell_types.specs.Layout.{Layout, IsLayout, root_at}
use Rattle.cell_types.specs.declared.record_cell.RecordCell.TheVariants.{Child}
use Rattle.volume_meaning.specs.Nodes.{IsNode, root, under}
use Rattle.volume_meaning.specs.Volumes.{Holds}
use Rattle.log_audit.proofs.Orders.{below_or_at}
use Rattle.tree_audit.specs.ChildCells.{IsLeadAmong, lead_number}
use Rattle.tree_audit.specs.Marks.{AreAmong, AreBehindLast, AreMarked, AreMarkedUnder, IsBehindLast, IsLedTo, IsMarked}
use Rattle.tree_audit.specs.Nodes.{IsSomeNode}
use Rattle.tree_audit.specs.Numbers.{AreAll}
use Rattle.tree_audit.specs.Ways.{AreWays}
use Rattle.tree_audit.specs.declared.ways.Way.{Way}
use Rattle.tree_audit.proofs.EachNode.{some_inside}
use Rattle.tree_audit.proofs.Placing.{one_place, has_item}

-- these are the numbers of no place and of the first so many
pub record AreBehindSoFar (marks : List Bool) (place last : ℕ) (behind : List ℕ) : Type 0 where
  pub count : length behind ≡ place + 1
  pub each : (n : ℕ) → n ≤ place → IsBehindLast marks n (slice_index behind n)
  pub now : IsBehindLast marks place last

-- of no place
pub none_so_far : (marks : List Bool) (behind : List ℕ) → behind ≡ [] ++ 0 ∷ [] → AreBehindSoFar marks 0 0 behind
none_so_far marks behind is = record {
  count = ap length is;
  each = λ n low. subst (λ (k : ℕ). IsBehindLast marks k (slice_index behind k)) (omega (arith, low))
      (subst (λ (xs : List ℕ). IsBehindLast marks 0 (slice_index xs 0)) (sym is) nothing);
  now = nothing;
}
  where
    nothing : IsBehindLast marks 0 0
    nothing = record {
      inside = omega arith;
      last = λ before next. absurd (omega (arith, next));
      none = λ place from to. absurd (omega (arith, to));
    }

module _ {marks : List Bool} {place last : ℕ} (here : IsBehindLast marks place last) where
  -- one place more, which is marked, or not
  pub now_marked : IsMarked marks place → IsBehindLast marks (place + 1) (place + 1)
  now_marked marked = record {
    inside = omega arith;
    last = λ before next. subst (IsMarked marks) (omega (arith, next)) marked;
    none = λ other from to. absurd (omega (arith, from, to));
  }

  pub not_marked : (IsMarked marks place → ⊥) → IsBehindLast marks (place + 1) last
  not_marked un = record {
    inside = omega (arith, here.inside);
    last = here.last;
    none = λ other from to marked. ⊎_elim
        (λ (less : other < place). here.none other from less marked)
        (λ (same : other ≡ place). un (subst (IsMarked marks) same marked))
        (below_or_at other place to);
  }

-- one number more
pub one_behind : {marks : List Bool} {place last now : ℕ} {behind after : List ℕ} → AreBehindSoFar marks place last behind
    → IsBehindLast marks (place + 1) now → after ≡ behind ++ now ∷ [] → AreBehindSoFar marks (place + 1) now after
one_behind {marks} {place} {last} {now} {behind} {after} so_far next is = record {
  count = omega (arith, ap length is, length-append behind (now ∷ []), so_far.count);
  each = λ n low. subst (λ (xs : List ℕ). IsBehindLast marks n (slice_index xs n)) (sym is) (⊎_elim
      (λ (less : n < place + 1). subst (IsBehindLast marks n) (sym (get_or_append_left behind (now ∷ []) 0 n (omega (arith, less, so_far.count)))) (so_far.each n (omega (arith, less))))
      (λ (same : n ≡ place + 1). subst (λ (k : ℕ). IsBehindLast marks k (slice_index (behind ++ now ∷ []) k)) (sym same)
      (subst (IsBehindLast marks (place + 1)) (sym (get_or_at behind now [] 0 (place + 1) so_far.count)) next))
      (below_or_at n (place + 1) (omega (arith, low))));
  now = next;
}

pub all_behind : {marks : List Bool} {place last : ℕ} {behind : List ℕ} → AreBehindSoFar marks place last behind → place ≡ length marks
    → AreBehindLast marks behind
all_behind {marks} {place} {last} {behind} so_far all = record {
  count = omega (arith, so_far.count, all);
  each = λ n low. so_far.each n (omega (arith, low, all));
}

-- the number that was read
pub number_read : {marks : List Bool} {behind : List ℕ} → AreBehindLast marks behind → (n last : ℕ) → n ≤ length marks
    → last ≡ slice_index_or behind n last → IsBehindLast marks n last
number_read {marks} {behind} are n last low is =
    subst (IsBehindLast marks n) (sym (get_or_read behind n last (omega (arith, low, are.count)) is 0)) (are.each n low)

-- one of the first n ways leads to this place from a marked one
pub record IsLedSoFar (ways : List Way) (n : ℕ) (marks : List Bool) (place : ℕ) : Type 0 where
  pub led : IsLedTo ways marks place
  pub before : led.index < n

-- the places that are marked under these are just those
pub record AreMarkedSoFar (ways : List Way) (n : ℕ) (marks under : List Bool) : Type 0 where
  pub count : length under ≡ length marks
  pub each : (place : ℕ) → IsMarked under place ↔ IsLedSoFar ways n marks place

pub all_marked : {ways : List Way} {n : ℕ} {marks under : List Bool} → AreMarkedSoFar ways n marks under → length ways ≤ n → AreMarkedUnder ways marks under
all_marked {ways} so_far most = record {
  count = so_far.count;
  each = λ place. (
    λ h. ((so_far.each place).0 h).led,
    λ l. (so_far.each place).1 (record { led = l; before = omega (arith, slice_get_within ways l.index l.way l.there, most) }),
  );
}

module _ {ways : List Way} {n : ℕ} {marks beneath : List Bool} (so_far : AreMarkedSoFar ways n marks beneath) {way : Way} (there : slice_get ways n ≡ Some way)
    (inside : way.target < length beneath) {behind : ℕ} (last : IsBehindLast marks way.behind behind) where
  more : (place : ℕ) → IsLedSoFar ways n marks place → IsLedSoFar ways (n + 1) marks place
  more place l = record { led = l.led; before = omega (arith, l.before) }

  -- the way of this turn
  this : (place : ℕ) (l : IsLedTo ways marks place) → l.index ≡ n → way ≡ l.way
  this place l same = let both : Some way ≡ Some l.way = sym there ∙ subst (λ (k : ℕ). slice_get ways k ≡ Some l.way) same l.there in cc

  put_same : IsMarked (set beneath way.target true) way.target
  put_same = get_or-set_same beneath way.target true false inside

  put_other : (place : ℕ) → (place ≡ way.target → ⊥) → slice_index_or (set beneath way.target true) place false ≡ slice_index_or beneath place false
  put_other place other = get_or-set_other beneath way.target place true false other

  -- one way more, by which a marked place leads on, or none does
  pub leads_on : way.first < behind → AreMarkedSoFar ways (n + 1) marks (set beneath way.target true)
  leads_on less = record {
    count = length-set beneath way.target true ∙ so_far.count;
    each = λ place. ⊎_elim
        (λ (same : place ≡ way.target). (
          λ h. record {
            led = record {
              index = n;
              way = way;
              there = there;
              leads = sym same;
              above = behind - 1;
              begins = (omega (arith, less), omega (arith, less, last.inside));
              marked = last.last (behind - 1) (omega (arith, less));
            };
            before = omega arith;
          },
          λ l. subst (IsMarked (set beneath way.target true)) (sym same) put_same,
        ))
        (λ (other : place ≡ way.target → ⊥). (
          λ h. more place ((so_far.each place).0 (sym (put_other place other) ∙ h)),
          λ l. put_other place other ∙ (so_far.each place).1 (record {
            led = l.led;
            before = ⊎_elim
                (λ (before : l.led.index < n). before)
                (λ (same : l.led.index ≡ n). absurd (other (sym l.led.leads ∙ sym (ap (λ (w : Way). w.target) (this place l.led same)))))
                (below_or_at l.led.index n l.before);
          }),
        ))
        (cases_eq place way.target);
  }

  pub leads_nowhere : behind ≤ way.first → AreMarkedSoFar ways (n + 1) marks beneath
  leads_nowhere more_first = record {
    count = so_far.count;
    each = λ place. (
      λ h. more place ((so_far.each place).0 h),
      λ l. (so_far.each place).1 (record {
        led = l.led;
        before = ⊎_elim
            (λ (before : l.led.index < n). before)
            (λ (same : l.led.index ≡ n). let e = this place l.led same in
            absurd (last.none l.led.above (omega (arith, more_first, l.led.begins.0, ap (λ (w : Way). w.first) e))
            (omega (arith, l.led.begins.1, ap (λ (w : Way). w.behind) e)) l.led.marked))
            (below_or_at l.led.index n l.before);
      }),
    );
  }

-- no way yet
pub none_led : (ways : List Way) (marks beneath : List Bool) → beneath ≡ replicate (length marks) false → AreMarkedSoFar ways 0 marks beneath
none_led ways marks beneath is = record {
  count = ap length is ∙ length-replicate (length marks) false;
  each = λ place. (
    λ h. absurd (unmarked (length marks) place (subst (λ (xs : List Bool). IsMarked xs place) is h)),
    λ l. absurd (omega (arith, l.before)),
  );
}
  where
    unmarked : (n place : ℕ) → IsMarked (replicate n false) place → ⊥
    unmarked zero place h = let e : false ≡ true = h in cc
    unmarked (suc n) zero h = let e : false ≡ true = h in cc
    unmarked (suc n) (suc place) h = unmarked n place h

-- the ways begin and end among the nodes
pub ways_among : {nodes leads : List ℕ} {ways : List Way} (count : ℕ) → AreWays nodes leads ways → count ≡ length nodes → AreAmong ways count
ways_among count are same k way there =
    let a = are.each k way there in
    (omega (arith, a.is.inside, same), omega (arith, slice_get_within _ way.target _ a.is.target, same))

module _ {g : Layout} {image : Image} {nodes leads : List ℕ} {ways : List Way} (layout : IsLayout g) (all : AreAll (IsSomeNode g image) nodes)
    (cells : AreAll (IsLeadAmong g image nodes (length nodes)) leads) (are : AreWays nodes leads ways) {level : ℕ} {marks lower_marks : List Bool}
    (here : AreMarked g image level nodes marks) (below : AreMarkedUnder ways marks lower_marks) (deep : level < 63) where
  -- a place to which a way leads from a node of the level is that of a node below it
  led_down : (place node : ℕ) → slice_get nodes place ≡ Some node → IsLedTo ways marks place → IsNode g image (level + 1) node
  led_down place node there l =
      let way = are.each l.index l.way l.there in
      let lead = (cells.each way.lead).0 (has_item leads way.place way.lead way.there) in
      let cell = lead.lead in
      let from = lead.node + cell.place in
      let some = (all.each lead.node).0 (has_item nodes lead.index lead.node lead.there) in
      let inside = some_inside layout some in
      let small : from < 4294967296 = omega (arith, inside, cell.to, layout.cells) in
      let ends : way.lead / 4294967296 ≡ cell.target = omega (arith, cell.is, small) in
      let begins : way.lead % 4294967296 ≡ from = omega (arith, cell.is, small) in
      let within : l.above < length nodes = omega (arith, l.begins.1, way.is.inside) in
      let above : ℕ = slice_index nodes l.above in
      let above_there : slice_get nodes l.above ≡ Some above = slice_get-get_or nodes l.above 0 within in
      let child = (way.is.each l.above above above_there).0 l.begins in
      let ends_there : slice_get nodes l.way.target ≡ Some cell.target = subst (λ (t : ℕ). slice_get nodes l.way.target ≡ Some t) ends way.is.target in
      let node_there : slice_get nodes l.way.target ≡ Some node = subst (λ (k : ℕ). slice_get nodes k ≡ Some node) (sym l.leads) there in
      let both : Some cell.target ≡ Some node = sym ends_there ∙ node_there in
      let target : cell.target ≡ node = same_Some cell.target node both in
      let same_cell : from ≡ above + 16 + (child.place - 16) = omega (arith, begins, child.is, child.from) in
      under (level + 1) node level above (child.place - 16) refl ((here.each l.above above above_there).0 l.marked) (omega (arith, child.from, child.to)) deep
      (subst (λ (k : ℕ). Holds image k (Child node)) same_cell (subst (λ (t : ℕ). Holds image from (Child t)) target cell.leads.held))
      (omega (arith, cell.leads.from, target)) (omega (arith, cell.leads.to, target))

  -- and each node below the level has such a place
  leads_down : (place node : ℕ) → slice_get nodes place ≡ Some node → IsNode g image (level + 1) node → IsLedTo ways marks place
  leads_down place node there (root _ _ zero_level is) = absurd (omega (arith, zero_level))
  leads_down place node there (under _ _ v above x next rest low levels child from to) =
      let level_is : v ≡ level = omega (arith, next) in
      let above_node : IsNode g image level above = subst (λ (w : ℕ). IsNode g image w above) level_is rest in
      let i = (all.each above).1 (level, above_node) in
      let above_there : slice_get nodes i.0 ≡ Some above = slice_get-get_or nodes i.0 above i.1 ∙ ap (λ (k : ℕ). Some k) i.2 in
      let number : ℕ = lead_number node (above + (16 + x)) in
      let lead : IsLeadAmong g image nodes (length nodes) number = record {
        index = i.0;
        first = i.1;
        node = above;
        there = above_there;
        lead = record {
          place = 16 + x;
          from = omega arith;
          to = omega (arith, low);
          target = node;
          leads = record { held = subst (λ (k : ℕ). Holds image k (Child node)) (omega arith) child; from = from; to = to };
          is = refl;
        };
      } in
      let k = (cells.each number).1 lead in
      let number_there : slice_get leads k.0 ≡ Some number = slice_get-get_or leads k.0 number k.1 ∙ ap (λ (y : ℕ). Some y) k.2 in
      let inside = some_inside layout (level, above_node) in
      let small : above + (16 + x) < 4294967296 = omega (arith, inside, low, layout.cells) in
      let ends : number / 4294967296 ≡ node = omega (arith, small) in
      let begins : number % 4294967296 ≡ above + (16 + x) = omega (arith, small) in
      let way = are.all k.0 number number_there (subst (Contains nodes) (sym ends) (has_item nodes place node there)) in
      let ends_there : slice_get nodes way.way.target ≡ Some node = subst (λ (t : ℕ). slice_get nodes way.way.target ≡ Some t) ends way.is.target in
      record {
        index = way.place;
        way = way.way;
        there = way.there;
        leads = one_place nodes {a = way.way.target} {b = place} all.rising ends_there there;
        above = i.0;
        begins = (way.is.each i.0 above above_there).1 (record { place = 16 + x; from = omega arith; to = omega (arith, low); is = begins });
        marked = (here.each i.0 above above_there).1 above_node;
      }

  pub next_marks : AreMarked g image (level + 1) nodes lower_marks
  next_marks = record {
    count = below.count ∙ here.count;
    each = λ place node there. (
      λ marked. led_down place node there ((below.each place).0 marked),
      λ is. (below.each place).1 (leads_down place node there is),
    );
  }

-- of the first n nodes just the root is marked
pub record AreRootsBelow (nodes : List ℕ) (root n : ℕ) (marks : List Bool) : Type 0 where
  pub count : length marks ≡ n
  pub each : (place node : ℕ) → place < n → slice_get nodes place ≡ Some node → IsMarked marks place ↔ (node ≡ root)

pub no_root : (nodes : List ℕ) (at : ℕ) (marks : List Bool) → marks ≡ [] → AreRootsBelow nodes at 0 marks
no_root nodes at marks empty = record {
  count = ap length empty;
  each = λ place node less. absurd (omega (arith, less));
}

pub one_more : {nodes : List ℕ} {at n : ℕ} {marks after : List Bool} (mark : Bool) (here : ℕ) → AreRootsBelow nodes at n marks → slice_get nodes n ≡ Some here
    → (mark ≡ true) ↔ (here ≡ at) → after ≡ marks ++ mark ∷ [] → AreRootsBelow nodes at (n + 1) after
one_more {nodes} {at} {n} {marks} {after} mark here so_far there is put = record {
  count = omega (arith, ap length put, length-append marks (mark ∷ []), so_far.count);
  each = λ place node less at_place. ⊎_elim
      (λ (before : place < n).
      let same : slice_index_or after place false ≡ slice_index_or marks place false =
      ap (λ (xs : List Bool). slice_index_or xs place false) put ∙ get_or_append_left marks (mark ∷ []) false place (omega (arith, before, so_far.count)) in (
        λ h. (so_far.each place node before at_place).0 (sym same ∙ h),
        λ h. same ∙ (so_far.each place node before at_place).1 h,
      ))
      (λ (last : place ≡ n).
      let same : slice_index_or after place false ≡ mark =
      ap (λ (xs : List Bool). slice_index_or xs place false) put ∙ ap (λ (k : ℕ). slice_index_or (marks ++ mark ∷ []) k false) last
      ∙ get_or_at marks mark [] false n so_far.count in
      let one : node ≡ here = same_Some node here (sym (subst (λ (k : ℕ). slice_get nodes k ≡ Some node) last at_place) ∙ there) in (
        λ h. one ∙ is.0 (sym same ∙ h),
        λ h. same ∙ is.1 (sym one ∙ h),
      ))
      (below_or_at place n less);
}

pub roots_marked : {g : Layout} {image : Image} {nodes : List ℕ} {at n : ℕ} {marks : List Bool} → AreRootsBelow nodes at n marks → n ≡ length nodes
    → at ≡ root_at g → AreMarked g image 0 nodes marks
roots_marked {g} {image} {nodes} {at} {n} {marks} are all is = record {
  count = are.count ∙ all;
  each = λ place node there. let e = are.each place node (omega (arith, all, slice_get_within nodes place node there)) there in (
    λ h. root 0 node refl (e.0 h ∙ is),
    λ h. e.1 (only node h ∙ sym is),
  );
}
  where
    only : (node : ℕ) → IsNode g image 0 node → node ≡ root_at g
    only node (root _ _ zero_level here) = here
    only node (under _ _ v above x next rest low levels child from to) = absurd (omega (arith, next))
