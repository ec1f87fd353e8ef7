-- The licence of what an insertion names: it stands below, in a place of its rule, and the rule is broken there.
use Rattle.std.proofs.Common.{◌≡◌, ◌≢◌, ◌<◌, ◌≤◌, ◌+◌, ◌*◌, ◌⊎◌, ⊎_elim, inl, inr, ℕ, List, Option, Some, None, refl, ap, sym, subst, arith, ◌∙◌}
use Rattle.std.proofs.lemmas.Bool.{cases_lt}
use Rattle.std.proofs.lemmas.Option.{none-some}
use Rattle.cell_types.specs.Image.{Image, Extends}
use Rattle.cell_types.specs.Layout.{Layout, FirstBlock, LiesIn, list_at, pool_at, reserve_at, all_lists}
use Rattle.cell_types.specs.Records.{IsRecordCell}
use Rattle.cell_types.specs.declared.record_cell.RecordCell.TheVariants.{Jump}
use Rattle.cell_types.specs.declared.refusal.Evidence.{Evidence}
use Rattle.volume_meaning.specs.Slots.{IsEdge, IsHorizon, IsLive, Reserves}
use Rattle.volume_meaning.specs.Volumes.{Holds}
use Rattle.volume_meaning.proofs.Holding.{one_record_holds, some_is}
use Rattle.volume_meaning.proofs.Stamps.{stands_given}
use Rattle.volume_meaning.specs.Blocks.{PostingFields, posting_record, InFront, InSpan, Leads, arrived, onwards, pointer_at}
use Rattle.volume_meaning.specs.Nodes.{IsBlockOf}
use Rattle.volume_meaning.specs.Postings.{IsWordPosting, time_posting}
use Rattle.volume_meaning.proofs.Tags.{word_slot}
use Rattle.tamper_rules.specs.Rules.{Entries, IsOfPool, IsTruePosting, LeadsWell, Pointers, Postings}
use Rattle.jump_block.proofs.OneBlock.{jump_target, in_place, leads_wider, not_in_order}
use Rattle.worm_device.specs.Views.{ViewState, IsView}
use Rattle.worm_device.specs.declared.owner.Owner.{Owner}
use Rattle.jump_insertion.specs.Evidence.{StandsBelow, IsBlockMet, IsBadHop, no_jump, outside, no_key, meets, meets_block, ShowsBelow, bad_entry, bad_pointer, late, IsInItsPlace, of_new, of_list, of_tree, AreInTheirPlaces, IsLicensedBelow, IsPastSlots}
use Rattle.jump_insertion.specs.Readiness.{IsBlockReached, is_new, stands_below}
use Rattle.jump_insertion.proofs.BelowPlans.{IsShown, is_shown, front_shown, order_shown, greatest_shown}
use Rattle.jump_insertion.proofs.Showing.{leads_on}

-- an edge lies at the pool's start or behind
edge_from : (g : Layout) (image : Image) (at : ℕ) → IsEdge g image image at → pool_at g ≤ at
edge_from g image at edge = ⊎_elim
    (λ (z : (edge.u ≡ 0) × (at ≡ pool_at g)). omega (arith, z.1))
    (λ (w : (m : ℕ) × (start : ℕ) × (length : ℕ) × (edge.u ≡ m + 1) × Reserves g image m start length
    × (at ≡ start + length)). omega (arith, w.4.from, w.5))
    edge.ends

-- and where it is not the pool's start, inside the device
edge_to : (g : Layout) (image : Image) (at : ℕ) → IsEdge g image image at → (at ≡ pool_at g) ⊎ (at ≤ g.cells)
edge_to g image at edge = ⊎_elim
    (λ (z : (edge.u ≡ 0) × (at ≡ pool_at g)). inl z.1)
    (λ (w : (m : ℕ) × (start : ℕ) × (length : ℕ) × (edge.u ≡ m + 1) × Reserves g image m start length
    × (at ≡ start + length)). inr (omega (arith, w.4.to, w.5)))
    edge.ends

-- a list that has no room has its first block alone
leads_alone : {image : Image} {from to last block : ℕ} (wide : ℕ) → to ≡ from → Leads image from to last block
    → Leads image from wide last block
leads_alone wide same (arrived block is) = arrived block is
leads_alone wide same (onwards block level digit target levels some digits jump inside_from inside_to rest) =
    absurd (omega (arith, same, inside_from, inside_to))

-- the blocks of the list up to an edge are blocks of the list
leads_on_device : (g : Layout) (image : Image) (at block head : ℕ) → IsEdge g image image at
    → Leads image (pool_at g) at block head → Leads image (pool_at g) g.cells block head
leads_on_device g image at block head edge leads = ⊎_elim
    (λ first. leads_alone g.cells first leads)
    (λ inside. leads_wider (pool_at g) g.cells (omega arith) inside leads)
    (edge_to g image at edge)

-- and blocks of list l
block_of : (g : Layout) (s : ViewState) (l block : ℕ) → l < all_lists g → IsEdge g s.lower s.lower s.fresh
    → Leads s.lower (pool_at g) s.fresh block (list_at g l) → IsBlockOf g s.lower l block
block_of g s l block list edge leads =
    record { list = list; leads = leads_on_device g s.lower s.fresh block (list_at g l) edge leads }

-- and stay so
pub block_on : {g : Layout} {old new : Image} {l block : ℕ} → Extends old new → IsBlockOf g old l block
    → IsBlockOf g new l block
block_on more block = record { list = block.list; leads = leads_on more block.leads }

-- a block of the list ends before the cell where its room ends
leads_before : {image : Image} {from to last block : ℕ} → block + 256 ≤ to → Leads image from to last block
    → last + 256 ≤ to
leads_before below (arrived block is) = omega (arith, is)
leads_before below (onwards block level digit target levels some digits jump inside_from inside_to rest) =
    leads_before inside_to rest

-- what is planned for another and meets the target would break the rule of pointers
met_breaks : (g : Layout) (s : ViewState) (l block level digit target : ℕ) → l < all_lists g → target + 256 ≤ s.fresh
    → AreInTheirPlaces g s → (m : IsBlockMet s (list_at g l) target)
    → (well : LeadsWell g s.lower l block level digit) → well.target ≡ target
    → IsInItsPlace g s m.cell m.owner → ⊥
met_breaks g s l block level digit target list to places m well one (of_new fresh from) = ⊎_elim
    (λ (here : (target ≤ m.cell) × (m.cell < target + 256)). omega (arith, here.1))
    (λ (over : (m.owner.head ≡ list_at g l) × (m.owner.base < target + 256) × (target < m.owner.base + 256)).
    omega (arith, over.1))
    m.is.meets
met_breaks g s l block level digit target list to places m well one (of_list k head is from below) = ⊎_elim
    (λ (same : (m.owner.base ≡ well.target) × (k ≡ l)).
    m.is.other (omega (arith, head, same.1)) (same.0 ∙ one))
    (λ apart. ⊎_elim
    (λ (here : (target ≤ m.cell) × (m.cell < target + 256)). ⊎_elim
    (λ (x : well.target + 256 ≤ m.owner.base). omega (arith, here.1))
    (λ (y : m.owner.base + 256 ≤ well.target). omega (arith, here.0))
    apart)
    (λ (over : (m.owner.head ≡ list_at g l) × (m.owner.base < target + 256) × (target < m.owner.base + 256)). ⊎_elim
    (λ (x : well.target + 256 ≤ m.owner.base). omega (arith, over.1))
    (λ (y : m.owner.base + 256 ≤ well.target). omega (arith, over.2))
    apart)
    m.is.meets)
    (well.blocks k m.owner.base is)
met_breaks g s l block level digit target list to places m well one (of_tree v head is from below) = ⊎_elim
    (λ (here : (target ≤ m.cell) × (m.cell < target + 256)). ⊎_elim
    (λ (x : well.target + 256 ≤ m.owner.base). omega (arith, here.1))
    (λ (y : m.owner.base + 32 ≤ well.target). omega (arith, here.0))
    (well.nodes v m.owner.base is))
    (λ (over : (m.owner.head ≡ list_at g l) × (m.owner.base < target + 256) × (target < m.owner.base + 256)).
    omega (arith, over.0, head))
    m.is.meets

-- another block of the list that meets the target would break it too
reached_breaks : (g : Layout) (s : ViewState) (l block level digit target home : ℕ) → l < all_lists g
    → IsEdge g s.lower s.lower s.fresh → target + 256 ≤ s.fresh → home ≢ target → target < home + 256
    → home < target + 256
    → (well : LeadsWell g s.lower l block level digit) → well.target ≡ target
    → IsBlockReached s (list_at g l) (pool_at g) home → ⊥
reached_breaks g s l block level digit target home list edge to other low high well one (is_new fresh) = omega arith
reached_breaks g s l block level digit target home list edge to other low high well one (stands_below before leads) =
    ⊎_elim
    (λ (same : (home ≡ well.target) × (l ≡ l)). other (same.0 ∙ one))
    (λ apart. ⊎_elim
    (λ (x : well.target + 256 ≤ home). omega arith)
    (λ (y : home + 256 ≤ well.target). omega arith)
    apart)
    (well.blocks l home (block_of g s l home list edge leads))

-- a pointer that stands below leads where it is shown to lead
one_target : (s : ViewState) (block level digit target : ℕ) (found : List ℕ)
    → s.lower (pointer_at block level digit) ≡ Some found → s.image (pointer_at block level digit) ≡ Some found
    → Holds s.image (pointer_at block level digit) (Jump target)
    → (below : ℕ) → Holds s.lower (pointer_at block level digit) (Jump below) → below ≡ target
one_target s block level digit target found low high jump below held =
    jump_target below target (one_record_holds s.lower (pointer_at block level digit) (Jump below) (Jump target) held
    (record { cell = jump.cell; stands = low ∙ sym high ∙ jump.stands; is = jump.is }))

-- a pointer that leads nowhere does not lead well below
not_well : (g : Layout) (s : ViewState) (l block level digit : ℕ) (found : List ℕ) → l < all_lists g
    → IsShown s.lower s.image s.fresh → IsEdge g s.lower s.lower s.fresh → AreInTheirPlaces g s
    → block + 256 ≤ s.fresh → s.lower (pointer_at block level digit) ≡ Some found
    → s.image (pointer_at block level digit) ≡ Some found
    → IsBadHop s (list_at g l) (pool_at g) block level digit found → LeadsWell g s.lower l block level digit → ⊥
not_well g s l block level digit found list shown edge places before low high (no_jump bad) well =
    let same : well.jump.cell ≡ found = some_is well.jump.cell found (sym well.jump.stands ∙ low) in
    bad.none well.target (subst (λ (c : List ℕ). IsRecordCell (Jump well.target) (pointer_at block level digit) c)
    same well.jump.is)
not_well g s l block level digit found list shown edge places before low high (outside target jump out) well =
    let one = one_target s block level digit target found low high jump well.target well.jump in
    ⊎_elim
    (λ early. omega (arith, well.from, one))
    (λ late. omega (arith, well.edge s.fresh edge, one))
    out
not_well g s l block level digit found list shown edge places before low high
    (no_key target greatest jump full to from none) well =
    let one = one_target s block level digit target found low high jump well.target well.jump in
    let same = greatest_shown shown (omega arith) full well.full well.ends in
    none well.place well.some well.in_places
    (front_shown shown (omega (arith, well.in_places))
    (subst (λ (b : ℕ). InFront s.lower b well.place well.some) one well.in_front))
    (subst (λ (n : ℕ). InSpan n level digit well.some.key) same well.in_span)
not_well g s l block level digit found list shown edge places before low high (meets target jump from to met) well =
    let one = one_target s block level digit target found low high jump well.target well.jump in
    met_breaks g s l block level digit target list to places met well one (places met.cell met.owner met.is.planned)
not_well g s l block level digit found list shown edge places before low high
    (meets_block target home jump from to reached other above under) well =
    let one = one_target s block level digit target found low high jump well.target well.jump in
    reached_breaks g s l block level digit target home list edge to other above under well one reached

-- a cell of a block of list l that is new, or stands below before cells of the volume, is in its place
pub reached_in_place : {g : Layout} {s : ViewState} {l cell : ℕ} {owner : Owner} → l < all_lists g → s.fresh ≤ g.cells
    → owner.head ≡ list_at g l → IsBlockReached s (list_at g l) (pool_at g) owner.base → owner.base ≤ cell
    → cell < owner.base + 256 → IsInItsPlace g s cell owner
reached_in_place {l = l} list inside head (is_new past) from to = of_new past from
reached_in_place {g} {l = l} list inside head (stands_below before leads) from to =
    of_list l head (record { list = list; leads = leads_wider (pool_at g) g.cells (omega arith) inside leads }) from to

-- what stands below is shown, and is the evidence
stands_there : (s : ViewState) (e : Evidence) → IsView s → StandsBelow s e → s.lower e.cell ≡ Some e.found
stands_there s e view st = sym (view.below e.cell st.free st.before) ∙ st.stands

-- a cell of a block of the list, up to the pool's edge
cell_in : (g : Layout) (s : ViewState) (l block off cell : ℕ) → l < all_lists g → s.fresh ≤ g.cells
    → Leads s.lower (pool_at g) s.fresh block (list_at g l) → off < 256 → cell ≡ block + off
    → ((k : ℕ) × LiesIn g (FirstBlock k) cell) ⊎ IsOfPool g cell
cell_in g s l block off cell list inside leads below is =
    in_place g s.lower l (pool_at g) s.fresh (list_at g l) block off cell list refl refl inside leads below is

cell_on_device : (g : Layout) (s : ViewState) (l block off cell : ℕ) → l < all_lists g
    → IsEdge g s.lower s.lower s.fresh
    → Leads s.lower (pool_at g) s.fresh block (list_at g l) → off < 256 → cell ≡ block + off
    → ((k : ℕ) × LiesIn g (FirstBlock k) cell) ⊎ IsOfPool g cell
cell_on_device g s l block off cell list edge leads below is =
    in_place g s.lower l (pool_at g) g.cells (list_at g l) block off cell list refl refl (omega arith)
    (leads_on_device g s.lower s.fresh block (list_at g l) edge leads) below is

-- a live slot lies below each horizon
live_below : {g : Layout} {image : Image} {n m : ℕ} → IsHorizon g image image n → IsLive g image m → m < n
live_below {g} {image} {n} {m} horizon live = ⊎_elim
    (λ (less : m < n). less)
    (λ (le : n ≤ m).
    let free : image (reserve_at n) ≡ None = horizon.free (omega (arith, le, live.slot)) in
    absurd (⊎_elim
    (λ (less : n < m).
    let taken = live.taken n less in none-some taken.found (sym free ∙ taken.stands))
    (λ (other : m ≤ n).
    let reserve = live.done.done.commits.reserves.reserve in
    let same : m ≡ n = omega (arith, le, other) in
    none-some reserve.cell (sym free ∙ ap (λ (k : ℕ). image (reserve_at k)) (sym same) ∙ reserve.stands))
    (cases_lt n m)))
    (cases_lt m n)

-- no posting whose key is as great as one past those of the slots below the horizon is a true one
past_horizon : {g : Layout} {image : Image} {n l key : ℕ} {p : PostingFields} → IsHorizon g image image n
    → IsPastSlots g image n l key → key ≤ p.key → IsTruePosting g image l p → ⊥
past_horizon {g} {image} {n} {l} {key} {p} horizon past above it = ⊎_elim
    (λ (word : IsWordPosting g it.body it.slot l p).
    omega (arith, past.0 word.list, above, word_slot g it.body it.slot l p it.postings word, live_below horizon it.live))
    (λ (time : (seconds : ℕ) × (it.stamp ≡ Some seconds) × (l ≡ g.lists) × (p ≡ time_posting it.slot seconds)).
    let has = stands_given g image it.slot it.stamp time.0 it.is_stamp time.1 in
    let key_is : p.key ≡ time.0 = ap (λ (q : PostingFields). q.key) time.3 in
    omega (arith, past.1 time.2 it.slot time.0 (live_below horizon it.live) it.live.done has.1, above, key_is))
    it.is

-- the evidence of an insertion is licensed
pub licensed : (g : Layout) (s : ViewState) (l key : ℕ) (e : Evidence) → IsView s → l < all_lists g
    → ShowsBelow s (list_at g l) (pool_at g) key e → IsLicensedBelow g s l key e
licensed g s l key e view list (bad_entry block place leads st rule cell below bad) =
    let low = stands_there s e view st in record {
      stands = low;
      place = λ inside. (Entries, rule, cell_in g s l block place e.cell list inside leads (omega arith) cell);
      late = λ other. absurd (omega (arith, rule, other));
      past = λ n horizon after other volume edge. absurd (omega (arith, rule, other));
      broken = λ other volume edge none places. record {
        layout = g;
        volume = volume;
        rule = Entries;
        named = rule;
        place = cell_on_device g s l block place e.cell list edge leads (omega arith) cell;
        written = record { found = e.found; stands = low };
        not_met = λ met.
            not_in_order s.image block place e.found bad
            (order_shown (is_shown s view none) (omega (arith, cell, st.before))
            (met.entry l block place (block_of g s l block list edge leads) below cell));
      };
    }
licensed g s l key e view list (bad_pointer block level digit leads st rule is cell bad) =
    let low = stands_there s e view st in record {
      stands = low;
      place = λ inside. (
        Pointers,
        rule,
        cell_in g s l block (127 + 15 * level + digit) e.cell list inside leads
            (omega (arith, is.levels, is.digits)) cell,
      );
      late = λ other. absurd (omega (arith, rule, other));
      past = λ n horizon after other volume edge. absurd (omega (arith, rule, other));
      broken = λ other volume edge none places. record {
        layout = g;
        volume = volume;
        rule = Pointers;
        named = rule;
        place = cell_on_device g s l block (127 + 15 * level + digit) e.cell list edge leads
            (omega (arith, is.levels, is.digits)) cell;
        written = record { found = e.found; stands = low };
        not_met = λ met.
            not_well g s l block level digit e.found list (is_shown s view none) edge places
            (leads_before (omega (arith, list, edge_from g s.lower s.fresh edge)) leads)
            (ap s.lower (sym cell) ∙ low) (ap s.image (sym cell) ∙ st.stands) bad
            (met l block level digit (block_of g s l block list edge leads) is.levels is.some is.digits cell);
      };
    }
licensed g s l key e view list (late block place p leads st rule cell below holds past) =
    let low = stands_there s e view st in
    let posting : Holds s.lower e.cell (posting_record p) =
    record { cell = holds.cell; stands = sym (view.below e.cell st.free st.before) ∙ holds.stands; is = holds.is } in
    record {
      stands = low;
      place = λ inside. (Postings, rule, cell_in g s l block place e.cell list inside leads (omega arith) cell);
      late = λ same. record {
        block = block;
        place = place;
        p = p;
        leads = leads;
        at = cell;
        in_places = below;
        posting = posting;
        late = past;
      };
      past = λ n horizon after same volume edge. record {
        layout = g;
        volume = volume;
        rule = Postings;
        named = rule;
        place = cell_on_device g s l block place e.cell list edge leads (omega arith) cell;
        written = record { found = e.found; stands = low };
        not_met = λ met.
            past_horizon horizon after past
            (met l block place p (block_of g s l block list edge leads) below cell posting);
      };
      broken = λ other. absurd (other rule);
    }
