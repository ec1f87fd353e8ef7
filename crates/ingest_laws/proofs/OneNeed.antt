-- A document has one need on a settled image: its postings are one row, each of which costs one number and leaves one
-- image, and its bucket goes to one place.
use Rattle.std.proofs.Common.{◌≡◌, ◌<◌, ◌≤◌, ◌+◌, ⊎_elim, ℕ, List, Some, None, refl, ap, sym, subst, arith, ◌∙◌}
use Rattle.std.proofs.lemmas.Bool.{cases_lt, cases_order}
use Rattle.std.proofs.lemmas.Option.{none-some}
use Rattle.cell_types.specs.Image.{Image}
use Rattle.cell_types.specs.Layout.{Layout, root_at}
use Rattle.cell_types.specs.declared.record_cell.RecordCell.{RecordCell}
use Rattle.cell_types.specs.declared.record_cell.RecordCell.TheVariants.{Jump}
use Rattle.volume_meaning.specs.Volumes.{Holds, IsWritten}
use Rattle.volume_meaning.proofs.Holding.{one_record_holds}
use Rattle.volume_meaning.specs.Blocks.{PostingFields, posting_record, InFront, IsFull, InSpan, pointer_at, at_the_start, behind}
use Rattle.volume_meaning.specs.HashPaths.{IsPassed, LeadsDown, PassedTo, Sought, at_root, down, nibble}
use Rattle.volume_meaning.specs.Keeping.{sought_in}
use Rattle.volume_meaning.specs.Postings.{ListedPosting}
use Rattle.volume_meaning.proofs.Fronts.{one_place}
use Rattle.volume_meaning.proofs.HashTrails.{one_child}
use Rattle.volume_meaning.proofs.OnePostings.{one_rows}
use Rattle.volume_meaning.proofs.Spans.{apart}
use Rattle.tamper_rules.proofs.GivenUp.{jumps}
use Rattle.tamper_rules.proofs.Images.{same_image}
use Rattle.tamper_rules.proofs.Settled.{one_edge}
use Rattle.tamper_rules.proofs.Writing.{same_or_not}
use Rattle.ingest_laws.specs.ListShapes.{AddsOneCell}
use Rattle.ingest_laws.specs.Needs.{AddsBoth, BucketCosts, EndsAtPointer, IsBlankEntry, IsTail, LeadsOn, NeedIsOne, PostingCosts, PostingsCost, WalksTo, arrived, in_block, in_bucket, in_new_block, in_new_node, in_tail, none, one, onwards}
use Rattle.ingest_laws.proofs.TrailEnds.{of_end, one_end}

-- one record in one cell
held_same : {old new : Image} {at : ℕ} {r : RecordCell} → Holds old at r → Holds new at r → old at ≡ new at
held_same h k = h.stands ∙ ap Some (h.is.same ∙ sym k.is.same) ∙ sym k.stands

-- what one cell adds is one image
same_adds : {old one other : Image} {at : ℕ} {r : RecordCell} → AddsOneCell at old one → AddsOneCell at old other
    → Holds one at r
    → Holds other at r → one ≡ other
same_adds {old} {one} {other} {at} a b h k = same_image (λ cell. ⊎_elim
    (λ (same : cell ≡ at). ap one same ∙ held_same h k ∙ ap other (sym same))
    (λ differ. a.others cell differ ∙ sym (b.others cell differ))
    (same_or_not cell at))

both_same : {old one other : Image} {at pointer target : ℕ} {p : PostingFields} → AddsBoth old one at pointer target p
    → AddsBoth old other at pointer target p → one ≡ other
both_same {old} {one} {other} {at} {pointer} {target} {p} a b =
    let mid : a.mid ≡ b.mid = same_adds a.adds b.adds a.posting b.posting in
    same_adds (subst (λ (i : Image). AddsOneCell pointer i one) mid a.adds_jump) b.adds_jump a.jump b.jump

-- each place of a front is written
front_written : {image : Image} {block j : ℕ} {q : PostingFields} → InFront image block j q → (i : ℕ) → i ≤ j
    → IsWritten image (block + i)
front_written {image} {block} (at_the_start place q is holds) i le =
    subst (λ (n : ℕ). IsWritten image (block + n)) (omega (arith, le, is))
    (record { found = holds.cell; stands = holds.stands })
front_written {image} {block} (behind place before q r is rest less holds) i le = ⊎_elim
    (λ (low : i < place). front_written rest i (omega (arith, low, is)))
    (λ high. subst (λ (n : ℕ). IsWritten image (block + n)) (omega (arith, le, high))
    (record { found = holds.cell; stands = holds.stands }))
    (cases_lt i place)

blank_full : {image : Image} {block place : ℕ} {greatest : PostingFields} → IsBlankEntry image block place
    → IsFull image block greatest → ⊥
blank_full {place = place} entry full =
    let w = front_written full place (omega (arith, entry.in_places)) in none-some w.found (sym entry.blank ∙ w.stands)

one_blank : {image : Image} {block a b : ℕ} → IsBlankEntry image block a → IsBlankEntry image block b → a ≡ b
one_blank {image} {block} {a} {b} x y = ⊎_elim
    (λ (less : a < b). let w = y.before a less in absurd (none-some w.found (sym x.blank ∙ w.stands)))
    (λ le. ⊎_elim
    (λ (less : b < a). let w = x.before b less in absurd (none-some w.found (sym y.blank ∙ w.stands)))
    (λ ge. omega (arith, le, ge))
    (cases_lt b a))
    (cases_lt a b)

-- the pointer of a key's span in a full block is one cell
span_pointer : {image : Image} {block key level digit level' digit' : ℕ} {f f' : PostingFields} → IsFull image block f
    → IsFull image block f' → InSpan f.key level digit key → InSpan f'.key level' digit' key
    → pointer_at block level digit ≡ pointer_at block level' digit'
span_pointer {key = key} {level = level} {digit = digit} {level' = level'} {digit' = digit'} {f = f}
    {f' = f'} full full'
    span span' =
    let keys : f.key ≡ f'.key = ap (λ (p : PostingFields). p.key) (one_place full full') in
    let spans : (level ≡ level') × (digit ≡ digit') = apart f'.key key level digit level' digit'
    (subst (λ (l : ℕ). InSpan l level digit key) keys span) span' in
    omega (arith, spans.0, spans.1)

one_step : {image : Image} {block key t u : ℕ} → LeadsOn image block key t → LeadsOn image block key u → t ≡ u
one_step {image} {block} {key} {t} {u} a b =
    let at = span_pointer a.full b.full a.span b.span in
    jumps t u (one_record_holds image (pointer_at block b.level b.digit) (Jump t) (Jump u)
    (subst (λ (c : ℕ). Holds image c (Jump t)) at a.jump) b.jump)

one_pointer : {image : Image} {block key a b : ℕ} → EndsAtPointer image block key a → EndsAtPointer image block key b
    → a ≡ b
one_pointer x y = x.at ∙ span_pointer x.full y.full x.span y.span ∙ sym y.at

-- a walk goes on from a block for a key to none
abbrev Stops : Image → ℕ → ℕ → Type 0
Stops image block key = (target : ℕ) → LeadsOn image block key target → ⊥

blank_stops : {image : Image} {block place key : ℕ} → IsBlankEntry image block place → Stops image block key
blank_stops entry target step = blank_full entry step.full

pointer_stops : {image : Image} {block pointer key : ℕ} → EndsAtPointer image block key pointer → Stops image block key
pointer_stops {image} e target step =
    none-some step.jump.cell
    (sym e.blank ∙ ap image (e.at ∙ span_pointer e.full step.full e.span step.span) ∙ step.jump.stands)

-- so a walk ends at one block
one_walk : {image : Image} {key a b block : ℕ} → WalksTo image key a block → WalksTo image key b block
    → Stops image a key → Stops image b key → a ≡ b
one_walk (arrived block is) (arrived _ is') s s' = sym is ∙ is'
one_walk {image} {key} (arrived block is) (onwards _ target step rest) s s' =
    absurd (s target (subst (λ (x : ℕ). LeadsOn image x key target) is step))
one_walk {image} {key} (onwards block target step rest) (arrived _ is) s s' =
    absurd (s' target (subst (λ (x : ℕ). LeadsOn image x key target) is step))
one_walk {image} {key} {a} {b} (onwards block target step rest) (onwards _ target' step' rest') s s' =
    one_walk rest (subst (λ (t : ℕ). WalksTo image key b t) (sym (one_step step step')) rest') s s'

-- a list has one tail
one_tail : {image : Image} {from to head a b : ℕ} → IsTail image from to head a → IsTail image from to head b → a ≡ b
one_tail {a = a} {b = b} x y =
    let le = y.most (a + x.place) x.greatest (of_end x.trail) in
    let ge = x.most (b + y.place) y.greatest (of_end y.trail) in
    (one_end x.trail b y.place y.greatest y.trail (omega (arith, le, ge))).0

-- an entry is blank, or all are written
not_both : {image : Image} {block place : ℕ} → IsBlankEntry image block place
    → ((i : ℕ) → i < 128 → IsWritten image (block + i)) → ⊥
not_both {place = place} entry all =
    let w = all place entry.in_places in none-some w.found (sym entry.blank ∙ w.stands)

-- a posting costs one number, and leaves one image
record IsOneCost (one other : Image) (to to' cost cost' : ℕ) : Type 0 where
  images : one ≡ other
  ends : to ≡ to'
  costs : cost ≡ cost'

one_cost : {from head : ℕ} {p : PostingFields} {old new : Image} {next to cost : ℕ}
    → PostingCosts from head p old new next to cost → (new' : Image) (to' cost' : ℕ)
    → PostingCosts from head p old new' next to' cost' → IsOneCost new new' to to' cost cost'
one_cost {p = p} {old = old} {new = new} (in_block block place walk room adds holds to is) new' to' cost'
    (in_block block' place' walk' room' adds' holds' to_is is') =
    let blocks : block ≡ block' = one_walk walk walk' (blank_stops room) (blank_stops room') in
    let room_here = subst (λ (b : ℕ). IsBlankEntry old b place) blocks room in
    let places : place ≡ place' = one_blank room_here room' in
    let at : block + place ≡ block' + place' = omega (arith, blocks, places) in
    record {
      images = same_adds (subst (λ (c : ℕ). AddsOneCell c old new) at adds) adds'
          (subst (λ (c : ℕ). Holds new c (posting_record p)) at holds) holds';
      ends = to ∙ sym to_is;
      costs = is ∙ sym is';
    }
one_cost {old = old} (in_block block place walk room adds holds to is) new' to' cost'
    (in_tail block' pointer tail place' walk' ends tail_is room' adds' to_is is') =
    let blocks : block ≡ block' = one_walk walk walk' (blank_stops room) (pointer_stops ends) in
    absurd (blank_full (subst (λ (b : ℕ). IsBlankEntry old b place) blocks room) ends.full)
one_cost {old = old} (in_block block place walk room adds holds to is) new' to' cost'
    (in_new_block block' pointer tail walk' ends tail_is full adds' to_is is') =
    let blocks : block ≡ block' = one_walk walk walk' (blank_stops room) (pointer_stops ends) in
    absurd (blank_full (subst (λ (b : ℕ). IsBlankEntry old b place) blocks room) ends.full)
one_cost {old = old} (in_tail block pointer tail place walk ends tail_is room adds to is) new' to' cost'
    (in_block block' place' walk' room' adds' holds' to_is is') =
    let blocks : block' ≡ block = one_walk walk' walk (blank_stops room') (pointer_stops ends) in
    absurd (blank_full (subst (λ (b : ℕ). IsBlankEntry old b place') blocks room') ends.full)
one_cost {p = p} {old = old} {new = new} (in_tail block pointer tail place walk ends tail_is room adds to is) new' to'
    cost'
    (in_tail block' pointer' tail' place' walk' ends' tail_is' room' adds' to_is is') =
    let blocks : block ≡ block' = one_walk walk walk' (pointer_stops ends) (pointer_stops ends') in
    let pointers : pointer ≡ pointer' =
    one_pointer (subst (λ (b : ℕ). EndsAtPointer old b p.key pointer) blocks ends) ends' in
    let tails : tail ≡ tail' = one_tail tail_is tail_is' in
    let places : place ≡ place' = one_blank (subst (λ (b : ℕ). IsBlankEntry old b place) tails room) room' in
    let at : tail + place ≡ tail' + place' = omega (arith, tails, places) in
    record {
      images = both_same (subst (λ (t : ℕ). AddsBoth old new (tail' + place') pointer' t p) tails
          (subst (λ (q : ℕ). AddsBoth old new (tail' + place') q tail p) pointers
          (subst (λ (c : ℕ). AddsBoth old new c pointer tail p) at adds))) adds';
      ends = to ∙ sym to_is;
      costs = is ∙ sym is';
    }
one_cost {old = old} (in_tail block pointer tail place walk ends tail_is room adds to is) new' to' cost'
    (in_new_block block' pointer' tail' walk' ends' tail_is' full' adds' to_is is') =
    let tails : tail ≡ tail' = one_tail tail_is tail_is' in
    absurd (not_both (subst (λ (b : ℕ). IsBlankEntry old b place) tails room) full')
one_cost {old = old} (in_new_block block pointer tail walk ends tail_is full adds to is) new' to' cost'
    (in_block block' place' walk' room' adds' holds' to_is is') =
    let blocks : block' ≡ block = one_walk walk' walk (blank_stops room') (pointer_stops ends) in
    absurd (blank_full (subst (λ (b : ℕ). IsBlankEntry old b place') blocks room') ends.full)
one_cost {old = old} (in_new_block block pointer tail walk ends tail_is full adds to is) new' to' cost'
    (in_tail block' pointer' tail' place' walk' ends' tail_is' room' adds' to_is is') =
    let tails : tail' ≡ tail = one_tail tail_is' tail_is in
    absurd (not_both (subst (λ (b : ℕ). IsBlankEntry old b place') tails room') full)
one_cost {p = p} {old = old} {new = new} {next = next} (in_new_block block pointer tail walk ends tail_is
    full adds to is)
    new' to' cost' (in_new_block block' pointer' tail' walk' ends' tail_is' full' adds' to_is is') =
    let blocks : block ≡ block' = one_walk walk walk' (pointer_stops ends) (pointer_stops ends') in
    let pointers : pointer ≡ pointer' =
    one_pointer (subst (λ (b : ℕ). EndsAtPointer old b p.key pointer) blocks ends) ends' in
    record {
      images = both_same (subst (λ (q : ℕ). AddsBoth old new next q next p) pointers adds) adds';
      ends = to ∙ sym to_is;
      costs = is ∙ sym is';
    }

-- and a row of postings does
one_row : {g : Layout} {new new' : Image} {to to' : ℕ} {rows : List ListedPosting} {old : Image} {next cost : ℕ}
    → PostingsCost g new to rows old next cost → (cost' : ℕ) → PostingsCost g new' to' rows old next cost'
    → cost ≡ cost'
one_row (none old next cost same to is) cost' (none _ _ _ same' to_is is') = is ∙ sym is'
one_row {g} {new} {to = to} (one a rows old mid next then cost first rest c costs is) cost'
    (one _ _ _ mid' _ then' _ first' rest' c' costs' is') =
    let o = one_cost c mid' then' first' c' in
    let there = subst (λ (n : ℕ). PostingsCost g new to rows mid' n rest) o.ends
    (subst (λ (i : Image). PostingsCost g new to rows i then rest) o.images costs) in
    let behind_it : rest ≡ rest' = one_row there rest' costs' in
    omega (arith, o.costs, behind_it, is, is')

-- Above each node of a path lies one of each lower level, whose bucket is passed and which leads down.
record LiesAbove (image : Image) (s : Sought) (root level : ℕ) : Type 0 where
  node : ℕ
  path : PassedTo image s root node level
  passed : IsPassed image s (node + nibble s.digest level)
  target : ℕ
  leads : LeadsDown image s node level target

above : {image : Image} {s : Sought} {root node level : ℕ} → PassedTo image s root node level → (lower : ℕ)
    → lower < level → LiesAbove image s root lower
above (at_root node level is zero_is) lower less = absurd (omega (arith, zero_is, less))
above {image} {s} {root} (down node level high before is rest passed leads) lower less = ⊎_elim
    (λ (same : before ≡ lower). subst (λ (l : ℕ). LiesAbove image s root l) same
    (record { node = high; path = rest; passed = passed; target = node; leads = leads }))
    (λ differ. above rest lower (lower_still before lower level is less differ))
    (same_or_not before lower)
  where
    lower_still : (b l v : ℕ) → v ≡ b + 1 → l < v → (b ≡ l → ⊥) → l < b
    lower_still b l v at below other = ⊎_elim (λ (low : l < b). low)
        (λ high. absurd (other (omega (arith, at, below, high)))) (cases_lt l b)

-- a path has one node of each level
one_node : {image : Image} {s : Sought} {root a b v : ℕ} → PassedTo image s root a v → (w : ℕ) → v ≡ w
    → PassedTo image s root b w → a ≡ b
one_node (at_root node level is zero_is) w same (at_root _ _ is' zero_is') = is ∙ sym is'
one_node (at_root node level is zero_is) w same (down _ _ high before at rest passed leads) =
    absurd (omega (arith, zero_is, same, at))
one_node (down node level high before at rest passed leads) w same (at_root _ _ is zero_is) =
    absurd (omega (arith, zero_is, same, at))
one_node {image} {s} {root} (down node level high before at rest passed leads) w same
    (down other _ high' before' at' rest' passed' leads') =
    let levels : before ≡ before' = omega (arith, at, at', same) in
    let nodes : high ≡ high' = one_node rest before' levels rest' in
    one_child leads (subst (λ (n : ℕ). LeadsDown image s n before other) (sym nodes)
    (subst (λ (l : ℕ). LeadsDown image s high' l other) (sym levels) leads'))

-- a path does not end both at a blank bucket and at a blank child cell
not_both_ends : (image : Image) (s : Sought) (root node level node' level' : ℕ) → PassedTo image s root node level
    → image (node + nibble s.digest level) ≡ None → PassedTo image s root node' level'
    → IsPassed image s (node' + nibble s.digest level') → image (node' + 16 + nibble s.digest level') ≡ None → ⊥
not_both_ends image s root node level node' level' path blank path' passed' child = ⊎_elim
    (λ (same : level ≡ level').
    let nodes : node ≡ node' = one_node path level' same path' in
    let at : node + nibble s.digest level ≡ node' + nibble s.digest level' =
    ap (λ (n : ℕ). n + nibble s.digest level) nodes ∙ ap (λ (l : ℕ). node' + nibble s.digest l) same in
    none-some passed'.bucket.cell (sym blank ∙ ap image at ∙ passed'.bucket.stands))
    (λ differ. ⊎_elim
    (λ (less : level < level').
    let h = above path' level less in
    let nodes : node ≡ h.node = one_node path level refl h.path in
    none-some h.passed.bucket.cell
    (sym blank ∙ ap image (ap (λ (n : ℕ). n + nibble s.digest level) nodes) ∙ h.passed.bucket.stands))
    (λ (less : level' < level).
    let h = above path level' less in
    let nodes : node' ≡ h.node = one_node path' level' refl h.path in
    none-some h.leads.child.cell
    (sym child ∙ ap image (ap (λ (n : ℕ). n + 16 + nibble s.digest level') nodes) ∙ h.leads.child.stands))
    differ)
    (cases_order level level')

one_bucket : {g : Layout} {image : Image} {id : List ℕ} {cost : ℕ} → BucketCosts g image id cost → (cost' : ℕ)
    → BucketCosts g image id cost' → cost ≡ cost'
one_bucket (in_bucket level node path blank is) cost' (in_bucket level' node' path' blank' is') = is ∙ sym is'
one_bucket {g} {image} {id} (in_bucket level node path blank is) cost'
    (in_new_node level' node' less path' passed child is') =
    absurd (not_both_ends image (sought_in g.cells g id) (root_at g) node level node' level' path blank
    path' passed child)
one_bucket {g} {image} {id} (in_new_node level node less path passed child is) cost'
    (in_bucket level' node' path' blank is') =
    absurd (not_both_ends image (sought_in g.cells g id) (root_at g) node' level' node level path' blank
    path passed child)
one_bucket (in_new_node level node less path passed child is) cost'
    (in_new_node level' node' less' path' passed' child' is') =
    is ∙ sym is'

pub need_one : NeedIsOne
need_one g image n id body stamp first second settled a b =
    let edges : a.edge ≡ b.edge = one_edge g image settled a.edge b.edge a.is_edge b.is_edge in
    let rows : a.rows ≡ b.rows = one_rows g stamp body n a.rows b.rows a.are b.are in
    let costs = subst (λ (e : ℕ). PostingsCost g a.new a.to b.rows image e a.postings) edges
    (subst (λ (r : List ListedPosting). PostingsCost g a.new a.to r image a.edge a.postings) rows a.costs) in
    let postings : a.postings ≡ b.postings = one_row costs b.postings b.costs in
    let buckets : a.bucket ≡ b.bucket = one_bucket a.bucket_costs b.bucket b.bucket_costs in
    omega (arith, a.sum, b.sum, postings, buckets)
