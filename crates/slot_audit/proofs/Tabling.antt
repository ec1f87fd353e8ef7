-- The tiles of a slot by their first cells: none yet, one more, and all; and that they follow one another as rule 15 asks.
use Rattle.std.proofs.Common.{◌≡◌, ◌≢◌, ◌<◌, ◌≤◌, ◌+◌, ◌⊎◌, ◌↔◌, ⊎_elim, inl, inr, ℕ, Bool, Option, Some, None, refl, sym, ◌∙◌, subst, ap, arith}
use Rattle.std.specs.Prelude.{IsTrue}
use Rattle.std.specs.Ordering.{nat_cmp}
use Rattle.std.specs.BTreeMap.{BTreeMap, get, Updates}
use Rattle.std.proofs.lemmas.Bool.{cases_eq}
use Rattle.std.proofs.lemmas.Grind.{common_steps}
use Rattle.std.proofs.lemmas.Option.{none-some}
use Rattle.cell_types.specs.Image.{Image}
use Rattle.volume_meaning.specs.Documents.{document_at}
use Rattle.tamper_rules.specs.Journals.{journal_at}
use Rattle.tamper_rules.specs.Rules.{IsSize, TilingRule}
use Rattle.log_audit.specs.declared.stored.StoredSlot.{StoredSlot}
use Rattle.log_audit.proofs.Orders.{below_or_at}
use Rattle.slot_audit.specs.Tables.{HaveTargets, HasAtLeast, IsLedByJournal, IsInOwnBlocks, IsTable, IsWithTile, Follow, ended, tile, LieWithin}
use Rattle.slot_audit.specs.Tiles.{HasTile}
use Rattle.slot_audit.specs.Walks.{IsOwnTarget, WalksTiles, over, next}
use Rattle.slot_audit.specs.declared.tile.Tile.{Tile}
use Rattle.slot_audit.proofs.Leading.{jump_led, child_led, led_by, one_tile}
use Rattle.slot_audit.proofs.Tiling.{walks_tell}

one_value : (sizes : ℕ → Option ℕ) (t z w : ℕ) → sizes t ≡ Some z → sizes t ≡ Some w → z ≡ w
one_value sizes t z w a b = let e : Some z ≡ Some w = sym a ∙ b in cc

-- no place was looked at yet
pub no_table : (image : Image) (s : StoredSlot) (sizes : ℕ → Option ℕ) → ((t : ℕ) → sizes t ≡ None) → IsTable image s 0 sizes
no_table image s sizes none = record {
  sound = λ t z is. absurd (none-some z (sym (none t) ∙ is));
  all = λ t z led inside. absurd (omega (arith, led.below));
}

-- a tile that was there
pub with_same : {sizes : ℕ → Option ℕ} {one : Tile} → HasAtLeast sizes one → IsWithTile sizes sizes one
with_same {sizes} {one} has = record {
  size = has.size;
  here = has.here;
  most = has.most;
  rises = λ before is. let e = one_value sizes one.target before has.size is has.here in omega (arith, e);
  either = inr has.here;
  others = λ t differs. refl;
}

-- one that was not
pub with_new : (old new : BTreeMap ℕ ℕ) (one : Tile) → (HasAtLeast (λ t. get nat_cmp old t) one → ⊥)
    → Updates nat_cmp old new one.target (Some one.size) → IsWithTile (λ t. get nat_cmp old t) (λ t. get nat_cmp new t) one
with_new old new one none updates = record {
  size = one.size;
  here = updates.1;
  most = omega arith;
  rises = λ before is. ⊎_elim
      (λ (less : before < one.size). omega (arith, less))
      (λ (most : one.size ≤ before). absurd (none (record { size = before; here = is; most = most })))
      (split before one.size);
  either = inl refl;
  others = λ t differs. other t differs;
}
  where
    split : (a b : ℕ) → (a < b) ⊎ (b ≤ a)
    split a b = grind arith

    other : (t : ℕ) → t ≢ one.target → get nat_cmp new t ≡ get nat_cmp old t
    other t differs = grind (arith, common_steps, updates.2 t)

-- the tile of the place that is written otherwise
pub moved : (image : Image) (from to place : ℕ) (one : Tile) → from ≡ to → HasTile image (from + place) one
    → HasTile image (to + place) one
moved image from to place one same has = subst (λ (k : ℕ). HasTile image (k + place) one) same has

-- a cell's tile does not lie in the slot's own part
pub lies_outside : {image : Image} {at : ℕ} {one : Tile} (s : StoredSlot) → HasTile image at one
    → (one.target < s.start) ⊎ (document_at s.start s.length s.bytes s.journal ≤ one.target)
    → (t z : ℕ) → HasTile image at (record { target = t; size = z }) → IsInOwnBlocks s t → ⊥
lies_outside {image} {at} {one} s has out t z here inside =
    let eq : record { target = t; size = z } ≡ one = one_tile here has in
    let same : t ≡ one.target = ap (λ (x : Tile). x.target) eq in
    ⊎_elim (λ less. omega (arith, less, same, inside.from)) (λ past. omega (arith, past, same, inside.to)) out

module _ {image : Image} {s : StoredSlot} {p : ℕ} {old : ℕ → Option ℕ} (table : IsTable image s p old) where
  more_places : {t z : ℕ} → IsLedByJournal image s p t z → IsLedByJournal image s (p + 1) t z
  more_places led = record { place = led.place; below = omega (arith, led.below); has = led.has }

  -- a place of which no tile is to be kept
  pub table_same : ((t z : ℕ) → HasTile image (journal_at s.start s.length s.journal + p) (record { target = t; size = z })
      → IsInOwnBlocks s t → ⊥) → IsTable image s (p + 1) old
  table_same none = record {
    sound = λ t z is. let k = table.sound t z is in (more_places k.0, k.1);
    all = λ t z led inside. ⊎_elim
        (λ (earlier : led.place < p). table.all t z (record { place = led.place; below = earlier; has = led.has }) inside)
        (λ (here : led.place ≡ p). absurd (none t z
        (subst (λ (k : ℕ). HasTile image (journal_at s.start s.length s.journal + k) (record { target = t; size = z })) here led.has)
        inside))
        (below_or_at led.place p led.below);
  }

  -- a place of which the tile is kept
  pub table_more : {new : ℕ → Option ℕ} {one : Tile} → HasTile image (journal_at s.start s.length s.journal + p) one
      → IsInOwnBlocks s one.target → IsWithTile old new one → IsTable image s (p + 1) new
  table_more {new} {one} has inside with = record {
    sound = λ t z is. ⊎_elim
        (λ (same : t ≡ one.target). subst (λ (k : ℕ). IsLedByJournal image s (p + 1) k z × IsInOwnBlocks s k) (sym same)
        (there z (subst (λ (k : ℕ). new k ≡ Some z) same is)))
        (λ differ. let k = table.sound t z (sym (with.others t differ) ∙ is) in (more_places k.0, k.1))
        (cases_eq t one.target);
    all = λ t z led in_part. ⊎_elim
        (λ (earlier : led.place < p).
        let m = table.all t z (record { place = led.place; below = earlier; has = led.has }) in_part in
        ⊎_elim
        (λ (same : t ≡ one.target). (
          with.size,
          subst (λ (k : ℕ). new k ≡ Some with.size) (sym same) with.here,
          (let up = with.rises m.0 (subst (λ (k : ℕ). old k ≡ Some m.0) same m.1) in omega (arith, up, m.2)),
        ))
        (λ differ. (m.0, with.others t differ ∙ m.1, m.2))
        (cases_eq t one.target))
        (λ (here : led.place ≡ p).
        let eq : record { target = t; size = z } ≡ one = one_tile
        (subst (λ (k : ℕ). HasTile image (journal_at s.start s.length s.journal + k) (record { target = t; size = z })) here led.has)
        has in
        let same : t ≡ one.target = ap (λ (x : Tile). x.target) eq in
        let size : z ≡ one.size = ap (λ (x : Tile). x.size) eq in
        (with.size, subst (λ (k : ℕ). new k ≡ Some with.size) (sym same) with.here, omega (arith, size, with.most)))
        (below_or_at led.place p led.below);
  }
    where
      there : (z : ℕ) → new one.target ≡ Some z → IsLedByJournal image s (p + 1) one.target z × IsInOwnBlocks s one.target
      there z is =
          let eq : z ≡ with.size = one_value new one.target z with.size is with.here in
          ⊎_elim
          (λ (own : with.size ≡ one.size). (
            record {
              place = p;
              below = omega arith;
              has = subst (λ (k : ℕ). HasTile image (journal_at s.start s.length s.journal + p) (record { target = one.target; size = k }))
                  (sym (eq ∙ own)) has;
            },
            inside,
          ))
          (λ (before : old one.target ≡ Some with.size).
          let k = table.sound one.target z (before ∙ ap Some (sym eq)) in (more_places k.0, k.1))
          with.either

module _ (image : Image) (s : StoredSlot) (targets : HaveTargets image s) (sizes : ℕ → Option ℕ)
    (table : IsTable image s s.journal sizes) where
  abbrev doc : ℕ
  doc = document_at s.start s.length s.bytes s.journal

  -- the tiles of the table are the slot's own, with their sizes
  key_own : (t z : ℕ) → sizes t ≡ Some z
      → IsOwnTarget image s.start s.length s.bytes s.journal t × IsSize image s.start s.length s.journal t z
  key_own t z is =
      let k = table.sound t z is in
      ⊎_elim
      (λ j. (record { led = inl j.1; from = k.1.from; below = k.1.to }, inl (j.0, j.1)))
      (λ c. (
        record { led = inr c.1; from = k.1.from; below = k.1.to },
        inr (
          c.0,
          λ jump. let m = table.all t 256 (jump_led jump) k.1 in
              let e = one_value sizes t m.0 z m.1 is in omega (arith, m.2, e, c.0),
        ),
      ))
      (led_by image s targets t z k.0)

  own_key : (t : ℕ) → IsOwnTarget image s.start s.length s.bytes s.journal t → (z : ℕ) × (sizes t ≡ Some z)
  own_key t own = ⊎_elim
      (λ jump. let m = table.all t 256 (jump_led jump) (record { from = own.from; to = own.below }) in (m.0, m.1))
      (λ child. let m = table.all t 32 (child_led child) (record { from = own.from; to = own.below }) in (m.0, m.1))
      own.led

  one_size : (t z w : ℕ) → IsSize image s.start s.length s.journal t z → IsSize image s.start s.length s.journal t w → z ≡ w
  one_size t z w a b = ⊎_elim
      (λ j. ⊎_elim (λ k. omega (arith, j.0, k.0)) (λ n. absurd (n.1 j.1)) b)
      (λ n. ⊎_elim (λ j. absurd (n.1 j.1)) (λ k. omega (arith, n.0, k.0)) b)
      a

  follow_walk : (at : ℕ) → Follow sizes doc at → WalksTiles image s.start s.length s.bytes s.journal doc at
  follow_walk at (ended a same) = over a same
  follow_walk at (tile a size less is none rest) =
      next a size less (key_own a size is).0 (key_own a size is).1
      (λ t up down own. let k = own_key t own in none t k.0 up down k.1)
      (follow_walk (a + size) rest)

  walk_follow : (at : ℕ) → WalksTiles image s.start s.length s.bytes s.journal doc at → Follow sizes doc at
  walk_follow at (over a same) = ended a same
  walk_follow at (next a size less own is none rest) =
      let k = own_key a own in
      let eq : k.0 ≡ size = one_size a k.0 size (key_own a k.0 k.1).1 is in
      tile a size less (subst (λ (z : ℕ). sizes a ≡ Some z) eq k.1)
      (λ t z up down here. none t up down (key_own t z here).0)
      (walk_follow (a + size) rest)

  pub lie_within : LieWithin sizes s.start doc
  lie_within t z is =
      let k = table.sound t z is in
      (k.1.from, k.1.to, ⊎_elim (λ j. omega (arith, j.0)) (λ c. omega (arith, c.0)) (led_by image s targets t z k.0))

  -- they follow one another just where rule 15 is kept
  pub tiled_rule : (b : Bool) → s.start ≤ doc → (IsTrue b ↔ Follow sizes doc s.start)
      → (IsTrue b ↔ TilingRule image s.start s.length s.bytes s.journal)
  tiled_rule b order both =
      let law = walks_tell image s.start s.length s.bytes s.journal order in (
        λ yes. law.1 (follow_walk s.start (both.0 yes)),
        λ rule. both.1 (walk_follow s.start (law.0 rule)),
      )
