-- What journal cells lead to.
use Rattle.std.proofs.Common.{◌≡◌, ◌<◌, ◌+◌, ◌⊎◌, ⊎_elim, take, inl, inr, ℕ, Some, refl, sym, ◌∙◌, subst, ap, arith}
use Rattle.cell_types.specs.Image.{Image}
use Rattle.cell_types.specs.Layout.{Layout}
use Rattle.cell_types.specs.Records.{IsRecordCell}
use Rattle.cell_types.specs.declared.record_cell.RecordCell.{RecordCell}
use Rattle.cell_types.specs.declared.record_cell.RecordCell.TheVariants.{Volume, Reserve, Commit, Abandon, Done, Posting, Jump, Bucket, Child, Stamp}
use Rattle.cell_types.proofs.OneRecord.{address_in, body_in, body_is_one}
use Rattle.volume_meaning.proofs.Holding.{some_is}
use Rattle.tamper_rules.specs.Journals.{journal_at, CopiesIndexCell, IsInOrder, IsIndexRecord}
use Rattle.tamper_rules.specs.Rules.{HasJump, HasChild, Journals}
use Rattle.recovery_engine.specs.Entries.{target_of}
use Rattle.log_audit.specs.Findings.{IsMetAll}
use Rattle.log_audit.specs.Stored.{IsStored}
use Rattle.log_audit.specs.declared.stored.StoredSlot.{StoredSlot}
use Rattle.log_audit.proofs.Storing.{stores_it}
use Rattle.slot_audit.specs.Copied.{IsCopied}
use Rattle.slot_audit.specs.Tables.{HaveTargets, IsLedByJournal}
use Rattle.slot_audit.specs.Tiles.{HasTile, tile_in}
use Rattle.slot_audit.specs.declared.tile.Tile.{Tile}

-- a record that leads to a tile is a jump to a block, or a child to a node
leads_to : (held : RecordCell) (tile : Tile) → tile_in held ≡ Some tile
    → ((held ≡ Jump tile.target) × (tile.size ≡ 256)) ⊎ ((held ≡ Child tile.target) × (tile.size ≡ 32))
leads_to (Jump target) tile leads =
    let e : record { target = target; size = 256 } ≡ tile = cc in
    inl (ap (λ (x : Tile). Jump x.target) e, sym (ap (λ (x : Tile). x.size) e))
leads_to (Child target) tile leads =
    let e : record { target = target; size = 32 } ≡ tile = cc in
    inr (ap (λ (x : Tile). Child x.target) e, sym (ap (λ (x : Tile). x.size) e))
leads_to (Volume a b c d) tile leads = absurd (cc)
leads_to (Reserve a b) tile leads = absurd (cc)
leads_to (Commit a b) tile leads = absurd (cc)
leads_to Abandon tile leads = absurd (cc)
leads_to (Done a) tile leads = absurd (cc)
leads_to (Posting a b c) tile leads = absurd (cc)
leads_to (Bucket a b) tile leads = absurd (cc)
leads_to (Stamp a) tile leads = absurd (cc)

-- a copy of an index cell, told otherwise
copied_by : {image : Image} {s l j place at : ℕ} {held : RecordCell} → CopiesIndexCell image s l j place at held
    → IsCopied image (journal_at s l j + place) held
copied_by {image} {s} {l} {j} {place} {at} {held} c = record {
  cell = c.entry;
  stands = c.stands;
  is = subst (λ (t : ℕ). IsRecordCell held t c.entry) (sym (address_in held at c.entry c.address c.is)) c.is;
}

-- a jump leads to a block
pub jump_led : {image : Image} {s : StoredSlot} {target : ℕ} → HasJump image s.start s.length s.journal target
    → IsLedByJournal image s s.journal target 256
jump_led {image} {s} {target} j = record {
  place = j.0;
  below = j.2.below;
  has = record { held = Jump target; copied = copied_by j.2; leads = refl };
}

-- a child leads to a node
pub child_led : {image : Image} {s : StoredSlot} {target : ℕ} → HasChild image s.start s.length s.journal target
    → IsLedByJournal image s s.journal target 32
child_led {image} {s} {target} j = record {
  place = j.0;
  below = j.2.below;
  has = record { held = Child target; copied = copied_by j.2; leads = refl };
}

-- where rule 5 is kept, each written journal cell of a stored slot has a target
pub have_targets : (g : Layout) (image : Image) (s : StoredSlot) → IsMetAll g image Journals → IsStored g image s
    → HaveTargets image s
have_targets g image s met stored place less held c =
    let o : IsInOrder g image s.slot s.start s.length s.bytes s.journal place =
    (met (journal_at s.start s.length s.journal + place) (record { found = c.cell; stands = c.stands })).copy
    s.slot s.start s.length s.bytes s.journal place (stores_it stored) less refl in
    let same = some_is o.copies.entry c.cell (sym o.copies.stands ∙ c.stands) in
    let read = address_in o.copied o.target o.copies.entry o.copies.address o.copies.is in
    omega (arith, read, ap target_of same, o.copies.address)

module _ (image : Image) (s : StoredSlot) (targets : HaveTargets image s) where
  copies_by : (place : ℕ) → place < s.journal → (held : RecordCell) → IsIndexRecord held
      → (c : IsCopied image (journal_at s.start s.length s.journal + place) held)
      → CopiesIndexCell image s.start s.length s.journal place (target_of c.cell) held
  copies_by place less held index c = record {
    below = less;
    entry = c.cell;
    stands = c.stands;
    index = index;
    address = targets place less held c;
    is = c.is;
  }

  -- what a place leads to is a jump's or a child's
  pub led_by : (target size : ℕ) → IsLedByJournal image s s.journal target size
      → ((size ≡ 256) × HasJump image s.start s.length s.journal target)
      ⊎ ((size ≡ 32) × HasChild image s.start s.length s.journal target)
  led_by target size led = ⊎_elim
      (λ j. inl (
        j.1,
        (
          led.place,
          _,
          copies_by led.place led.below (Jump target) tt
              (subst (IsCopied image (journal_at s.start s.length s.journal + led.place)) j.0 led.has.copied),
        ),
      ))
      (λ c. inr (
        c.1,
        (
          led.place,
          _,
          copies_by led.place led.below (Child target) tt
              (subst (IsCopied image (journal_at s.start s.length s.journal + led.place)) c.0 led.has.copied),
        ),
      ))
      (leads_to led.has.held (record { target = target; size = size }) led.has.leads)

-- a cell has one tile
pub one_tile : {image : Image} {at : ℕ} {a b : Tile} → HasTile image at a → HasTile image at b → a ≡ b
one_tile {image} {at} {a} {b} h k =
    let cell : h.copied.cell ≡ k.copied.cell = some_is h.copied.cell k.copied.cell (sym h.copied.stands ∙ k.copied.stands) in
    let one = body_in h.held (target_of h.copied.cell) h.copied.cell h.copied.is in
    let other = body_in k.held (target_of k.copied.cell) k.copied.cell k.copied.is in
    let held : h.held ≡ k.held = body_is_one h.held k.held h.copied.is.fits k.copied.is.fits
    (one ∙ ap (take 12) cell ∙ sym other) in
    let both : Some a ≡ Some b = sym h.leads ∙ ap tile_in held ∙ k.leads in
    cc
