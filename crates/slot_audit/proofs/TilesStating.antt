-- Rule 15 at slots that are stored.
use Rattle.std.proofs.Common.{◌≡◌, ◌<◌, inr, ℕ, sym, subst}
use Rattle.cell_types.specs.Image.{Image}
use Rattle.cell_types.specs.Layout.{Layout, outcome_at}
use Rattle.volume_meaning.specs.Slots.{IsDone, Stores}
use Rattle.tamper_rules.specs.Rules.{TilingRule, Tilings, IsMet}
use Rattle.log_audit.specs.Stored.{IsStored}
use Rattle.log_audit.specs.declared.stored.StoredSlot.{StoredSlot}
use Rattle.log_audit.proofs.Storing.{one_row}

-- rule 15 at slot n
abbrev pub SlotTiles : Layout → Image → ℕ → Type 0
SlotTiles g image n =
    (start reserved bytes journal : ℕ) → IsDone g image n start reserved bytes journal
    → TilingRule image start reserved bytes journal

-- a slot that is not done
pub none_tiles : {g : Layout} {image : Image} {n : ℕ} → ((a b c d : ℕ) → Stores g image n a b c d → ⊥)
    → SlotTiles g image n
none_tiles none a b c d done = absurd (none a b c d (record { commits = done.commits; done = inr done.done }))

-- one that is stored
pub slot_tiles : {g : Layout} {image : Image} {s : StoredSlot} {n : ℕ} → IsStored g image s → s.slot ≡ n
    → TilingRule image s.start s.length s.bytes s.journal → SlotTiles g image n
slot_tiles {g} {image} {s} {n} stored same rule a b c d done =
    let row = one_row stored same (record { commits = done.commits; done = inr done.done }) in
    subst (λ (w : ℕ). TilingRule image w b c d) (sym row.0)
    (subst (λ (x : ℕ). TilingRule image s.start x c d) (sym row.1)
    (subst (λ (y : ℕ). TilingRule image s.start s.length y d) (sym row.2)
    (subst (λ (z : ℕ). TilingRule image s.start s.length s.bytes z) (sym row.3) rule)))

pub no_slot_tiles : {g : Layout} {image : Image} {s : StoredSlot} {n : ℕ} → IsStored g image s → s.slot ≡ n
    → (TilingRule image s.start s.length s.bytes s.journal → ⊥) → SlotTiles g image n → ⊥
no_slot_tiles {g} {image} {s} {n} stored same none tiles = none (tiles s.start s.length s.bytes s.journal
    (subst (λ (k : ℕ). IsDone g image k s.start s.length s.bytes s.journal) same stored.done))

-- the rule asks no more of a cell than the slots do
pub asks : (g : Layout) (image : Image) (cell : ℕ)
    → ((k : ℕ) → k < g.slots → cell ≡ outcome_at k → SlotTiles g image k) → IsMet g image Tilings cell
asks g image cell each n a b c d here done = each n done.commits.reserves.slot here a b c d done
