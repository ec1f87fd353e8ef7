-- Grants to which planned cells lead, and one more of them.
use Rattle.std.proofs.Common.{◌≡◌, ◌+◌, ◌++◌, ℕ, zero, suc, List, [], ◌∷◌, Some, refl, ap, sym, subst}
use Rattle.std.specs.Prelude.{slice_get}
use Rattle.std.proofs.lemmas.Option.{none-some}
use Rattle.cell_types.specs.Image.{Image, Extends, IsUnchanged}
use Rattle.worm_device.specs.Calls.{Called}
use Rattle.worm_device.specs.Counts.{IsStill}
use Rattle.worm_device.specs.State.{DeviceState}
use Rattle.worm_device.proofs.Counting.{still_first, still_second}
use Rattle.worm_device.proofs.Images.{unchanged_then}
use Rattle.volume_meaning.proofs.Extending.{holds_on}
use Rattle.cell_pool.specs.Grants.{Grant, GrantsTileCells}
use Rattle.ingest_plan.specs.Granting.{GivesWhatIsLedTo, IsGrantLedTo, to_block, to_node}

-- a piece behind tiles
tile_more : (from to size : ℕ) (grants : List Grant) → GrantsTileCells from to grants
    → GrantsTileCells from (to + size) (grants ++ (record { at = to; size = size } ∷ []))
tile_more from to size [] tile = (sym tile, ap (λ (n : ℕ). n + size) tile)
tile_more from to size (grant ∷ grants) tile = (tile.0, tile_more (from + grant.size) to size grants tile.1)

-- what holds of each grant and of one more holds of all
each_more : (P : Grant → Type 0) (grants : List Grant) (one : Grant)
    → ((i : ℕ) (grant : Grant) → slice_get grants i ≡ Some grant → P grant) → P one
    → (i : ℕ) (grant : Grant) → slice_get (grants ++ (one ∷ [])) i ≡ Some grant → P grant
each_more P [] one each last zero grant is = let same : one ≡ grant = cc in subst P same last
each_more P [] one each last (suc i) grant is = absurd (none-some grant is)
each_more P (other ∷ grants) one each last zero grant is = each zero grant is
each_more P (other ∷ grants) one each last (suc i) grant is =
    each_more P grants one (λ j found h. each (suc j) found h) last i grant is

led_on : {old new : Image} {grant : Grant} → Extends old new → IsGrantLedTo old grant → IsGrantLedTo new grant
led_on more (to_block cell holds size) = to_block cell (holds_on more holds) size
led_on more (to_node cell holds size) = to_node cell (holds_on more holds) size

-- the pool has given nothing yet
pub gives_nothing : (planned : Image) (from : ℕ) → GivesWhatIsLedTo planned from from
gives_nothing planned from = ([], record { tile = refl; led = λ i grant is. absurd (none-some grant is) })

-- more is planned, and the pool gave nothing
pub gives_on : {old new : Image} {from to later : ℕ} → Extends old new → later ≡ to → GivesWhatIsLedTo old from to
    → GivesWhatIsLedTo new from later
gives_on {from = from} more same given = (
  given.0,
  record {
    tile = subst (λ (n : ℕ). GrantsTileCells from n given.0) (sym same) given.1.tile;
    led = λ i grant is. led_on more (given.1.led i grant is);
  },
)

-- more is planned, and leads to what the pool gave
pub gives_more : {old new : Image} {from later : ℕ} (to size : ℕ) → Extends old new → later ≡ to + size
    → IsGrantLedTo new (record { at = to; size = size }) → GivesWhatIsLedTo old from to → GivesWhatIsLedTo new from later
gives_more {new = new} {from = from} to size more same led given =
    let one : Grant = record { at = to; size = size } in (
      given.0 ++ (one ∷ []),
      record {
        tile = subst (λ (n : ℕ). GrantsTileCells from n (given.0 ++ (one ∷ []))) (sym same) (tile_more from to size given.0 given.1.tile);
        led = each_more (λ grant. IsGrantLedTo new grant) given.0 one (λ i grant is. led_on more (given.1.led i grant is)) led;
      },
    )

-- where nobody else wrote, the device stands as it did
abbrev pub StaysQuiet : DeviceState → DeviceState → Type 0
StaysQuiet old new = IsStill old.foreign_writes new.foreign_writes → IsUnchanged old.image new.image

-- one row of calls after another
pub quiet_then : {a b c : DeviceState} → Called a b → Called b c → StaysQuiet a b → StaysQuiet b c → StaysQuiet a c
quiet_then first second quiet quiet_too = λ still.
    let earlier = first.foreign_writes in
    let later = second.foreign_writes in
    unchanged_then (quiet (still_first earlier later still)) (quiet_too (still_second earlier later still))
