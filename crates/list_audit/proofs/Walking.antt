-- A trail, block after block.
use Rattle.std.proofs.Common.{◌≡◌, ◌<◌, ◌≤◌, ◌+◌, ◌-◌, ◌^◌, ℕ, sym, subst, arith}
use Rattle.std.proofs.Math.Nat.{pow-le-pow_right}
use Rattle.cell_types.specs.Image.{Image}
use Rattle.cell_types.specs.Layout.{Layout, all_lists, list_at}
use Rattle.volume_meaning.specs.Blocks.{PostingFields, IsFull}
use Rattle.volume_meaning.specs.Nodes.{IsBlockOf}
use Rattle.volume_meaning.proofs.Fronts.{rises_or_same}
use Rattle.jump_block.proofs.OneBlock.{level_falls}
use Rattle.list_audit.proofs.Closing.{first_is}
use Rattle.list_audit.specs.Trails.{HasTrail, LeadsOnTo}

-- The posting has a trail from the list's first block just where it has one from this block, which is behind so many
-- others: if it is full, its greatest key is so near to the posting's.
pub record IsOnWay (g : Layout) (image : Image) (l : ℕ) (p : PostingFields) (turn block : ℕ) : Type 0 where
  pub most : turn ≤ 8
  pub is : IsBlockOf g image l block
  pub low : ℕ
  pub from : low ≤ p.key
  pub near : p.key < low + 16 ^ (8 - turn)
  pub greatest : (q : PostingFields) → IsFull image block q → low ≤ q.key
  pub down : HasTrail g image p (list_at g l) → HasTrail g image p block
  pub up : HasTrail g image p block → HasTrail g image p (list_at g l)

pub sets_out : (g : Layout) (image : Image) (l : ℕ) (p : PostingFields) (block : ℕ) → l < all_lists g → p.key < 16 ^ 8 → block ≡ list_at g l
    → IsOnWay g image l p 0 block
sets_out g image l p block less few at = subst (IsOnWay g image l p 0) (sym at) (record {
  most = omega arith;
  is = first_is g image l less;
  low = 0;
  from = omega arith;
  near = few;
  greatest = λ q full. omega arith;
  down = λ has. has;
  up = λ has. has;
})

pub goes_on : {g : Layout} {image : Image} {l : ℕ} {p : PostingFields} {turn block target : ℕ} → IsOnWay g image l p turn block
    → LeadsOnTo g image l p block target → IsOnWay g image l p (turn + 1) target
goes_on {g} {image} {l} {p} {turn} {block} {target} w to =
    let least = w.greatest to.greatest to.full in
    let falls = level_falls to.greatest.key p.key w.low (w.low + 16 ^ (8 - turn)) (8 - turn) to.span to.is to.low w.near (omega arith) least in
    let narrow : 16 ^ to.span.level ≤ 16 ^ (8 - (turn + 1)) = pow-le-pow_right (omega arith) (omega (arith, falls)) in
    record {
      most = omega (arith, falls);
      is = to.lands;
      low = to.span.low;
      from = to.low;
      near = omega (arith, to.high, to.is.high, narrow);
      greatest = λ q full. let up = rises_or_same to.in_front full (omega (arith, to.in_places)) in omega (arith, up, to.from);
      down = λ has. to.down (w.down has);
      up = λ has. w.up (to.up has);
    }
