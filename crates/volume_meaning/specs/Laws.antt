-- What was seen of slots goes on, and a slot has one stamp.
use Rattle.std.specs.Prelude.{◌≡◌, ℕ, Option}
use Rattle.cell_types.specs.Image.{Image, Extends}
use Rattle.cell_types.specs.Layout.{Layout, IsLayout}
use Rattle.volume_meaning.specs.Slots.{Commits, IsUnused, IsReserved, IsAbandoned, IsCommitted, IsDone, HasEnded, IsHorizon, IsEdge, IsLive, IsStampOf}

-- What was seen between two images was seen between any that lie further apart.
pub record SeenFurther : Type 0 where
  pub unused : (g : Layout) (before before' : Image) (n : ℕ) → Extends before' before → IsUnused g before n
      → IsUnused g before' n
  pub reserved : (g : Layout) (before before' after after' : Image) (n start length : ℕ)
      → Extends before' before → Extends after after'
      → IsReserved g before after n start length → IsReserved g before' after' n start length
  pub abandoned : (g : Layout) (before before' after after' : Image) (n start length : ℕ)
      → Extends before' before → Extends after after'
      → IsAbandoned g before after n start length → IsAbandoned g before' after' n start length
  pub committed : (g : Layout) (before before' after after' : Image) (n start length bytes journal : ℕ)
      → Extends before' before → Extends after after'
      → IsCommitted g before after n start length bytes journal
      → IsCommitted g before' after' n start length bytes journal
  pub done : (g : Layout) (after after' : Image) (n start length bytes journal : ℕ) → Extends after after'
      → IsDone g after n start length bytes journal → IsDone g after' n start length bytes journal
  pub ended : (g : Layout) (before before' after after' : Image) (n : ℕ) → Extends before' before
      → Extends after after'
      → HasEnded g before after n → HasEnded g before' after' n
  pub horizon : (g : Layout) (before before' after after' : Image) (u : ℕ) → Extends before' before
      → Extends after after'
      → IsHorizon g before after u → IsHorizon g before' after' u
  pub edge : (g : Layout) (before before' after after' : Image) (at : ℕ) → Extends before' before
      → Extends after after'
      → IsEdge g before after at → IsEdge g before' after' at
  pub live : (g : Layout) (after after' : Image) (n : ℕ) → Extends after after' → IsLive g after n → IsLive g after' n

-- A slot has at most one stamp, and one that states its document has it.
pub record StampsAreOne : Type 0 where
  pub one : (g : Layout) (image : Image) (n : ℕ) (a b : Option ℕ) → IsStampOf g image n a → IsStampOf g image n b
      → a ≡ b
  pub some : (g : Layout) (image : Image) (n start length bytes journal : ℕ) → IsLayout g
      → Commits g image n start length bytes journal → (stamp : Option ℕ) × IsStampOf g image n stamp
