-- What may be asked of an open file of the host, and that just these calls were made of it.
use Rattle.std.specs.Prelude.{◌≡◌, ℕ, Bool, List, [], ◌∷◌, Option}

-- A call of an open file of the host, with what it answered.
pub data HostCall : Type 0 where
  -- to wait for the lock and take it
  ToHold : (done : Bool) → HostCall
  -- to take the lock if nobody else holds it: whether it was taken, where the host told
  ToTryHold : (taken : Option Bool) → HostCall
  -- to count its bytes: how many there are, where the host told
  ToCount : (bytes : Option ℕ) → HostCall
  -- to fill a slice from this offset on, which these bytes stood in then
  ToRead : (from : ℕ) (bytes : List ℕ) (done : Bool) → HostCall
  -- to write all these bytes from this offset on
  ToWrite : (from : ℕ) (bytes : List ℕ) (done : Bool) → HostCall
  -- to make sure all that was written
  ToSync : (done : Bool) → HostCall

-- Just these calls, one after another, led from one state of a file of the host to another. By Led one call leads from
-- a state to the next.
abbrev pub Made : {F : Type 0} → (F → HostCall → F → Type 0) → F → List HostCall → F → Type 0
Made Led old [] new = new ≡ old
Made {F = F} Led old (call ∷ calls) new = (mid : F) × Led old call mid × Made Led mid calls new
