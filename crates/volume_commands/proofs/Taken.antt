-- What a source has given when a body was not taken, and when one was.
use Rattle.std.proofs.Common.{◌≡◌, ◌≤◌, ◌+◌, ◌++◌, ℕ, List, length, Option, Err, sym, ap, subst, arith, length-append}
use Rattle.host_ports.specs.Sources.{SourceState, Gives}
use Rattle.volume_meaning.specs.Documents.{IsBody}
use Rattle.volume_meaning.specs.declared.limits.TheConstants.{MAX_BODY_BYTES}
use Rattle.worm_device.specs.Counts.{Rose}
use Rattle.volume_commands.specs.declared.body.BodyFault.{BodyFault}
use Rattle.volume_commands.specs.declared.body.BodyFault.TheVariants.{TooLong, SourceFailed, NoMemory}
use Rattle.volume_commands.specs.Taking.{AreBytesUpTo, BodyFails, TakePieceEnds, TakesPiece}
use Rattle.volume_commands.proofs.Pieces.{gives_then}

module _ (limit : ℕ) (body body' : List ℕ) (first old new : SourceState)
    (so_far : Gives first.left old.left body) (room : ℕ)
    (within : length body + room ≤ limit + 1) where
  -- the last piece could not be taken
  pub piece_failed : (fault : BodyFault) → TakePieceEnds room body body' old new (Err fault) → AreBytesUpTo limit body
      → old.faults ≡ first.faults
      → (given : List ℕ) × Gives first.left new.left given × BodyFails limit given first new fault
  piece_failed TooLong ends is same = absurd ends
  piece_failed SourceFailed ends is same = (
    body,
    subst (λ (l : Option (List ℕ)). Gives first.left l body) (sym ends.0) so_far,
    (is, subst (λ (n : ℕ). Rose n new.faults) same ends.1),
  )
  piece_failed (NoMemory lack) ends is same = (
    body ++ ends.piece,
    gives_then first.left old.left new.left body ends.piece so_far ends.gives,
    omega (arith, length-append body ends.piece, ends.most, within),
  )

  -- the last piece was one byte too long
  pub piece_too_long : (n : ℕ) → TakesPiece room body body' old new n → limit + 1 ≤ length body'
      → (given : List ℕ) × Gives first.left new.left given × BodyFails limit given first new TooLong
  piece_too_long n takes past = (
    body',
    subst (λ (l : List ℕ). Gives first.left new.left l) (sym takes.whole)
        (gives_then first.left old.left new.left body takes.piece so_far takes.gives),
    omega (arith, ap length takes.whole, length-append body takes.piece, takes.count, takes.most, within, past),
  )

-- bytes as many as a body may have
pub is_body : {body : List ℕ} → AreBytesUpTo MAX_BODY_BYTES body → IsBody body
is_body up = record { bytes = up.bytes; most = up.most }
