-- One more change of a file in memory.
use Rattle.std.specs.Prelude.{◌≡◌, ◌<◌, ◌+◌, ◌^◌, ℕ, List, [], ◌∷◌, ◌++◌, length, Ok, Err}
use Rattle.std.proofs.Common.{refl, ◌∙◌, ap, arith, inl, inr}
use Rattle.std.proofs.Math.Seq.{take-length}
use Rattle.std.proofs.lemmas.List.{take-append-le, length-append}
use Rattle.worm_device.specs.declared.device.Failed.{Failed}
use Rattle.host_files.specs.File.{HeldBytes, Becomes, WritesAt, Flushes}
use Rattle.host_files.specs.Memory.{FileMemory, held_after, held_after_all, all_sure, held_at, told_of, file_of, file_with_call, file_with_change, file_with_fault, with_part}
use Rattle.host_files.specs.declared.change.FileChange.{FileChange}
use Rattle.host_files.specs.declared.change.FileChange.TheVariants.{Put, Synced}

-- a change after a row of changes
pub after_append : (held : HeldBytes) (changes : List FileChange) (change : FileChange)
    → held_after_all held (changes ++ change ∷ []) ≡ held_after (held_after_all held changes) change
after_append held [] change = refl
after_append held (first ∷ changes) change = after_append (held_after held first) changes change

one_longer : (changes : List FileChange) (change : FileChange) → length (changes ++ change ∷ []) ≡ length changes + 1
one_longer changes change = simp length-append

-- time has gone on by one moment
pub becomes : (m : FileMemory) (change : FileChange)
    → Becomes (told_of m) (told_of (file_with_change m change)) (held_after (held_at m m.changes) change)
becomes m change = record {
  now = after_append (all_sure m.first) m.changes change;
  later = one_longer m.changes change;
  last = ap (held_at m)
      (take-append-le (length m.changes) m.changes (change ∷ []) (omega arith) ∙ take-length m.changes);
  past = λ moment before. ap (held_at m) (take-append-le moment m.changes (change ∷ []) (omega (arith, before)));
}

-- a write that answered
pub put_answers : (m : FileMemory) (from : ℕ) (piece : List ℕ)
    → WritesAt from piece (file_of m) (file_of (file_with_change (file_with_call m) (Put from piece))) (Ok tt)
put_answers m from piece = record {
  size = refl;
  left = becomes m (Put from piece);
  parts = refl;
  later = omega arith;
  cause = refl;
}

-- a write that failed, and left nothing
pub nothing_left : (m : FileMemory) (from : ℕ) (piece : List ℕ) (failed : Failed) → m.faults < 2 ^ 64
    → WritesAt from piece (file_of m) (file_of (file_with_fault m)) (Err failed)
nothing_left m from piece failed fits = record {
  size = refl;
  left = inl refl;
  parts = omega arith;
  later = omega (arith, fits);
  cause = omega arith;
}

-- or all
pub all_left : (m : FileMemory) (from : ℕ) (piece : List ℕ) (failed : Failed) → m.faults < 2 ^ 64 → length piece ≡ 16
    → WritesAt from piece (file_of m) (file_of (file_with_fault (file_with_change m (Put from piece)))) (Err failed)
all_left m from piece failed fits sixteen = record {
  size = refl;
  left = inr (piece, sixteen, becomes m (Put from piece), inl refl);
  parts = omega arith;
  later = omega (arith, fits);
  cause = omega arith;
}

-- or a part
pub part_left : (m : FileMemory) (from : ℕ) (piece part : List ℕ) (failed : Failed) → m.faults < 2 ^ 64
    → m.parts < 2 ^ 64 → length part ≡ 16
    → WritesAt from piece (file_of m)
    (file_of (file_with_fault (with_part (file_with_change m (Put from part))))) (Err failed)
part_left m from piece part failed fits few sixteen = record {
  size = refl;
  left = inr (part, sixteen, becomes m (Put from part), inr (omega arith));
  parts = omega (arith, few);
  later = omega (arith, fits);
  cause = omega arith;
}

-- a write that failed, from its call on
pub after_call : (m new : FileMemory) (from : ℕ) (piece : List ℕ) (failed : Failed)
    → WritesAt from piece (file_of (file_with_call m)) (file_of new) (Err failed)
    → WritesAt from piece (file_of m) (file_of new) (Err failed)
after_call m new from piece failed w = record {
  size = w.size;
  left = w.left;
  parts = w.parts;
  later = w.later;
  cause = w.cause;
}

-- a sync that answered
pub sync_answers : (m : FileMemory) → Flushes (file_of m) (file_of (file_with_change (file_with_call m) Synced)) (Ok tt)
sync_answers m = record {
  size = refl;
  parts = refl;
  told = becomes m Synced;
  later = omega arith;
  cause = refl;
}
