-- Cells that are put one after another, and phases that follow one another.
use Rattle.std.proofs.Common.{true, false, ◌≡◌, ◌≤◌, ◌<◌, ◌+◌, ◌-◌, ◌⊎◌, ℕ, List, Option, Some, None, Result, Ok, Err, refl, sym, ◌∙◌, inl, inr, ⊎_elim, subst, arith}
use Rattle.std.proofs.lemmas.Option.{none-some, same_Some}
use Rattle.std.specs.Prelude.{IsTrue}
use Rattle.cell_types.specs.Image.{Image, Extends, Between, IsUnchanged, ChangesOnly}
use Rattle.cell_types.specs.declared.refusal.Evidence.{Evidence}
use Rattle.cell_types.specs.declared.refusal.Fault.{Fault}
use Rattle.cell_types.specs.declared.refusal.Fault.TheVariants.{Tampered}
use Rattle.cell_types.specs.declared.refusal.Fault.TheVariants as faults
use Rattle.worm_device.specs.Calls.{Called, Syncs, Writes}
use Rattle.worm_device.specs.Counts.{Rose, IsStill}
use Rattle.worm_device.specs.State.{DeviceState, LeftSince}
use Rattle.worm_device.specs.declared.device.Failed.{Failed}
use Rattle.worm_device.specs.declared.device.Written.{Written}
use Rattle.worm_device.proofs.Counting.{still_first, still_second}
use Rattle.worm_device.proofs.Elapsing.{called_self, called_then, elapses_of}
use Rattle.worm_device.proofs.Images.{extends_then}
use Rattle.recovery_engine.specs.declared.put.Put.{Put}
use Rattle.recovery_engine.specs.Putting.{AreStanding, IsPut, ChangesBy, IsPutTwice, IsTaken, PutsEnd, Puts, PhaseEnds, PutsPhase, IsInFirst, LeavesPhases, CrashesLeavePhases, PhasesEnd, PutsPhases, IsThis}

pub false_true : false ≡ true → ⊥
false_true e = cc

-- a blank cell, or what stands in it
pub by_cell : (R : Type 0) (found : Option (List ℕ)) → (found ≡ None → R) → ((v : List ℕ) → found ≡ Some v → R) → R
by_cell R None none some = none refl
by_cell R (Some v) none some = some v refl

pub put_wider : {P R : Put → Type 0} {old : Image} {at : ℕ} {value : List ℕ} → ((put : Put) → P put → R put)
    → IsPut P old at value → IsPut R old at value
put_wider wider p = record { blank = p.blank; put = p.put; planned = wider p.put p.planned; here = p.here; is = p.is }

pub changes_none : (P : Put → Type 0) (a : Image) → ChangesBy P a a
changes_none P a at value h = inl h

pub changes_same : (P : Put → Type 0) (a b : Image) → IsUnchanged a b → ChangesBy P a b
changes_same P a b same at value h = inl (sym (same at) ∙ h)

pub changes_wider : {P R : Put → Type 0} {a b : Image} → ((put : Put) → P put → R put) → ChangesBy P a b
    → ChangesBy R a b
changes_wider {P} {R} {a} {b} wider p at value h = ⊎_elim inl (λ (put : IsPut P a at value). inr (put_wider wider put))
    (p at value h)

-- one change after another
pub changes_then : {P Q R : Put → Type 0} {a b c : Image} → ((put : Put) → P put → R put)
    → ((put : Put) → Q put → R put) → Extends a b → ChangesBy P a b → ChangesBy Q b c → ChangesBy R a c
changes_then {P} {Q} {R} {a} {b} {c} left right grows p q at value h = ⊎_elim
    (λ (was : b at ≡ Some value). changes_wider left p at value was)
    (λ (put : IsPut Q b at value). by_cell ((a at ≡ Some value) ⊎ IsPut R a at value) (a at)
    (λ none. inr (record {
      blank = none;
      put = put.put;
      planned = right put.put put.planned;
      here = put.here;
      is =
          put.is;
    }))
    (λ v is. absurd (none-some v (sym put.blank ∙ grows.keeps at v is))))
    (q at value h)

-- a value that was put twice, among more that were to be put
twice_wider : {P R : Put → Type 0} {put : Put} {found : List ℕ} → ((put : Put) → P put → R put)
    → IsPutTwice P put found → IsPutTwice R put found
twice_wider wider t = record { other = t.other; planned = wider t.other t.planned; here = t.here; is = t.is }

-- a cell that was taken, among more that were to be put
taken_wider : {P R : Put → Type 0} {old new : DeviceState} {e : Evidence} → ((put : Put) → P put → R put)
    → (t : IsTaken P old new e) → (t' : IsTaken R old new e) × (t'.put ≡ t.put)
taken_wider {P} wider t = (
  record {
    put = t.put;
    planned = wider t.put t.planned;
    found = t.found;
    differs = t.differs;
    is = t.is;
    stands = t.stands;
    stood = λ still. ⊎_elim inl (λ (twice : IsPutTwice P t.put t.found). inr (twice_wider wider twice))
        (t.stood still);
  },
  refl,
)

-- nothing is put
pub puts_none : (P : Put → Type 0) (s : DeviceState) → ((put : Put) → P put → ⊥) → Puts P s s (Ok tt)
puts_none P s none = record {
  called = called_self s;
  unfailed = λ ok. refl;
  only = λ tells still. changes_none P s.image;
  ends = λ tells put p. absurd (none put p);
}

module _ {P Q R : Put → Type 0} (left : (put : Put) → P put → R put) (right : (put : Put) → Q put → R put)
    {old mid : DeviceState} (u : Unit {0}) (first : Puts P old mid (Ok u)) where
  tells_mid : IsTrue old.tells → IsTrue mid.tells
  tells_mid tells = subst IsTrue (sym first.called.tells) tells

  module _ {new : DeviceState} where
    only_then : (result : Result (Unit {0}) Fault) → Puts Q mid new result → IsTrue old.tells
        → IsStill old.foreign_writes new.foreign_writes → ChangesBy R old.image new.image
    only_then result then tells still = changes_then left right first.called.image
        (first.only tells (still_first first.called.foreign_writes then.called.foreign_writes still))
        (then.only (tells_mid tells) (still_second first.called.foreign_writes then.called.foreign_writes still))

    -- cells that are put after others
    pub puts_more : ((put : Put) → R put → P put ⊎ Q put) → (v w : Unit {0}) → Puts Q mid new (Ok v)
        → Puts R old new (Ok w)
    puts_more covers v w then = record {
      called = called_then first.called then.called;
      unfailed = λ ok. then.unfailed refl ∙ first.unfailed refl;
      only = only_then (Ok v) then;
      ends = λ tells put r. ⊎_elim
          (λ (p : P put). then.called.image.keeps put.at put.value (first.ends tells put p))
          (λ (q : Q put). then.ends (tells_mid tells) put q)
          (covers put r);
    }

    -- a cell that was taken among the later ones, seen from before the first
    taken_then : Called mid new → IsTrue old.tells → {e : Evidence} → (t : IsTaken Q mid new e)
        → (t' : IsTaken R old new e) × (t'.put ≡ t.put)
    taken_then called tells t = (
      record {
        put = t.put;
        planned = right t.put t.planned;
        found = t.found;
        differs = t.differs;
        is = t.is;
        stands = t.stands;
        stood = λ still.
            let e1 = still_first first.called.foreign_writes called.foreign_writes still in
            let e2 = still_second first.called.foreign_writes called.foreign_writes still in
            ⊎_elim
            (λ (stood : mid.image t.put.at ≡ Some t.found). ⊎_elim inl
            (λ (p : IsPut P old.image t.put.at t.found). inr
            (record { other = p.put; planned = left p.put p.planned; here = p.here; is = p.is }))
            (first.only tells e1 t.put.at t.found stood))
            (λ (twice : IsPutTwice Q t.put t.found). inr (twice_wider right twice))
            (t.stood e2);
      },
      refl,
    )

    -- so the later ones end for all together as they end by themselves
    ended : (fault : Fault) → Called mid new → PutsEnd Q mid new (Err fault) → PutsEnd R old new (Err fault)
    ended faults.Failed called ends = omega (arith, ends, first.called.faults)
    ended (Tampered e) called ends = λ tells. (taken_then called tells (ends (tells_mid tells))).0

    -- and the last of them not
    pub puts_ended : (fault : Fault) → Puts Q mid new (Err fault) → Puts R old new (Err fault)
    puts_ended fault then = record {
      called = called_then first.called then.called;
      unfailed = λ ok. absurd (false_true ok);
      only = only_then (Err fault) then;
      ends = ended fault then.called then.ends;
    }

-- the same cells by other words
pub puts_same : {P R : Put → Type 0} {old new : DeviceState} {result : Result (Unit {0}) Fault}
    → ((put : Put) → P put → R put) → ((put : Put) → R put → P put) → Puts P old new result → Puts R old new result
puts_same {P} {R} {old} {new} {result} to back puts = record {
  called = puts.called;
  unfailed = puts.unfailed;
  only = λ tells still. changes_wider to (puts.only tells still);
  ends = same result puts.ends;
}
  where
    same : (r : Result (Unit {0}) Fault) → PutsEnd P old new r → PutsEnd R old new r
    same (Ok u) ends = λ tells put r. ends tells put (back put r)
    same (Err faults.Failed) ends = ends
    same (Err (Tampered e)) ends = λ tells. (taken_wider to (ends tells)).0

-- cells of a wider row, of which the last was not put
pub puts_ended_wider : {P R : Put → Type 0} {old new : DeviceState} (wider : (put : Put) → P put
    → R put) (fault : Fault) → Puts P old new (Err fault) → Puts R old new (Err fault)
puts_ended_wider {P} {R} {old} {new} wider fault p = puts_ended {P = λ put. ⊥} {Q = P} {R = R} (λ put h. absurd h) wider
    tt (puts_none (λ put. ⊥) old (λ put h. h)) fault p

-- looks between change nothing
pub only_looked : {P : Put → Type 0} {old mid new : DeviceState} (u : Unit {0}) → Puts P old mid (Ok u)
    → Called mid new → (IsStill mid.foreign_writes new.foreign_writes → IsUnchanged mid.image new.image)
    → IsTrue old.tells → IsStill old.foreign_writes new.foreign_writes → ChangesBy P old.image new.image
only_looked u puts called quiet tells still at value h =
    puts.only tells (still_first puts.called.foreign_writes called.foreign_writes still) at value
    (sym (quiet (still_second puts.called.foreign_writes called.foreign_writes still) at) ∙ h)

pub puts_looked : {P : Put → Type 0} {old mid new : DeviceState} (u w : Unit {0}) → Puts P old mid (Ok u)
    → Called mid new → (IsStill mid.foreign_writes new.foreign_writes → IsUnchanged mid.image new.image)
    → new.faults ≡ mid.faults → Puts P old new (Ok w)
puts_looked {P} {old} {mid} {new} u w puts called quiet none = record {
  called = called_then puts.called called;
  unfailed = λ ok. none ∙ puts.unfailed refl;
  only = only_looked u puts called quiet;
  ends = λ tells put p. called.image.keeps put.at put.value (puts.ends tells put p);
}

-- a call that failed, and changed nothing that it was not to change
pub puts_failed : {P : Put → Type 0} {old mid new : DeviceState} (u : Unit {0}) → Puts P old mid (Ok u)
    → Called mid new → (IsStill mid.foreign_writes new.foreign_writes → IsUnchanged mid.image new.image)
    → Rose mid.faults new.faults → Puts P old new (Err faults.Failed)
puts_failed {P} {old} {mid} {new} u puts called quiet rose = record {
  called = called_then puts.called called;
  unfailed = λ ok. absurd (false_true ok);
  only = only_looked u puts called quiet;
  ends = omega (arith, rose, puts.called.faults);
}

-- the sync behind a phase
pub phase_synced : {P : Put → Type 0} {old mid new : DeviceState} (u v w : Unit {0}) → Puts P old mid (Ok u)
    → Syncs mid new (Ok v) → PutsPhase P old new (Ok w)
phase_synced {P} {old} {mid} {new} u v w puts sync = record {
  puts = puts_looked u w puts sync.called sync.only sync.cause;
  sure = λ tells.
      let synced = sync.answer (subst IsTrue (sym puts.called.tells) tells) in
      record {
        put = λ put p. synced.keeps put.at put.value (puts.ends tells put p);
        synced = extends_then
            puts.called.image synced;
      };
}

pub phase_unsynced : {P : Put → Type 0} {old mid new : DeviceState} (u : Unit {0}) (f : Failed)
    → Puts P old mid (Ok u) → Syncs mid new (Err f) → PutsPhase P old new (Err faults.Failed)
phase_unsynced u f puts sync = record { puts = puts_failed u puts sync.called sync.only sync.cause; sure = tt }

pub phase_ended : {P : Put → Type 0} {old new : DeviceState} (fault : Fault) → Puts P old new (Err fault)
    → PutsPhase P old new (Err fault)
phase_ended fault puts = record { puts = puts; sure = tt }

-- the same phase by other words
pub phase_same : {P R : Put → Type 0} {old new : DeviceState} {result : Result (Unit {0}) Fault}
    → ((put : Put) → P put → R put) → ((put : Put) → R put → P put) → PutsPhase P old new result
    → PutsPhase R old new result
phase_same {P} {R} {old} {new} {result} to back phase = record
    { puts = puts_same to back phase.puts; sure = same result phase.sure }
  where
    same : (r : Result (Unit {0}) Fault) → PhaseEnds P old new r → PhaseEnds R old new r
    same (Ok u) ends = λ tells. record {
      put = λ put h. (ends tells).put put (back put h);
      synced = (ends tells).synced;
    }
    same (Err fault) ends = tt

-- the same phase by other words, on a device that tells
pub phase_told : {P R : Put → Type 0} {old new : DeviceState} {result : Result (Unit {0}) Fault}
    → (IsTrue old.tells → (put : Put) → P put → R put) → (IsTrue old.tells → (put : Put) → R put → P put)
    → PutsPhase P old new result → PutsPhase R old new result
phase_told {P} {R} {old} {new} {result} to back phase = record {
  puts = record {
    called = phase.puts.called;
    unfailed = phase.puts.unfailed;
    only = λ tells. (puts_same (to tells) (back tells) phase.puts).only tells;
    ends = ends result phase.puts;
  };
  sure = sure result phase.sure;
}
  where
    ends : (r : Result (Unit {0}) Fault) → Puts P old new r → PutsEnd R old new r
    ends (Ok u) p = λ tells. (puts_same (to tells) (back tells) p).ends tells
    ends (Err faults.Failed) p = p.ends
    ends (Err (Tampered e)) p = λ tells. (puts_same (to tells) (back tells) p).ends tells

    sure : (r : Result (Unit {0}) Fault) → PhaseEnds P old new r → PhaseEnds R old new r
    sure (Ok u) h = λ tells. record { put = λ put r. (h tells).put put (back tells put r); synced = (h tells).synced }
    sure (Err fault) h = tt

pub below_or_at : (j k : ℕ) → j < k + 1 → (j < k) ⊎ (j ≡ k)
below_or_at j k h = grind arith

module _ (plan : ℕ → Put → Type 0) where
  in_more : (k : ℕ) (put : Put) → IsInFirst plan k put → IsInFirst plan (k + 1) put
  in_more k put h = (h.0, omega (arith, h.1), h.2)

  in_last : (k : ℕ) (put : Put) → plan k put → IsInFirst plan (k + 1) put
  in_last k put h = (k, omega arith, h)

  in_either : (k : ℕ) (put : Put) → IsInFirst plan (k + 1) put → IsInFirst plan k put ⊎ plan k put
  in_either k put h = ⊎_elim
      (λ (earlier : h.0 < k). inl (h.0, earlier, h.2))
      (λ (here : h.0 ≡ k). inr (subst (λ (j : ℕ). plan j put) here h.2))
      (below_or_at h.0 k h.1)

  -- no phase
  pub phases_none : (s : DeviceState) → PutsPhases plan 0 s s (Ok tt)
  phases_none s = record {
    puts = puts_none (IsInFirst plan 0) s (λ put h. omega (arith, h.1));
    sure = λ tells. (λ put h. absurd (omega (arith, h.1)), λ some. absurd (omega (arith, some)));
    crashes = λ tells since image le left. inl left;
  }

  -- what a crash leaves of some phases, seen later and among more of them
  leaves_later : {k next : ℕ} {old mid new : DeviceState} {image : Image} → k ≤ next → Called old mid → Called mid new
      → LeavesPhases plan k old mid image → LeavesPhases plan next old new image
  leaves_later more first then l = record {
    phase = l.phase;
    begun = omega (arith, l.begun, more);
    all = l.all;
    sure = l.sure;
    synced = l.synced;
    only = λ still. l.only (still_first first.foreign_writes then.foreign_writes still);
  }

  -- so a crash leaves among more phases what it leaves among some
  pub crashes_wider : (k next : ℕ) {old new : DeviceState} → k ≤ next → Called old new
      → CrashesLeavePhases plan k old new → CrashesLeavePhases plan next old new
  crashes_wider k next {old} {new} more called crashes tells since image le left = ⊎_elim inl
      (λ (l : LeavesPhases plan k old new image). inr (leaves_later more called (called_self new) l))
      (crashes tells since image le left)

  module _ (k : ℕ) {old mid new : DeviceState} (u : Unit {0}) (first : PutsPhases plan k old mid (Ok u)) where
    -- what a crash leaves of the present phase
    leaves_now : (next : ℕ) (image : Image) → k ≤ next → Called mid new → IsTrue old.tells
        → (IsStill mid.foreign_writes new.foreign_writes → ChangesBy (plan k) mid.image new.image)
        → Between mid.sure new.image image → LeavesPhases plan next old new image
    leaves_now next image more called tells only between = record {
      phase = k;
      begun = more;
      all = λ put h. between.above.keeps put.at put.value ((first.sure tells).0 put h);
      sure = extends_then first.puts.called.sure between.above;
      synced = λ some. extends_then ((first.sure tells).1 some) between.above;
      only = λ still at value h. changes_then (in_more k) (in_last k) first.puts.called.image
          (first.puts.only tells (still_first first.puts.called.foreign_writes called.foreign_writes still))
          (only (still_second first.puts.called.foreign_writes called.foreign_writes still)) at value
          (between.below.keeps at value h);
    }

    crashes_then : (next : ℕ) → k ≤ next → Called mid new
        → (IsTrue old.tells → IsStill mid.foreign_writes new.foreign_writes → ChangesBy (plan k) mid.image new.image)
        → CrashesLeavePhases plan next old new
    crashes_then next more called only tells since image le left = ⊎_elim
        (λ (before : LeftSince mid since image). ⊎_elim inl
        (λ (l : LeavesPhases plan k old mid image). inr (leaves_later more first.puts.called called l))
        (first.crashes tells since image le before))
        (λ (between : Between mid.sure new.image image). inr
        (leaves_now next image more called tells (only tells) between))
        ((elapses_of called).adds since image (omega (arith, le, (elapses_of first.puts.called).later)) left)

    -- one phase more
    pub phases_more : (v w : Unit {0}) → PutsPhase (plan k) mid new (Ok v) → PutsPhases plan (k + 1) old new (Ok w)
    phases_more v w then = record {
      puts = puts_more (in_more k) (in_last k) u first.puts (in_either k) v w then.puts;
      sure = λ tells.
          let now = then.sure (subst IsTrue (sym first.puts.called.tells) tells) in (
            λ put h. ⊎_elim
                (λ (earlier : IsInFirst plan k put). then.puts.called.sure.keeps put.at put.value
                ((first.sure tells).0 put earlier))
                (λ (last : plan k put). now.put put last)
                (in_either k put h),
            λ some. extends_then first.puts.called.image now.synced,
          );
      crashes = crashes_then (k + 1) (omega arith) then.puts.called
          (λ tells. then.puts.only (subst IsTrue (sym first.puts.called.tells) tells));
    }

    taken_in : (fault : Fault) → PutsPhase (plan k) mid new (Err fault) → PhasesEnd plan (k + 1) old new (Err fault)
    taken_in faults.Failed then = tt
    taken_in (Tampered e) then = λ tells.
        let t = then.puts.ends (subst IsTrue (sym first.puts.called.tells) tells) in
        let t' = taken_then (in_more k) (in_last k) u first.puts then.puts.called tells t in
        record {
          taken = t'.0;
          phase = k;
          begun = omega arith;
          planned = subst (plan k) (sym t'.1) t.planned;
          before = λ put h. then.puts.called.sure.keeps put.at put.value ((first.sure tells).0 put h);
        }

    -- one that was ended
    pub phases_ended : (fault : Fault) → PutsPhase (plan k) mid new (Err fault)
        → PutsPhases plan (k + 1) old new (Err fault)
    phases_ended fault then = record {
      puts = puts_ended (in_more k) (in_last k) u first.puts fault then.puts;
      sure = taken_in fault then;
      crashes = crashes_then (k + 1) (omega arith) then.puts.called
          (λ tells. then.puts.only (subst IsTrue (sym first.puts.called.tells) tells));
    }

    -- looks between phases
    pub crashes_looked : Called mid new
        → (IsStill mid.foreign_writes new.foreign_writes → IsUnchanged mid.image new.image)
        → CrashesLeavePhases plan k old new
    crashes_looked called quiet = crashes_then k (omega arith) called
        (λ tells still. changes_same (plan k) mid.image new.image (quiet still))

    pub phases_looked : (w : Unit {0}) → Called mid new
        → (IsStill mid.foreign_writes new.foreign_writes → IsUnchanged mid.image new.image)
        → new.faults ≡ mid.faults → PutsPhases plan k old new (Ok w)
    phases_looked w called quiet none = record {
      puts = puts_looked u w first.puts called quiet none;
      sure = λ tells. (
        λ put h. called.sure.keeps put.at put.value ((first.sure tells).0 put h),
        λ some. extends_then
            ((first.sure tells).1 some) called.sure,
      );
      crashes = crashes_looked called quiet;
    }

  -- where not all phases come to be
  pub phases_wider : (k next : ℕ) {old new : DeviceState} (fault : Fault) → k ≤ next
      → PutsPhases plan k old new (Err fault) → PutsPhases plan next old new (Err fault)
  phases_wider k next {old} {new} fault more p = record {
    puts = puts_ended_wider wider fault p.puts;
    sure = sure_wider fault p.sure;
    crashes = crashes_wider k next more p.puts.called p.crashes;
  }
    where
      wider : (put : Put) → IsInFirst plan k put → IsInFirst plan next put
      wider put h = (h.0, omega (arith, h.1, more), h.2)

      sure_wider : (f : Fault) → PhasesEnd plan k old new (Err f) → PhasesEnd plan next old new (Err f)
      sure_wider faults.Failed ends = tt
      sure_wider (Tampered e) ends = λ tells.
          let t = ends tells in
          let t' = taken_wider wider t.taken in
          record {
            taken = t'.0;
            phase = t.phase;
            begun = omega (arith, t.begun, more);
            planned = subst (plan t.phase) (sym t'.1) t.planned;
            before = t.before;
          }

-- phases that follow those of another row: phase j of the second is phase k + j of the whole
module _ (plan next : ℕ → Put → Type 0) (k m : ℕ) (to : (j : ℕ) (put : Put) → next j put → plan (k + j) put)
    (back : (j : ℕ) (put : Put) → k ≤ j → plan j put → next (j - k) put) where
  append_left : (more : ℕ) (put : Put) → IsInFirst plan k put → IsInFirst plan (k + more) put
  append_left more put h = (h.0, omega (arith, h.1), h.2)

  append_right : (more : ℕ) (put : Put) → IsInFirst next more put → IsInFirst plan (k + more) put
  append_right more put h = (k + h.0, omega (arith, h.1), to h.0 put h.2)

  below_or_from : (j : ℕ) → (j < k) ⊎ (k ≤ j)
  below_or_from j = grind arith

  append_covers : (more : ℕ) (put : Put) → IsInFirst plan (k + more) put
      → IsInFirst plan k put ⊎ IsInFirst next more put
  append_covers more put h = ⊎_elim
      (λ (earlier : h.0 < k). inl (h.0, earlier, h.2))
      (λ (later : k ≤ h.0). inr (h.0 - k, omega (arith, h.1, later), back h.0 put later h.2))
      (below_or_from h.0)

  module _ {old mid : DeviceState} (u : Unit {0}) (first : PutsPhases plan k old mid (Ok u)) where
    -- what was to be put in either row stands in an image that holds what was sure between them
    append_all : IsTrue old.tells → (n : ℕ) {image : Image} → Extends mid.sure image
        → AreStanding (IsInFirst next n) image → AreStanding (IsInFirst plan (k + n)) image
    append_all tells n sure all put h = ⊎_elim
        (λ (earlier : IsInFirst plan k put). sure.keeps put.at put.value ((first.sure tells).0 put earlier))
        (λ (later : IsInFirst next n put). all put later)
        (append_covers n put h)

    -- and so does what stood at first, once a sync was made
    append_synced : IsTrue old.tells → (n : ℕ) {image : Image} → Extends mid.sure image
        → (1 ≤ n → Extends mid.image image) → 1 ≤ k + n → Extends old.image image
    append_synced tells n sure synced some = ⊎_elim
        (λ (one : 0 < k). extends_then ((first.sure tells).1 (omega (arith, one))) sure)
        (λ (none : k ≤ 0). extends_then first.puts.called.image (synced (omega (arith, some, none))))
        (below_or_from 0)

  module _ {old mid new : DeviceState} (u : Unit {0}) (first : PutsPhases plan k old mid (Ok u)) where
    append_leaves : (image : Image) → IsTrue old.tells → Called mid new → LeavesPhases next m mid new image
        → LeavesPhases plan (k + m) old new image
    append_leaves image tells called l = record {
      phase = k + l.phase;
      begun = omega (arith, l.begun);
      all = append_all u first tells l.phase l.sure l.all;
      sure = extends_then first.puts.called.sure l.sure;
      synced = append_synced u first tells l.phase l.sure l.synced;
      only = λ still at value h. changes_then {P = IsInFirst plan k} {Q = IsInFirst next (l.phase + 1)}
          {R = IsInFirst plan (k + l.phase + 1)}
          (λ put p. (p.0, omega (arith, p.1), p.2)) (λ put p. (k + p.0, omega (arith, p.1), to p.0 put p.2))
          first.puts.called.image
          (first.puts.only tells (still_first first.puts.called.foreign_writes called.foreign_writes still))
          (l.only (still_second first.puts.called.foreign_writes called.foreign_writes still)) at value h;
    }

    append_crashes : (result : Result (Unit {0}) Fault) → PutsPhases next m mid new result
        → CrashesLeavePhases plan (k + m) old new
    append_crashes result then tells since image le left = ⊎_elim
        (λ (before : LeftSince mid since image). ⊎_elim inl
        (λ (l : LeavesPhases plan k old mid image). inr
        (leaves_later plan (omega arith) first.puts.called then.puts.called l))
        (first.crashes tells since image le before))
        (λ (l : LeavesPhases next m mid new image). inr (append_leaves image tells then.puts.called l))
        (then.crashes (subst IsTrue (sym first.puts.called.tells) tells) since image
        (omega (arith, le, (elapses_of first.puts.called).later)) left)

    pub phases_append : (v w : Unit {0}) → PutsPhases next m mid new (Ok v) → PutsPhases plan (k + m) old new (Ok w)
    phases_append v w then = record {
      puts = puts_more (append_left m) (append_right m) u first.puts (append_covers m) v w then.puts;
      sure = λ tells.
          let now = then.sure (subst IsTrue (sym first.puts.called.tells) tells) in (
            append_all u first tells m then.puts.called.sure now.0,
            append_synced u first tells m then.puts.called.sure now.1,
          );
      crashes = append_crashes (Ok v) then;
    }

    taken_appended : (fault : Fault) → PutsPhases next m mid new (Err fault)
        → PhasesEnd plan (k + m) old new (Err fault)
    taken_appended faults.Failed then = tt
    taken_appended (Tampered e) then = λ tells.
        let t = then.sure (subst IsTrue (sym first.puts.called.tells) tells) in
        let t' = taken_then (append_left m) (append_right m) u first.puts then.puts.called tells t.taken in
        record {
          taken = t'.0;
          phase = k + t.phase;
          begun = omega (arith, t.begun);
          planned = subst (plan (k + t.phase)) (sym t'.1) (to t.phase t.taken.put t.planned);
          before = append_all u first tells t.phase then.puts.called.sure t.before;
        }

    pub phases_append_ended : (fault : Fault) → PutsPhases next m mid new (Err fault)
        → PutsPhases plan (k + m) old new (Err fault)
    phases_append_ended fault then = record {
      puts = puts_ended (append_left m) (append_right m) u first.puts fault then.puts;
      sure = taken_appended fault then;
      crashes = append_crashes (Err fault) then;
    }

-- one write
pub written_done : (put : Put) (old new : DeviceState) (written : Written)
    → Writes put.at put.value old new (Ok written) → (IsTrue old.tells → new.image put.at ≡ Some put.value)
    → Puts (IsThis put) old new (Ok tt)
written_done put old new written writes stands = record {
  called = writes.called;
  unfailed = λ ok. writes.cause;
  only = λ tells still. one put old new (writes.only still);
  ends = λ tells other is. subst (λ (p : Put). new.image p.at ≡ Some p.value) (sym is) (stands tells);
}
  where
    one : (put : Put) (old new : DeviceState) → ChangesOnly put.at put.value old.image new.image
        → ChangesBy (IsThis put) old.image new.image
    one put old new only at value h = ⊎_elim
        (λ (same : new.image at ≡ old.image at). inl (sym same ∙ h))
        (λ (p : (at ≡ put.at) × (old.image at ≡ None) × (new.image at ≡ Some put.value)). inr
        (record {
          blank = p.1;
          put = put;
          planned = refl;
          here = sym p.0;
          is = same_Some put.value value (sym p.2 ∙ h);
        }))
        (only at)
