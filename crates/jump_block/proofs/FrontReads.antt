-- Reading on in a front, place by place, over plain values.
use Rattle.std.proofs.Common.{◌≡◌, ◌<◌, ◌≤◌, ◌+◌, ◌-◌, ℕ, List, Option, Some, None, Result, Ok, Err, refl, ap, sym, subst, arith, ◌∙◌}
use Rattle.std.specs.Prelude.{IsTrue}
use Rattle.cell_types.specs.Records.{record_bytes}
use Rattle.cell_types.specs.declared.refusal.Fault.{Fault}
use Rattle.cell_types.specs.declared.refusal.Fault.TheVariants.{Tampered, Failed}
use Rattle.volume_meaning.specs.Blocks.{posting_record, InFront}
use Rattle.worm_device.specs.Views.{ViewState, Viewed}
use Rattle.worm_device.proofs.Resting.{viewed_then}
use Rattle.jump_block.specs.Entries.{ReadsEntry, posting_of}
use Rattle.jump_block.specs.Fronts.{AreBelow, FirstEnds, HasKeyAt, no_posting, does_not_rise}
use Rattle.jump_block.specs.Known.{IsGreatest, IsKnown, ReadSoFar, ReadsOn}
use Rattle.jump_block.specs.declared.held_entry.Entry.{Entry}
use Rattle.jump_block.specs.declared.known_front.KnownFront.{KnownFront}
use Rattle.jump_block.specs.declared.known_front.Front.{Front}
use Rattle.jump_block.specs.declared.known_front.Front.TheVariants.{At, Open, Full}
use Rattle.jump_block.proofs.Counting.{rose_later}
use Rattle.jump_block.proofs.Knowing.{below_known, ends_known, known_on, next_in_front}

-- all 128 places are known and below x
pub full_ends : {x : ℕ} {old new : ViewState} {front later : KnownFront} → ReadSoFar x old new front later
    → 128 ≤ later.count
    → ReadsOn x old new front later (Ok (Full later.greatest))
full_ends {new = new} {later = later} so_far all = record {
  viewed = so_far.viewed;
  block = so_far.block;
  more = so_far.more;
  places = so_far.places;
  reads = omega (arith, so_far.reads);
  known = so_far.known;
  ends = (
    so_far.below.below (omega arith),
    λ tells. subst (λ (b : ℕ). HasKeyAt new.image b 127 later.greatest) so_far.block
        ((so_far.known tells).last 127 (omega (arith, so_far.places))),
  );
}

told : {x : ℕ} {old mid : ViewState} {front later : KnownFront} → ReadSoFar x old mid front later
    → IsTrue old.base.tells → IsTrue mid.base.tells
told so_far tells = subst IsTrue (sym so_far.viewed.called.tells) tells

module _ {x : ℕ} {old mid new : ViewState} {front later : KnownFront} (so_far : ReadSoFar x old mid front later)
    (place : later.count < 128) where
  -- what is known stays so over one read more
  known_then : Viewed mid new → IsTrue old.base.tells → IsKnown new.image later
  known_then viewed tells = known_on viewed.image (so_far.known tells)

  below_then : Viewed mid new → IsTrue old.base.tells → AreBelow new.image later.block later.count x
  below_then viewed tells = below_known new.image later x (known_then viewed tells) so_far.below

  -- the read ends the look
  ended : {entry : Result (Option Entry) Fault} {result : Result Front Fault}
      → ReadsEntry later.block later.count mid new entry → FirstEnds x later.block old new result
      → ReadsOn x old new front later result
  ended {result = result} read ends = record {
    viewed = viewed_then so_far.viewed read.viewed;
    block = so_far.block;
    more = so_far.more;
    places = so_far.places;
    reads = omega (arith, so_far.reads, read.reads);
    known = known_then read.viewed;
    ends = subst (λ (b : ℕ). FirstEnds x b old new result) so_far.block ends;
  }

  pub fault_ends : (fault : Fault) → ReadsEntry later.block later.count mid new (Err fault)
      → ReadsOn x old new front later (Err fault)
  fault_ends Failed read = ended read (rose_later _ _ _ so_far.viewed.called.faults read.ends)
  fault_ends (Tampered e) read = ended read (
    read.ends.0,
    later.count,
    place,
    read.ends.1,
    λ tells. (no_posting (read.ends.2 (told so_far tells)), below_then read.viewed tells),
  )

  pub open_ends : (greatest : Option ℕ) → IsGreatest later greatest
      → ReadsEntry later.block later.count mid new (Ok None)
      → ReadsOn x old new front later (Ok (Open later.count greatest))
  open_ends greatest is read = ended read (
    place,
    λ tells. (
      read.ends (told so_far tells),
      below_then read.viewed tells,
      ends_known new.image later greatest (known_then read.viewed tells) is,
    ),
  )

  pub does_not_rise_ends : (e : Entry) (at : ℕ) (cell : List ℕ) → 1 ≤ later.count → e.key ≤ later.greatest
      → at ≡ later.block + later.count
      → cell ≡ record_bytes (posting_record (posting_of e)) (e.block + e.place)
      → ReadsEntry later.block later.count mid new (Ok (Some e))
      → ReadsOn x old new front later (Err (Tampered (record { rule = 8; cell = at; found = cell })))
  does_not_rise_ends e at cell some less at_is cell_is read = ended read (
    refl,
    later.count,
    place,
    at_is,
    λ tells.
        let holds = read.ends.3 (told so_far tells) in (
          does_not_rise (later.count - 1) later.greatest (posting_of e) (omega arith)
              ((known_then read.viewed tells).last (later.count - 1) (omega arith))
              (holds.stands ∙ ap (λ (c : List ℕ). Some c) (holds.is.same ∙ sym
              (cell_is ∙ ap (λ (n : ℕ). record_bytes (posting_record (posting_of e)) n)
              (omega (arith, read.ends.0, read.ends.1))))) holds less,
          below_then read.viewed tells,
        ),
  )

  -- the entry that was read is the front's next
  here : (e : Entry) → (1 ≤ later.count → later.greatest < e.key)
      → ReadsEntry later.block later.count mid new (Ok (Some e)) → IsTrue old.base.tells
      → InFront new.image later.block later.count (posting_of e)
  here e rises read tells =
      next_in_front new.image later (posting_of e) (known_then read.viewed tells) rises (read.ends.3 (told so_far tells))

  pub at_ends : (e : Entry) → (1 ≤ later.count → later.greatest < e.key) → x ≤ e.key
      → ReadsEntry later.block later.count mid new (Ok (Some e))
      → ReadsOn x old new front later (Ok (At e))
  at_ends e rises past read = ended read (
    read.ends.0,
    omega (arith, read.ends.1),
    past,
    read.ends.2,
    λ tells. subst (λ (n : ℕ). InFront new.image later.block n (posting_of e) × AreBelow new.image later.block n x)
        (sym read.ends.1) (here e rises read tells, below_then read.viewed tells),
  )

  pub more_read : (e : Entry) → (1 ≤ later.count → later.greatest < e.key) → e.key < x
      → ReadsEntry later.block later.count mid new (Ok (Some e))
      → ReadSoFar x old new front (record { block = later.block; count = later.count + 1; greatest = e.key })
  more_read e rises less read = record {
    viewed = viewed_then so_far.viewed read.viewed;
    block = so_far.block;
    more = omega (arith, so_far.more);
    places = omega arith;
    reads = omega (arith, so_far.reads, read.reads);
    below = record { below = λ some. less };
    known = λ tells. record {
      last = λ before is. record {
        p = posting_of e;
        in_front = let same : later.count ≡ before = omega arith in rw (← same) (here e rises read tells);
        same = refl;
      };
    };
  }
