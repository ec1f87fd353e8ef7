-- What is stored, one row after the other: the stamp, the document, the journal.
use Rattle.std.proofs.Common.{◌≡◌, ◌⊎◌, ◌∙◌, ℕ, Option, Some, Ok, Err, sym, ap, inl, inr, ⊎_elim}
use Rattle.std.specs.Prelude.{Result}
use Rattle.cell_types.specs.declared.refusal.Fault.{Fault}
use Rattle.recovery_engine.specs.declared.put.Put.{Put}
use Rattle.recovery_engine.specs.Putting.{IsInRow, IsThis, Puts}
use Rattle.recovery_engine.proofs.Phasing.{puts_ended, puts_more, puts_same}
use Rattle.tamper_rules.specs.declared.numbers.TheConstants.{STRAY_CELL}
use Rattle.worm_device.specs.State.{DeviceState}
use Rattle.plan_writer.specs.Planned.{IsStampPut, IsStoredPut, document_from, journal_from, stamp_put}
use Rattle.plan_writer.specs.declared.plan.Plan.{Plan}

some_one : (a b : ℕ) → Some a ≡ Some b → a ≡ b
some_one a b e = cc

-- the stamp cell of a stamp that is given
pub stamp_given : (n : ℕ) (stamp : Option ℕ) (seconds : ℕ) (put : Put) {old new : DeviceState}
    {result : Result (Unit {0}) Fault} → stamp ≡ Some seconds → put ≡ stamp_put n seconds
    → Puts (IsThis put) old new result → Puts (IsStampPut n stamp) old new result
stamp_given n stamp seconds put given is puts = puts_same
    (λ other e. record { seconds = seconds; given = given; is = e ∙ is })
    (λ other h.
    let same : h.seconds ≡ seconds = some_one h.seconds seconds (sym h.given ∙ given) in
    h.is ∙ ap (stamp_put n) same ∙ sym is)
    puts

module _ (n : ℕ) (p : Plan) where
  abbrev IsStamp : Put → Type 0
  IsStamp = IsStampPut n p.stamp

  abbrev IsOfDocument : Put → Type 0
  IsOfDocument = IsInRow (document_from p) p.document.now STRAY_CELL

  abbrev IsOfJournal : Put → Type 0
  IsOfJournal = IsInRow (journal_from p) p.journal.now STRAY_CELL

  abbrev IsBeforeJournal : Put → Type 0
  IsBeforeJournal put = IsStamp put ⊎ IsOfDocument put

  widen : (put : Put) → IsBeforeJournal put → IsStoredPut n p put
  widen put h = ⊎_elim (λ (a : IsStamp put). inl a) (λ (b : IsOfDocument put). inr (inl b)) h

  split : (put : Put) → IsStoredPut n p put → IsBeforeJournal put ⊎ IsOfJournal put
  split put h = ⊎_elim
      (λ (a : IsStamp put). inl (inl a))
      (λ (rest : IsOfDocument put ⊎ IsOfJournal put).
      ⊎_elim (λ (b : IsOfDocument put). inl (inr b)) (λ (c : IsOfJournal put). inr c) rest)
      h

  module _ {s0 s1 : DeviceState} (stamp : Puts IsStamp s0 s1 (Ok tt)) {s2 : DeviceState} where
    -- the document was not put whole
    pub document_ended : (fault : Fault) → Puts IsOfDocument s1 s2 (Err fault)
        → Puts (IsStoredPut n p) s0 s2 (Err fault)
    document_ended fault document = puts_ended {P = IsStamp} {Q = IsOfDocument} {R = IsStoredPut n p} (λ put h. inl h)
        (λ put h. inr (inl h)) tt stamp fault document

    module _ (document : Puts IsOfDocument s1 s2 (Ok tt)) where
      both : Puts IsBeforeJournal s0 s2 (Ok tt)
      both = puts_more {P = IsStamp} {Q = IsOfDocument} {R = IsBeforeJournal} (λ put h. inl h) (λ put h. inr h) tt stamp
          (λ put h. h) tt tt document

      module _ {s3 : DeviceState} where
        -- the journal was not
        pub journal_ended : (fault : Fault) → Puts IsOfJournal s2 s3 (Err fault)
            → Puts (IsStoredPut n p) s0 s3 (Err fault)
        journal_ended fault journal = puts_ended {P = IsBeforeJournal} {Q = IsOfJournal} {R = IsStoredPut n p} widen
            (λ put h. inr (inr h)) tt both fault journal

        -- all were
        pub stored : Puts IsOfJournal s2 s3 (Ok tt) → Puts (IsStoredPut n p) s0 s3 (Ok tt)
        stored journal = puts_more {P = IsBeforeJournal} {Q = IsOfJournal} {R = IsStoredPut n p} widen
            (λ put h. inr (inr h)) tt both split tt tt journal
