-- A command that began with its plan goes by it, behind whichever engine.
use Rattle.std.proofs.Common.{◌≡◌, ◌++◌, ℕ, List, [], Option, Some, Ok, Err, refl, sym, ap, subst, ◌∙◌}
use Rattle.std.specs.Global.{Vec}
use Rattle.cell_types.specs.declared.refusal.Refusal.{Refusal}
use Rattle.worm_device.specs.Calls.{Called}
use Rattle.worm_device.specs.State.{DeviceState}
use Rattle.worm_memory.specs.Device.{APlanIsKept, memory_of, state_of}
use Rattle.worm_memory.specs.Memory.{Memory, device_of}
use Rattle.worm_memory.specs.declared.memory_device.MemoryDevice.{MemoryDevice}
use Rattle.host_ports.specs.Sinks.{SinkState}
use Rattle.recovery_engine.specs.Settling.{Settles}
use Rattle.recovery_engine.specs.declared.settling.Ready.{Ready}
use Rattle.ingest_engine.specs.Ingesting.{Ingests}
use Rattle.record_query.specs.Finding.{Searches}
use Rattle.record_query.specs.LookingUp.{LooksUp}
use Rattle.record_query.specs.declared.found.Found.{Found}
use Rattle.record_query.specs.declared.found.Match.{Match}
use Rattle.script_events.specs.declared.event.Schedule.{Schedule}
use Rattle.script_replies.specs.declared.reply.Reply.TheVariants as reply
use Rattle.script_replies.specs.Beginnings.{begun_with}
use Rattle.hostile_replay.specs.Turns.{CarriesOut, FindAnswers, GoesByPlan, IngestAnswers, LookUpAnswers, RecoverAnswers}
use Rattle.hostile_replay.specs.Sinks.{without_sink}
use Rattle.hostile_replay.proofs.LookingUp.{look_up_refused}

goes_by_plan : APlanIsKept → (plan : Schedule) (old : Memory) (begun now : MemoryDevice)
    → memory_of begun ≡ begun_with plan old → Called (state_of begun) (state_of now)
    → GoesByPlan plan old (memory_of now)
goes_by_plan kept plan old begun now is called =
    let k = kept begun now called (ap (λ (m : Memory). m.by_plan) is) in
    record {
      marks = k.0 ∙ ap (λ (m : Memory). m.marks) is;
      plan_is = k.1 ∙ ap (λ (m : Memory). m.plan) is;
      keeps = k.2;
    }

pub carried_out : APlanIsKept → (plan : Schedule) (old : Memory) (begun now : MemoryDevice)
    → memory_of begun ≡ begun_with plan old → (Answers : DeviceState → DeviceState → Type 0)
    → Called (state_of begun) (state_of now) → Answers (state_of begun) (state_of now)
    → CarriesOut plan old (memory_of now) Answers
carried_out kept plan old begun now is Answers called answers = record {
  answers = subst (λ (m : Memory). Answers (device_of m) (state_of now)) is answers;
  called = subst (λ (m : Memory). Called (device_of m) (state_of now)) is called;
  by_plan = goes_by_plan kept plan old begun now is called;
}

-- what each engine answered, once it was called behind the beginning
module _ (kept : APlanIsKept) (plan : Schedule) (old : Memory) (begun now : MemoryDevice)
    (is : memory_of begun ≡ begun_with plan old) where
  pub ingested : (id : List ℕ) (stamp : Option ℕ) (body called_id called_body : List ℕ) → called_id ≡ id
      → called_body ≡ body → (n : ℕ) → Ingests called_id stamp called_body (state_of begun) (state_of now) (Ok n)
      → CarriesOut plan old (memory_of now) (λ s t. IngestAnswers id stamp body s t (reply.Acknowledged n))
  ingested id stamp body called_id called_body same_id same_body n ingests =
      carried_out kept plan old begun now is (λ s t. IngestAnswers id stamp body s t
      (reply.Acknowledged n)) ingests.called
      (subst (λ (i : List ℕ). Ingests i stamp body (state_of begun) (state_of now) (Ok n)) same_id
      (subst (λ (b : List ℕ). Ingests called_id stamp b (state_of begun) (state_of now) (Ok n)) same_body ingests))

  pub recovered : (r : Ready) → Settles (state_of begun) (state_of now) (Ok r)
      → CarriesOut plan old (memory_of now) (λ s t. RecoverAnswers s t (reply.Settled r.step))
  recovered r settles =
      carried_out kept plan old begun now is (λ s t. RecoverAnswers s t (reply.Settled r.step)) settles.called
      (r, settles, refl)

  pub found : (terms called : List (List ℕ)) → called ≡ terms → (found : Vec Match) (matches : List Match)
      → matches ≡ found.items → Searches called (state_of begun) (state_of now) (Ok found)
      → CarriesOut plan old (memory_of now) (λ s t. FindAnswers terms s t (reply.Found matches))
  found terms called same answer matches are searches =
      carried_out kept plan old begun now is (λ s t. FindAnswers terms s t (reply.Found matches)) searches.called
      (record {
        found = answer;
        searches = subst (λ (l : List (List ℕ)). Searches l (state_of begun) (state_of now) (Ok answer)) same searches;
        matches_are = are;
      })

  pub looked : (id called : List ℕ) → called ≡ id → (from to : SinkState) (answer : Found)
      → LooksUp called (state_of begun) (state_of now) from to (Ok answer) → from.held ≡ Some [] → (body : List ℕ)
      → to.held ≡ Some body
      → CarriesOut plan old (memory_of now) (λ s t. LookUpAnswers id s t (reply.Body answer.slot body))
  looked id called same from to answer looks empty body held =
      carried_out kept plan old begun now is (λ s t. LookUpAnswers id s t (reply.Body answer.slot body)) looks.called
      (record {
        from = from;
        to = to;
        found = answer;
        empty = empty;
        held = held;
        looks = subst (λ (i : List ℕ). LooksUp i (state_of begun) (state_of now) from to (Ok answer)) same looks;
        slot_is = refl;
      })

  pub not_looked : (id called : List ℕ) → called ≡ id → (from to : SinkState) (refused refusal : Refusal)
      → LooksUp called (state_of begun) (state_of now) from to (Err refused) → refusal ≡ without_sink refused
      → CarriesOut plan old (memory_of now) (λ s t. LookUpAnswers id s t (reply.Refused refusal))
  not_looked id called same from to refused refusal looks told =
      carried_out kept plan old begun now is (λ s t. LookUpAnswers id s t (reply.Refused refusal)) looks.called
      (look_up_refused id (state_of begun) (state_of now) from to refused refusal
      (subst (λ (i : List ℕ). LooksUp i (state_of begun) (state_of now) from to (Err refused)) same looks) told)

-- a body that was made of what a sink holds is all of it
pub whole_body : {empty full shown held body : List ℕ} → empty ≡ [] → full ≡ empty ++ shown → shown ≡ held → body ≡ full
    → Some held ≡ Some body
whole_body {empty} {full} {shown} {held} {body} none more is made =
    ap Some (sym (made ∙ more ∙ ap (λ (l : List ℕ). l ++ shown) none ∙ is))
