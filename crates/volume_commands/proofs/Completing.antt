-- Where all is as it is to be, a format and a settling are done, and an ingest ends with no refusal but want of memory.
use Rattle.std.proofs.Common.{◌≡◌, ◌≤◌, ◌++◌, ℕ, List, length, Option, Some, None, Result, Ok, Err, sym, ap, ◌∙◌, subst, arith, length-append}
use Rattle.std.proofs.lemmas.List.{append-nil}
use Rattle.cell_types.specs.Layout.{Layout}
use Rattle.cell_types.specs.declared.refusal.Refusal.{Refusal}
use Rattle.cell_types.specs.declared.refusal.Refusal.TheVariants as refusals
use Rattle.host_ports.specs.Sources.{Gives, IsAtEnd}
use Rattle.volume_meaning.specs.declared.limits.TheConstants.{MAX_BODY_BYTES}
use Rattle.worm_device.specs.Calls.{Called}
use Rattle.worm_device.specs.Counts.{IsStill}
use Rattle.worm_device.specs.State.{IsDevice}
use Rattle.worm_device.proofs.Counting.{rose_or_still}
use Rattle.recovery_engine.specs.Settling.{Settles}
use Rattle.recovery_engine.specs.declared.settling.Ready.{Ready}
use Rattle.ingest_engine.specs.Formats.{FormatEnds}
use Rattle.ingest_engine.specs.Ingesting.{IngestEnds}
use Rattle.volume_commands.specs.Formatting.{DoesFormat, IsReadyToFormat}
use Rattle.volume_commands.specs.Ingesting.{DoesIngest, IsReadyToIngest, acknowledgement, misnamed, untaken, taken}
use Rattle.volume_commands.specs.Ports.{Ports, IsOkAlone, IsOkOrNoMemory, Tells}
use Rattle.volume_commands.specs.Recovering.{IsReadyToRecover, recovered}
use Rattle.volume_commands.specs.Taking.{BodyFails, refusal_of_body_fault}
use Rattle.volume_commands.specs.declared.body.BodyFault.{BodyFault}
use Rattle.volume_commands.specs.declared.body.BodyFault.TheVariants as faults
use Rattle.command_laws.proofs.Alarms.{settling_alarms}
use Rattle.command_laws.proofs.Completing.{formats_whole, ingests_whole}
use Rattle.command_laws.proofs.WholeLogs.{settles_whole}

-- a source gives no more than it has
gives_within : (left : Option (List ℕ)) (body given : List ℕ) (new : Option (List ℕ)) → left ≡ Some body
    → Gives left new given → length given ≤ length body
gives_within left body given new e gives = within new (subst (λ (l : Option (List ℕ)). Gives l new given) e gives)
  where
    within : (new : Option (List ℕ)) → Gives (Some body) new given → length given ≤ length body
    within None h = absurd h
    within (Some rest) h = omega (arith, ap length h, length-append given rest)

-- and at its end it has given all
pub gives_all : (left : Option (List ℕ)) (body given : List ℕ) (new : Option (List ℕ)) → left ≡ Some body
    → Gives left new given → IsAtEnd new → given ≡ body
gives_all left body given new e gives end = all new (subst (λ (l : Option (List ℕ)). Gives l new given) e gives) end
  where
    all : (new : Option (List ℕ)) → Gives (Some body) new given → IsAtEnd new → given ≡ body
    all None h at_end = absurd h
    all (Some rest) h at_end = sym (append-nil given) ∙ ap (λ (r : List ℕ). given ++ r) (sym at_end) ∙ sym h

module _ (limit : ℕ) (body : List ℕ) (old new : Ports) (holds : old.source.left ≡ Some body)
    (most : length body ≤ limit)
    (no_fault : IsStill old.source.faults new.source.faults) where
  -- a source that holds no more than is taken, and none of whose calls fails, gives it
  pub body_taken : (given : List ℕ) (fault : BodyFault) → Gives old.source.left new.source.left given
      → BodyFails limit given old.source new.source fault → IsOkOrNoMemory (Err (refusal_of_body_fault fault))
  body_taken given faults.TooLong gives fails =
      let within = gives_within old.source.left body given new.source.left holds gives in
      omega (arith, within, most, fails)
  body_taken given faults.SourceFailed gives fails = rose_or_still _ _ fails.1 no_fault
  body_taken given (faults.NoMemory lack) gives fails = tt

module _ (g : Layout) (old new : Ports) (ready : IsReadyToRecover g old new) (device : IsDevice old.device) where
  -- the answer is Ok, since no memory is taken
  pub recover_completes : (result : Result Unit Refusal) (answer : Result Ready Refusal)
      → Settles old.device new.device answer → Tells recovered answer old new result → IsOkAlone result
  recover_completes (Ok u) answer settles tells = tt
  recover_completes (Err refusal) (Err refused) settles tells =
      absurd (settles_whole ready.log settles.called refused (λ e same steady.
      settling_alarms old.device new.device device ready.log.tells ready.log.alone steady refused e settles same)
      settles.ends)
  recover_completes (Err refusals.SinkFault) (Ok r) settles tells = rose_or_still _ _ tells.faults ready.no_sink_fault
  recover_completes (Err refusal) (Ok r) settles tells = absurd tells

module _ {id : List ℕ} {stamp : Option ℕ} {body : List ℕ} {g : Layout} {slot : ℕ} {old new : Ports}
    (ready : IsReadyToIngest id stamp body g slot old new) (device : IsDevice old.device)
    (device_new : IsDevice new.device) where
  ends_told : (result : Result Unit Refusal) (answer : Result ℕ Refusal) → Called old.device new.device
      → IngestEnds id stamp body old.device new.device answer → Tells acknowledgement answer old new result
      → IsOkOrNoMemory result
  ends_told (Ok u) answer called ends tells = tt
  ends_told (Err refusal) (Err refused) called ends tells =
      subst (λ (r : Refusal). IsOkOrNoMemory (Err r)) (sym tells.0)
      (subst (λ (r : Refusal). IsOkOrNoMemory (Err r)) (sym (ingests_whole ready.begins ready.place device device_new
      called ready.no_device_fault refused ends)) tt)
  ends_told (Err refusals.SinkFault) (Ok n) called ends tells = rose_or_still _ _ tells.faults ready.no_sink_fault
  ends_told (Err refusal) (Ok n) called ends tells = absurd tells

module _ (id : List ℕ) (stamp : Option ℕ) (body : List ℕ) (g : Layout) (slot : ℕ) (old new : Ports)
    (ready : IsReadyToIngest id stamp body g slot old new) (device : IsDevice old.device)
    (device_new : IsDevice new.device)
  where
    -- the answer is Ok, or want of memory
    pub ingest_completes : (result : Result Unit Refusal) → DoesIngest id stamp old new result → IsOkOrNoMemory result
    ingest_completes result (misnamed bad is same) = absurd (bad ready.identifier)
    ingest_completes result (untaken given fault name gives fails is same keeps) =
        subst IsOkOrNoMemory (sym is)
        (body_taken MAX_BODY_BYTES body old new ready.source ready.is_body.most ready.no_source_fault given
        fault gives fails)
    ingest_completes result (taken given answer name is gives end ingests tells) =
        let all = gives_all old.source.left body given new.source.left ready.source gives end in
        ends_told ready device device_new result answer ingests.called
        (subst (λ (b : List ℕ). IngestEnds id stamp b old.device new.device answer) all ingests.ends) tells

module _ (g : Layout) (old new : Ports) (ready : IsReadyToFormat g old new) where
  not_refused : (refusal : Refusal) → FormatEnds g old.device new.device (Err refusal) → ⊥
  not_refused = formats_whole g old.device new.device (record {
    layout = ready.layout;
    tells = ready.tells;
    blank = ready.blank;
    alone = ready.alone;
  }) ready.no_device_fault

  -- the answer is Ok, since no memory is taken
  pub format_completes : (result : Result Unit Refusal) → DoesFormat g old new result → IsOkAlone result
  format_completes (Ok u) formats = tt
  format_completes (Err refusals.SinkFault) formats = rose_or_still _ _ formats.ends.1.faults ready.no_sink_fault
  format_completes (Err refusals.DeviceFault) formats = not_refused refusals.DeviceFault formats.ends.0
  format_completes (Err refusals.TooSmall) formats = not_refused refusals.TooSmall formats.ends.0
  format_completes (Err (refusals.NotBlank at)) formats = not_refused (refusals.NotBlank at) formats.ends.0
  format_completes (Err refusal) formats = absurd formats.ends.0
