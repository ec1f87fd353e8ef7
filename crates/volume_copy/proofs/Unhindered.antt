-- Where nobody else writes and no call fails, auditing a steady volume and reading a settled one is ended by want of memory
-- alone, and no document of a target that holds the first ones of the source differs.
use Rattle.std.proofs.Common.{◌≡◌, ◌∙◌, ℕ, zero, suc, List, [], ◌∷◌, Some, None, Result, Ok, Err, refl, sym, subst, arith, length}
use Rattle.std.specs.Prelude.{IsTrue, slice_get}
use Rattle.std.proofs.lemmas.Option.{none-some, slice_get_within}
use Rattle.cell_types.specs.Image.{Image}
use Rattle.cell_types.specs.Layout.{Layout}
use Rattle.cell_types.specs.declared.refusal.Refusal.{Refusal}
use Rattle.cell_types.specs.declared.refusal.Refusal.TheVariants.{DeviceFault, NoMemory, Tampered}
use Rattle.volume_meaning.specs.Documents.{Document}
use Rattle.volume_meaning.specs.Volumes.{IsVolume}
use Rattle.volume_meaning.proofs.Extending.{volume_on}
use Rattle.volume_meaning.proofs.Lists.{lists_one}
use Rattle.tamper_rules.specs.Settling.{Settled, nothing}
use Rattle.tamper_rules.proofs.GivenUp.{one_layout}
use Rattle.tamper_rules.proofs.SettledLaws.{unbroken}
use Rattle.worm_device.specs.Calls.{Called}
use Rattle.worm_device.specs.Counts.{IsStill}
use Rattle.worm_device.specs.State.{DeviceState, IsDevice}
use Rattle.worm_device.proofs.Counting.{rose_or_still, still_first, still_second}
use Rattle.recovery_engine.specs.Settling.{Settles}
use Rattle.crash_laws.proofs.LeftWhole.{documents_after}
use Rattle.volume_audit.specs.Audits.{Audits}
use Rattle.volume_audit.specs.declared.report.AuditReport.{AuditReport}
use Rattle.command_laws.specs.Begins.{BeginsSteady}
use Rattle.command_laws.specs.WholeLogs.{HasSteadyVolume}
use Rattle.command_laws.proofs.Completing.{audits_whole, steady_settles}
use Rattle.volume_copy.specs.Auditing.{AuditsSteady}
use Rattle.volume_copy.specs.Copies.{IsFirstPast, IsFirstToDiffer}
use Rattle.volume_copy.specs.First as firsts
use Rattle.volume_copy.specs.First.{HoldsFirst, first}
use Rattle.volume_copy.specs.Pairs.{AgreeSoFar, ArePairs, SaysSame}
use Rattle.volume_copy.specs.Reading.{ReadingFails}
use Rattle.volume_copy.specs.declared.audited.AuditedVolume.{AuditedVolume}
use Rattle.volume_copy.specs.declared.moved.Moved.{Moved}
use Rattle.volume_copy.proofs.PairLists.{pairs_long}
use Rattle.volume_copy.proofs.Stayed.{audit_held}

-- reading what is settled
pub reads_settled : (old new : DeviceState) → IsTrue old.tells → IsStill old.foreign_writes new.foreign_writes
    → IsStill old.faults new.faults → Settled new.cells new.image → (refusal : Refusal) → ReadingFails old new refusal
    → refusal ≡ NoMemory
reads_settled old new tells still unfailed settled NoMemory fails = refl
reads_settled old new tells still unfailed settled DeviceFault fails = absurd (rose_or_still _ _ fails unfailed)
reads_settled old new tells still unfailed settled (Tampered e) fails =
    absurd (unbroken new.cells new.image e.rule e.cell settled ((fails tells).broken still))
reads_settled old new tells still unfailed settled refusal fails = absurd fails

no_memory : {refusal other : Refusal} (result : Result AuditedVolume Refusal) → result ≡ Err refusal
    → refusal ≡ NoMemory → result ≡ Err other → other ≡ NoMemory
no_memory {refusal} {other} result one none same = subst (λ (r : Refusal). r ≡ NoMemory) (it result one same) none
  where
    it : (r : Result AuditedVolume Refusal) → r ≡ Err refusal → r ≡ Err other → refusal ≡ other
    it r p q = cc

-- an audit
pub audit_steady : {old new : DeviceState} → IsDevice old → IsDevice new → (refusal : Refusal)
    → Audits old new (Err refusal) → AuditsSteady old new (Err refusal)
audit_steady device device_new refusal audits g log other same =
    no_memory (Err refusal) refl (audits_whole log device device_new audits.called refusal audits.comes) same

module _ {old a new : DeviceState} (device : IsDevice old) (device_a : IsDevice a) (device_new : IsDevice new)
    {report : AuditReport} (audits : Audits old a (Ok report)) (called : Called a new) where
  -- the volume behind it is as steady
  log_behind : (g : Layout) → HasSteadyVolume g old new → HasSteadyVolume g a new
  log_behind g log =
      let begins : BeginsSteady old a = record {
        tells = log.tells;
        steady = log.is;
        alone = still_first audits.called.foreign_writes called.foreign_writes log.alone;
      } in
      record {
        tells = subst IsTrue (sym audits.called.tells) log.tells;
        volume = subst (λ (k : ℕ). IsVolume k a.image g) (sym audits.called.cells) (volume_on audits.called.image log.volume);
        is = (audit_held (Ok report) device device_a audits begins).stays.steady;
        alone = still_second audits.called.foreign_writes called.foreign_writes log.alone;
        no_fault = still_second audits.called.faults called.faults log.no_fault;
      }

  -- settling behind it
  pub settle_steady : (refusal : Refusal) → Settles a new (Err refusal) → AuditsSteady old new (Err refusal)
  settle_steady refusal settles g log other same =
      absurd (steady_settles (log_behind g log) device_a device_new called refusal settles)

-- reading behind both
pub read_steady : {old b new : DeviceState} → Called old b → Called b new
    → (IsTrue old.tells → IsStill old.foreign_writes new.foreign_writes → Settled new.cells new.image)
    → (refusal : Refusal) → ((IsTrue b.tells) → ReadingFails b new refusal) → AuditsSteady old new (Err refusal)
read_steady {old} {b} {new} called read settled refusal fails g log other same =
    let tells = subst IsTrue (sym called.tells) log.tells in
    no_memory (Err refusal) refl
    (reads_settled b new tells (still_second called.foreign_writes read.foreign_writes log.alone)
    (still_second called.faults read.faults log.no_fault) (settled log.tells log.alone) refusal (fails tells))
    same

-- pairs of a place say the same
pairs_at : (g h : Layout) (from to : Image) (target : List Document) (moved : List Moved) (source : List Document) (k : ℕ)
    (d e : Document) → ArePairs g h from to target moved source → slice_get source k ≡ Some d → slice_get target k ≡ Some e
    → SaysSame g h from to d e
pairs_at g h from to [] moved source k d e are at_d at_e = absurd (no at_e)
  where
    no : None ≡ Some e → ⊥
    no x = cc
pairs_at g h from to (f ∷ target) [] source k d e are at_d at_e = absurd are
pairs_at g h from to (f ∷ target) (m ∷ moved) [] k d e are at_d at_e = absurd are
pairs_at g h from to (f ∷ target) (m ∷ moved) (c ∷ source) zero d e are at_d at_e =
    subst (λ (x : Document). SaysSame g h from to x e) (one at_d)
    (subst (λ (x : Document). SaysSame g h from to c x) (other at_e) are.0)
  where
    one : Some c ≡ Some d → c ≡ d
    one x = cc

    other : Some f ≡ Some e → f ≡ e
    other x = cc
pairs_at g h from to (f ∷ target) (m ∷ moved) (c ∷ source) (suc k) d e are at_d at_e =
    pairs_at g h from to target moved source k d e are.3 at_d at_e

-- A settled target that holds the first documents of the source: all of its documents are pairs.
record AreAllPairs {from to : DeviceState} {moved : List Moved} (agree : AgreeSoFar from to moved) : Type 0 where
  pairs : List Moved
  are : ArePairs agree.from_layout agree.to_layout from.image to.image agree.target pairs agree.source

all_pairs : {from to : DeviceState} {moved : List Moved} (agree : AgreeSoFar from to moved) → Settled to.cells to.image
    → HoldsFirst from.cells from.image to.cells to.image → AreAllPairs agree
all_pairs agree settled (firsts.none blank) =
    absurd (none-some _ (sym (blank 0) ∙ agree.to_volume.volume.stands))
all_pairs {from} {to} agree settled (first g h source target pairs there here those held are) =
    let these = documents_after (record { after = to.image; is = nothing settled (λ cell. refl); settled = settled }) target held in
    record {
      pairs = pairs;
      are =
          subst (λ (k : Layout). ArePairs k agree.to_layout from.image to.image agree.target pairs agree.source)
          (one_layout {cells = from.cells} {more = from.cells} g agree.from_layout there agree.from_volume)
          (subst (λ (k : Layout). ArePairs g k from.image to.image agree.target pairs agree.source)
          (one_layout {cells = to.cells} {more = to.cells} h agree.to_layout here agree.to_volume)
          (subst (λ (l : List Document). ArePairs g h from.image to.image l pairs agree.source)
          (lists_one to.cells to.image target agree.target these agree.these)
          (subst (λ (l : List Document). ArePairs g h from.image to.image target pairs l)
          (lists_one from.cells from.image source agree.source those agree.those) are)));
    }

-- so none differs
pub none_differs : {from to : DeviceState} (old new : ℕ) → Settled to.cells to.image
    → HoldsFirst from.cells from.image to.cells to.image → IsFirstToDiffer from to old new → ⊥
none_differs {from} {to} old new settled holds differs =
    let all = all_pairs differs.agree settled holds in
    differs.differ (pairs_at differs.agree.from_layout differs.agree.to_layout from.image to.image differs.agree.target
    all.pairs differs.agree.source (length differs.moved) differs.d differs.e all.are differs.d_at differs.e_at)

-- and none is further
pub none_past : {from to : DeviceState} (new : ℕ) → Settled to.cells to.image
    → HoldsFirst from.cells from.image to.cells to.image → IsFirstPast from to new → ⊥
none_past {from} {to} new settled holds past =
    let all = all_pairs past.agree settled holds in
    let long = pairs_long past.agree.from_layout past.agree.to_layout from.image to.image past.agree.target all.pairs
    past.agree.source all.are in
    let inside = slice_get_within past.agree.target (length past.moved) past.e past.e_at in
    omega (arith, long.0, long.1, inside, past.all)
