-- What a write of a device over a file does, by what the file was asked for and what was put.
use Rattle.std.specs.Prelude.{◌≡◌, ◌≢◌, ◌<◌, ◌≤◌, ◌+◌, ◌*◌, ◌⊎◌, ℕ, List, length, replicate, Option, Some, None, Result, Ok, Err, IfSome, IsTrue, IsErr, MatchResult, is_some, take, drop, ⊤}
use Rattle.std.proofs.Common.{refl, ◌∙◌, ap, sym, subst, arith, inl, ⊎_elim}
use Rattle.std.proofs.lemmas.Bool.{false≢true}
use Rattle.cell_types.specs.Bytes.{IsCell}
use Rattle.cell_types.specs.Image.{Extends, Between, ChangesOnly}
use Rattle.worm_device.specs.Calls.{Writes, WriteAnswers}
use Rattle.worm_device.specs.Counts.{Rose}
use Rattle.worm_device.specs.declared.device.Failed.{Failed}
use Rattle.worm_device.specs.declared.device.Written.{Written}
use Rattle.worm_device.specs.declared.device.Written.TheVariants.{Done, Taken}
use Rattle.worm_device.proofs.Images.{extends_self}
use Rattle.worm_device.proofs.Counting.{rose_or_still}
use Rattle.worm_device.proofs.Elapsing.{leaves_all}
use Rattle.worm_device.specs.ReadBytes.{cell_bytes}
use Rattle.host_files.specs.Cells.{cell_in, image_of_bytes}
use Rattle.host_files.specs.Device.{device_at, device_over}
use Rattle.host_files.specs.File.{FileState, HeldBytes, Told, PutsBytes, ReadsAt, part_at, patched}
use Rattle.host_files.specs.Proper.{within_image}
use Rattle.host_files.proofs.Images.{put_extends, put_changes, here, written_in}
use Rattle.host_files.proofs.Time.{called_same, called_step}

-- a write that has put nothing: it was not asked for, or the cell was taken, or it failed
writes_same :
    (cells reads at faults faults' parts parts' : ℕ) (value : List ℕ) (told : Option Told)
    (result : Result Written Failed)
    → faults ≤ faults' → parts ≤ parts' → MatchResult result (λ _. faults' ≡ faults) (λ _. Rose faults faults')
    → (IsTrue (is_some told) → MatchResult result (WriteAnswers at value (device_at cells reads faults parts told)
    (device_at cells reads faults' parts' told)) (λ _. ⊤))
    → Writes at value (device_at cells reads faults parts told) (device_at cells reads faults' parts' told) result
writes_same cells reads at faults faults' parts parts' value told result later more cause answer = record {
  called = called_same cells reads reads faults faults' parts parts' told (omega arith) later more;
  leaves = leaves_all _ _ (λ image between. inl between);
  only = λ still cell. inl refl;
  answer = answer;
  cause = cause;
  count = refl;
}

pub writes_kept : (cells reads at : ℕ) (value : List ℕ) (old new : FileState) (refused : Failed)
    → new.told ≡ old.told → old.faults ≤ new.faults → Rose old.faults new.faults → old.parts ≤ new.parts
    → Writes at value (device_over cells reads old) (device_over cells reads new) (Err refused)
writes_kept cells reads at value old new refused told later cause more =
    subst (λ t. Writes at value (device_over cells reads old) (device_at cells reads new.faults new.parts t)
    (Err refused)) (sym told)
    (writes_same cells reads at old.faults new.faults old.parts new.parts value old.told (Err refused) later more
    cause (λ tells. tt))

pub writes_unasked :
    (cells reads at : ℕ) (value into : List ℕ) (old new : FileState) (asked : Result Unit Failed) (failed : Failed)
    (result : Result Written Failed)
    → asked ≡ Err failed → IsErr result → ReadsAt (16 * at) into old new asked
    → Writes at value (device_over cells reads old) (device_over cells reads new) result
writes_unasked cells reads at value into old new asked failed (Ok written) is err asks = absurd (false≢true err)
writes_unasked cells reads at value into old new asked failed (Err refused) is err asks =
    writes_kept cells reads at value old new refused asks.told asks.later (rw is at asks.cause)
    (omega (arith, asks.parts))

-- what sixteen bytes were given
pub sixteen_given : (from : ℕ) (into : List ℕ) (told : Option Told) → length into ≡ 16
    → IfSome told (λ t. into ≡ take (length into) (drop from t.now.bytes))
    → IfSome told (λ t. into ≡ part_at from t.now.bytes)
sixteen_given from into None sixteen given = tt
sixteen_given from into (Some t) sixteen given = given ∙ ap (λ n. take n (drop from t.now.bytes)) sixteen

taken_answers : (cells reads at faults faults' parts : ℕ) (value found : List ℕ) (told : Option Told) → at < cells
    → found ≢ replicate 16 0 → length found ≡ 16 → IfSome told (λ t. found ≡ cell_bytes t.now.bytes at)
    → IsTrue (is_some told)
    → WriteAnswers at value (device_at cells reads faults parts told) (device_at cells reads faults' parts told)
    (Taken found)
taken_answers cells reads at faults faults' parts value found None inside written sixteen given tells =
    absurd (false≢true tells)
taken_answers cells reads at faults faults' parts value found (Some t) inside written sixteen given tells =
    let stands = within_image cells at t.now.bytes inside ∙ ap cell_in (sym given) ∙ written_in found sixteen written
    in
    (stands, λ still. stands)

pub writes_taken : (cells reads at : ℕ) (value found : List ℕ) (old new : FileState) → at < cells
    → found ≢ replicate 16 0 → length found ≡ 16 → ReadsAt (16 * at) found old new (Ok tt)
    → Writes at value (device_over cells reads old) (device_over cells reads new) (Ok (Taken found))
writes_taken cells reads at value found old new inside written sixteen asks =
    subst (λ told. Writes at value (device_over cells reads old) (device_at cells reads new.faults new.parts told)
    (Ok (Taken found))) (sym asks.told)
    (subst (λ parts. Writes at value (device_over cells reads old) (device_at cells reads new.faults parts old.told)
    (Ok (Taken found))) (sym asks.parts)
    (writes_same cells reads at old.faults new.faults old.parts old.parts value old.told (Ok (Taken found))
    asks.later (omega arith) asks.cause
    (taken_answers cells reads at old.faults new.faults old.parts value found old.told inside written sixteen
    (sixteen_given (16 * at) found old.told sixteen asks.answer))))

done_taken : (found : List ℕ) → Done ≡ Taken found → ⊥
done_taken found same = cc

done_answers :
    (cells reads at faults faults' parts parts' : ℕ) (value put : List ℕ) (old new : Told)
    (result : Result Written Failed)
    → at < cells → 16 * at + 16 ≤ length old.now.bytes → IsCell value → image_of_bytes cells old.now.bytes at ≡ None
    → new.now.bytes ≡ patched (16 * at) put old.now.bytes
    → MatchResult result (λ done. (done ≡ Done) × (put ≡ value)) (λ _. ⊤)
    → MatchResult result (WriteAnswers at value (device_at cells reads faults parts (Some old))
    (device_at cells reads faults' parts' (Some new))) (λ _. ⊤)
done_answers cells reads at faults faults' parts parts' value put old new (Ok Done) inside room is free bytes
    answer = (
      free,
      ap (λ b. image_of_bytes cells b at) (bytes ∙ ap (λ p. patched (16 * at) p old.now.bytes) answer.1)
          ∙ here cells at value old.now.bytes inside room is.sixteen
          ∙ written_in value is.sixteen is.written,
    )
done_answers cells reads at faults faults' parts parts' value put old new (Ok (Taken found)) inside room is free
    bytes answer = absurd (done_taken found (sym answer.0))
done_answers cells reads at faults faults' parts parts' value put old new (Err failed) inside room is free bytes
    answer = tt

-- a write that has put these bytes where sixteen zeros were
pub writes_left :
    (cells reads at faults faults' parts parts' : ℕ) (value put : List ℕ) (told told' : Option Told)
    (result : Result Written Failed)
    → at < cells → ((t : Told) → told ≡ Some t → 16 * cells ≤ length t.now.bytes) → length put ≡ 16 → IsCell value
    → IfSome told (λ t. replicate 16 0 ≡ cell_bytes t.now.bytes at) → PutsBytes (16 * at) put told told'
    → faults ≤ faults' → parts ≤ parts' → MatchResult result (λ _. faults' ≡ faults) (λ _. Rose faults faults')
    → (put ≡ value) ⊎ Rose parts parts' → MatchResult result (λ done. (done ≡ Done) × (put ≡ value)) (λ _. ⊤)
    → Writes at value (device_at cells reads faults parts told) (device_at cells reads faults' parts' told') result
writes_left cells reads at faults faults' parts parts' value put None None result inside within sixteen is blank
    step later more cause left answer = record {
      called = called_same cells reads reads faults faults' parts parts' None (omega arith) later more;
      leaves = leaves_all _ _ (λ image between. inl between);
      only = λ still cell. inl refl;
      answer = λ tells. absurd (false≢true tells);
      cause = cause;
      count = refl;
    }
writes_left cells reads at faults faults' parts parts' value put None (Some new) result inside within sixteen is
    blank step later more cause left answer = absurd step
writes_left cells reads at faults faults' parts parts' value put (Some old) None result inside within sixteen is
    blank step later more cause left answer = absurd step
writes_left cells reads at faults faults' parts parts' value put (Some old) (Some new) result inside within sixteen
    is blank step later more cause left answer =
    let room : 16 * at + 16 ≤ length old.now.bytes = omega (arith, within old refl, inside) in
    let free : image_of_bytes cells old.now.bytes at ≡ None = within_image cells at old.now.bytes inside
    ∙ ap cell_in (sym blank) in
    let bytes : new.now.bytes ≡ patched (16 * at) put old.now.bytes = ap (λ (h : HeldBytes). h.bytes) step.now in
    let sure : new.now.sure ≡ old.now.sure = ap (λ (h : HeldBytes). h.sure) step.now in record {
      called = called_step cells reads faults faults' parts parts' old new _ step
          (subst (λ b. Extends (image_of_bytes cells old.now.bytes) (image_of_bytes cells b)) (sym bytes)
          (put_extends cells at put old.now.bytes room sixteen free))
          (subst (λ b. Extends (image_of_bytes cells old.now.sure) (image_of_bytes cells b)) (sym sure)
          (extends_self (image_of_bytes cells old.now.sure)))
          later more;
      leaves = leaves_all _ _ (λ image between.
          inl (subst (λ b. Between (image_of_bytes cells b) (image_of_bytes cells new.now.bytes) image) (sym sure) between));
      only = λ still.
          subst (λ b. ChangesOnly at value (image_of_bytes cells old.now.bytes) (image_of_bytes cells b)) (sym bytes)
          (⊎_elim
          (λ same.
          subst (λ p. ChangesOnly at value (image_of_bytes cells old.now.bytes)
          (image_of_bytes cells (patched (16 * at) p old.now.bytes))) (sym same)
          (put_changes cells at value old.now.bytes inside room is free))
          (λ rose. absurd (rose_or_still parts parts' rose still))
          left);
      answer = λ tells. done_answers cells reads at faults faults' parts parts' value put old new result inside room
          is free bytes answer;
      cause = cause;
      count = refl;
    }
