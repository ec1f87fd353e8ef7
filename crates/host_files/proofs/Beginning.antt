-- By which calls of the host a file begins.
use Rattle.std.proofs.Common.{◌≡◌, ◌≢◌, ℕ, [], ◌∷◌, true, false, Option, Some, refl, sym, subst, inl, inr}
use Rattle.host_files.specs.HostCalls.{HostCall, ToHold, ToCount}
use Rattle.host_files.specs.OsFile.{GoesOn, OpensBy, Stops, StopsBy}
use Rattle.host_files.specs.declared.os_file.Access.{Access}
use Rattle.host_files.specs.declared.os_file.Access.TheVariants.{Free, Held}
use Rattle.host_files.specs.declared.os_file.OsFile.{OsFile}

module _ {F : Type 0} {Led : F → HostCall → F → Type 0} where
  -- the lock was not taken
  pub not_held : (old new : OsFile F) → old.access ≡ Free → Led old.file (ToHold false) new.file
      → new.access ≡ old.access → Stops Led old new
  not_held old new free held same = record {
    calls = ToHold false ∷ [];
    stops = subst (λ (a : Access). StopsBy a old.size (ToHold false ∷ [])) (sym free) (inl refl);
    made = (new.file, held, refl);
    access = same;
  }

  -- it was taken, and the size was not found again
  pub other_size : (old new : OsFile F) (mid : F) (found : Option ℕ) → old.access ≡ Free → Led old.file (ToHold true) mid
      → Led mid (ToCount found) new.file → found ≢ Some old.size → new.access ≡ old.access → Stops Led old new
  other_size old new mid found free held counted other same = record {
    calls = ToHold true ∷ ToCount found ∷ [];
    stops = subst (λ (a : Access). StopsBy a old.size (ToHold true ∷ ToCount found ∷ [])) (sym free)
        (inr (found, other, refl));
    made = (mid, held, (new.file, counted, refl));
    access = same;
  }

  -- it was taken, and the size was found again
  pub took_hold : (old new : OsFile F) (mid : F) (found : ℕ) → old.access ≡ Free → Led old.file (ToHold true) mid
      → Led mid (ToCount (Some found)) new.file → found ≡ old.size → new.access ≡ Held → GoesOn Led [] Held old new
  took_hold old new mid found free held counted is access = record {
    before = ToHold true ∷ ToCount (Some old.size) ∷ [];
    opens = subst (λ (a : Access). OpensBy a old.size (ToHold true ∷ ToCount (Some old.size) ∷ [])) (sym free) refl;
    made = (mid, held, (new.file, subst (λ (n : ℕ). Led mid (ToCount (Some n)) new.file) is counted, refl));
    access = access;
  }
