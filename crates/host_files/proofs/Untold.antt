-- Places of a file that tells nothing.
use Rattle.std.specs.Prelude.{zero, suc, ◌+◌, ℕ, List, None, Result, Ok, Err, MatchResult}
use Rattle.std.proofs.Common.{refl, inl}
use Rattle.worm_device.specs.declared.device.Failed.{Failed}
use Rattle.host_files.specs.File.{PutsPlaces, LeavesPlaces}

pub untold_put : (count place cell : ℕ) (bytes : List ℕ) → PutsPlaces count place cell bytes None None
untold_put zero place cell bytes = refl
untold_put (suc count) place cell bytes = (None, tt, untold_put count (place + 1) cell bytes)

pub untold_left : (count place cell : ℕ) (bytes : List ℕ) (Torn : Type 0)
    → LeavesPlaces count place cell bytes Torn None None
untold_left zero place cell bytes Torn = refl
untold_left (suc count) place cell bytes Torn = (None, inl refl, untold_left count (place + 1) cell bytes Torn)

pub untold_row : (count cell : ℕ) (bytes : List ℕ) (Torn : Type 0) (result : Result (Unit {0}) Failed)
    → MatchResult result (λ _. PutsPlaces count 0 cell bytes None None) (λ _. LeavesPlaces count 0 cell bytes Torn None None)
untold_row count cell bytes Torn (Ok u) = untold_put count 0 cell bytes
untold_row count cell bytes Torn (Err f) = untold_left count 0 cell bytes Torn
