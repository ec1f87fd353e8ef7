-- The law of formatted volumes, at the cell that is written out.
use Rattle.std.proofs.Common.{◌≡◌, ◌≤◌, ℕ, None, refl}
use Rattle.volume_meaning.specs.Volumes.{IsVolume}
use Rattle.tamper_rules.proofs.SettledLaws.{formatted}
use Rattle.small_volume.specs.SmallVolume.{formatted_image, small_layout, volume_cell}
use Rattle.small_volume.proofs.Small.{layout, volume_is}
use Rattle.small_volume.proofs.Values.{blank_behind}
use Rattle.small_volume.proofs.volume_laws.a_volume_cell_alone_is_settled.Goals as goal

-- the image is a volume
volume : IsVolume 1000 formatted_image small_layout
volume = record { volume = record { cell = volume_cell; stands = refl; is = volume_is }; size = refl }

-- each other cell is blank
blank : (cell : ℕ) → 1 ≤ cell → formatted_image cell ≡ None
blank cell some = blank_behind 0 cell volume_cell some

pub returns-clause-settled : goal.returns-clause-settled
returns-clause-settled c = (formatted layout volume blank).0

pub returns-clause-documents : goal.returns-clause-documents
returns-clause-documents c = (formatted layout volume blank).1
