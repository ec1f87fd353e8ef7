-- Its volume cell is that of a layout there is.
use Rattle.small_volume.proofs.Stamped.{volume}
use Rattle.small_volume.proofs.stamped_volume.the_stamped_image_is_a_volume.Goals as goal

pub returns : goal.returns
returns c = volume
