-- What a caller reads off Viewed, for all states.
use Rattle.worm_device.proofs.Resting.{rests_of}
use Rattle.worm_device.proofs.laws.views_rest.Goals as goal

pub returns : goal.returns
returns c = λ a b viewed. rests_of viewed
