-- The numbers that were read are those that the words ask for.
use Rattle.std.proofs.Common.{refl, rules}
use Rattle.worm_device.proofs.Elapsing.{called_self}
use Rattle.record_top.proofs.Asked.{does_asked}
use Rattle.record_top.proofs.copying.run_two_metered.Goals as goal

-- the words ask for no copy
pub returns-in_default : goal.returns-in_default
returns-in_default g c = record {
  from_called = called_self _;
  to_called = called_self _;
  usage = (λ is. c.in_default.ensures.none, λ none. refl);
  unused = λ is. (refl, refl, refl);
  does = λ slots lists asks. absurd (c.in_default.ensures.none slots lists asks);
}

-- they ask for one
pub returns : goal.returns
returns g c = record {
  from_called = c.copy_volume.ensures.copies.from_called;
  to_called = c.copy_volume.ensures.copies.to_called;
  usage = search rules;
  unused = search rules;
  does = λ slots lists asks.
      does_asked _ _ _ _ _ _ _ _ _ _ slots lists c.in-Some.ensures.some asks c.copy_volume.ensures;
}
