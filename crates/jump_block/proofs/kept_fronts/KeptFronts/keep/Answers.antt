-- The front stands where it was put.
use Rattle.std.proofs.Common.{◌<◌, ◌∙◌, length, Some, ap, refl, arith}
use Rattle.std.proofs.Math.ListN.{set, length-set}
use Rattle.std.proofs.lemmas.List.{get_or-set_same}
use Rattle.std.proofs.lemmas.Option.{slice_get-get_or}
use Rattle.jump_block.specs.declared.known_front.KnownFront.{KnownFront}
use Rattle.jump_block.proofs.kept_fronts.KeptFronts.keep.Goals as goal

pub returns-clause-added : goal.returns-clause-added
returns-clause-added c = λ most.
    let inside : c.args.at < length c.args.self.now.held = omega (arith, c.requires) in
    let after = set c.args.self.now.held c.args.at c.args.front in
    record {
      i = c.args.at;
      f = c.args.front;
      held = slice_get-get_or after c.args.at c.args.front (omega (arith, inside, length-set {A = KnownFront}))
          ∙ ap (λ (f : KnownFront). Some f) (get_or-set_same c.args.self.now.held c.args.at c.args.front c.args.front inside);
      block_is = refl;
      count_is = refl;
      most = most;
    }
