-- What is kept stands on, and what is found at the end of the way is the first entry of the list.
use Rattle.std.proofs.Common.{ℕ, Ok, arith, subst}
use Rattle.jump_block.specs.Fronts.{FirstEnds}
use Rattle.jump_block.specs.declared.known_front.Front.TheVariants.{At}
use Rattle.jump_index.proofs.Ways.{found_at_end, hops_on, with_front}
use Rattle.jump_index.proofs.near.find_near.Goals as goal

pub returns-in_err-next-clause-kept : goal.returns-in_err-next-clause-kept
returns-in_err-next-clause-kept g c = λ tells.
    let n = c.next_in_rows-found.ensures in
    with_front n.viewed.image (c.requires.kept tells) (λ known. c.keep.ensures.kept _ known (n.known tells)) (n.kept tells)

pub returns-in-Some-clause-kept : goal.returns-in-Some-clause-kept
returns-in-Some-clause-kept g c = λ tells.
    let n = c.next_in_rows-found.ensures in
    with_front n.viewed.image (c.requires.kept tells) (λ known. c.keep.ensures.kept _ known (n.known tells)) (n.kept tells)

pub returns-in-Some-clause-finds : goal.returns-in-Some-clause-finds
returns-in-Some-clause-finds g c =
    let n = c.next_in_rows-found.ensures in
    let r = c.reached-reached.ensures in
    let f = rw c.in-Some.is at c.in_ok-next.ensures in
    record {
      viewed = n.viewed;
      reads = n.reads;
      ends = found_at_end c.args.bounds c.args.head c.args.x c.reached-reached.result.block
          c.reached-reached.result.low c.reached-reached.result.bound _ _ c.in-Some.next
          (r.inside (g.V.View.seen c.args.view.now).cells c.requires.head c.requires.edge) c.requires.edge n.viewed
          (λ tells. r.way _ (c.requires.kept tells).hops)
          (λ tells. r.way _ (hops_on n.viewed.image (c.requires.kept tells).hops)) r.from r.below
          (subst (λ (b : ℕ). FirstEnds c.args.x b (g.V.View.seen c.args.view.now)
          (g.V.View.seen c.next_in_rows-found.new.view) (Ok (At c.in-Some.next))) c.at-front.ensures.block f.ends)
          (omega arith);
    }

pub returns-in_default-clause-kept : goal.returns-in_default-clause-kept
returns-in_default-clause-kept g c = λ tells.
    let n = c.next_in_rows-found.ensures in
    with_front n.viewed.image (c.requires.kept tells) (λ known. c.keep.ensures.kept _ known (n.known tells)) (n.kept tells)

pub returns-in_default-2-clause-kept : goal.returns-in_default-2-clause-kept
returns-in_default-2-clause-kept g c = λ tells.
    let n = c.next_in_rows-found.ensures in
    with_front n.viewed.image (c.requires.kept tells) (λ known. c.keep.ensures.kept _ known (n.known tells)) (n.kept tells)
