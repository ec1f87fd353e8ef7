-- The places from the first of the next block's on are the next block's.
use Rattle.std.proofs.Common.{◌≡◌, ◌+◌, ◌-◌, ℕ, subst, arith, true}
use Rattle.std.specs.BTreeSet.{contains}
use Rattle.std.specs.Ordering.{nat_cmp}
use Rattle.list_audit.specs.Numbers.{block_number}
use Rattle.list_audit.proofs.followed.FollowedBlocks.last_before.Goals as goal

pub returns-clause-passed : goal.returns-clause-passed
returns-clause-passed c = λ p low high.
    let l = c.args.list in let block = c.args.block in
    let after = c.in-Some.after in let found = c.in-Some.ensures.some in
    let is = c.number_of-next.ensures in
    let step = after - (c.number_of-next.result + 1) in
    let number : after ≡ block_number l (block + 1 + step) = omega (arith, is, found.0) in
    record {
      block = block + 1 + step;
      small = omega (arith, c.requires.room, found.1, found.0);
      followed = subst (λ (n : ℕ). contains nat_cmp c.args.self.now.numbers n ≡ true) number found.2;
      pointer = p - (1 + step);
      from = omega (arith, low);
      to = omega (arith, high);
      is = omega (arith, low);
    }
