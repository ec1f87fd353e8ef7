-- The places up to the last of the block before are that block's.
use Rattle.std.proofs.Common.{◌≡◌, ◌≤◌, ◌+◌, ◌-◌, ℕ, subst, arith, true}
use Rattle.std.specs.BTreeSet.{contains}
use Rattle.std.specs.Ordering.{nat_cmp}
use Rattle.list_audit.specs.Numbers.{block_number}
use Rattle.list_audit.proofs.followed.FollowedBlocks.first_behind.Goals as goal

pub returns-clause-passed : goal.returns-clause-passed
returns-clause-passed c = λ p low high.
    let l = c.args.list in let block = c.args.block in
    let before = c.in-Some.before in let found = c.in-Some.ensures in
    let is = c.number_of-number.ensures in
    let step = c.number_of-number.result - before in
    let inside : step ≤ block = omega (arith, found.0, found.1, c.min.ensures, c.from-reach.ensures, is) in
    let number : before ≡ block_number l (block - step) = omega (arith, is, found.0, found.1, inside) in
    record {
      block = block - step;
      small = omega (arith, inside);
      followed = subst (λ (n : ℕ). contains nat_cmp c.args.self.now.numbers n ≡ true) number found.2;
      pointer = p + step;
      from = omega (arith, low);
      to = omega (arith, high);
      is = omega (arith, inside);
    }
