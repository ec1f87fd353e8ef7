-- The places up to the last one of the node before are that node's.
use Rattle.std.proofs.Common.{◌+◌, ◌-◌, arith}
use Rattle.tree_audit.proofs.rows.first_place_behind.Goals as goal

pub returns-clause-passed : goal.returns-clause-passed
returns-clause-passed c = λ place low high.
    let before = c.in-Some.before in let step = c.args.node - before in
    record {
      node = before;
      is_last = c.in-Some.is;
      here = record {
        place = place + step;
        from = omega (arith, low);
        to = omega (arith, high);
        is = omega (arith, c.if-node-before.false);
      };
    }
