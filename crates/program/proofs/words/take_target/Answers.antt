-- The third word was removed.
use Rattle.std.proofs.Common.{◌≤◌, length, arith}
use Rattle.program.proofs.Target.{takes_third}
use Rattle.program.proofs.words.take_target.Goals as goal

pub returns-clause-some : goal.returns-clause-some
returns-clause-some c =
    let most : 3 ≤ length c.args.words.now.items = omega (arith, c.if-len-lt3.false, c.len.ensures) in
    takes_third c.args.words.now.items c.remove.new.self.items c.remove.result most c.remove.ensures.value
    c.remove.ensures.items
