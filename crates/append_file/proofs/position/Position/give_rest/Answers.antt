-- What is left of the bytes that are held.
use Rattle.std.proofs.Common.{rules, ◌≡◌, ◌-◌, ◌+◌, ℕ, length, take, drop, ap, sym, ◌∙◌, arith}
use Rattle.std.proofs.lemmas.List.{drop-take, take_at}
use Rattle.append_file.proofs.position.Position.give_rest.Goals as goal

pub returns-clause-rest : goal.returns-clause-rest
returns-clause-rest c =
    let n = c.from-to.result - c.from-from.result in
    let bytes = c.args.self.now.held.bytes in
    let long : length c.copy_from_slice.new.self ≡ n = search rules in
    let whole : c.args.self.now.given + n ≡ c.args.self.now.held.length = omega (arith, c.from-to.ensures, c.from-from.ensures, c.requires.some) in
    take_at c.copy_from_slice.new.self _ n long
    ∙ c.copy_from_slice.ensures.after
    ∙ ap (λ (k : ℕ). take n (drop k bytes)) c.from-from.ensures
    ∙ sym (drop-take c.args.self.now.given n bytes)
    ∙ ap (λ (k : ℕ). drop c.args.self.now.given (take k bytes)) whole
