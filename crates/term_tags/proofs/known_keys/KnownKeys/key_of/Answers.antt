-- What is kept is the word's key.
use Rattle.std.proofs.Common.{ℕ, List, sym, ◌∙◌, ap}
use Rattle.term_tags.specs.Keys.{key_of}
use Rattle.term_tags.proofs.known_keys.KnownKeys.key_of.Goals as goal

pub invariant_of-self : goal.invariant_of-self
invariant_of-self c = (
  c.self.invariant.0,
  c.keep_at.ensures c.self.inside.lists c.self.invariant.1
      (c.key_of-key.ensures ∙ ap (key_of c.self.inside.lists) (sym c.in-Some.ensures)),
)
