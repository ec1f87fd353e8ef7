-- One place more of which it is true.
use Rattle.std.proofs.lemmas.List.Elements.{All-set}
use Rattle.term_tags.specs.Known.{IsKnown}
use Rattle.term_tags.proofs.known_keys.keep_at.Goals as goal

pub returns-then-at-len : goal.returns-then-at-len
returns-then-at-len c = λ lists all is. All-set (IsKnown lists) c.args.places.now.items c.args.at c.args.known is all
