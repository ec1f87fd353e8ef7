-- What a matcher that reads characters answers is the answer.
use Rattle.word_reader.proofs.Ways.{finished}
use Rattle.word_reader.proofs.matcher.Matcher.finish.Goals as goal

pub returns-in-ByCharacters-clause-ends : goal.returns-in-ByCharacters-clause-ends
returns-in-ByCharacters-clause-ends c =
    finished c.args.self.now c.in-ByCharacters.matcher c.in-ByCharacters.is c.finish-in-ByCharacters.result c.finish-in-ByCharacters.ensures
