-- What is read from the first byte on are the words.
use Rattle.word_reader.proofs.Reading.{are_words}
use Rattle.word_reader.proofs.reader.words.Goals as goal

pub returns : goal.returns
returns c = are_words c.args.rule c.args.bytes.now _ c.in_ok-terms.ensures
