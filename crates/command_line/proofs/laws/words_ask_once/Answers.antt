-- What the words could ask for is read off their first one.
use Rattle.command_line.proofs.OneRequest.{asks_once}
use Rattle.command_line.proofs.laws.words_ask_once.Goals as goal

pub returns : goal.returns
returns c = asks_once
