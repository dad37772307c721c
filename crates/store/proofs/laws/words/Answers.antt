use Rattle.store.proofs.ForCallers.{empty_word, right_in_word}
use Rattle.store.proofs.laws.words.Goals as goal

pub returns : goal.returns
returns c = record { empty_word = empty_word; right_in_word = right_in_word }
