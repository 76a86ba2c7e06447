use Rattle.saved_state.proofs.SavingLemmas.{state_of_book}
use Rattle.saved_state.proofs.laws.saved_is_state.Goals as goal

pub returns : goal.returns
returns c leg rows begun ended book born say = state_of_book leg rows begun ended book born say
