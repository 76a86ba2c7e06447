use Rattle.trace_text.proofs.BookNames.{names_of_book}
use Rattle.trace_text.proofs.laws.books_are_named.Goals as goal

pub returns : goal.returns
returns c = λ rows names is. names_of_book rows names is.names
