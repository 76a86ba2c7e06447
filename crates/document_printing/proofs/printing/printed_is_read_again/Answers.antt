use Rattle.document_printing.proofs.CanonicalReadable.{readable}
use Rattle.document_printing.proofs.CanonicalSayable.{document_again}
use Rattle.document_printing.proofs.printing.printed_is_read_again.Goals as goal

pub returns : goal.returns
returns c mode bytes legs has within =
    let again = document_again readable mode bytes legs has within.bytes within.lines in
    (again.0, record { accepted = again.1; same = again.2 })
