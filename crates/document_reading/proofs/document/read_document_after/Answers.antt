use Rattle.std.proofs.Common.{List, subst, sym}
use Rattle.svc_graph.specs.History.{Row}
use Rattle.document_reading.specs.Sound.{IsStart}
use Rattle.document_reading.specs.State.{start}
use Rattle.document_reading.proofs.PresentLemmas.{present_start}
use Rattle.document_reading.proofs.document.read_document_after.Goals as goal

pub read_from-requires : goal.read_from-requires
read_from-requires c =
    subst (λ (rows : List Row). IsStart (start rows c.args.ended)) (sym c.in-Ok.ensures) (present_start c.args.book.now c.args.ended c.requires.born c.requires.ended)
