use Rattle.svc_graph.proofs.book.Book.accept.Goals as goal

pub apply-requires : goal.apply-requires
apply-requires c = record { form = c.requires; passes = c.in_ok-test.ensures.passes }
