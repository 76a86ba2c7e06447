use Rattle.std.proofs.Common.{◌∙◌, get_or, subst, arith}
use Rattle.propagation.specs.History.{now}
use Rattle.propagation.specs.Lists.{Has}
use Rattle.svc_graph.proofs.Lists.{get_or-Has}
use Rattle.svc_graph.proofs.Theory.{AreBelow-deps}
use Rattle.svc_graph.specs.History.{theory}
use Rattle.svc_graph.proofs.book.Book.mark_below.Goals as goal

pub mark_all-requires : goal.mark_all-requires
mark_all-requires c k d within =
    let rows = c.args.self.now in
    let ids = c.as_slice-then-marks-place.result.now in
    let all = c.as_slice-then-marks-place.ensures ∙ c.in_ok-deps_of.ensures in
    let has = subst (λ ps. Has ps (get_or ids k d)) all (get_or-Has ids k d within) in
    omega (arith, (AreBelow-deps rows c.requires.book c.args.reader (now (theory rows) c.args.reader)).declared (get_or ids k d) has, c.requires.book.few, c.requires.room)
