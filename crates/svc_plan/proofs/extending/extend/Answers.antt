use Rattle.std.proofs.Common.{◌≡◌, ap, subst, sym, take, ◌∙◌}
use Rattle.svc_plan.proofs.Rewinding.{back}
use Rattle.svc_graph.specs.Book.{IsBook}
use Rattle.svc_graph.specs.Rewound.{clocks_of}
use Rattle.svc_plan.proofs.extending.extend.Goals as goal

pub rewind-requires : goal.rewind-requires
rewind-requires c =
    let same : take c.len-count.result c.clocks_of-clocks.result ≡ clocks_of c.args.book.now = ap (λ n. take n c.clocks_of-clocks.result) c.len-count.ensures.len ∙ c.clocks_of-clocks.ensures.clocks in
    subst IsBook (sym (back c.args.book.now c.add.new.book (take c.len-count.result c.clocks_of-clocks.result) same c.add.ensures.older)) c.clocks_of-clocks.ensures.book

pub returns-in-Err-clause-err : goal.returns-in-Err-clause-err
returns-in-Err-clause-err c =
    let same : take c.len-count.result c.clocks_of-clocks.result ≡ clocks_of c.args.book.now = ap (λ n. take n c.clocks_of-clocks.result) c.len-count.ensures.len ∙ c.clocks_of-clocks.ensures.clocks in
    c.rewind.ensures ∙ back c.args.book.now c.add.new.book (take c.len-count.result c.clocks_of-clocks.result) same c.add.ensures.older
