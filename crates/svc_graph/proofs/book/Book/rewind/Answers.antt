use Rattle.std.proofs.Common.{◌∙◌, ap, sym, subst}
use Rattle.std.proofs.lemmas.List.{with_items_is}
use Rattle.std.specs.Vec.{with_items}
use Rattle.svc_graph.proofs.Rewinding.{bytes_of-take, columns-cut, rows-cut}
use Rattle.svc_graph.proofs.book.Book.rewind.Goals as goal
use Rattle.svc_graph.specs.Book.{IsBook}
use Rattle.svc_graph.specs.Columns.{bytes_of}
use Rattle.svc_graph.specs.Rewound.{rewound_rows, shortened}

pub invariant_of-self : goal.invariant_of-self
invariant_of-self c =
    columns-cut (bytes_of c.self.inside.names.keys) (bytes_of c.truncate.new.self.keys) c.self.inside.kinds.items c.truncate-2.new.self.items c.self.inside.histories.items c.shorten.new.histories
    (with_items c.truncate-3.new.self c.shorten.new.histories).items c.args.clocks.now c.self.invariant
    (bytes_of-take c.self.inside.names.keys c.truncate.new.self.keys c.args.clocks.now c.truncate.ensures.keys)
    c.truncate-2.ensures.items
    (c.shorten.ensures ∙ ap (λ hs. shortened hs c.args.clocks.now) (c.as_mut_slice.ensures.value ∙ c.truncate-3.ensures.items))
    (with_items_is c.truncate-3.new.self c.shorten.new.histories (c.shorten.auto.histories ∙ c.as_mut_slice.ensures.len))
    (subst (λ rs. IsBook (rewound_rows rs c.args.clocks.now)) (sym c.self.view_is) c.requires)

pub returns : goal.returns
returns c =
    rows-cut (bytes_of c.self.inside.names.keys) (bytes_of c.truncate.new.self.keys) c.self.inside.kinds.items c.truncate-2.new.self.items c.self.inside.histories.items c.shorten.new.histories
    (with_items c.truncate-3.new.self c.shorten.new.histories).items c.args.clocks.now c.self.invariant
    (bytes_of-take c.self.inside.names.keys c.truncate.new.self.keys c.args.clocks.now c.truncate.ensures.keys)
    c.truncate-2.ensures.items
    (c.shorten.ensures ∙ ap (λ hs. shortened hs c.args.clocks.now) (c.as_mut_slice.ensures.value ∙ c.truncate-3.ensures.items))
    (with_items_is c.truncate-3.new.self c.shorten.new.histories (c.shorten.auto.histories ∙ c.as_mut_slice.ensures.len))
    ∙ ap (λ rs. rewound_rows rs c.args.clocks.now) c.self.view_is
