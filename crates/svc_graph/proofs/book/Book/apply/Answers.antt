use Rattle.std.proofs.Common.{◌≡◌, ◌∙◌, ◌<◌, None, length, get_or, sym, subst, ap, arith}
use Rattle.svc_graph.proofs.Changed.{IsBook-changed, present-None}
use Rattle.svc_graph.proofs.Rows.{length-book, history-read, rows_of-changed, AreColumns-changed}
use Rattle.svc_graph.specs.Accepting.{IsChangeOf}
use Rattle.svc_graph.specs.Columns.{bytes_of, rows_of}
use Rattle.svc_graph.specs.History.{history_of}
use Rattle.svc_graph.specs.Refusals.{refusal_of}
use Rattle.svc_graph.proofs.book.Book.apply.Goals as goal
use Rattle.svc_graph.proofs.book.Book.apply.Goals.{After-place, After-index_mut-history}

-- the service has a name
named : (c : After-place) → c.args.id < length (bytes_of c.self.inside.names.keys)
named c = rw (← length-book c.self.invariant, c.self.view_is) c.requires.form.declared

-- the history that was read is that of the service
read : (c : After-index_mut-history) → c.index_mut-history.result.now ≡ get_or c.self.inside.histories.items c.args.id c.index_mut-history.result.now
read c = c.index_mut-history.ensures.value ∙ ap (λ n. get_or c.self.inside.histories.items n c.index_mut-history.result.now) c.place.ensures

pub index_mut-history-requires : goal.index_mut-history-requires
index_mut-history-requires c = omega (arith, named c, c.self.inside.histories.ok.0, c.self.invariant.histories_len)

pub append-requires : goal.append-requires
append-requires c none =
    let within : c.args.id < length (bytes_of c.self.inside.names.keys) = rw (← length-book c.self.invariant, c.self.view_is) c.requires.form.declared in
    c.requires.form.first.1
    (ap (λ rows. history_of rows c.args.id) (sym c.self.view_is) ∙ sym (history-read c.self.invariant c.args.id c.index_mut-history.result.now within (read c)) ∙ present-None c.index_mut-history.result.now none)

pub invariant_of-self-2 : goal.invariant_of-self-2
invariant_of-self-2 c =
    let rows = rows_of (bytes_of c.self.inside.names.keys) c.self.inside.kinds.items c.self.inside.histories.items in
    let within : c.args.id < length (bytes_of c.self.inside.names.keys) = rw (← length-book c.self.invariant, c.self.view_is) c.requires.form.declared in
    let read = c.index_mut-history.ensures.value ∙ ap (λ n. get_or c.self.inside.histories.items n c.index_mut-history.result.now) c.place.ensures in
    let form : IsChangeOf rows c.args.id c.args.change = subst (λ rs. IsChangeOf rs c.args.id c.args.change) (sym c.self.view_is) c.requires.form in
    let passes : refusal_of rows c.args.id c.args.change ≡ None = ap (λ rs. refusal_of rs c.args.id c.args.change) c.self.view_is ∙ c.requires.passes in
    rw (c.in_ok-append.ensures.ok, c.place.ensures)
    (AreColumns-changed c.self.invariant c.args.id c.index_mut-history.result.now c.args.change within read (IsBook-changed rows c.args.id c.args.change c.self.invariant.book form passes))

pub returns-clause-ok : goal.returns-clause-ok
returns-clause-ok c =
    let h = c.self.invariant in
    let within : c.args.id < length (bytes_of c.self.inside.names.keys) = rw (← length-book c.self.invariant, c.self.view_is) c.requires.form.declared in
    let read = c.index_mut-history.ensures.value ∙ ap (λ n. get_or c.self.inside.histories.items n c.index_mut-history.result.now) c.place.ensures in
    rw (c.in_ok-append.ensures.ok, c.place.ensures, ← c.self.view_is)
    (rows_of-changed (bytes_of c.self.inside.names.keys) c.self.inside.kinds.items c.self.inside.histories.items c.args.id c.index_mut-history.result.now c.args.change h.kinds_len h.histories_len within read)
