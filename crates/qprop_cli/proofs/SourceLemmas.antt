-- In a settled network the keys of a service's last value are what it rests on.
use Rattle.std.proofs.Common.{◌≡◌, ℕ, ◌<◌, List, length, Some, sym, ◌∙◌, subst, arith}
use Rattle.propagation.specs.History.{Book, Reach, now}
use Rattle.propagation.specs.History.Reach.{itself, onward}
use Rattle.propagation.specs.Lists.{latest}
use Rattle.propagation.specs.Logs.{Emission, emissions}
use Rattle.propagation.specs.Stamps.{IsCut, Stamps, clock_of, keys}
use Rattle.propagation.proofs.Keys.{has-keys, rising-pos}
use Rattle.propagation.proofs.Places.{keys-rise}
use Rattle.svc_graph.specs.declared.definition.Definition.{Definition}
use Rattle.svc_graph.specs.Book.{IsBook}
use Rattle.svc_graph.specs.History.{Row, theory}
use Rattle.svc_graph.proofs.Theory.{AreBelow-deps}
use Rattle.svc_plan.proofs.BornLemmas.{are_born}
use Rattle.svc_value.specs.declared.value.Value.{Value}
use Rattle.settle_core.specs.Legs.{IsNetwork, IsSettled}
use Rattle.settle_core.specs.Net.{NetworkView, service_at}
use Rattle.trace_text.specs.Named.{KeysBelow}
use Rattle.qprop_cli.specs.Commands.Step.{ListsReach}
use Rattle.qprop_cli.proofs.NamedEntries.{keys_below}

-- what a service of the book rests on is of the book
reach_declared : (rows : List Row) → IsBook rows → (S : ℕ → ℕ) (n q : ℕ) → n < length rows → Reach (theory rows) S n q → q < length rows
reach_declared rows book S n q less itself = less
reach_declared rows book S n q less (onward {q = r} reach has) = (AreBelow-deps rows book r (S r)).declared q has

module _ (net : NetworkView) (is : IsNetwork net) (n : ℕ) (less : n < length net.rows) where
  abbrev b : Book Value Definition
  b = theory net.rows

  declared : (q : ℕ) → Reach b (now b) n q → q < length net.rows
  declared q reach = reach_declared net.rows is.book (now b) n q less reach

  -- the keys of stamps that are cut to this
  cut_lists : (S : Stamps) → IsCut b (now b) n S → ListsReach net.rows n (keys S)
  cut_lists S cut =
      record {
        rising = keys-rise 0 S cut.rising;
        each = λ q key. cut.key q (rising-pos 0 S cut.rising q key);
        all = λ q reach.
            (let clock : clock_of S q ≡ now b q = cut.clock q reach in
            let born : 0 < now b q = are_born net.rows is.born q (declared q reach) in
            has-keys S q (omega arith));
      }

  cut_below : (S : Stamps) → IsCut b (now b) n S → KeysBelow (length net.rows) S
  cut_below S cut = keys_below (length net.rows) S (λ q key. declared q ((cut_lists S cut).each q key))

pub sources_are_reach : (net : NetworkView) → IsNetwork net → IsSettled net → (n : ℕ) → n < length net.rows →
    (m : Emission Value) × ((service_at net.services n).state.last ≡ Some m) × KeysBelow (length net.rows) m.stamps × ListsReach net.rows n (keys m.stamps)
sources_are_reach net is settled n less =
    let g = settled.has.leg in
    let leg = settled.has.is in
    let born : 0 < now settled.has.leg.book n = (let P : Book Value Definition → Type 0 = λ b. 0 < now b n in subst P (sym leg.book) (are_born net.rows is.born n less)) in
    let w = settled.settled.born n born in
    let last = (let P : ℕ → Type 0 = λ j. latest (emissions settled.has.leg j (settled.has.logs n)) ≡ (service_at net.services n).state.last in subst P (leg.fits.ids n) (leg.fits.fits n).kept.last_is) in
    let cut : IsCut (theory net.rows) (now (theory net.rows)) n w.0.stamps = (let P : Book Value Definition → Type 0 = λ b. IsCut b (now b) n w.0.stamps in subst P leg.book w.3) in
    (w.0, sym last ∙ w.1, cut_below net is n less w.0.stamps cut, cut_lists net is n less w.0.stamps cut)
