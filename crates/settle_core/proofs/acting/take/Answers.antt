use Rattle.std.proofs.Common.{◌≡◌, ◌≤◌, ◌+◌, ◌<◌, ℕ, List, ◌∷◌, length, ap, subst, sym, ◌∙◌, arith}
use Rattle.std.proofs.lemmas.List.{length-map}
use Rattle.settle_core.specs.Net.{place_of, waits}
use Rattle.settle_core.specs.Inside.Table.{link_in, waiting_in, PutBack}
use Rattle.settle_core.proofs.RefusalLemmas.{refused_for_memory}
use Rattle.settle_core.proofs.TableLemmas.{popped_first, popped_room, put_back_same}
use Rattle.settle_core.proofs.TakeLemmas.{reply_room, take_first}
use Rattle.settle_core.proofs.acting.take.Goals as goal

pub hand_over-requires-clause-room : goal.hand_over-requires-clause-room
hand_over-requires-clause-room c =
    let there : place_of c.args.id c.args.sender < length c.reserve.new.links.items = (let less : place_of c.args.id c.args.sender < length (waiting_in c.args.links.now.items) = c.requires.from in
    let count : length c.reserve.new.links.items ≡ length c.args.links.now.items = c.in_ok-reserve.ensures.same.count in
    let map_count : length (waiting_in c.args.links.now.items) ≡ length c.args.links.now.items = length-map c.args.links.now.items _ in omega arith) in
    let one : 2 ≤ (link_in c.reserve.new.links.items c.args.sender c.args.id).spare = c.in_ok-reserve.ensures.room in
    let two : (link_in c.reserve.new.links.items c.args.sender c.args.id).spare ≤ (link_in c.pop.new.links.items c.args.sender c.args.id).spare =
    popped_room c.args.id c.args.sender c.in-Some.bytes c.reserve.new.links.items c.pop.new.links.items there c.in-Some.ensures.some (place_of c.args.sender c.args.id) in
    reply_room c.args.id c.args.sender c.in-Some.bytes c.args.node.now c.take.new.self c.pop.new.links.items c.in-Ok.ensures.ok c.requires.ready.handed (omega arith)

pub returns-in-Ok-clause-takes : goal.returns-in-Ok-clause-takes
returns-in-Ok-clause-takes c =
    let there : place_of c.args.id c.args.sender < length c.reserve.new.links.items = (let less : place_of c.args.id c.args.sender < length (waiting_in c.args.links.now.items) = c.requires.from in
    let count : length c.reserve.new.links.items ≡ length c.args.links.now.items = c.in_ok-reserve.ensures.same.count in
    let map_count : length (waiting_in c.args.links.now.items) ≡ length c.args.links.now.items = length-map c.args.links.now.items _ in omega arith) in
    take_first c.args.id c.args.sender c.in-Some.bytes c.args.node.now c.take.new.self c.in-Ok.ensures.ok c.in-Ok.ensures.took c.args.links.now.items c.reserve.new.links.items c.pop.new.links.items c.hand_over.new.links.items
    c.in_ok-reserve.ensures.same there c.in-Some.ensures.some c.requires.sender c.requires.ready.handed c.hand_over.ensures.len c.hand_over.ensures.links
    c.hand_over.new.node (c.take.new.self.handed + length c.take.new.self.outbox) c.hand_over.ensures.node

pub of_memory-requires : goal.of_memory-requires
of_memory-requires c =
    let there : place_of c.args.id c.args.sender < length c.reserve.new.links.items = (let less : place_of c.args.id c.args.sender < length (waiting_in c.args.links.now.items) = c.requires.from in
    let count : length c.reserve.new.links.items ≡ length c.args.links.now.items = c.in_ok-reserve.ensures.same.count in
    let map_count : length (waiting_in c.args.links.now.items) ≡ length c.args.links.now.items = length-map c.args.links.now.items _ in omega arith) in
    let first : waits (waiting_in c.args.links.now.items) c.args.id c.args.sender ≡ c.in-Some.bytes ∷ waits (waiting_in c.pop.new.links.items) c.args.id c.args.sender =
    ap (λ (ws : List (List (List ℕ))). waits ws c.args.id c.args.sender) (sym c.in_ok-reserve.ensures.same.waiting)
    ∙ popped_first c.args.id c.args.sender c.in-Some.bytes c.reserve.new.links.items c.pop.new.links.items there c.in-Some.ensures.some in
    refused_for_memory c.args.sender c.args.node.now c.in-Some.bytes (c.requires.expects c.in-Some.bytes (waits (waiting_in c.pop.new.links.items) c.args.id c.args.sender) first) c.in-Err.refusal c.in-Err.ensures.refused

pub returns-in-Err-clause-err : goal.returns-in-Err-clause-err
returns-in-Err-clause-err c =
    let there : place_of c.args.id c.args.sender < length c.reserve.new.links.items = (let less : place_of c.args.id c.args.sender < length (waiting_in c.args.links.now.items) = c.requires.from in
    let count : length c.reserve.new.links.items ≡ length c.args.links.now.items = c.in_ok-reserve.ensures.same.count in
    let map_count : length (waiting_in c.args.links.now.items) ≡ length c.args.links.now.items = length-map c.args.links.now.items _ in omega arith) in
    let P : List ℕ → Type 0 = λ bytes. PutBack c.args.id c.args.sender bytes c.pop.new.links.items c.put_back.new.links.items in (
      c.in-Err.ensures.err.0,
      put_back_same c.args.id c.args.sender c.in-Some.bytes c.reserve.new.links.items c.pop.new.links.items there c.in-Some.ensures.some c.put_back.new.links.items (subst P c.in-Err.ensures.err.1 c.put_back.ensures)
          ∙ c.in_ok-reserve.ensures.same.waiting,
    )
