use Rattle.std.proofs.Common.{◌≡◌, ◌<◌, ◌≤◌, ◌+◌, ◌*◌, ℕ, [], length, slice_index_or, sym, ap, ◌∙◌, subst, arith}
use Rattle.std.specs.Int.{bit_at}
use Rattle.settle_core.specs.Inside.Marks.{Wires}
use Rattle.settle_core.specs.Inside.Table.{waiting_in}
use Rattle.settle_core.specs.Net.{waits}
use Rattle.settle_core.proofs.MarkLemmas.{skipped_empty}
use Rattle.settle_core.proofs.TableLemmas.{default_any}
use Rattle.settle_core.proofs.links.next_sender.Goals as goal

pub returns-clause-skipped : goal.returns-clause-skipped
returns-clause-skipped c =
    let ls = c.links.inside.links.items in
    let ws = c.links.inside.words.items in
    let Q : Wires → Type 0 = λ v. c.args.reader * 64 + 0 < length v.items in
    let there : c.args.reader * 64 + 0 < length ls = subst Q (sym {A = Wires} c.links.view_is) c.requires.reader in
    let count : length ls ≡ length ws * 64 = c.links.invariant.count in
    let at : c.from.result ≡ c.args.reader = c.from.ensures ∙ c.reader.view_is in
    let less : c.args.reader < length ws = omega arith in
    let word : c.index.result.now ≡ slice_index_or ws c.args.reader 0 =
    c.index.ensures ∙ ap (λ k. slice_index_or ws k c.index.result.now) at ∙ default_any ws c.args.reader c.index.result.now 0 less in
    let P : Wires → Type 0 = λ v. (p : ℕ) → c.args.from ≤ p → p < c.next_bit.result → p < 64 → waits (waiting_in v.items) c.args.reader p ≡ [] in
    subst P c.links.view_is (skipped_empty ls ws c.links.invariant c.args.reader c.args.from c.next_bit.result (λ i ge lt. ap (λ w. bit_at w i) (sym word) ∙ c.next_bit.ensures.skipped i ge lt))
