use Rattle.std.proofs.Common.{◌≡◌, ℕ, ◌<◌, ◌↔◌, true, false, get_or}
use Rattle.propagation.specs.Stamps.{clock_of}
use Rattle.central_eval.proofs.Marking.{AreMarked}
use Rattle.central_eval.proofs.reaching.are_reached.Given as goal

abbrev pub invariant-loop-number : goal.invariant-loop-number
invariant-loop-number l = AreMarked l.book (clock_of l.stamps) l.fn.id l.number l.marks

abbrev pub invariant-loop-key : goal.invariant-loop-key
invariant-loop-key l = (q : ℕ) → q < l.key → (get_or l.marks q false ≡ true) ↔ (0 < clock_of l.stamps q)
