use Rattle.std.proofs.Common.{Some, ap, ◌∙◌}
use Rattle.state_archive.specs.Entries.{last_of}
use Rattle.state_archive.proofs.EntryLemmas.{rising_kept, last_saved}
use Rattle.state_archive.proofs.memory_archive.MemoryArchiveKeeper.save.Goals as goal

-- what is put keeps the legs rising
pub invariant_of-self-2 : goal.invariant_of-self-2
invariant_of-self-2 c = rw c.in_ok-put_entry.ensures.ok (rising_kept _ _ _ c.self.invariant)

pub returns-clause-rising : goal.returns-clause-rising
returns-clause-rising c = rw c.in_ok-put_entry.ensures.ok (rising_kept _ _ _ c.self.invariant)

-- the last entry is the one that was put
pub returns-clause-last : goal.returns-clause-last
returns-clause-last c = ap Some (ap last_of c.in_ok-put_entry.ensures.ok ∙ last_saved c.self.inside.entries.items c.args.leg c.in_ok-state.state ∙ ap Some c.in_ok-state.ensures)
