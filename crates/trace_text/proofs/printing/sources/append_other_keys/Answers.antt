use Rattle.std.proofs.Common.{◌∙◌, sym, refl, append_assoc, ◌∷◌, [], length}
use Rattle.trace_text.specs.Named.{naming}
use Rattle.trace_text.specs.Notes.{key_text}
use Rattle.trace_text.proofs.Growing.{kept_by}
use Rattle.trace_text.proofs.Walking.{named-first, named-rest, after_commas-next}
use Rattle.trace_text.proofs.printing.sources.append_other_keys.Goals as goal

pub append_key-requires : goal.append_key-requires
append_key-requires c = named-first (length c.args.book.now) c.loop-key.key-iterator (c.in-Some.key, _) c.next.new.self c.in-Some.ensures.steps c.loop-key.invariant.named

pub loop-key-preserved : goal.loop-key-preserved
loop-key-preserved c = record {
  named = named-rest (length c.args.book.now) c.loop-key.key-iterator (c.in-Some.key, _) c.next.new.self c.in-Some.ensures.steps c.loop-key.invariant.named;
  kept = kept_by c.args.out.now.items c.loop-key.out.items c.append_key.new.out.items c.loop-key.invariant.kept c.append_key.ensures.kept;
  out = after_commas-next (key_text (naming c.args.book.now)) c.loop-key.out.items _ c.append_key.new.out.items _ c.loop-key.key-iterator (c.in-Some.key, _) c.next.new.self
      c.in-Some.ensures.steps c.loop-key.invariant.out refl (c.in_ok-append_key.ensures.ok ∙ sym (append_assoc c.loop-key.out.items (44 ∷ []) (naming c.args.book.now c.in-Some.key)));
}

pub returns-in_err-append_key-clause-kept : goal.returns-in_err-append_key-clause-kept
returns-in_err-append_key-clause-kept c = kept_by c.args.out.now.items c.loop-key.out.items c.append_key.new.out.items c.loop-key.invariant.kept c.append_key.ensures.kept
