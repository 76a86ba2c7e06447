use Rattle.std.proofs.Common.{◌≡◌, ◌≤◌, length, take, drop}
use Rattle.svc_expr.specs.declared.quoting.Place.TheVariants.{Plain}
use Rattle.svc_expr.specs.Quoted.{IsPlace, meaning_from}
use Rattle.svc_expr.proofs.QuotedLemmas.{behind}
use Rattle.svc_expr.proofs.quoting.write_meaning.Given as goal

abbrev pub invariant-loop-byte : goal.invariant-loop-byte
invariant-loop-byte l =
    (l.len ≤ 256) × (length l.out ≡ 256) × IsPlace l.place ×
    (behind (take l.len l.out) (meaning_from l.place (drop l.byte-index l.inside)) ≡ meaning_from Plain l.inside)
