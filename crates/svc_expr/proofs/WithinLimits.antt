-- The numbers and texts of an expression that is read are within their limits.
use Rattle.std.proofs.Common.{ℕ, zero, suc, ◌≤◌, List, arith}
use Rattle.std.specs.Prelude.{pos, neg_ℤ, FitsSigned}
use Rattle.std.specs.Int.{w64}
use Rattle.svc_token.specs.declared.token.Token.{Token}
use Rattle.svc_expr.specs.declared.level.Aggregate.{Aggregate}
use Rattle.svc_expr.specs.declared.level.Aggregate.TheVariants as aggregate
use Rattle.svc_expr.specs.declared.level.Form.{Form}
use Rattle.svc_expr.specs.declared.level.Form.TheVariants as form
use Rattle.svc_expr.specs.declared.level.Level.{Level}
use Rattle.svc_expr.specs.Canonical.{IsWithin}
use Rattle.svc_expr.specs.Grammar.{formed, aggregated, Spells, whole_number, negative_number, quoted_text, named, in_brackets, call, member_call, negation, joined, comparison, denial, if_then_else, as_tighter}
use Rattle.svc_expr.specs.Tree.{Tree}

negative_fits : (n : ℕ) → n ≤ 9223372036854775808 → FitsSigned w64 (neg_ℤ (pos n))
negative_fits zero h = record { sfits = omega arith }
negative_fits (suc n) h = record { sfits = omega (arith, h) }

form_within : (f : Form) (e : Tree) → IsWithin e → IsWithin (formed f e)
form_within form.Neg e w = w
form_within form.Not e w = w
form_within form.Len e w = w
form_within form.Number e w = w
form_within form.TextOf e w = w

aggregate_within : (a : Aggregate) → IsWithin (aggregated a)
aggregate_within aggregate.Sum = tt
aggregate_within aggregate.Count = tt
aggregate_within aggregate.Min = tt
aggregate_within aggregate.Max = tt

pub spelled_within : {names : List (List ℕ)} {L : Level} {d : ℕ} {ts rest : List Token} {e : Tree} → Spells names L d ts e rest → IsWithin e
spelled_within (whole_number {n = n} h) = record { sfits = omega (arith, h) }
spelled_within (negative_number {n = n} h) = negative_fits n h
spelled_within (quoted_text q) = (q.most, q.utf8)
spelled_within named = tt
spelled_within (in_brackets s) = spelled_within s
spelled_within (call {e = e} {form = f} h s) = form_within f e (spelled_within s)
spelled_within (member_call {a = a} h) = aggregate_within a
spelled_within (negation s) = spelled_within s
spelled_within (joined l h s u) = (spelled_within s, spelled_within u)
spelled_within (comparison h s u) = (spelled_within s, spelled_within u)
spelled_within (denial s) = spelled_within s
spelled_within (if_then_else s u v) = (spelled_within s, spelled_within u, spelled_within v)
spelled_within (as_tighter s) = spelled_within s
