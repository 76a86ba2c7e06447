-- Expressions that are read again.
use Rattle.std.proofs.Common.{◌≡◌, ℕ, List, sym, subst, arith, length}
use Rattle.svc_expr.specs.Canonical.{canonical_text, IsWithin as IsTreeWithin}
use Rattle.svc_expr.specs.declared.expr.Reading.{Reading}
use Rattle.svc_expr.specs.Grammar.{IsExpression, IsReading}
use Rattle.svc_expr.specs.Names.{Differ}
use Rattle.svc_expr.specs.Tree.{tree_of, IsSmall}
use Rattle.svc_expr.specs.Types.{name_count}
use Rattle.svc_expr.proofs.Again.{read_again}
use Rattle.svc_expr.proofs.Laws.{one_expression}
use Rattle.svc_expr.proofs.TreeLaws.{one_tree}
use Rattle.svc_token.specs.Cutting.{Cuts}
use Rattle.svc_token.specs.declared.token.Token.{Token}
use Rattle.svc_token.proofs.CutLemmas.{one_cut}
use Rattle.svc_token.proofs.FrontLemmas.{cut_named}
use Rattle.document_printing.proofs.CanonicalReadable.{readable}
use Rattle.saved_state.specs.Named.{IsNamedExpression}

-- the canonical text of a named expression is read as it
pub reads_again : (reading : Reading) (text : List ℕ) → IsNamedExpression reading → IsTreeWithin (tree_of reading.expr) → text ≡ canonical_text reading.names (tree_of reading.expr) →
    IsReading text (tree_of reading.expr) reading.names
reads_again reading text h w e =
    let count = h.count in
    subst (λ t. IsReading t (tree_of reading.expr) reading.names) (sym e) (read_again reading.names (tree_of reading.expr) h.names (omega (arith, count)) h.order w h.small)

-- so its tokens are that expression
pub tokens_are : (reading : Reading) (text : List ℕ) (tokens : List Token) → IsNamedExpression reading → IsTreeWithin (tree_of reading.expr) → text ≡ canonical_text reading.names (tree_of reading.expr) →
    Cuts text tokens → IsExpression tokens (tree_of reading.expr) reading.names
tokens_are reading text tokens h w e cuts =
    let again = reads_again reading text h w e in
    subst (λ ts. IsExpression ts (tree_of reading.expr) reading.names) (one_cut text again.0 tokens again.1 cuts) again.2

pub reading_is : (found reading : Reading) (tokens : List Token) → IsExpression tokens (tree_of found.expr) found.names → IsExpression tokens (tree_of reading.expr) reading.names → found ≡ reading
reading_is found reading tokens a b =
    let both = one_expression tokens (tree_of found.expr) (tree_of reading.expr) found.names reading.names a b in
    let expr = one_tree found.expr reading.expr both.0 in
    λ i. record { expr = expr i; names = both.1 i }

pub named_expression : (found : Reading) (text : List ℕ) (tokens : List Token) → Cuts text tokens → IsExpression tokens (tree_of found.expr) found.names → IsSmall (tree_of found.expr) →
    length found.names ≡ name_count (tree_of found.expr) → Differ found.names → IsNamedExpression found
named_expression found text tokens cuts is small count differ =
    let can = readable tokens (tree_of found.expr) found.names (cut_named cuts) is small in
    record { small = small; count = count; differ = differ; names = can.are_names; order = can.order }
