-- What a line can say.
use Rattle.std.proofs.Common.{ℕ, List, [], ◌∷◌, ◌++◌, inl, inr, refl}
use Rattle.std.specs.Prelude.{All}
use Rattle.std.proofs.lemmas.List.Elements.{All-cons, All-nil}
use Rattle.propagation.specs.Lists.{Has}
use Rattle.svc_graph.specs.Accepting.{IsProper}
use Rattle.svc_expr.specs.Tree.{tree_of}
use Rattle.svc_token.specs.Cutting.{AreNamed}
use Rattle.svc_token.specs.Word.{IsName}
use Rattle.svc_token.specs.declared.token.Token.{Token}
use Rattle.svc_token.proofs.FrontLemmas.{cut_named}
use Rattle.svc_value.specs.declared.value.Value.{Value}
use Rattle.document_reading.specs.declared.statement.Body.{Body}
use Rattle.document_reading.specs.declared.statement.Statement.{Statement}
use Rattle.document_reading.specs.declared.statement.Statement.TheVariants.{Input, Derived}
use Rattle.document_reading.specs.Grammar.{IsLiteral, whole, negative, quoted, IsOver, small, large, IsBody, alone, over, Means, input, derived, set, add, drop, define, settle, do_next, take, turn, Says, silent, spoken}
use Rattle.document_reading.specs.Sound.{IsProperBody, IsProperStatement}
use Rattle.svc_expr.proofs.NamesRead.{names_counted, names_differ, name_is_named}

all_of : {A : Type 0} (P : A → Type 0) (xs : List A) → ((x : A) → Has xs x → P x) → All P xs
all_of P [] h = All-nil P
all_of P (x ∷ xs) h = All-cons P x xs (h x (inl refl)) (all_of P xs (λ y has. h y (inr has)))

named_before : (tokens behind : List Token) → AreNamed (tokens ++ behind) → AreNamed tokens
named_before [] behind h = tt
named_before (token ∷ tokens) behind h = (h.0, named_before tokens behind h.1)

literal_proper : {tokens : List Token} {value : Value} → IsLiteral tokens value → IsProper value
literal_proper (whole h) = tt
literal_proper (negative h) = tt
literal_proper (quoted h) = tt

over_proper : {members : List (List ℕ)} {tokens : List Token} {body : Body} → AreNamed tokens → IsOver members tokens body → IsProperBody body
over_proper n (small {tokens = tokens} {expr = expr} {names = names} e s) = record {
  small = s;
  count = names_counted tokens (tree_of expr) names e;
  differ = names_differ tokens (tree_of expr) names e;
  named = all_of IsName names (name_is_named tokens (tree_of expr) names e n);
}
over_proper n (large e s) = tt

body_proper : {tokens : List Token} {body : Body} → AreNamed tokens → IsBody tokens body → IsProperBody body
body_proper n (alone o) = over_proper n o
body_proper n (over {tokens = tokens} o m) = over_proper (named_before tokens _ n) o

means_proper : {tokens : List Token} {statement : Statement} → AreNamed tokens → Means tokens statement → IsProperStatement statement
means_proper n (input t l) = literal_proper l
means_proper n (derived t b) = body_proper n.1.1.1.1.1.1.1 b
means_proper n (set l) = literal_proper l
means_proper n add = tt
means_proper n drop = tt
means_proper n (define b) = body_proper n.1.1.1 b
means_proper n settle = tt
means_proper n do_next = tt
means_proper n take = tt
means_proper n turn = tt

pub said_proper : {line : List ℕ} {statement : Statement} → Says line statement → IsProperStatement statement
said_proper (silent e) = tt
said_proper (spoken e c m) = means_proper (cut_named c) m

-- what it declares has a name
abbrev pub DeclaresName : Statement → Type 0
DeclaresName (Input name ty value) = IsName name
DeclaresName (Derived name ty rank body) = IsName name
DeclaresName statement = Unit {0}

means_named : {tokens : List Token} {statement : Statement} → AreNamed tokens → Means tokens statement → DeclaresName statement
means_named n (input t l) = n.1.0
means_named n (derived t b) = n.1.0
means_named n (set l) = tt
means_named n add = tt
means_named n drop = tt
means_named n (define b) = tt
means_named n settle = tt
means_named n do_next = tt
means_named n take = tt
means_named n turn = tt

pub said_named : {line : List ℕ} {statement : Statement} → Says line statement → DeclaresName statement
said_named (silent e) = tt
said_named (spoken e c m) = means_named (cut_named c) m
