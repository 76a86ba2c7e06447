-- Whatever a line says can be printed, and so a canonical document is read again.
use Rattle.std.proofs.Common.{◌≡◌, ◌≤◌, length, ℕ, zero, suc, List, [], ◌∷◌, ◌++◌, All, arith, map, flat_map}
use Rattle.svc_expr.specs.Grammar.{IsExpression}
use Rattle.svc_expr.specs.Tree.{Tree, tree_of, IsSmall}
use Rattle.svc_token.specs.declared.token.Token.{Token}
use Rattle.svc_token.specs.Cutting.{AreNamed}
use Rattle.svc_token.specs.Word.{IsName}
use Rattle.svc_token.proofs.FrontLemmas.{cut_named}
use Rattle.svc_value.specs.declared.value.Value.{Value}
use Rattle.svc_plan.specs.declared.plan.Leg.{Leg}
use Rattle.svc_plan.specs.declared.plan.Mode.{Mode}
use Rattle.document_reading.specs.declared.statement.Body.{Body}
use Rattle.document_reading.specs.declared.statement.Statement.{Statement}
use Rattle.document_reading.specs.Document.{HasLegs}
use Rattle.document_reading.specs.Grammar.{IsLiteral, whole, negative, quoted, AreMembers, last, more, IsOver, small, large, IsBody, alone, over, Means, input, derived, set, add, drop, define, settle, do_next, take, turn, Says, silent, spoken}
use Rattle.document_printing.specs.Canonical.{services_of, leg_lines, canonical_text}
use Rattle.document_printing.specs.Canonical.{said_by}
use Rattle.document_printing.proofs.CanonicalChanges.{IsBodySayable, CanBeSaid}
use Rattle.document_printing.proofs.CanonicalFormulas.{IsReadable}
use Rattle.document_printing.proofs.CanonicalReading.{read_again}
use Rattle.document_printing.proofs.CanonicalSays.{IsWhole}
use Rattle.document_printing.specs.Canonical.{AreShort}

value_can : (tokens : List Token) (value : Value) → IsLiteral tokens value → IsWhole value
value_can _ _ (whole {n = n} fits) = record { proper = tt; within = record { sfits = omega (arith, fits) } }
value_can _ _ (negative {n = zero} fits) = record { proper = tt; within = record { sfits = omega arith } }
value_can _ _ (negative {n = suc n} fits) = record { proper = tt; within = record { sfits = omega (arith, fits) } }
value_can _ _ (quoted q) = record { proper = tt; within = (q.most, q.utf8) }

members_can : (tokens : List Token) (names : List (List ℕ)) → AreMembers tokens names → AreNamed tokens → All IsName names
members_can _ _ (last {name = name}) named zero d less = named.0
members_can _ _ (last {name = name}) named (suc k) d less = absurd (omega (arith, less))
members_can _ _ (more {name = name} {tokens = tokens} {names = names} are) named zero d less = named.0
members_can _ _ (more {name = name} {tokens = tokens} {names = names} are) named (suc k) d less = members_can tokens names are named.1.1 k d (omega (arith, less))

named_front : (xs ys : List Token) → AreNamed (xs ++ ys) → AreNamed xs
named_front [] ys h = tt
named_front (x ∷ xs) ys h = (h.0, named_front xs ys h.1)

named_behind : (xs ys : List Token) → AreNamed (xs ++ ys) → AreNamed ys
named_behind [] ys h = h
named_behind (x ∷ xs) ys h = named_behind xs ys h.1

-- expressions are printed with names that stand in order
module _ (readable : (tokens : List Token) (e : Tree) (names : List (List ℕ)) → AreNamed tokens → IsExpression tokens e names → IsSmall e → IsReadable names e) where
  over_can : (members : List (List ℕ)) (tokens : List Token) (body : Body) → IsOver members tokens body → AreNamed tokens → All IsName members → IsBodySayable body
  over_can members tokens _ (small {expr = expr} {names = names} is fits) named are = record { readable = readable tokens (tree_of expr) names named is fits; members = are }
  over_can members tokens _ (large is fits) named are = tt

  body_can : (tokens : List Token) (body : Body) → IsBody tokens body → AreNamed tokens → IsBodySayable body
  body_can tokens body (alone is) named = over_can [] tokens body is named (λ k d less. absurd (omega (arith, less)))
  body_can _ body (over {tokens = tokens} {behind = behind} {members = members} is are) named =
      over_can members tokens body is (named_front tokens _ named) (members_can behind members are (named_behind tokens _ named).1)

  means_can : (tokens : List Token) (st : Statement) → Means tokens st → AreNamed tokens → CanBeSaid st
  means_can _ _ (input {tokens = tokens} {value = value} ty is) named = (named.1.0, value_can tokens value is)
  means_can _ _ (derived {tokens = tokens} {body = body} ty is) named = (named.1.0, body_can tokens body is named.1.1.1.1.1.1.1)
  means_can _ _ (set {tokens = tokens} {value = value} is) named = (named.1.0, value_can tokens value is)
  means_can _ _ add named = (named.1.0, named.1.1.0)
  means_can _ _ drop named = (named.1.0, named.1.1.0)
  means_can _ _ (define {tokens = tokens} {body = body} is) named = (named.1.0, body_can tokens body is named.1.1.1)
  means_can _ _ settle named = tt
  means_can _ _ do_next named = named.1.0
  means_can _ _ take named = (named.1.0, named.1.1.1.0)
  means_can _ _ turn named = named.1.0

  pub says_can : (text : List ℕ) (st : Statement) → Says text st → CanBeSaid st
  says_can text _ (silent is) = tt
  says_can text st (spoken {tokens = tokens} is cut means) = means_can tokens st means (cut_named cut)

  -- the canonical document of accepted legs is accepted where it and its lines are short enough, and says the same but for the
  -- numbers of its lines
  pub document_again : (m : Mode) (bytes : List ℕ) (legs : List Leg) → HasLegs m bytes legs → length (canonical_text legs) ≤ 1048576 → AreShort (flat_map (leg_lines (services_of legs)) legs)
      → (again : List Leg) × HasLegs m (canonical_text legs) again × (map said_by again ≡ map said_by legs)
  document_again m = read_again m says_can
