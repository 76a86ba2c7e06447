-- What the code reads of the tokens of a line is what they mean.
use Rattle.std.proofs.Common.{◌≡◌, List, Option, Some, None, Result, sym, ap, subst, ◌∙◌}
use Rattle.svc_token.specs.declared.token.Token.{Token}
use Rattle.document_reading.specs.declared.head.Head.{Head}
use Rattle.document_reading.specs.declared.head.Head.TheVariants as head
use Rattle.document_reading.specs.declared.statement.Statement.{Statement}
use Rattle.document_reading.specs.declared.statement.Statement.TheVariants.{Input, Derived, Set, Define}
use Rattle.document_reading.specs.declared.line_error.LineError.{LineError}
use Rattle.document_reading.specs.Grammar.{Means}
use Rattle.document_reading.specs.Reading.{head_at, Fills, ParsesAs}
use Rattle.document_reading.proofs.ResultLemmas.{answers_so}
use Rattle.document_reading.proofs.BodyLemmas.{one_body}
use Rattle.document_reading.proofs.HeadLemmas.{Front, front_is, head_sound, head_complete}
use Rattle.document_reading.proofs.LiteralLemmas.{one_literal}

-- what a line means its head says with the tokens behind it
head_fills : (tokens : List Token) (x : Front) → head_at tokens ≡ Some x → (s : Statement) → Means tokens s → Fills x.0 x.1 s
head_fills tokens x h s m = let k = head_complete m in subst (λ (y : Front). Fills y.0 y.1 s) (front_is k.front x (sym k.stands ∙ h)) k.fills

pub line_answers : (tokens : List Token) (x : Front) → head_at tokens ≡ Some x → (result : Result Statement LineError) → ParsesAs (Fills x.0 x.1) result → ParsesAs (Means tokens) result
line_answers tokens x h result a = answers_so (Fills x.0 x.1) (Means tokens) (head_sound tokens x h) (head_fills tokens x h) result a

none_some : (o : Option Front) (x : Front) → o ≡ None → o ≡ Some x → ⊥
none_some o x n h = cc

pub no_line : (tokens : List Token) → head_at tokens ≡ None → (s : Statement) → Means tokens s → ⊥
no_line tokens n s m = let k = head_complete m in none_some (head_at tokens) k.front n k.stands

-- ---- one meaning

one_filling : (h : Head) (rest : List Token) (s t : Statement) → Fills h rest s → Fills h rest t → s ≡ t
one_filling (head.Whole said) rest s t f g = f.1 ∙ sym g.1
one_filling (head.Input name ty) rest s t f g = f.2 ∙ ap (Input name ty) (one_literal f.1 g.1) ∙ sym g.2
one_filling (head.Derived name ty rank) rest s t f g = f.2 ∙ ap (Derived name ty rank) (one_body f.1 g.1) ∙ sym g.2
one_filling (head.Set name) rest s t f g = f.2 ∙ ap (Set name) (one_literal f.1 g.1) ∙ sym g.2
one_filling (head.Define name) rest s t f g = f.2 ∙ ap (Define name) (one_body f.1 g.1) ∙ sym g.2

-- tokens mean one thing at most
pub one_meaning : {tokens : List Token} {s t : Statement} → Means tokens s → Means tokens t → s ≡ t
one_meaning {tokens = tokens} {s = s} {t = t} h k =
    let front = head_complete h in
    one_filling front.front.0 front.front.1 s t front.fills (head_fills tokens front.front front.stands t k)
