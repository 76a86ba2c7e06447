-- A line says one thing at most, which is what is read of it.
use Rattle.std.proofs.Common.{◌≡◌, Bool, true, false, List, Result, refl, subst}
use Rattle.std.specs.Prelude.{ℕ}
use Rattle.svc_token.specs.Cutting.{Cuts}
use Rattle.svc_token.specs.declared.token.Token.{Token}
use Rattle.svc_token.proofs.CutLemmas.{one_cut}
use Rattle.document_reading.specs.declared.statement.Statement.{Statement}
use Rattle.document_reading.specs.declared.line_error.LineError.{LineError}
use Rattle.document_reading.specs.Grammar.{is_silent, Means, Says, silent, spoken}
use Rattle.document_reading.specs.Reading.{ParsesAs}
use Rattle.document_reading.proofs.ResultLemmas.{answers_so}
use Rattle.document_reading.proofs.GrammarLemmas.{one_meaning}

not_both : (b : Bool) → b ≡ true → b ≡ false → ⊥
not_both b h k = cc

-- what the tokens of a line that is not silent mean
spoken_means : (line : List ℕ) (tokens : List Token) → is_silent line ≡ false → Cuts line tokens → (s : Statement) → Says line s → Means tokens s
spoken_means line tokens e c s (silent k) = absurd (not_both (is_silent line) k e)
spoken_means line tokens e c s (spoken {tokens = others} k d m) = subst (λ (tokens : List Token). Means tokens s) (one_cut line others tokens d c) m

pub line_says : (line : List ℕ) (tokens : List Token) → is_silent line ≡ false → Cuts line tokens → (result : Result Statement LineError) → ParsesAs (Means tokens) result → ParsesAs (Says line) result
line_says line tokens e c result h = answers_so (Means tokens) (Says line) (λ s m. spoken e c m) (spoken_means line tokens e c) result h

-- a line says one thing at most
pub one_statement : {line : List ℕ} {s t : Statement} → Says line s → Says line t → s ≡ t
one_statement (silent e) (silent f) = refl
one_statement {line = line} (silent e) (spoken f c m) = absurd (not_both (is_silent line) e f)
one_statement {line = line} (spoken f c m) (silent e) = absurd (not_both (is_silent line) e f)
one_statement {line = line} {t = t} (spoken {tokens = a} e c m) (spoken {tokens = b} f d n) =
    one_meaning m (subst (λ (tokens : List Token). Means tokens t) (one_cut line b a d c) n)
