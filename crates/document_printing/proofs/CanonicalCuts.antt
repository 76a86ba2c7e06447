-- How the parts of a canonical line are cut into tokens.
use Rattle.std.proofs.Common.{◌≡◌, ℕ, zero, suc, ◌<◌, false, List, [], ◌∷◌, ◌++◌, length, All, refl, subst, arith, codes}
use Rattle.std.proofs.lemmas.List.{append-nil}
use Rattle.std.specs.List.{flat_map}
use Rattle.svc_expr.specs.Tree.{Tree, given}
use Rattle.svc_expr.specs.Canonical.{name_at, canonical_text, IsWritable}
use Rattle.svc_expr.proofs.Spelled.{canon}
use Rattle.svc_expr.proofs.Written.{onto, onto_is, cuts}
use Rattle.svc_token.specs.declared.keyword.Keyword.{Keyword as AnyKeyword}
use Rattle.svc_token.specs.declared.keyword.Keyword.TheVariants as keyword
use Rattle.svc_token.specs.declared.token.Token.{Token}
use Rattle.svc_token.specs.declared.token.Token.TheVariants.{Keyword, Name, Colon, Comma, Equals}
use Rattle.svc_token.specs.Cutting.{begins, word_token, mark_at, front, Cuts, ends, blank, token}
use Rattle.svc_token.specs.Keyword.{keyword_of}
use Rattle.svc_token.specs.Word.{is_word_byte, IsName}
use Rattle.svc_value.specs.declared.value.ValueType.{ValueType}
use Rattle.svc_value.specs.declared.value.ValueType.TheVariants as type
use Rattle.document_reading.specs.Grammar.{AreMembers, IsType, int as is_int, text as is_text, last, more}
use Rattle.document_printing.specs.Canonical.{type_text}

-- ---- the first words of lines

pub input_word : {rest : List ℕ} {tokens : List Token} → Cuts rest tokens → Cuts (codes "input " ++ rest) (Keyword keyword.Input ∷ tokens)
unfolding front mark_at word_token keyword_of
input_word s = token {n = 5} refl (blank refl s)

pub derived_word : {rest : List ℕ} {tokens : List Token} → Cuts rest tokens → Cuts (codes "derived " ++ rest) (Keyword keyword.Derived ∷ tokens)
unfolding front mark_at word_token keyword_of
derived_word s = token {n = 7} refl (blank refl s)

pub set_word : {rest : List ℕ} {tokens : List Token} → Cuts rest tokens → Cuts (codes "set " ++ rest) (Keyword keyword.Set ∷ tokens)
unfolding front mark_at word_token keyword_of
set_word s = token {n = 3} refl (blank refl s)

pub add_word : {rest : List ℕ} {tokens : List Token} → Cuts rest tokens → Cuts (codes "add " ++ rest) (Keyword keyword.Add ∷ tokens)
unfolding front mark_at word_token keyword_of
add_word s = token {n = 3} refl (blank refl s)

pub drop_word : {rest : List ℕ} {tokens : List Token} → Cuts rest tokens → Cuts (codes "drop " ++ rest) (Keyword keyword.Drop ∷ tokens)
unfolding front mark_at word_token keyword_of
drop_word s = token {n = 4} refl (blank refl s)

pub define_word : {rest : List ℕ} {tokens : List Token} → Cuts rest tokens → Cuts (codes "define " ++ rest) (Keyword keyword.Define ∷ tokens)
unfolding front mark_at word_token keyword_of
define_word s = token {n = 6} refl (blank refl s)

pub do_word : {rest : List ℕ} {tokens : List Token} → Cuts rest tokens → Cuts (codes "do " ++ rest) (Keyword keyword.Do ∷ tokens)
unfolding front mark_at word_token keyword_of
do_word s = token {n = 2} refl (blank refl s)

pub take_word : {rest : List ℕ} {tokens : List Token} → Cuts rest tokens → Cuts (codes "take " ++ rest) (Keyword keyword.Take ∷ tokens)
unfolding front mark_at word_token keyword_of
take_word s = token {n = 4} refl (blank refl s)

pub turn_word : {rest : List ℕ} {tokens : List Token} → Cuts rest tokens → Cuts (codes "turn " ++ rest) (Keyword keyword.Turn ∷ tokens)
unfolding front mark_at word_token keyword_of
turn_word s = token {n = 4} refl (blank refl s)

pub settle_word : Cuts (codes "settle") (Keyword keyword.Settle ∷ [])
unfolding front mark_at word_token keyword_of
settle_word = token {n = 6} refl ends

-- ---- words and marks inside lines

pub from_word : {rest : List ℕ} {tokens : List Token} → Cuts rest tokens → Cuts (codes " from " ++ rest) (Keyword keyword.From ∷ tokens)
unfolding front mark_at word_token keyword_of
from_word s = blank refl (token {n = 4} refl (blank refl s))

pub over_word : {rest : List ℕ} {tokens : List Token} → Cuts rest tokens → Cuts (codes " over " ++ rest) (Keyword keyword.Over ∷ tokens)
unfolding front mark_at word_token keyword_of
over_word s = blank refl (token {n = 4} refl (blank refl s))

pub rank_word : {rest : List ℕ} {tokens : List Token} → Cuts rest tokens → Cuts (codes " rank " ++ rest) (Keyword keyword.Rank ∷ tokens)
unfolding front mark_at word_token keyword_of
rank_word s = blank refl (token {n = 4} refl (blank refl s))

pub equals_mark : {rest : List ℕ} {tokens : List Token} → Cuts rest tokens → Cuts (codes " = " ++ rest) (Equals ∷ tokens)
unfolding front mark_at
equals_mark s = blank refl (token {n = 1} refl (blank refl s))

pub colon_mark : {rest : List ℕ} {tokens : List Token} → Cuts rest tokens → Cuts (codes " : " ++ rest) (Colon ∷ tokens)
unfolding front mark_at
colon_mark s = blank refl (token {n = 1} refl (blank refl s))

pub comma_mark : {rest : List ℕ} {tokens : List Token} → Cuts rest tokens → Cuts (codes ", " ++ rest) (Comma ∷ tokens)
unfolding front mark_at
comma_mark s = token {n = 1} refl (blank refl s)

-- ---- types

-- the keyword of a type
abbrev pub type_word : ValueType → AnyKeyword
type_word type.Int = keyword.Int
type_word type.Text = keyword.Text

pub type_is : (ty : ValueType) → IsType (type_word ty) ty
type_is type.Int = is_int
type_is type.Text = is_text

pub type_cut : (ty : ValueType) {rest : List ℕ} {tokens : List Token} → Cuts (32 ∷ rest) tokens → Cuts (type_text ty ++ 32 ∷ rest) (Keyword (type_word ty) ∷ tokens)
unfolding front mark_at word_token keyword_of
type_cut type.Int s = token {n = 3} refl s
type_cut type.Text s = token {n = 4} refl s

-- ---- names and numbers

one_name : (name : List ℕ) → IsName name → All IsName (name ∷ [])
one_name name is zero d less = is
one_name name is (suc k) d less = absurd (omega arith)

pub name_cut : {name : List ℕ} → IsName name → (rest : List ℕ) {tokens : List Token} → begins is_word_byte rest ≡ false → Cuts rest tokens → Cuts (name ++ rest) (Name name ∷ tokens)
unfolding onto canon
name_cut {name = name} is rest {tokens = tokens} apart s = cuts (name ∷ []) (λ k l. one_name name is k [] l) (given 0) (omega arith) rest tokens apart s

pub name_at_end : {name : List ℕ} → IsName name → Cuts name (Name name ∷ [])
name_at_end {name = name} is = subst (λ text. Cuts text (Name name ∷ [])) (append-nil name) (name_cut is [] refl ends)

-- a text that is cut as it stands inside a line is cut at its end
pub tree_cut : (names : List (List ℕ)) → ((k : ℕ) → k < length names → IsName (name_at names k)) → (e : Tree) → IsWritable names e → (rest : List ℕ) (tokens : List Token)
    → begins is_word_byte rest ≡ false → Cuts rest tokens → Cuts (canonical_text names e ++ rest) (canon names e tokens)
tree_cut names are e w rest tokens apart s = subst (λ text. Cuts text (canon names e tokens)) (onto_is names e rest) (cuts names are e w rest tokens apart s)

pub members_cut : (first : List ℕ) (others : List (List ℕ)) → All IsName (first ∷ others)
    → (tokens : List Token) × Cuts (first ++ flat_map (λ other. codes ", " ++ other) others) tokens × AreMembers tokens (first ∷ others)
members_cut first [] are = (Name first ∷ [], name_cut (are 0 [] (omega arith)) [] refl ends, last)
members_cut first (other ∷ others) are =
    let rest = members_cut other others (λ k d less. are (suc k) d (omega (arith, less))) in
    (Name first ∷ Comma ∷ rest.0, name_cut (are 0 [] (omega arith)) _ refl (comma_mark rest.1), more rest.2)
