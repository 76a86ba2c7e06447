-- A line means what its head says with the tokens that follow it.
use Rattle.std.proofs.Common.{◌≡◌, List, [], ◌∷◌, Some, refl, sym, subst}
use Rattle.svc_token.specs.declared.keyword.Keyword.{Keyword as AnyKeyword}
use Rattle.svc_token.specs.declared.keyword.Keyword.TheVariants as keyword
use Rattle.svc_token.specs.declared.token.Token.{Token}
use Rattle.svc_token.specs.declared.token.Token.TheVariants.{Keyword, Name, Number, Colon, Equals}
use Rattle.document_reading.specs.declared.head.Head.{Head}
use Rattle.document_reading.specs.declared.head.Head.TheVariants as head
use Rattle.document_reading.specs.declared.statement.Statement.{Statement}
use Rattle.document_reading.specs.declared.statement.Statement.TheVariants.{Add, Drop, Settle, Do, Take, Turn}
use Rattle.document_reading.specs.Grammar.{int, text, Means, input, derived, set, add, drop, define, settle, do_next, take, turn}
use Rattle.document_reading.specs.Reading as r

abbrev pub Front : Type 0
Front = Head × List Token

pub front_is : (a b : Front) → Some a ≡ Some b → a ≡ b
front_is a b h = cc

-- what a front says
abbrev pub Says : List Token → Front → Type 0
Says tokens x = (s : Statement) → r.Fills x.0 x.1 s → Means tokens s

said : (tokens : List Token) (a b : Front) → Some a ≡ Some b → Says tokens a → Says tokens b
said tokens a b h f = subst (Says tokens) (front_is a b h) f

input_sound : (tokens : List Token) (x : Front) → r.input_at tokens ≡ Some x → Says (Keyword keyword.Input ∷ tokens) x
unfolding r.input_at
input_sound (Name name ∷ Colon ∷ Keyword keyword.Int ∷ Equals ∷ rest) x h =
    said _ _ x h (λ s f. subst (Means (Keyword keyword.Input ∷ Name name ∷ Colon ∷ Keyword keyword.Int ∷ Equals ∷ rest)) (sym f.2) (input int f.1))
input_sound (Name name ∷ Colon ∷ Keyword keyword.Text ∷ Equals ∷ rest) x h =
    said _ _ x h (λ s f. subst (Means (Keyword keyword.Input ∷ Name name ∷ Colon ∷ Keyword keyword.Text ∷ Equals ∷ rest)) (sym f.2) (input text f.1))
input_sound tokens x h = absurd (cc)

derived_sound : (tokens : List Token) (x : Front) → r.derived_at tokens ≡ Some x → Says (Keyword keyword.Derived ∷ tokens) x
unfolding r.derived_at
derived_sound (Name name ∷ Colon ∷ Keyword keyword.Int ∷ Keyword keyword.Rank ∷ Number rank ∷ Equals ∷ rest) x h =
    said _ _ x h (λ s f. subst (Means (Keyword keyword.Derived ∷ Name name ∷ Colon ∷ Keyword keyword.Int ∷ Keyword keyword.Rank ∷ Number rank ∷ Equals ∷ rest)) (sym f.2) (derived int f.1))
derived_sound (Name name ∷ Colon ∷ Keyword keyword.Text ∷ Keyword keyword.Rank ∷ Number rank ∷ Equals ∷ rest) x h =
    said _ _ x h (λ s f. subst (Means (Keyword keyword.Derived ∷ Name name ∷ Colon ∷ Keyword keyword.Text ∷ Keyword keyword.Rank ∷ Number rank ∷ Equals ∷ rest)) (sym f.2) (derived text f.1))
derived_sound tokens x h = absurd (cc)

set_sound : (tokens : List Token) (x : Front) → r.set_at tokens ≡ Some x → Says (Keyword keyword.Set ∷ tokens) x
unfolding r.set_at
set_sound (Name name ∷ Equals ∷ rest) x h =
    said _ _ x h (λ s f. subst (Means (Keyword keyword.Set ∷ Name name ∷ Equals ∷ rest)) (sym f.2) (set f.1))
set_sound tokens x h = absurd (cc)

define_sound : (tokens : List Token) (x : Front) → r.define_at tokens ≡ Some x → Says (Keyword keyword.Define ∷ tokens) x
unfolding r.define_at
define_sound (Name name ∷ Equals ∷ rest) x h =
    said _ _ x h (λ s f. subst (Means (Keyword keyword.Define ∷ Name name ∷ Equals ∷ rest)) (sym f.2) (define f.1))
define_sound tokens x h = absurd (cc)

-- ---- lines without literals and expressions

whole_said : (rest : List Token) (said s : Statement) (on : List Token → List Token) → Means (on []) said → r.Fills (head.Whole said) rest s → Means (on rest) s
whole_said rest said s on m f = subst (λ (tokens : List Token). Means (on tokens) s) (sym f.0) (subst (Means (on [])) (sym f.1) m)

add_sound : (tokens : List Token) (x : Front) → r.add_at tokens ≡ Some x → Says (Keyword keyword.Add ∷ tokens) x
unfolding r.add_at
add_sound (Name a ∷ Name b ∷ rest) x h =
    said _ _ x h (λ s f. whole_said rest (Add a b) s (λ rest. Keyword keyword.Add ∷ Name a ∷ Name b ∷ rest) add f)
add_sound tokens x h = absurd (cc)

drop_sound : (tokens : List Token) (x : Front) → r.drop_at tokens ≡ Some x → Says (Keyword keyword.Drop ∷ tokens) x
unfolding r.drop_at
drop_sound (Name a ∷ Name b ∷ rest) x h =
    said _ _ x h (λ s f. whole_said rest (Drop a b) s (λ rest. Keyword keyword.Drop ∷ Name a ∷ Name b ∷ rest) drop f)
drop_sound tokens x h = absurd (cc)

take_sound : (tokens : List Token) (x : Front) → r.take_at tokens ≡ Some x → Says (Keyword keyword.Take ∷ tokens) x
unfolding r.take_at
take_sound (Name a ∷ Keyword keyword.From ∷ Name b ∷ rest) x h =
    said _ _ x h (λ s f. whole_said rest (Take a b) s (λ rest. Keyword keyword.Take ∷ Name a ∷ Keyword keyword.From ∷ Name b ∷ rest) take f)
take_sound tokens x h = absurd (cc)

do_sound : (tokens : List Token) (x : Front) → r.do_at tokens ≡ Some x → Says (Keyword keyword.Do ∷ tokens) x
unfolding r.do_at
do_sound (Name a ∷ rest) x h =
    said _ _ x h (λ s f. whole_said rest (Do a) s (λ rest. Keyword keyword.Do ∷ Name a ∷ rest) do_next f)
do_sound tokens x h = absurd (cc)

turn_sound : (tokens : List Token) (x : Front) → r.turn_at tokens ≡ Some x → Says (Keyword keyword.Turn ∷ tokens) x
unfolding r.turn_at
turn_sound (Name a ∷ rest) x h =
    said _ _ x h (λ s f. whole_said rest (Turn a) s (λ rest. Keyword keyword.Turn ∷ Name a ∷ rest) turn f)
turn_sound tokens x h = absurd (cc)

settle_sound : (rest : List Token) (x : Front) → Some (head.Whole Settle, rest) ≡ Some x → Says (Keyword keyword.Settle ∷ rest) x
settle_sound rest x h = said _ _ x h (λ s f. whole_said rest Settle s (λ rest. Keyword keyword.Settle ∷ rest) settle f)

by_sound : (word : AnyKeyword) (rest : List Token) (x : Front) → r.head_by word rest ≡ Some x → Says (Keyword word ∷ rest) x
by_sound keyword.Input rest x h = input_sound rest x h
by_sound keyword.Derived rest x h = derived_sound rest x h
by_sound keyword.Set rest x h = set_sound rest x h
by_sound keyword.Add rest x h = add_sound rest x h
by_sound keyword.Drop rest x h = drop_sound rest x h
by_sound keyword.Define rest x h = define_sound rest x h
by_sound keyword.Settle rest x h = settle_sound rest x h
by_sound keyword.Do rest x h = do_sound rest x h
by_sound keyword.Take rest x h = take_sound rest x h
by_sound keyword.Turn rest x h = turn_sound rest x h
by_sound word rest x h = absurd (cc)

-- ---- all lines

-- what the head says with the tokens behind it is what the line means
pub head_sound : (tokens : List Token) (x : Front) → r.head_at tokens ≡ Some x → Says tokens x
head_sound (Keyword word ∷ rest) x h = by_sound word rest x h
head_sound tokens x h = absurd (cc)

-- what a line means is what its head says with the tokens behind it
pub record Headed (tokens : List Token) (s : Statement) : Type 0 where
  pub front : Front
  pub stands : r.head_at tokens ≡ Some front
  pub fills : r.Fills front.0 front.1 s

pub head_complete : {tokens : List Token} {s : Statement} → Means tokens s → Headed tokens s
unfolding r.input_at r.derived_at r.set_at r.define_at r.add_at r.drop_at r.take_at r.do_at r.turn_at
head_complete (input {name = name} {ty = ty} {tokens = rest} {value = v} int l) = record { front = (head.Input name ty, rest); stands = refl; fills = (v, l, refl) }
head_complete (input {name = name} {ty = ty} {tokens = rest} {value = v} text l) = record { front = (head.Input name ty, rest); stands = refl; fills = (v, l, refl) }
head_complete (derived {name = name} {ty = ty} {rank = rank} {tokens = rest} {body = b} int l) = record { front = (head.Derived name ty rank, rest); stands = refl; fills = (b, l, refl) }
head_complete (derived {name = name} {ty = ty} {rank = rank} {tokens = rest} {body = b} text l) = record { front = (head.Derived name ty rank, rest); stands = refl; fills = (b, l, refl) }
head_complete (set {name = name} {tokens = rest} {value = v} l) = record { front = (head.Set name, rest); stands = refl; fills = (v, l, refl) }
head_complete (add {reader = a} {member = b}) = record { front = (head.Whole (Add a b), []); stands = refl; fills = (refl, refl) }
head_complete (drop {reader = a} {member = b}) = record { front = (head.Whole (Drop a b), []); stands = refl; fills = (refl, refl) }
head_complete (define {name = name} {tokens = rest} {body = b} l) = record { front = (head.Define name, rest); stands = refl; fills = (b, l, refl) }
head_complete settle = record { front = (head.Whole Settle, []); stands = refl; fills = (refl, refl) }
head_complete (do_next {name = a}) = record { front = (head.Whole (Do a), []); stands = refl; fills = (refl, refl) }
head_complete (take {reader = a} {sender = b}) = record { front = (head.Whole (Take a b), []); stands = refl; fills = (refl, refl) }
head_complete (turn {name = a}) = record { front = (head.Whole (Turn a), []); stands = refl; fills = (refl, refl) }
