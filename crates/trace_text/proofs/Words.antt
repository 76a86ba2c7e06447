-- Bytes that are cut at a byte that stands nowhere else in a part, and lists with commas between.
use Rattle.std.proofs.Common.{◌≡◌, ◌≢◌, ◌∙◌, sym, ap, ap₂, refl, subst, ℕ, suc, ◌<◌, arith, Bool, true, false, ◌&&◌, List, [], ◌∷◌, ◌++◌, append_assoc, length, get_or, drop}
use Rattle.std.proofs.lemmas.List.{length-append}
use Rattle.std.specs.List.{list_all}
use Rattle.std.specs.Prelude.{All, ◌==◌, if◌then◌else◌}
use Rattle.std.proofs.lemmas.Bool.{eqb-false}
use Rattle.trace_text.specs.Inside.Cutting.{Lacks}
use Rattle.trace_text.specs.Lines.{after_commas, comma_list}

pub Lacks-append : (stop : ℕ) (xs ys : List ℕ) → Lacks stop xs → Lacks stop ys → Lacks stop (xs ++ ys)
Lacks-append stop [] ys p q = q
Lacks-append stop (x ∷ xs) ys p q = (p.0, Lacks-append stop xs ys p.1 q)

pub and_left : (a b : Bool) → (a && b) ≡ true → a ≡ true
and_left true b h = refl
and_left false b h = h

pub and_right : (a b : Bool) → (a && b) ≡ true → b ≡ true
and_right true b h = h
and_right false b h = absurd (cc h)

-- where all bytes pass a test that the byte does not
pub Lacks-all : (test : ℕ → Bool) (stop : ℕ) (bytes : List ℕ) → list_all test bytes ≡ true → test stop ≡ false → Lacks stop bytes
Lacks-all test stop [] h other = tt
Lacks-all test stop (b ∷ bytes) h other = (
  (λ e. absurd (let never : true ≡ false = sym (and_left (test b) (list_all test bytes) h) ∙ ap test e ∙ other in cc never)),
  Lacks-all test stop bytes (and_right (test b) (list_all test bytes) h) other,
)

-- whether it is
abbrev pub lacks_byte : ℕ → List ℕ → Bool
lacks_byte stop [] = true
lacks_byte stop (b ∷ bytes) = if b == stop then false else lacks_byte stop bytes

pub lacks_by : (stop : ℕ) (bytes : List ℕ) → lacks_byte stop bytes ≡ true → Lacks stop bytes
lacks_by stop [] test = tt
lacks_by stop (b ∷ bytes) test = go (b == stop) refl test (λ h. lacks_by stop bytes h)
  where
    go : (found : Bool) → (b == stop) ≡ found → (if found then false else lacks_byte stop bytes) ≡ true → (lacks_byte stop bytes ≡ true → Lacks stop bytes) → Lacks stop (b ∷ bytes)
    go true same h rest = absurd (cc h)
    go false other h rest = (eqb-false b stop other, rest h)

-- the byte itself is not free
pub has_stop : (stop : ℕ) (xs ys : List ℕ) → Lacks stop (xs ++ stop ∷ ys) → ⊥
has_stop stop [] ys p = p.0 refl
has_stop stop (x ∷ xs) ys p = has_stop stop xs ys p.1

head : (x y : ℕ) (xs ys : List ℕ) → x ∷ xs ≡ y ∷ ys → x ≡ y
head x y xs ys e = ap (λ (l : List ℕ). get_or l 0 0) e

tail : (x y : ℕ) (xs ys : List ℕ) → x ∷ xs ≡ y ∷ ys → xs ≡ ys
tail x y xs ys e = ap (λ (l : List ℕ). drop 1 l) e

-- what stands before the first such byte, and what behind it
pub one_split : (stop : ℕ) (xs ys r s : List ℕ) → Lacks stop xs → Lacks stop ys → xs ++ stop ∷ r ≡ ys ++ stop ∷ s → (xs ≡ ys) × (r ≡ s)
one_split stop [] [] r s p q e = (refl, tail stop stop r s e)
one_split stop [] (y ∷ ys) r s p q e = absurd (q.0 (sym (head stop y r (ys ++ stop ∷ s) e)))
one_split stop (x ∷ xs) [] r s p q e = absurd (p.0 (head x stop (xs ++ stop ∷ r) s e))
one_split stop (x ∷ xs) (y ∷ ys) r s p q e =
    let rest = one_split stop xs ys r s p.1 q.1 (tail x y (xs ++ stop ∷ r) (ys ++ stop ∷ s) e) in
    (ap₂ (λ (b : ℕ) (bs : List ℕ). b ∷ bs) (head x y (xs ++ stop ∷ r) (ys ++ stop ∷ s) e) rest.0, rest.1)

-- what stands before the last such byte, and what behind it
pub one_back : (stop : ℕ) (xs ys a b : List ℕ) → Lacks stop a → Lacks stop b → xs ++ stop ∷ a ≡ ys ++ stop ∷ b → (xs ≡ ys) × (a ≡ b)
one_back stop [] [] a b p q e = (refl, tail stop stop a b e)
one_back stop [] (y ∷ ys) a b p q e =
    let found : a ≡ ys ++ stop ∷ b = tail stop y a (ys ++ stop ∷ b) e in
    absurd (has_stop stop ys b (subst (Lacks stop) found p))
one_back stop (x ∷ xs) [] a b p q e =
    let found : xs ++ stop ∷ a ≡ b = tail x stop (xs ++ stop ∷ a) b e in
    absurd (has_stop stop xs a (subst (Lacks stop) (sym found) q))
one_back stop (x ∷ xs) (y ∷ ys) a b p q e =
    let rest = one_back stop xs ys a b p q (tail x y (xs ++ stop ∷ a) (ys ++ stop ∷ b) e) in
    (ap₂ (λ (c : ℕ) (cs : List ℕ). c ∷ cs) (head x y (xs ++ stop ∷ a) (ys ++ stop ∷ b) e) rest.0, rest.1)

-- each item is such
abbrev pub Each : {X : Type 0} → (X → Type 0) → List X → Type 0
Each Is [] = Unit {0}
Each Is (x ∷ xs) = Is x × Each Is xs

pub each_of : {X : Type 0} (Is : X → Type 0) (xs : List X) → All Is xs → Each Is xs
each_of Is [] h = tt
each_of Is (x ∷ xs) h = (h 0 x (omega arith), each_of Is xs (λ k d lt. h (suc k) d (omega (arith, lt))))

-- ---- lists with commas

-- Texts of items that are told apart: none has a comma, none is empty, and no two items have the same.
pub record AreTold {X : Type 0} (Is : X → Type 0) (text : X → List ℕ) : Type 0 where
  pub lacks : (x : X) → Is x → Lacks 44 (text x)
  pub some : (x : X) → Is x → 0 < length (text x)
  pub one : (x y : X) → Is x → Is y → text x ≡ text y → x ≡ y

pub after_commas-lacks : {X : Type 0} (stop : ℕ) (Is : X → Type 0) (text : X → List ℕ) → 44 ≢ stop → ((x : X) → Is x → Lacks stop (text x)) →
    (xs : List X) → Each Is xs → Lacks stop (after_commas text xs)
after_commas-lacks stop Is text comma free [] each = tt
after_commas-lacks stop Is text comma free (x ∷ xs) each = (comma, Lacks-append stop (text x) (after_commas text xs) (free x each.0) (after_commas-lacks stop Is text comma free xs each.1))

pub comma_list-lacks : {X : Type 0} (stop : ℕ) (Is : X → Type 0) (text : X → List ℕ) → 44 ≢ stop → ((x : X) → Is x → Lacks stop (text x)) →
    (xs : List X) → Each Is xs → Lacks stop (comma_list text xs)
comma_list-lacks stop Is text comma free [] each = tt
comma_list-lacks stop Is text comma free (x ∷ xs) each = Lacks-append stop (text x) (after_commas text xs) (free x each.0) (after_commas-lacks stop Is text comma free xs each.1)

-- the items with a comma behind each
abbrev after : {X : Type 0} → (X → List ℕ) → List X → List ℕ
after text [] = []
after text (x ∷ xs) = (text x ++ after_commas text xs) ++ 44 ∷ []

after_commas-closed : {X : Type 0} (text : X → List ℕ) (xs : List X) → after_commas text xs ++ 44 ∷ [] ≡ 44 ∷ after text xs
after_commas-closed text [] = refl
after_commas-closed text (x ∷ xs) = refl

after-next : {X : Type 0} (text : X → List ℕ) (x : X) (xs : List X) → after text (x ∷ xs) ≡ text x ++ 44 ∷ after text xs
after-next text x xs = append_assoc (text x) (after_commas text xs) (44 ∷ []) ∙ ap (λ (t : List ℕ). text x ++ t) (after_commas-closed text xs)

not_empty : (xs : List ℕ) → xs ++ 44 ∷ [] ≡ [] → ⊥
not_empty [] e = absurd (omega (arith, ap length e))
not_empty (x ∷ xs) e = absurd (omega (arith, ap length e))

one_after : {X : Type 0} (Is : X → Type 0) (text : X → List ℕ) → AreTold Is text → (xs ys : List X) → Each Is xs → Each Is ys → after text xs ≡ after text ys → xs ≡ ys
one_after Is text told [] [] p q e = refl
one_after Is text told [] (y ∷ ys) p q e = absurd (not_empty (text y ++ after_commas text ys) (sym e))
one_after Is text told (x ∷ xs) [] p q e = absurd (not_empty (text x ++ after_commas text xs) e)
one_after {X} Is text told (x ∷ xs) (y ∷ ys) p q e =
    let parts = one_split 44 (text x) (text y) (after text xs) (after text ys) (told.lacks x p.0) (told.lacks y q.0) (sym (after-next text x xs) ∙ e ∙ after-next text y ys) in
    ap₂ (λ (z : X) (zs : List X). z ∷ zs) (told.one x y p.0 q.0 parts.0) (one_after Is text told xs ys p.1 q.1 parts.1)

-- a list is told by its text
pub one_comma_list : {X : Type 0} (Is : X → Type 0) (text : X → List ℕ) → AreTold Is text → (xs ys : List X) → Each Is xs → Each Is ys → comma_list text xs ≡ comma_list text ys → xs ≡ ys
one_comma_list Is text told [] [] p q e = refl
one_comma_list Is text told [] (y ∷ ys) p q e = absurd (omega (arith, told.some y q.0, length-append (text y) (after_commas text ys), ap length e))
one_comma_list Is text told (x ∷ xs) [] p q e = absurd (omega (arith, told.some x p.0, length-append (text x) (after_commas text xs), ap length e))
one_comma_list Is text told (x ∷ xs) (y ∷ ys) p q e = one_after Is text told (x ∷ xs) (y ∷ ys) p q (ap (λ (t : List ℕ). t ++ 44 ∷ []) e)
