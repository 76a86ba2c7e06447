-- Parts that stand one behind the other.
use Rattle.std.proofs.Common.{◌≡◌, ◌∙◌, sym, ap, refl, subst, ℕ, suc, ◌+◌, ◌<◌, inl, inr, List, [], ◌∷◌, ◌++◌, length, get_or, take, drop, arith, append_assoc, append-nil}
use Rattle.std.proofs.lemmas.List.{length-append, take-append-drop, take-append-le, take_at, take-take, get_or_append_left, get_or-append-add, append_cancel_left}
use Rattle.std.proofs.lemmas.Bool.{cases_lt}
use Rattle.wire_frame.specs.declared.reason.FrameReason.{FrameReason}
use Rattle.wire_frame.specs.declared.reason.FrameReason.TheVariants.{Short}
use Rattle.wire_frame.specs.Parts.{Part, IsWrong, IsNext, chain}

-- whatever follows, the bytes tell what stands in front
abbrev pub OneWay : {X : Type 0} → Part X → Type 0
OneWay {X} part = (x y : X) (s t : List ℕ) → part.Good x → part.Good y → part.bytes x ++ s ≡ part.bytes y ++ t → x ≡ y

-- each byte has a field
abbrev pub EachHasField : {X : Type 0} → Part X → Type 0
EachHasField {X} part = (x : X) → length (part.fields x) ≡ length (part.bytes x)

-- so many bytes more than the first of two lists
pub taken_past : (xs ys : List ℕ) (k : ℕ) → take (length xs + k) (xs ++ ys) ≡ xs ++ take k ys
taken_past [] ys k = let e : 0 + k ≡ k = omega arith in ap (λ n. take n ys) e
taken_past (x ∷ xs) ys k =
    let e : suc (length xs) + k ≡ suc (length xs + k) = omega arith in
    ap (λ n. take n (x ∷ xs ++ ys)) e ∙ ap (λ zs. x ∷ zs) (taken_past xs ys k)

pub chain-one_way : {X Y : Type 0} (A : Part X) (B : X → Part Y) → OneWay A → ((x : X) → OneWay (B x)) → OneWay (chain A B)
chain-one_way {X} {Y} A B one each p q s t good_p good_q e =
    let regrouped : A.bytes p.0 ++ ((B p.0).bytes p.1 ++ s) ≡ A.bytes q.0 ++ ((B q.0).bytes q.1 ++ t) =
    sym (append_assoc (A.bytes p.0) ((B p.0).bytes p.1) s) ∙ e ∙ append_assoc (A.bytes q.0) ((B q.0).bytes q.1) t in
    let first : p.0 ≡ q.0 = one p.0 q.0 ((B p.0).bytes p.1 ++ s) ((B q.0).bytes q.1 ++ t) good_p.0 good_q.0 regrouped in
    let good : (B p.0).Good q.1 = subst (λ (x : X). (B x).Good q.1) (sym first) good_q.1 in
    let same : A.bytes p.0 ++ ((B p.0).bytes p.1 ++ s) ≡ A.bytes p.0 ++ ((B p.0).bytes q.1 ++ t) =
    subst (λ (x : X). A.bytes p.0 ++ ((B p.0).bytes p.1 ++ s) ≡ A.bytes x ++ ((B x).bytes q.1 ++ t)) (sym first) regrouped in
    let second : p.1 ≡ q.1 = each p.0 p.1 q.1 s t good_p.1 good (append_cancel_left (A.bytes p.0) ((B p.0).bytes p.1 ++ s) ((B p.0).bytes q.1 ++ t) same) in
    λ i. (first i, second i)

pub chain-fields : {X Y : Type 0} (A : Part X) (B : X → Part Y) → EachHasField A → ((x : X) → EachHasField (B x)) → EachHasField (chain A B)
chain-fields A B each others p =
    omega (arith, each p.0, others p.0 p.1, length-append (A.fields p.0) ((B p.0).fields p.1), length-append (A.bytes p.0) ((B p.0).bytes p.1))

-- a start of a list that the list of another shares
shared : (n : ℕ) (xs ys : List ℕ) → take n xs ≡ ys → xs ≡ ys ++ drop n xs
shared n xs ys e = sym (take-append-drop n xs) ∙ ap (λ zs. zs ++ drop n xs) e

-- what is wrong with the first part is wrong with both
pub wrong_first : {X Y : Type 0} (A : Part X) (B : X → Part Y) (bytes : List ℕ) (place : ℕ) (reason : FrameReason) → OneWay A → EachHasField A →
    ((x : X) → A.Good x → (y : Y) × (B x).Good y) → IsWrong A bytes place reason → IsWrong (chain A B) bytes place reason
wrong_first {X} {Y} A B bytes place reason one each more w =
    let other = more w.like w.good in
    let long = length-append (A.bytes w.like) ((B w.like).bytes other.0) in
    record {
      like = (w.like, other.0);
      good = (w.good, other.1);
      within = w.within;
      begun = take-append-le place (A.bytes w.like) ((B w.like).bytes other.0) (omega (arith, w.more)) ∙ w.begun;
      more = omega (arith, w.more, long);
      short = w.short;
      field = λ l. get_or_append_left (A.fields w.like) ((B w.like).fields other.0) Short place (omega (arith, w.more, each w.like)) ∙ w.field l;
      end = λ l p good e. elim (cases_lt place (length (A.bytes p.0))) [
        | inl inside ↦ w.end l p.0 good.0 (sym (take-append-le (suc place) (A.bytes p.0) ((B p.0).bytes p.1) (omega arith)) ∙ e)
        | inr past ↦
            let n = length (A.bytes p.0) in
            let whole : A.bytes p.0 ≡ take n bytes =
            sym (take_at (A.bytes p.0) ((B p.0).bytes p.1) n refl)
            ∙ sym (take-take n (suc place) (A.bytes p.0 ++ (B p.0).bytes p.1) (omega arith))
            ∙ ap (take n) e ∙ take-take n (suc place) bytes (omega arith) in
            let alike : take n (A.bytes w.like) ≡ A.bytes p.0 =
            sym (take-take n place (A.bytes w.like) past) ∙ ap (take n) w.begun ∙ take-take n place bytes past ∙ sym whole in
            let same : w.like ≡ p.0 = one w.like p.0 [] (drop n (A.bytes w.like)) w.good good.0 (append-nil (A.bytes w.like) ∙ shared n (A.bytes w.like) (A.bytes p.0) alike) in
            omega (arith, w.more, past, ap (λ (x : X). length (A.bytes x)) same)
      ];
    }

-- what is wrong with the second part is wrong with both, so much further on
pub wrong_second : {X Y : Type 0} (A : Part X) (B : X → Part Y) (bytes rest : List ℕ) (x : X) (place : ℕ) (reason : FrameReason) → OneWay A → EachHasField A →
    IsNext A x bytes rest → IsWrong (B x) rest place reason → IsWrong (chain A B) bytes (length (A.bytes x) + place) reason
wrong_second {X} {Y} A B bytes rest x place reason one each next w =
    let lead = A.bytes x in
    let n = length lead in
    let long : length bytes ≡ n + length rest = ap length next.is ∙ length-append lead rest in
    let taken : (k : ℕ) (ys : List ℕ) → take (n + k) (lead ++ ys) ≡ lead ++ take k ys = λ k ys. taken_past lead ys k in
    record {
      like = (x, w.like);
      good = (next.good, w.good);
      within = omega (arith, w.within, long);
      begun = taken place ((B x).bytes w.like) ∙ ap (λ ys. lead ++ ys) w.begun ∙ sym (taken place rest) ∙ ap (take (n + place)) (sym next.is);
      more = omega (arith, w.more, length-append lead ((B x).bytes w.like));
      short = λ e. w.short (omega (arith, e, long));
      field = λ l.
          ap (λ k. get_or (A.fields x ++ (B x).fields w.like) (k + place) Short) (sym (each x)) ∙ get_or-append-add (A.fields x) ((B x).fields w.like) place Short
          ∙ w.field (omega (arith, l, long));
      end = λ l p good e.
          let count : n + suc place ≡ suc (n + place) = omega arith in
          let e' : take (n + suc place) (A.bytes p.0 ++ (B p.0).bytes p.1) ≡ lead ++ take (suc place) rest =
          ap (λ k. take k (A.bytes p.0 ++ (B p.0).bytes p.1)) count ∙ e ∙ ap (λ k. take k bytes) (sym count) ∙ ap (take (n + suc place)) next.is ∙ taken (suc place) rest in
          let all : A.bytes p.0 ++ (B p.0).bytes p.1 ≡ lead ++ (take (suc place) rest ++ drop (n + suc place) (A.bytes p.0 ++ (B p.0).bytes p.1)) =
          shared (n + suc place) (A.bytes p.0 ++ (B p.0).bytes p.1) (lead ++ take (suc place) rest) e'
          ∙ append_assoc lead (take (suc place) rest) (drop (n + suc place) (A.bytes p.0 ++ (B p.0).bytes p.1)) in
          let same : p.0 ≡ x = one p.0 x ((B p.0).bytes p.1) (take (suc place) rest ++ drop (n + suc place) (A.bytes p.0 ++ (B p.0).bytes p.1)) good.0 next.good all in
          let good' : (B x).Good p.1 = subst (λ (y : X). (B y).Good p.1) same good.1 in
          let e'' : take (n + suc place) (lead ++ (B x).bytes p.1) ≡ lead ++ take (suc place) rest =
          subst (λ (y : X). take (n + suc place) (A.bytes y ++ (B y).bytes p.1) ≡ lead ++ take (suc place) rest) same e' in
          let cut : take (suc place) ((B x).bytes p.1) ≡ take (suc place) rest =
          append_cancel_left lead (take (suc place) ((B x).bytes p.1)) (take (suc place) rest) (sym (taken (suc place) ((B x).bytes p.1)) ∙ e'') in
          w.end (omega (arith, l, long)) p.1 good' cut;
    }

-- what stands behind both parts
pub next_chain : {X Y : Type 0} (A : Part X) (B : X → Part Y) (x : X) (y : Y) (bytes middle rest : List ℕ) → IsNext A x bytes middle → IsNext (B x) y middle rest →
    IsNext (chain A B) (x, y) bytes rest
next_chain A B x y bytes middle rest one other = record {
  good = (one.good, other.good);
  is = one.is ∙ ap (λ ys. A.bytes x ++ ys) other.is ∙ sym (append_assoc (A.bytes x) ((B x).bytes y) rest);
}

-- The same bytes seen as another thing: what is wrong stays wrong, where each other thing that begins so is one of the first.
pub wrong_as : {X Z : Type 0} (A : Part X) (C : Part Z) (as_other : X → Z) (bytes : List ℕ) (place : ℕ) (reason : FrameReason) →
    ((x : X) → A.Good x → C.Good (as_other x)) → ((x : X) → A.Good x → C.bytes (as_other x) ≡ A.bytes x) → ((x : X) → C.fields (as_other x) ≡ A.fields x) →
    ((z : Z) → C.Good z → take (suc place) (C.bytes z) ≡ take (suc place) bytes → (x : X) × A.Good x × (A.bytes x ≡ C.bytes z)) →
    IsWrong A bytes place reason → IsWrong C bytes place reason
wrong_as {X} {Z} A C as_other bytes place reason good same_bytes same_fields back w = record {
  like = as_other w.like;
  good = good w.like w.good;
  within = w.within;
  begun = ap (take place) (same_bytes w.like w.good) ∙ w.begun;
  more = subst (λ xs. place < length xs) (sym (same_bytes w.like w.good)) w.more;
  short = w.short;
  field = λ l. ap (λ xs. get_or xs place Short) (same_fields w.like) ∙ w.field l;
  end = λ l z good_z e. let b = back z good_z e in w.end l b.0 b.1 (ap (take (suc place)) b.2 ∙ e);
}
