-- Parts at a place of some bytes.
use Rattle.std.proofs.Common.{◌≡◌, ◌∙◌, sym, ap, ℕ, ◌+◌, List, ◌++◌, length, drop, arith, append_assoc}
use Rattle.std.proofs.lemmas.List.{length-append}
use Rattle.wire_frame.specs.declared.errors.FrameError.{FrameError}
use Rattle.wire_frame.specs.declared.errors.FrameError.TheVariants as error
use Rattle.wire_frame.specs.Parts.{Part, Stands, Fails, chain}
use Rattle.wire_frame.proofs.Parts.{OneWay, EachHasField, wrong_first, wrong_second, wrong_as}

pub fails_first : {X Y : Type 0} (A : Part X) (B : X → Part Y) (bytes : List ℕ) (at : ℕ) (e : FrameError) → OneWay A → EachHasField A →
    ((x : X) → A.Good x → (y : Y) × (B x).Good y) → Fails A bytes at e → Fails (chain A B) bytes at e
fails_first A B bytes at (error.Bad place reason) one each more w = (w.0, w.1, wrong_first A B (drop at bytes) w.0 reason one each more w.2)
fails_first A B bytes at error.OutOfMemory one each more w = tt

pub fails_second : {X Y : Type 0} (A : Part X) (B : X → Part Y) (bytes : List ℕ) (at to : ℕ) (x : X) (e : FrameError) → OneWay A → EachHasField A →
    Stands A x bytes at to → Fails (B x) bytes to e → Fails (chain A B) bytes at e
fails_second A B bytes at to x (error.Bad place reason) one each s w =
    (length (A.bytes x) + w.0, omega (arith, w.1, s.end), wrong_second A B (drop at bytes) (drop to bytes) x w.0 reason one each record { good = s.good; is = s.is } w.2)
fails_second A B bytes at to x error.OutOfMemory one each s w = tt

pub stands_both : {X Y : Type 0} (A : Part X) (B : X → Part Y) (bytes : List ℕ) (at middle to : ℕ) (x : X) (y : Y) → Stands A x bytes at middle → Stands (B x) y bytes middle to →
    Stands (chain A B) (x, y) bytes at to
stands_both A B bytes at middle to x y s t = record {
  good = (s.good, t.good);
  end = omega (arith, s.end, t.end, length-append (A.bytes x) ((B x).bytes y));
  within = t.within;
  is = s.is ∙ ap (λ ys. A.bytes x ++ ys) t.is ∙ sym (append_assoc (A.bytes x) ((B x).bytes y) (drop to bytes));
}

-- the same bytes seen as another thing
pub fails_as : {X Z : Type 0} (A : Part X) (C : Part Z) (as_other : X → Z) (bytes : List ℕ) (at : ℕ) (e : FrameError) →
    ((x : X) → A.Good x → C.Good (as_other x)) → ((x : X) → A.Good x → C.bytes (as_other x) ≡ A.bytes x) → ((x : X) → C.fields (as_other x) ≡ A.fields x) →
    ((z : Z) → C.Good z → (x : X) × A.Good x × (A.bytes x ≡ C.bytes z)) → Fails A bytes at e → Fails C bytes at e
fails_as A C as_other bytes at (error.Bad place reason) good same_bytes same_fields back w =
    (w.0, w.1, wrong_as A C as_other (drop at bytes) w.0 reason good same_bytes same_fields (λ z good_z _. back z good_z) w.2)
fails_as A C as_other bytes at error.OutOfMemory good same_bytes same_fields back w = tt

pub stands_as : {X Z : Type 0} (A : Part X) (C : Part Z) (as_other : X → Z) (bytes : List ℕ) (at to : ℕ) (x : X) →
    ((x : X) → A.Good x → C.Good (as_other x)) → ((x : X) → A.Good x → C.bytes (as_other x) ≡ A.bytes x) → Stands A x bytes at to → Stands C (as_other x) bytes at to
stands_as A C as_other bytes at to x good same_bytes s = record {
  good = good x s.good;
  end = s.end ∙ ap (λ xs. at + length xs) (sym (same_bytes x s.good));
  within = s.within;
  is = s.is ∙ ap (λ xs. xs ++ drop to bytes) (sym (same_bytes x s.good));
}
