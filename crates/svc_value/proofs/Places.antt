-- How far bytes agree with a set, a byte at a time.
use Rattle.std.proofs.Common.{◌≡◌, sym, ap, subst, ◌∙◌, ℕ, zero, suc, ◌+◌, ◌-◌, ◌<◌, ◌≤◌, ◌⊎◌, inl, inr, List, [], ◌∷◌, ◌++◌, length, take, drop, arith, append_assoc, length-append, length-take, take-append-drop}
use Rattle.std.proofs.lemmas.Bool.{cases_lt}
use Rattle.std.proofs.Math.Seq.{take_all, take-take, take-append_seam, take-append-add}
use Rattle.std.proofs.lemmas.List.{take-append-le}
use Rattle.svc_value.specs.Prefix.{Begins, IsPlace, IsRefusedAt}

-- nothing is left, and there is a member
pub place_end : (M : List ℕ → Type 0) (w : List ℕ) → M w → IsPlace M [] 0
place_end M w member = record {
  within = omega arith;
  begins = record { rest = w; member = member };
  longest = λ n lt le _. absurd (omega arith);
}

-- no member begins with the next byte
pub place_here : (M : List ℕ → Type 0) (b : ℕ) (bs w : List ℕ) → M w → ((xs : List ℕ) → M (b ∷ xs) → ⊥) → IsPlace M (b ∷ bs) 0
place_here M b bs w member none = record {
  within = omega arith;
  begins = record { rest = w; member = member };
  longest = further;
}
  where
    further : (n : ℕ) → 0 < n → n ≤ length (b ∷ bs) → ¬ (Begins M (take n (b ∷ bs)))
    further zero lt le h = absurd (omega arith)
    further (suc n) lt le h = none (take n bs ++ h.rest) h.member

-- past a byte, the members are what may follow it
pub place_next : (M : List ℕ → Type 0) (b : ℕ) (bs : List ℕ) (p : ℕ) → IsPlace (λ xs. M (b ∷ xs)) bs p → IsPlace M (b ∷ bs) (suc p)
place_next M b bs p h = record {
  within = omega (arith, h.within);
  begins = record { rest = h.begins.rest; member = h.begins.member };
  longest = further;
}
  where
    further : (n : ℕ) → suc p < n → n ≤ length (b ∷ bs) → ¬ (Begins M (take n (b ∷ bs)))
    further zero lt le k = absurd (omega arith)
    further (suc n) lt le k = h.longest n (omega arith) (omega arith) (record { rest = k.rest; member = k.member })

-- and past several
pub place_after : (M : List ℕ → Type 0) (front bs : List ℕ) (p : ℕ) → IsPlace (λ xs. M (front ++ xs)) bs p → IsPlace M (front ++ bs) (length front + p)
place_after M [] bs p h = let e : p ≡ 0 + p = omega arith in subst (IsPlace M bs) e h
place_after M (b ∷ front) bs p h =
    let e : suc (length front + p) ≡ length (b ∷ front) + p = omega arith in
    subst (IsPlace M (b ∷ front ++ bs)) e (place_next M b (front ++ bs) (length front + p) (place_after (λ xs. M (b ∷ xs)) front bs p h))

-- two sets of the same members
pub place_same : (M N : List ℕ → Type 0) (bs : List ℕ) (p : ℕ) → ((xs : List ℕ) → M xs → N xs) → ((xs : List ℕ) → N xs → M xs) → IsPlace M bs p → IsPlace N bs p
place_same M N bs p to from h = record {
  within = h.within;
  begins = record { rest = h.begins.rest; member = to _ h.begins.member };
  longest = λ n lt le k. h.longest n lt le (record { rest = k.rest; member = from _ k.member });
}

-- all the bytes begin a member
pub place_whole : (M : List ℕ → Type 0) (bs rest : List ℕ) → M (bs ++ rest) → IsPlace M bs (length bs)
place_whole M bs rest member = record {
  within = omega arith;
  begins = record { rest = rest; member = subst (λ xs. M (xs ++ rest)) (sym (take_all (length bs) bs (omega arith))) member };
  longest = λ n lt le _. absurd (omega arith);
}

-- bytes past the length of the longest member don't matter
pub place_cut : (M : List ℕ → Type 0) (k : ℕ) (bs : List ℕ) (p : ℕ) → ((xs : List ℕ) → M xs → length xs ≤ k) → IsPlace M (take k bs) p → IsPlace M bs p
place_cut M k bs p short h =
    let cut : length (take k bs) ≤ length bs = omega (arith, length-take k bs) in
    let least : p ≤ k = omega (arith, length-take k bs, h.within) in
    record {
      within = omega (arith, h.within);
      begins = record { rest = h.begins.rest; member = subst (λ xs. M (xs ++ h.begins.rest)) (take-take p k bs least) h.begins.member };
      longest = λ n lt le b. further n lt le b (cases_lt k n);
    }
  where
    further : (n : ℕ) → p < n → n ≤ length bs → Begins M (take n bs) → (k < n) ⊎ (n ≤ k) → ⊥
    further n lt le b (inl past) = absurd (omega (arith, short _ b.member, length-append (take n bs) b.rest, length-take n bs))
    further n lt le b (inr inside) = h.longest n lt (omega (arith, length-take k bs)) (record { rest = b.rest; member = subst (λ xs. M (xs ++ b.rest)) (sym (take-take n k bs inside)) b.member })

-- there is one place
pub place_one : (M : List ℕ → Type 0) (bs : List ℕ) (p q : ℕ) → IsPlace M bs p → IsPlace M bs q → p ≡ q
place_one M bs p q h k = by (cases_lt p q) (cases_lt q p)
  where
    by : (p < q) ⊎ (q ≤ p) → (q < p) ⊎ (p ≤ q) → p ≡ q
    by (inl less) _ = absurd (h.longest q less k.within k.begins)
    by (inr _) (inl less) = absurd (k.longest p less h.within h.begins)
    by (inr more) (inr less) = omega arith

-- a value, and then what may follow it: where no front of the bytes is a value, the place is that of the value
pub place_part : (M N : List ℕ → Type 0) (bs : List ℕ) (p : ℕ) → ((n : ℕ) → ¬ (M (take n bs))) → IsPlace M bs p
    → ((front : List ℕ) → M front → (rest : List ℕ) × N (front ++ rest))
    → ((xs : List ℕ) → N xs → (front : List ℕ) × (rest : List ℕ) × M front × (xs ≡ front ++ rest))
    → IsPlace N bs p
place_part M N bs p none h more less = record {
  within = h.within;
  begins =
      let on = more (take p bs ++ h.begins.rest) h.begins.member in
      record { rest = h.begins.rest ++ on.0; member = subst N (append_assoc (take p bs) h.begins.rest on.0) on.1 };
  longest = λ n lt le b. let parts = less (take n bs ++ b.rest) b.member in further n lt le b.rest parts.0 parts.1 parts.2 parts.3 (cases_lt (length parts.0) n);
}
  where
    further : (n : ℕ) → p < n → n ≤ length bs → (r front rest : List ℕ) → M front → take n bs ++ r ≡ front ++ rest → (length front < n) ⊎ (n ≤ length front) → ⊥
    further n lt le r front rest m e (inl short) =
        let long : length (take n bs) ≡ n = omega (arith, length-take n bs) in
        let same : front ≡ take (length front) bs =
        sym (take-append_seam front rest) ∙ ap (take (length front)) (sym e) ∙ take-append-le (length front) (take n bs) r (omega arith) ∙ take-take (length front) n bs (omega arith) in
        none (length front) (subst M same m)
    further n lt le r front rest m e (inr long) =
        let cut : length (take n bs) ≡ n = omega (arith, length-take n bs) in
        let here : take n bs ≡ take n front =
        sym (take-append_seam (take n bs) r) ∙ ap (λ k. take k (take n bs ++ r)) cut ∙ ap (take n) e ∙ take-append-le n front rest long in
        h.longest n lt le (record { rest = drop n front; member = subst M (sym (ap (λ xs. xs ++ drop n front) here ∙ take-append-drop n front)) m })

-- ---- bytes that are no member

pub refused_end : (M : List ℕ → Type 0) (w : List ℕ) → M w → ¬ (M []) → IsRefusedAt M [] 0
refused_end M w member empty = record { none = empty; at = place_end M w member }

pub refused_here : (M : List ℕ → Type 0) (b : ℕ) (bs w : List ℕ) → M w → ((xs : List ℕ) → M (b ∷ xs) → ⊥) → IsRefusedAt M (b ∷ bs) 0
refused_here M b bs w member none = record { none = none bs; at = place_here M b bs w member none }

pub refused_next : (M : List ℕ → Type 0) (b : ℕ) (bs : List ℕ) (p : ℕ) → IsRefusedAt (λ xs. M (b ∷ xs)) bs p → IsRefusedAt M (b ∷ bs) (suc p)
refused_next M b bs p h = record { none = h.none; at = place_next M b bs p h.at }

pub refused_after : (M : List ℕ → Type 0) (front bs : List ℕ) (p : ℕ) → IsRefusedAt (λ xs. M (front ++ xs)) bs p → IsRefusedAt M (front ++ bs) (length front + p)
refused_after M front bs p h = record { none = h.none; at = place_after M front bs p h.at }

pub refused_same : (M N : List ℕ → Type 0) (bs : List ℕ) (p : ℕ) → ((xs : List ℕ) → M xs → N xs) → ((xs : List ℕ) → N xs → M xs) → IsRefusedAt M bs p → IsRefusedAt N bs p
refused_same M N bs p to from h = record { none = λ n. h.none (from bs n); at = place_same M N bs p to from h.at }

-- two sets that agree behind a front, which begins a member
pub refused_agree : (M N : List ℕ → Type 0) (f bs w : List ℕ) (k : ℕ) → M (f ++ w) → ((xs : List ℕ) → M (f ++ xs) → N (f ++ xs)) → ((xs : List ℕ) → N (f ++ xs) → M (f ++ xs)) → IsRefusedAt M (f ++ bs) k → IsRefusedAt N (f ++ bs) k
refused_agree M N f bs w k member to from h = by (cases_lt k (length f))
  where
    whole : take (length f) (f ++ bs) ≡ f
    whole = take-append_seam f bs

    cut : (n : ℕ) → length f ≤ n → (r : List ℕ) → take n (f ++ bs) ++ r ≡ f ++ (take (n - length f) bs ++ r)
    cut n le r =
        let sum : length f + (n - length f) ≡ n = omega arith in
        ap (λ m. take m (f ++ bs) ++ r) (sym sum) ∙ ap (λ z. z ++ r) (take-append-add f bs (n - length f)) ∙ append_assoc f _ r

    by : (k < length f) ⊎ (length f ≤ k) → IsRefusedAt N (f ++ bs) k
    by (inl less) = absurd (h.at.longest (length f) less (omega (arith, length-append f bs)) (record { rest = w; member = subst (λ z. M (z ++ w)) (sym whole) member }))
    by (inr more) = record {
      none = λ n. h.none (from bs n);
      at = record {
        within = h.at.within;
        begins = record { rest = h.at.begins.rest; member = subst N (sym (cut k more h.at.begins.rest)) (to _ (subst M (cut k more h.at.begins.rest) h.at.begins.member)) };
        longest = λ n lt le b. h.at.longest n lt le (record { rest = b.rest; member = subst M (sym (cut n (omega arith) b.rest)) (from _ (subst N (cut n (omega arith) b.rest) b.member)) });
      };
    }

-- two sets that agree behind a byte, which may begin no member
pub refused_behind : (M N : List ℕ → Type 0) (b : ℕ) (bs w : List ℕ) (k : ℕ) → N w → ((xs : List ℕ) → M (b ∷ xs) → N (b ∷ xs)) → ((xs : List ℕ) → N (b ∷ xs) → M (b ∷ xs)) → IsRefusedAt M (b ∷ bs) k → IsRefusedAt N (b ∷ bs) k
refused_behind M N b bs w k member to from h = record {
  none = λ n. h.none (from bs n);
  at = record { within = h.at.within; begins = begun k h.at.begins; longest = further };
}
  where
    begun : (n : ℕ) → Begins M (take n (b ∷ bs)) → Begins N (take n (b ∷ bs))
    begun zero g = record { rest = w; member = member }
    begun (suc n) g = record { rest = g.rest; member = to (take n bs ++ g.rest) g.member }

    further : (n : ℕ) → k < n → n ≤ length (b ∷ bs) → ¬ (Begins N (take n (b ∷ bs)))
    further zero lt le g = absurd (omega arith)
    further (suc n) lt le g = h.at.longest (suc n) lt le (record { rest = g.rest; member = from (take n bs ++ g.rest) g.member })
