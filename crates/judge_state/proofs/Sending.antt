-- Readers, and the frames that a change and a computation ask for.
use Rattle.std.proofs.Common.{◌≡◌, ℕ, Bool, true, false, not, ◌&&◌, ◌==◌, List, [], ◌∷◌, ◌++◌, map, filter, Option, Some, None, is_some, unwrap_or, reverse, inl, inr, refl, sym, ap, ap₂, ◌∙◌, subst, append_assoc, append-nil, if◌then◌else◌}
use Rattle.std.proofs.lemmas.Bool.{cases_Bool, cond-true, cond-false}
use Rattle.std.proofs.lemmas.Bool.Decides.{Decides-eqb}
use Rattle.std.proofs.lemmas.List.{reverse-append}
use Rattle.propagation.specs.Lists.{Has, is_among, AreDistinct}
use Rattle.propagation.specs.Stamps.{Stamps}
use Rattle.propagation.specs.Logs.{Emission, Frame, rewire, tell}
use Rattle.propagation.specs.Logs.Frame.{Subscribe, Unsubscribe, Sources, Changed}
use Rattle.propagation.proofs.Edges.{Has-is_among}
use Rattle.service_machine.specs.States.{epoch_in, edges_to}
use Rattle.judged_run.specs.LogStates.{epochs_after, news_frames}
use Rattle.judge_state.specs.Lists.{Announced, announced_at, epochs_of, due_to, all_to, readers_after, unsubscribes, subscribes, reports}
use Rattle.judge_state.proofs.Rows.{eq-false, if-none, due-append, due-all}

-- ---- readers

epochs-append : (xs ys : List (ℕ × ℕ)) (q : ℕ) → epochs_of (xs ++ ys) q ≡ epochs_of ys q ++ epochs_of xs q
epochs-append [] ys q = sym (append-nil (epochs_of ys q))
epochs-append (r ∷ xs) ys q =
    ap (λ es. es ++ (if r.0 == q then r.1 ∷ [] else [])) (epochs-append xs ys q) ∙ append_assoc (epochs_of ys q) (epochs_of xs q) (if r.0 == q then r.1 ∷ [] else [])

filter-append : (f : ℕ → Bool) (xs ys : List ℕ) → filter f (xs ++ ys) ≡ filter f xs ++ filter f ys
filter-append f [] ys = refl
filter-append f (x ∷ xs) ys = go (f x) (filter-append f xs ys)
  where
    go : (b : Bool) → filter f (xs ++ ys) ≡ filter f xs ++ filter f ys → (if b then x ∷ filter f (xs ++ ys) else filter f (xs ++ ys)) ≡ (if b then x ∷ filter f xs else filter f xs) ++ filter f ys
    go true e = ap (λ zs. x ∷ zs) e
    go false e = e

-- of the one that ends its reading
ended-same : (s e : ℕ) (readers : List (ℕ × ℕ)) → epochs_of (filter (λ r. not ((r.0 == s) && (r.1 == e))) readers) s ≡ filter (λ i. not (i == e)) (epochs_of readers s)
ended-same s e [] = refl
ended-same s e (r ∷ rest) = go (r.0 == s) refl (r.1 == e) refl (ended-same s e rest)
  where
    go : (b : Bool) → (r.0 == s) ≡ b → (c : Bool) → (r.1 == e) ≡ c → epochs_of (filter (λ x. not ((x.0 == s) && (x.1 == e))) rest) s ≡ filter (λ i. not (i == e)) (epochs_of rest s) →
        epochs_of (if not (b && c) then r ∷ filter (λ x. not ((x.0 == s) && (x.1 == e))) rest else filter (λ x. not ((x.0 == s) && (x.1 == e))) rest) s
        ≡ filter (λ i. not (i == e)) (epochs_of rest s ++ (if b then r.1 ∷ [] else []))
    go true is true at h =
        h ∙ sym (filter-append (λ i. not (i == e)) (epochs_of rest s) (r.1 ∷ []) ∙ ap (λ x. filter (λ i. not (i == e)) (epochs_of rest s) ++ (if not x then r.1 ∷ [] else [])) at ∙ append-nil (filter (λ i. not (i == e)) (epochs_of rest s)))
    go true is false at h =
        ap₂ (λ es b. es ++ (if b then r.1 ∷ [] else [])) h is
        ∙ sym (filter-append (λ i. not (i == e)) (epochs_of rest s) (r.1 ∷ []) ∙ ap (λ x. filter (λ i. not (i == e)) (epochs_of rest s) ++ (if not x then r.1 ∷ [] else [])) at)
    go false is c at h =
        ap₂ (λ es b. es ++ (if b then r.1 ∷ [] else [])) h is ∙ append-nil (filter (λ i. not (i == e)) (epochs_of rest s)) ∙ ap (λ es. filter (λ i. not (i == e)) es) (sym (append-nil (epochs_of rest s)))

-- of another
ended-other : (s e q : ℕ) (readers : List (ℕ × ℕ)) → (s ≡ q → ⊥) → epochs_of (filter (λ r. not ((r.0 == s) && (r.1 == e))) readers) q ≡ epochs_of readers q
ended-other s e q [] apart = refl
ended-other s e q (r ∷ rest) apart = go (r.0 == s) refl (r.1 == e) (r.0 == q) refl (ended-other s e q rest apart)
  where
    go : (b : Bool) → (r.0 == s) ≡ b → (c d : Bool) → (r.0 == q) ≡ d → epochs_of (filter (λ x. not ((x.0 == s) && (x.1 == e))) rest) q ≡ epochs_of rest q →
        epochs_of (if not (b && c) then r ∷ filter (λ x. not ((x.0 == s) && (x.1 == e))) rest else filter (λ x. not ((x.0 == s) && (x.1 == e))) rest) q ≡ epochs_of rest q ++ (if d then r.1 ∷ [] else [])
    go true is true true at h = absurd (apart (sym ((Decides-eqb r.0 s).0 is) ∙ (Decides-eqb r.0 q).0 at))
    go true is true false at h = h ∙ sym (append-nil (epochs_of rest q))
    go true is false d at h = ap₂ (λ es b. es ++ (if b then r.1 ∷ [] else [])) h at
    go false is c d at h = ap₂ (λ es b. es ++ (if b then r.1 ∷ [] else [])) h at

-- ---- edges

pub rewired-edge : (edges : List (ℕ × ℕ)) (c : ℕ) (ps : List ℕ) (p : ℕ) → epoch_in (edges_to edges c ps) p ≡ (if is_among ps p then Some (unwrap_or (epoch_in edges p) c) else None)
rewired-edge edges c [] p = refl
rewired-edge edges c (q ∷ ps) p = go (q == p) refl (rewired-edge edges c ps p)
  where
    go : (b : Bool) → (q == p) ≡ b → epoch_in (edges_to edges c ps) p ≡ (if is_among ps p then Some (unwrap_or (epoch_in edges p) c) else None) →
        (if b then Some (unwrap_or (epoch_in edges q) c) else epoch_in (edges_to edges c ps) p) ≡ (if (if b then true else is_among ps p) then Some (unwrap_or (epoch_in edges p) c) else None)
    go true t e = ap (λ i. Some (unwrap_or (epoch_in edges i) c)) ((Decides-eqb q p).0 t)
    go false t e = e

pub rewired-keys : (edges : List (ℕ × ℕ)) (c : ℕ) (ps : List ℕ) → map (λ x. x.0) (edges_to edges c ps) ≡ ps
rewired-keys edges c [] = refl
rewired-keys edges c (p ∷ ps) = ap (λ qs. p ∷ qs) (rewired-keys edges c ps)

no-edge : (edges : List (ℕ × ℕ)) (q : ℕ) → (Has (map (λ x. x.0) edges) q → ⊥) → epoch_in edges q ≡ None
no-edge [] q none = refl
no-edge (x ∷ rest) q none = cond-false (x.0 == q) (Some x.1) (epoch_in rest q) (eq-false x.0 q (λ e. none (inl e))) ∙ no-edge rest q (λ h. none (inr h))

module _ {V : Type 0} where
  pub enlisted : (s : ℕ) (f : Frame V) (readers : List (ℕ × ℕ)) (q : ℕ) → epochs_of (readers_after s f readers) q ≡ (if s == q then epochs_after f (epochs_of readers q) else epochs_of readers q)
  enlisted s (Subscribe e) readers q =
      elim (cases_Bool (s == q)) [
        | inl t ↦
            (let same : s ≡ q = (Decides-eqb s q).0 t in
            added (is_among (epochs_of readers s) e) (s == q) t
            ∙ ap (λ i. if is_among (epochs_of readers i) e then epochs_of readers q else e ∷ epochs_of readers q) same
            ∙ sym (cond-true (s == q) (if is_among (epochs_of readers q) e then epochs_of readers q else e ∷ epochs_of readers q) (epochs_of readers q) t))
        | inr f ↦ kept (is_among (epochs_of readers s) e) (s == q) f ∙ sym (cond-false (s == q) (if is_among (epochs_of readers q) e then epochs_of readers q else e ∷ epochs_of readers q) (epochs_of readers q) f)
      ]
    where
      added : (b c : Bool) → (s == q) ≡ true → epochs_of (if b then readers else readers ++ (s, e) ∷ []) q ≡ (if b then epochs_of readers q else e ∷ epochs_of readers q)
      added true c t = refl
      added false c t = epochs-append readers ((s, e) ∷ []) q ∙ ap (λ x. (if x then e ∷ [] else []) ++ epochs_of readers q) t

      kept : (b c : Bool) → (s == q) ≡ false → epochs_of (if b then readers else readers ++ (s, e) ∷ []) q ≡ epochs_of readers q
      kept true c t = refl
      kept false c t = epochs-append readers ((s, e) ∷ []) q ∙ ap (λ x. (if x then e ∷ [] else []) ++ epochs_of readers q) t
  enlisted s (Unsubscribe e) readers q =
      elim (cases_Bool (s == q)) [
        | inl t ↦
            subst (λ i. epochs_of (filter (λ r. not ((r.0 == s) && (r.1 == e))) readers) i ≡ filter (λ j. not (j == e)) (epochs_of readers i)) ((Decides-eqb s q).0 t) (ended-same s e readers)
            ∙ sym (cond-true (s == q) (filter (λ j. not (j == e)) (epochs_of readers q)) (epochs_of readers q) t)
        | inr f ↦ ended-other s e q readers (λ same. cc (f, (Decides-eqb s q).1 same)) ∙ sym (cond-false (s == q) (filter (λ j. not (j == e)) (epochs_of readers q)) (epochs_of readers q) f)
      ]
  enlisted s (Sources e ks) readers q = if-none (s == q) _ _ refl
  enlisted s (Changed e v pairs) readers q = if-none (s == q) _ _ refl

  -- ---- an emission for each reader

  news-append : (told : ℕ → Stamps) (es : List ℕ) (e : ℕ) (m : Emission V) → news_frames told (es ++ e ∷ []) m ≡ news_frames told es m ++ tell e (told e) m
  news-append told [] e m = append-nil (tell e (told e) m)
  news-append told (i ∷ es) e m = ap (λ fs. tell i (told i) m ++ fs) (news-append told es e m) ∙ sym (append_assoc (tell i (told i) m) (news_frames told es m) (tell e (told e) m))

  pub reported : (told : List Announced) (m : Emission V) (readers : List (ℕ × ℕ)) (q : ℕ) → due_to (reports told m readers) q ≡ reverse (news_frames (λ e. (announced_at told q e).0) (epochs_of readers q) m)
  reported told m [] q = refl
  reported told m (r ∷ rest) q =
      due-append (all_to r.0 (reverse (tell r.1 (announced_at told r.0 r.1).0 m))) (reports told m rest) q
      ∙ ap₂ (λ xs ys. xs ++ ys) (due-all r.0 (reverse (tell r.1 (announced_at told r.0 r.1).0 m)) q) (reported told m rest q)
      ∙ go (r.0 == q) refl
    where
      go : (b : Bool) → (r.0 == q) ≡ b → (if b then reverse (tell r.1 (announced_at told r.0 r.1).0 m) else []) ++ reverse (news_frames (λ e. (announced_at told q e).0) (epochs_of rest q) m) ≡ reverse (news_frames (λ e. (announced_at told q e).0) (epochs_of rest q ++ (if b then r.1 ∷ [] else [])) m)
      go true t =
          ap (λ i. reverse (tell r.1 (announced_at told i r.1).0 m) ++ reverse (news_frames (λ e. (announced_at told q e).0) (epochs_of rest q) m)) ((Decides-eqb r.0 q).0 t)
          ∙ sym (reverse-append (news_frames (λ e. (announced_at told q e).0) (epochs_of rest q) m) (tell r.1 (announced_at told q r.1).0 m))
          ∙ ap (λ fs. reverse fs) (sym (news-append (λ e. (announced_at told q e).0) (epochs_of rest q) r.1 m))
      go false t = ap (λ es. reverse (news_frames (λ e. (announced_at told q e).0) es m)) (sym (append-nil (epochs_of rest q)))

  -- ---- what a change asks for

  -- the frame that ends an edge
  abbrev ends : Option ℕ → List (Frame V)
  ends None = []
  ends (Some e) = Unsubscribe e ∷ []

  left : (now_deps : List ℕ) (edges : List (ℕ × ℕ)) (q : ℕ) → AreDistinct (map (λ x. x.0) edges) → due_to (unsubscribes {V = V} now_deps edges) q ≡ (if is_among now_deps q then [] else ends (epoch_in edges q))
  left now_deps [] q apart = if-none (is_among now_deps q) [] [] refl
  left now_deps (x ∷ rest) q apart = go (is_among now_deps x.0) refl (x.0 == q) refl (left now_deps rest q apart.1)
    where
      go : (b : Bool) → is_among now_deps x.0 ≡ b → (c : Bool) → (x.0 == q) ≡ c → due_to (unsubscribes {V = V} now_deps rest) q ≡ (if is_among now_deps q then [] else ends (epoch_in rest q)) →
          due_to (if b then unsubscribes now_deps rest else (x.0, Unsubscribe x.1) ∷ unsubscribes now_deps rest) q ≡ (if is_among now_deps q then [] else ends (if c then Some x.1 else epoch_in rest q))
      go true is true at e =
          let here : is_among now_deps q ≡ true = ap (λ i. is_among now_deps i) (sym ((Decides-eqb x.0 q).0 at)) ∙ is in
          e ∙ cond-true (is_among now_deps q) [] (ends (epoch_in rest q)) here ∙ sym (cond-true (is_among now_deps q) [] (ends (Some x.1)) here)
      go true is false at e = e
      go false is true at e =
          let same : x.0 ≡ q = (Decides-eqb x.0 q).0 at in
          let here : is_among now_deps q ≡ false = ap (λ i. is_among now_deps i) (sym same) ∙ is in
          let gone : epoch_in rest q ≡ None = no-edge rest q (λ h. apart.0 (subst (λ i. Has (map (λ x. x.0) rest) i) (sym same) h)) in
          ap (λ b. if b then Unsubscribe x.1 ∷ due_to (unsubscribes now_deps rest) q else due_to (unsubscribes now_deps rest) q) at
          ∙ ap (λ fs. Unsubscribe x.1 ∷ fs) (e ∙ cond-false (is_among now_deps q) [] (ends (epoch_in rest q)) here ∙ ap (λ o. ends o) gone)
          ∙ sym (cond-false (is_among now_deps q) [] (ends (Some x.1)) here)
      go false is false at e = ap (λ b. if b then Unsubscribe x.1 ∷ due_to (unsubscribes now_deps rest) q else due_to (unsubscribes now_deps rest) q) at ∙ e

  option_cons : (c : ℕ) (edges : List (ℕ × ℕ)) (ps : List ℕ) (q : ℕ) → AreDistinct ps → due_to (subscribes {V = V} c edges ps) q ≡ (if is_some (epoch_in edges q) then [] else (if is_among ps q then Subscribe c ∷ [] else []))
  option_cons c edges [] q apart = if-none (is_some (epoch_in edges q)) [] [] refl
  option_cons c edges (p ∷ ps) q apart = go (is_some (epoch_in edges p)) refl (p == q) refl (option_cons c edges ps q apart.1)
    where
      go : (b : Bool) → is_some (epoch_in edges p) ≡ b → (d : Bool) → (p == q) ≡ d → due_to (subscribes {V = V} c edges ps) q ≡ (if is_some (epoch_in edges q) then [] else (if is_among ps q then Subscribe c ∷ [] else [])) →
          due_to {V = V} (if b then subscribes c edges ps else (p, Subscribe c) ∷ subscribes c edges ps) q ≡ (if is_some (epoch_in edges q) then [] else (if (if d then true else is_among ps q) then Subscribe c ∷ [] else []))
      go true is true at e =
          let here : is_some (epoch_in edges q) ≡ true = ap (λ i. is_some (epoch_in edges i)) (sym ((Decides-eqb p q).0 at)) ∙ is in
          e ∙ cond-true (is_some (epoch_in edges q)) [] (if is_among ps q then Subscribe c ∷ [] else []) here ∙ sym (cond-true (is_some (epoch_in edges q)) [] (Subscribe c ∷ []) here)
      go true is false at e = e
      go false is true at e =
          let same : p ≡ q = (Decides-eqb p q).0 at in
          let here : is_some (epoch_in edges q) ≡ false = ap (λ i. is_some (epoch_in edges i)) (sym same) ∙ is in
          let gone : is_among ps q ≡ false = elim (cases_Bool (is_among ps q)) [ inl h ↦ absurd (apart.0 (subst (λ i. Has ps i) (sym same) (Has-is_among ps q h))) | inr f ↦ f ] in
          ap (λ b. if b then Subscribe c ∷ due_to (subscribes c edges ps) q else due_to (subscribes c edges ps) q) at
          ∙ ap (λ fs. Subscribe c ∷ fs) (e ∙ cond-false (is_some (epoch_in edges q)) [] (if is_among ps q then Subscribe c ∷ [] else []) here ∙ ap (λ b. if b then Subscribe c ∷ [] else []) gone)
          ∙ sym (cond-false (is_some (epoch_in edges q)) [] (Subscribe c ∷ []) here)
      go false is false at e = ap (λ b. if b then Subscribe c ∷ due_to (subscribes c edges ps) q else due_to (subscribes c edges ps) q) at ∙ e

  pub rewired-due : (c : ℕ) (edges : List (ℕ × ℕ)) (ps : List ℕ) (q : ℕ) → AreDistinct (map (λ x. x.0) edges) → AreDistinct ps →
      due_to (unsubscribes {V = V} ps edges ++ subscribes c edges ps) q ≡ reverse (rewire (epoch_in edges q) (if is_among ps q then Some (unwrap_or (epoch_in edges q) c) else None))
  rewired-due c edges ps q apart_edges apart =
      due-append (unsubscribes ps edges) (subscribes c edges ps) q ∙ ap₂ (λ xs ys. xs ++ ys) (left ps edges q apart_edges) (option_cons c edges ps q apart) ∙ go (epoch_in edges q) (is_among ps q)
    where
      go : (o : Option ℕ) (b : Bool) → (if b then [] else ends o) ++ (if is_some o then [] else (if b then Subscribe c ∷ [] else [])) ≡ reverse (rewire o (if b then Some (unwrap_or o c) else None))
      go None true = refl
      go None false = refl
      go (Some e) true = refl
      go (Some e) false = refl
