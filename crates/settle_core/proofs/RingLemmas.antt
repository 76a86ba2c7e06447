-- Ends of rings, from call to call.
use Rattle.std.proofs.Common.{◌≡◌, ◌≢◌, ℕ, ◌<◌, List, [], length, slice_index_or, slice_set, true, false, Option, Some, None, refl, rules, subst, sym, ap, ◌∙◌}
use Rattle.std.specs.Option.{IsSome, is_some}
use Rattle.std.proofs.lemmas.List.{get_or_default}
use Rattle.link_fifo.specs.Ends.{room, OneStream, SameWriter, SameReader}
use Rattle.link_fifo.specs.declared.piece_in.PieceIn.{PieceIn}
use Rattle.link_fifo.specs.declared.piece_out.PieceOut.{PieceOut}
use Rattle.settle_core.specs.Inside.Rings.{IsFull}
use Rattle.settle_core.specs.Rings.{IsTied, SameTo, SameFrom}
use Rattle.settle_core.proofs.TableLemmas.{set_here, set_other}

writer_refl : (a : PieceOut) → SameWriter a a
writer_refl a = search rules

pub writer_trans : (a b c : PieceOut) → SameWriter a b → SameWriter b c → SameWriter a c
writer_trans a b c p q = grind rules

reader_refl : (a : PieceIn) → SameReader a a
reader_refl a = search rules

pub reader_trans : (a b c : PieceIn) → SameReader a b → SameReader b c → SameReader a c
reader_trans a b c p q = grind rules

stream_after : (a a' : PieceOut) (b b' : PieceIn) → OneStream a b → SameWriter a a' → SameReader b b' → OneStream a' b'
stream_after a a' b b' p q r = grind rules

pub same_to_refl : (o : Option PieceOut) → SameTo o o
same_to_refl None = tt
same_to_refl (Some end) = writer_refl end

pub same_to_is : (a b : Option PieceOut) → b ≡ a → SameTo a b
same_to_is a b is = subst (λ (o : Option PieceOut). SameTo a o) (sym is) (same_to_refl a)

pub same_to_trans : (a b c : Option PieceOut) → SameTo a b → SameTo b c → SameTo a c
same_to_trans None None None p q = tt
same_to_trans None None (Some c) p q = absurd q
same_to_trans None (Some b) c p q = absurd p
same_to_trans (Some a) None c p q = absurd p
same_to_trans (Some a) (Some b) None p q = absurd q
same_to_trans (Some a) (Some b) (Some c) p q = writer_trans a b c p q

pub same_from_refl : (o : Option PieceIn) → SameFrom o o
same_from_refl None = tt
same_from_refl (Some end) = reader_refl end

pub same_from_is : (a b : Option PieceIn) → b ≡ a → SameFrom a b
same_from_is a b is = subst (λ (o : Option PieceIn). SameFrom a o) (sym is) (same_from_refl a)

pub same_from_trans : (a b c : Option PieceIn) → SameFrom a b → SameFrom b c → SameFrom a c
same_from_trans None None None p q = tt
same_from_trans None None (Some c) p q = absurd q
same_from_trans None (Some b) c p q = absurd p
same_from_trans (Some a) None c p q = absurd p
same_from_trans (Some a) (Some b) None p q = absurd q
same_from_trans (Some a) (Some b) (Some c) p q = reader_trans a b c p q

-- two ends of one ring stay so
pub tied_after : (a a' : Option PieceOut) (b b' : Option PieceIn) → IsTied a b → SameTo a a' → SameFrom b b' → IsTied a' b'
tied_after None None None None t p q = tt
tied_after None None None (Some b) t p q = absurd q
tied_after None None (Some b) b' t p q = absurd t
tied_after None (Some a) b b' t p q = absurd p
tied_after (Some a) None b b' t p q = absurd p
tied_after (Some a) (Some a') None b' t p q = absurd t
tied_after (Some a) (Some a') (Some b) None t p q = absurd q
tied_after (Some a) (Some a') (Some b) (Some b') t p q = stream_after a a' b b' t p q

-- ---- a place in a list of ends or frames

pub absent : {A : Type 0} (o : Option A) → is_some o ≡ false → o ≡ None
absent None is = refl
absent (Some x) is = absurd (cc is)

pub some_of : {A : Type 0} (o : Option A) → is_some o ≡ true → IsSome o
some_of None is = absurd (cc is)
some_of (Some x) is = refl

module _ {A : Type 0} (xs : List (Option A)) (i p : ℕ) (at : i ≡ p) (less : i < length xs) where
  pub found_at : (now : Option A) → now ≡ slice_index_or xs i now → slice_index_or xs p None ≡ now
  found_at now is = ap (λ j. slice_index_or xs j None) (sym at) ∙ get_or_default xs i None now less ∙ sym is

  pub set_at : (x : Option A) → slice_index_or (slice_set xs i x) p None ≡ x
  set_at x = ap (λ j. slice_index_or (slice_set xs i x) j None) (sym at) ∙ set_here xs i x None less

  pub set_off : (x : Option A) (k : ℕ) → k ≢ p → slice_index_or (slice_set xs i x) k None ≡ slice_index_or xs k None
  set_off x k ne = set_other xs i k x None (λ e. ne (e ∙ at))

-- ---- ends that are there

pub same_from_some : (a b : Option PieceIn) → SameFrom a b → IsSome b → IsSome a
same_from_some None None same some = some
same_from_some None (Some b) same some = absurd same
same_from_some (Some a) b same some = refl

pub same_to_some : (a b : Option PieceOut) → SameTo a b → IsSome a → IsSome b
same_to_some None b same some = absurd (cc some)
same_to_some (Some a) None same some = absurd same
same_to_some (Some a) (Some b) same some = refl

-- frames are left at an end that is there
pub full_there : (o : Option PieceOut) (frames : List (List ℕ)) → IsFull o frames → frames ≢ [] → IsSome o → (end : PieceOut) × (o ≡ Some end) × (room end ≡ 0)
full_there None frames full left some = absurd (cc some)
full_there (Some end) frames full left some = (end, refl, full left)

pub same_to_along : (a b c d : Option PieceOut) → a ≡ b → SameTo b c → d ≡ c → SameTo a d
same_to_along a b c d p same q = subst (λ (o : Option PieceOut). SameTo o d) (sym p) (subst (λ (o : Option PieceOut). SameTo b o) (sym q) same)
