-- Whole frames.
use Rattle.std.proofs.Common.{◌≡◌, ◌∙◌, sym, ap, refl, ℕ, suc, ◌<◌, ◌≤◌, ◌⊎◌, List, [], ◌∷◌, length, get_or, drop, arith}
use Rattle.std.proofs.lemmas.List.{get_or-take}
use Rattle.svc_value.specs.declared.value.Value.{Value}
use Rattle.wire_frame.specs.declared.errors.FrameError.{FrameError}
use Rattle.wire_frame.specs.declared.errors.FrameError.TheVariants as error
use Rattle.wire_frame.specs.declared.frame.Announced.{Announced}
use Rattle.wire_frame.specs.declared.frame.Cargo.{Cargo}
use Rattle.wire_frame.specs.declared.frame.Delta.{Delta}
use Rattle.wire_frame.specs.declared.frame.Frame.{Frame}
use Rattle.wire_frame.specs.declared.frame.Frame.TheVariants.{Subscribe, Unsubscribe, Sources, Carried, Changed}
use Rattle.wire_frame.specs.declared.place_clock.PlaceClock.{PlaceClock}
use Rattle.wire_frame.specs.declared.reason.FrameReason.TheVariants.{Short, Kind, Epoch}
use Rattle.wire_frame.specs.Bodies.{announced_body, cargo_body, delta_body, of_announced, of_cargo, of_delta, frame_part}
use Rattle.wire_frame.specs.Frames.{frame_bytes}
use Rattle.wire_frame.specs.Parts.{Part, Stands, Fails, chain, byte_part, clock_part}
use Rattle.wire_frame.specs.Runs.{key_items, clock_items, place_items}
use Rattle.wire_frame.proofs.Counting.{run_length}
use Rattle.wire_frame.proofs.Digits.{byte-one_way, byte-fields}
use Rattle.wire_frame.proofs.Parts.{wrong_as}
use Rattle.wire_frame.proofs.Rising.{keys_run, keys_rise, keys_small, clocks_run, clocks_some, clocks_small, places_run, places_rise, places_fit, places_below, places_small}
use Rattle.wire_frame.proofs.Standing.{fails_second, stands_both, stands_as}

-- ---- a kind, and what its frames have behind it

abbrev kind : ℕ → Part ℕ
kind k = byte_part Kind k k

-- the frames of a kind are just what can stand behind its byte
pub record AreOfKind {X : Type 0} (k : ℕ) (body : Part X) (frame_of : X → Frame) : Type 0 where
  pub good : (x : X) → body.Good x → frame_part.Good (frame_of x)
  pub bytes : (x : X) → body.Good x → frame_part.bytes (frame_of x) ≡ k ∷ body.bytes x
  pub fields : (x : X) → frame_part.fields (frame_of x) ≡ Kind ∷ body.fields x
  pub back : (frame : Frame) → frame_part.Good frame → get_or (frame_bytes frame) 0 0 ≡ k → (x : X) × body.Good x × (k ∷ body.bytes x ≡ frame_bytes frame)

abbrev behind : {X : Type 0} → ℕ → Part X → Part (ℕ × X)
behind k body = chain (kind k) (λ _. body)

kind_stands : (k : ℕ) (bytes : List ℕ) → 0 < length bytes → get_or bytes 0 0 ≡ k → Stands (kind k) k bytes 0 1
kind_stands k [] l e = absurd (omega arith)
kind_stands k (b ∷ bytes) l e = record { good = (omega arith, omega arith); end = refl; within = omega arith; is = ap (λ x. x ∷ bytes) e }

pub kind_fails : {X : Type 0} (k : ℕ) (body : Part X) (frame_of : X → Frame) (bytes : List ℕ) (e : FrameError) → AreOfKind k body frame_of →
    0 < length bytes → get_or bytes 0 0 ≡ k → Fails body bytes 1 e → Fails frame_part bytes 0 e
kind_fails {X} k body frame_of bytes (error.Bad place why) of l e w =
    let both = fails_second (kind k) (λ _. body) bytes 0 1 k (error.Bad place why) (byte-one_way Kind k k) (byte-fields Kind k k) (kind_stands k bytes l e) w in
    let here : 0 < both.0 = omega (arith, w.1, both.1) in (
      both.0,
      both.1,
      wrong_as (behind k body) frame_part (λ (p : ℕ × X). frame_of p.1) (drop 0 bytes) both.0 why
          (λ p good. of.good p.1 good.1)
          (λ p good. of.bytes p.1 good.1 ∙ ap (λ x. x ∷ body.bytes p.1) (let same : k ≡ p.0 = omega (arith, good.0.0, good.0.1) in same))
          (λ p. of.fields p.1)
          (λ frame good same.
          let first : get_or (frame_bytes frame) 0 0 ≡ k =
          sym (get_or-take (suc both.0) (frame_bytes frame) 0 0 (omega arith)) ∙ ap (λ bs. get_or bs 0 0) same ∙ get_or-take (suc both.0) bytes 0 0 (omega arith) ∙ e in
          let b = of.back frame good first in
          ((k, b.0), ((omega arith, omega arith), b.1), b.2))
          both.2,
    )
kind_fails k body frame_of bytes error.OutOfMemory of l e w = tt

pub kind_stands_whole : {X : Type 0} (k : ℕ) (body : Part X) (frame_of : X → Frame) (bytes : List ℕ) (to : ℕ) (x : X) → AreOfKind k body frame_of →
    0 < length bytes → get_or bytes 0 0 ≡ k → Stands body x bytes 1 to → Stands frame_part (frame_of x) bytes 0 to
kind_stands_whole {X} k body frame_of bytes to x of l e s =
    stands_as (behind k body) frame_part (λ (p : ℕ × X). frame_of p.1) bytes 0 to (k, x)
    (λ p good. of.good p.1 good.1)
    (λ p good. of.bytes p.1 good.1 ∙ ap (λ y. y ∷ body.bytes p.1) (let same : k ≡ p.0 = omega (arith, good.0.0, good.0.1) in same))
    (stands_both (kind k) (λ _. body) bytes 0 1 to k x (kind_stands k bytes l e) s)

-- ---- the five kinds

pub subscribe_kind : AreOfKind 1 (clock_part Epoch) Subscribe
subscribe_kind = record { good = λ x g. g; bytes = λ x _. refl; fields = λ x. refl; back = back }
  where
    back : (frame : Frame) → frame_part.Good frame → get_or (frame_bytes frame) 0 0 ≡ 1 → (x : ℕ) × (clock_part Epoch).Good x × (1 ∷ (clock_part Epoch).bytes x ≡ frame_bytes frame)
    back (Subscribe epoch) g e = (epoch, g, refl)
    back (Unsubscribe epoch) g e = absurd (omega arith)
    back (Sources a) g e = absurd (omega arith)
    back (Carried a) g e = absurd (omega arith)
    back (Changed a) g e = absurd (omega arith)

pub unsubscribe_kind : AreOfKind 2 (clock_part Epoch) Unsubscribe
unsubscribe_kind = record { good = λ x g. g; bytes = λ x _. refl; fields = λ x. refl; back = back }
  where
    back : (frame : Frame) → frame_part.Good frame → get_or (frame_bytes frame) 0 0 ≡ 2 → (x : ℕ) × (clock_part Epoch).Good x × (2 ∷ (clock_part Epoch).bytes x ≡ frame_bytes frame)
    back (Subscribe epoch) g e = absurd (omega arith)
    back (Unsubscribe epoch) g e = (epoch, g, refl)
    back (Sources a) g e = absurd (omega arith)
    back (Carried a) g e = absurd (omega arith)
    back (Changed a) g e = absurd (omega arith)

pub announced_good : (a : Announced) → frame_part.Good (Sources a) → announced_body.Good (of_announced a)
announced_good a g = ((g.0.epoch, g.1.0), ((g.0.some, g.0.most), keys_run 0 a.keys g.0.rise g.1.1))

abbrev pub sources_of : ℕ × (ℕ × List ℕ) → Frame
sources_of x = Sources (record { epoch = x.0; keys = x.1.1 })

pub sources_kind : AreOfKind 3 announced_body sources_of
sources_kind = record {
  good = λ x g. (
    record {
      epoch = g.0.0;
      some = omega (arith, g.1.0.0, run_length key_items 0 x.1.0 x.1.1 g.1.1);
      most = omega (arith, g.1.0.1, run_length key_items 0 x.1.0 x.1.1 g.1.1);
      rise = keys_rise 0 x.1.0 x.1.1 g.1.1;
    },
    (g.0.1, keys_small 0 x.1.0 x.1.1 g.1.1),
  );
  bytes = λ x g. ap (λ n. frame_bytes_with x n) (run_length key_items 0 x.1.0 x.1.1 g.1.1);
  fields = λ x. refl;
  back = back;
}
  where
    frame_bytes_with : ℕ × (ℕ × List ℕ) → ℕ → List ℕ
    frame_bytes_with x n = 3 ∷ announced_body.bytes (x.0, (n, x.1.1))

    back : (frame : Frame) → frame_part.Good frame → get_or (frame_bytes frame) 0 0 ≡ 3 → (x : ℕ × (ℕ × List ℕ)) × announced_body.Good x × (3 ∷ announced_body.bytes x ≡ frame_bytes frame)
    back (Subscribe epoch) g e = absurd (omega arith)
    back (Unsubscribe epoch) g e = absurd (omega arith)
    back (Sources a) g e = (of_announced a, announced_good a g, refl)
    back (Carried a) g e = absurd (omega arith)
    back (Changed a) g e = absurd (omega arith)

pub cargo_good : (a : Cargo) → frame_part.Good (Carried a) → cargo_body.Good (of_cargo a)
cargo_good a g = ((g.0.epoch, g.1.0), (g.1.1, ((g.0.some, g.0.most), clocks_run 0 a.clocks g.0.clocks g.1.2)))

abbrev pub carried_of : ℕ × (Value × (ℕ × List ℕ)) → Frame
carried_of x = Carried (record { epoch = x.0; value = x.1.0; clocks = x.1.1.1 })

pub carried_kind : AreOfKind 4 cargo_body carried_of
carried_kind = record {
  good = λ x g. (
    record {
      epoch = g.0.0;
      some = omega (arith, g.1.1.0.0, run_length clock_items 0 x.1.1.0 x.1.1.1 g.1.1.1);
      most = omega (arith, g.1.1.0.1, run_length clock_items 0 x.1.1.0 x.1.1.1 g.1.1.1);
      clocks = clocks_some 0 x.1.1.0 x.1.1.1 g.1.1.1;
    },
    (g.0.1, g.1.0, clocks_small 0 x.1.1.0 x.1.1.1 g.1.1.1),
  );
  bytes = λ x g. ap (λ n. bytes_with x n) (run_length clock_items 0 x.1.1.0 x.1.1.1 g.1.1.1);
  fields = λ x. refl;
  back = back;
}
  where
    bytes_with : ℕ × (Value × (ℕ × List ℕ)) → ℕ → List ℕ
    bytes_with x n = 4 ∷ cargo_body.bytes (x.0, (x.1.0, (n, x.1.1.1)))

    back : (frame : Frame) → frame_part.Good frame → get_or (frame_bytes frame) 0 0 ≡ 4 → (x : ℕ × (Value × (ℕ × List ℕ))) × cargo_body.Good x × (4 ∷ cargo_body.bytes x ≡ frame_bytes frame)
    back (Subscribe epoch) g e = absurd (omega arith)
    back (Unsubscribe epoch) g e = absurd (omega arith)
    back (Sources a) g e = absurd (omega arith)
    back (Carried a) g e = (of_cargo a, cargo_good a g, refl)
    back (Changed a) g e = absurd (omega arith)

pub delta_good : (a : Delta) → frame_part.Good (Changed a) → delta_body.Good (of_delta a)
delta_good a g = ((g.0.epoch, g.1.0), (g.1.1, ((omega arith, omega (arith, places_fit 0 a.clocks (omega arith) g.0.rise g.0.below)), places_run 0 a.clocks g.0.rise g.0.below g.1.2)))

abbrev pub changed_of : ℕ × (Value × (ℕ × List PlaceClock)) → Frame
changed_of x = Changed (record { epoch = x.0; value = x.1.0; clocks = x.1.1.1 })

pub changed_kind : AreOfKind 5 delta_body changed_of
changed_kind = record {
  good = λ x g. (
    record {
      epoch = g.0.0;
      rise = places_rise 0 x.1.1.0 x.1.1.1 g.1.1.1;
      below = places_below 0 x.1.1.0 x.1.1.1 g.1.1.1;
    },
    (g.0.1, g.1.0, places_small 0 x.1.1.0 x.1.1.1 g.1.1.1),
  );
  bytes = λ x g. ap (λ n. bytes_with x n) (run_length place_items 0 x.1.1.0 x.1.1.1 g.1.1.1);
  fields = λ x. refl;
  back = back;
}
  where
    bytes_with : ℕ × (Value × (ℕ × List PlaceClock)) → ℕ → List ℕ
    bytes_with x n = 5 ∷ delta_body.bytes (x.0, (x.1.0, (n, x.1.1.1)))

    back : (frame : Frame) → frame_part.Good frame → get_or (frame_bytes frame) 0 0 ≡ 5 → (x : ℕ × (Value × (ℕ × List PlaceClock))) × delta_body.Good x × (5 ∷ delta_body.bytes x ≡ frame_bytes frame)
    back (Subscribe epoch) g e = absurd (omega arith)
    back (Unsubscribe epoch) g e = absurd (omega arith)
    back (Sources a) g e = absurd (omega arith)
    back (Carried a) g e = absurd (omega arith)
    back (Changed a) g e = (of_delta a, delta_good a g, refl)

-- ---- no kind

-- the first byte of a frame
pub first_of : (frame : Frame) → (1 ≤ get_or (frame_bytes frame) 0 0) × (get_or (frame_bytes frame) 0 0 ≤ 5)
first_of (Subscribe epoch) = (omega arith, omega arith)
first_of (Unsubscribe epoch) = (omega arith, omega arith)
first_of (Sources a) = (omega arith, omega arith)
first_of (Carried a) = (omega arith, omega arith)
first_of (Changed a) = (omega arith, omega arith)

pub nothing_fails : (bytes : List ℕ) → length bytes ≡ 0 → Fails frame_part bytes 0 (error.Bad 0 Short)
nothing_fails [] l = (
  0,
  refl,
  record {
    like = Subscribe 1;
    good = (omega arith, omega arith);
    within = omega arith;
    begun = refl;
    more = omega arith;
    short = λ e. refl;
    field = λ h. absurd (omega arith);
    end = λ h. absurd (omega arith);
  },
)
nothing_fails (b ∷ bytes) l = absurd (omega arith)

pub kind_wrong : (bytes : List ℕ) → 0 < length bytes → (get_or bytes 0 0 < 1) ⊎ (5 < get_or bytes 0 0) → Fails frame_part bytes 0 (error.Bad 0 Kind)
kind_wrong [] l out = absurd (omega arith)
kind_wrong (b ∷ bytes) l out = (
  0,
  refl,
  record {
    like = Subscribe 1;
    good = (omega arith, omega arith);
    within = omega arith;
    begun = refl;
    more = omega arith;
    short = λ h. absurd (omega arith);
    field = λ h. refl;
    end = λ h frame good same.
        let head : get_or (frame_bytes frame) 0 0 ≡ b = sym (get_or-take 1 (frame_bytes frame) 0 0 (omega arith)) ∙ ap (λ bs. get_or bs 0 0) same in
        omega (arith, out, head, (first_of frame).0, (first_of frame).1);
  },
)
