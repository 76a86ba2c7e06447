-- Frames on their way out, oldest first, each with the service that is to take it.
use Rattle.std.specs.Prelude.{◌≡◌, ◌≢◌, ℕ, ◌+◌, ◌==◌, ◌≤◌, List, [], ◌∷◌, ◌++◌, All, length, position, if◌then◌else◌, Option, option_to_list}
use Rattle.std.proofs.Common.{None}
use Rattle.svc_value.specs.declared.limits.TheConstants.{MAX_FRAME_LEN}

-- those to one service
abbrev pub waiting : ℕ → List (ℕ × List ℕ) → List (List ℕ)
waiting q [] = []
waiting q (outgoing_frame ∷ rest) = if outgoing_frame.0 == q then outgoing_frame.1 ∷ waiting q rest else waiting q rest

-- none of these is longer than a frame can be
abbrev pub AreShort : List (List ℕ) → Type 0
AreShort frames = All (λ frame. length frame ≤ MAX_FRAME_LEN) frames

-- the place of the first to a service
abbrev pub first_to : ℕ → List (ℕ × List ℕ) → Option ℕ
first_to q outgoing_frames = position (λ outgoing_frame. outgoing_frame.0 == q) outgoing_frames

-- the oldest to a service is taken out, if there is one
pub record TakesOut (q : ℕ) (old new : List (ℕ × List ℕ)) (taken : Option (List ℕ)) : Type 0 where
  pub own : waiting q old ≡ option_to_list taken ++ waiting q new
  pub none : taken ≡ None → (waiting q old ≡ []) × (new ≡ old)
  pub others : (p : ℕ) → p ≢ q → waiting p new ≡ waiting p old
  pub count : length old ≡ length new + length (option_to_list taken)
