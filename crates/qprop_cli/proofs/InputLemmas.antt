-- What a source gave, and that a refusal of it is one of all that the source had.
use Rattle.std.proofs.Common.{◌≡◌, ◌∙◌, sym, ap, subst, ℕ, ◌+◌, ◌<◌, ◌≤◌, ◌⊎◌, inl, inr, arith, List, ◌++◌, length, length-append, append-nil, Option, None, Some}
use Rattle.std.specs.Io.KnownBytes.{IsAtEnd}
use Rattle.svc_plan.specs.declared.plan.Leg.{Leg}
use Rattle.svc_plan.specs.declared.plan.Mode.{Mode}
use Rattle.document_reading.specs.declared.refusal.Refusal.{Refusal}
use Rattle.document_reading.specs.Document.{HasLegs, IsRefusal}
use Rattle.qprop_cli.specs.Commands.Frames.{IsStreamRefusal}
use Rattle.qprop_cli.specs.Inside.Input.{GivesLegs}
use Rattle.qprop_cli.specs.Outcome.{Refuses}
use Rattle.qprop_cli.specs.Streams.{ReadsWhole, ReadsUpTo}

-- what is short was read to its end
pub whole_read : (left_old left_new : Option (List ℕ)) (read : List ℕ) → length read ≤ 1048576 → ReadsUpTo 1048576 left_old left_new read → ReadsWhole left_old left_new read
whole_read left_old left_new read short (gone, inl end) = (gone, end)
whole_read left_old left_new read short (gone, inr long) = absurd (omega (arith, short, long))

pub document_given : (mode : Mode) (left_old left_new : Option (List ℕ)) (read : List ℕ) (legs : List Leg) → ReadsUpTo 1048576 left_old left_new read → HasLegs mode read legs →
    GivesLegs mode left_old left_new legs
document_given mode left_old left_new read legs whole accepted =
    record { read = read; whole = whole_read left_old left_new read accepted.1.short whole; accepted = accepted }

-- ---- refusals

-- what holds of all that was read, and of all that is too long where that is too long, holds of all that the source had
holds_of_all : (most : ℕ) (P : List ℕ → Type 0) (had read : List ℕ) (left_new : Option (List ℕ)) → ReadsUpTo most (Some had) left_new read →
    (most < length read → most < length had → P had) → P read → P had
holds_of_all most P had read None whole longer here = absurd whole.0
holds_of_all most P had read (Some rest) whole longer here = at whole.1
  where
    at : IsAtEnd (Some rest) ⊎ (length read ≡ most + 1) → P had
    at (inl end) =
        let all : had ≡ read = whole.0 ∙ ap (λ (ys : List ℕ). read ++ ys) end ∙ append-nil read in
        subst P (sym all) here
    at (inr long) =
        let count : length had ≡ length read + length rest = ap (λ (bytes : List ℕ). length bytes) whole.0 ∙ length-append read rest in
        longer (omega (arith, long)) (omega (arith, count, long))

refuses : (most : ℕ) (refused_by : List ℕ → Refusal → Type 0) (left_old left_new : Option (List ℕ)) (read : List ℕ) (refusal : Refusal) →
    ((had : List ℕ) → most < length read → most < length had → refused_by had refusal) → ReadsUpTo most left_old left_new read → refused_by read refusal →
    Refuses most refused_by left_old left_new refusal
refuses most refused_by left_old left_new read refusal longer whole refused = record {
  read = read;
  whole = whole;
  refused = refused;
  all = λ had is.
      holds_of_all most (λ bytes. refused_by bytes refusal) had read left_new (subst (λ (left : Option (List ℕ)). ReadsUpTo most left left_new read) is whole) (longer had) refused;
}

-- all documents that are too long have one refusal
document_longer : (mode : Mode) (read had : List ℕ) (refusal : Refusal) → IsRefusal mode read refusal → 1048576 < length read → 1048576 < length had → IsRefusal mode had refusal
document_longer mode read had refusal (inl refused) over longer = inl (longer, refused.1)
document_longer mode read had refusal (inr refused) over longer = absurd (omega (arith, refused.0, over))

pub document_refused : (mode : Mode) (left_old left_new : Option (List ℕ)) (read : List ℕ) (refusal : Refusal) → ReadsUpTo 1048576 left_old left_new read → IsRefusal mode read refusal →
    Refuses 1048576 (IsRefusal mode) left_old left_new refusal
document_refused mode left_old left_new read refusal whole refused =
    refuses 1048576 (IsRefusal mode) left_old left_new read refusal (λ had. document_longer mode read had refusal refused) whole refused

-- and so have all streams
stream_longer : (read had : List ℕ) (refusal : Refusal) → IsStreamRefusal read refusal → 1048576 < length read → 1048576 < length had → IsStreamRefusal had refusal
stream_longer read had refusal (inl refused) over longer = inl (longer, refused.1)
stream_longer read had refusal (inr refused) over longer = absurd (omega (arith, refused.0, over))

pub stream_refused : (left_old left_new : Option (List ℕ)) (read : List ℕ) (refusal : Refusal) → ReadsUpTo 1048576 left_old left_new read → IsStreamRefusal read refusal →
    Refuses 1048576 IsStreamRefusal left_old left_new refusal
stream_refused left_old left_new read refusal whole refused =
    refuses 1048576 IsStreamRefusal left_old left_new read refusal (λ had. stream_longer read had refusal refused) whole refused
