-- What an entry says has no LF.
use Rattle.std.proofs.Common.{◌≢◌, refl, ℕ, ◌<◌, arith, List, [], ◌∷◌}
use Rattle.std.specs.Fmt.{decimal}
use Rattle.std.specs.Prelude.{codes}
use Rattle.node_core.specs.declared.entry.Entry.{Entry}
use Rattle.node_core.specs.declared.entry.Entry.TheVariants.{Did, Took, Computed, Sent}
use Rattle.svc_value.specs.Printed.{printed_value}
use Rattle.trace_text.proofs.Inside.{printed_inside, decimal_inside}
use Rattle.trace_text.specs.Naming.{Naming, AreNamed}
use Rattle.trace_text.specs.Lines.{after_commas, frame_text, stamp_text, stamps_text, picks_text, entry_text}
use Rattle.trace_text.specs.Entries.{IsEntryOf}
use Rattle.trace_text.specs.Named.{NamesBelow}
use Rattle.trace_text.specs.Inside.Cutting.{Lacks}
use Rattle.trace_text.proofs.Words.{Lacks-append, lacks_by, each_of, comma_list-lacks}
use Rattle.trace_text.proofs.Texts.{name-lacks, hex-lacks}

low : (b : ℕ) → 10 < b → b ≢ 10
low b lt e = omega (arith, lt, e)

picks-lack_lf : (picks : List ℕ) → Lacks 10 (picks_text picks)
picks-lack_lf [] = (low 45 (omega arith), tt)
picks-lack_lf (pick ∷ picks) = Lacks-append 10 (decimal pick) (after_commas decimal picks) (decimal_inside pick) (others picks)
  where
    others : (numbers : List ℕ) → Lacks 10 (after_commas decimal numbers)
    others [] = tt
    others (number ∷ numbers) = (low 44 (omega arith), Lacks-append 10 (decimal number) (after_commas decimal numbers) (decimal_inside number) (others numbers))

module _ (name : Naming) (count : ℕ) (named : AreNamed name count) where
  pub lf-lacks : (n : ℕ) → n < count → Lacks 10 (name n)
  lf-lacks n lt = name-lacks 10 (name n) (named n lt) refl refl

  frame-lacks : (n : ℕ) (bytes : List ℕ) → n < count → Lacks 10 (frame_text name n bytes)
  frame-lacks n bytes lt = Lacks-append 10 (name n) (32 ∷ _) (lf-lacks n lt) (low 32 (omega arith), hex-lacks 10 bytes (omega arith))

  pub entry_text-lacks : (x : Entry) → NamesBelow count x → Lacks 10 (entry_text name x)
  entry_text-lacks (Did c) p = Lacks-append 10 (codes "did ") (decimal c) (lacks_by 10 (codes "did ") refl) (decimal_inside c)
  entry_text-lacks (Took a xs) p = Lacks-append 10 (codes "took ") (frame_text name a xs) (lacks_by 10 (codes "took ") refl) (frame-lacks a xs p)
  entry_text-lacks (Sent a xs) p = Lacks-append 10 (codes "sent ") (frame_text name a xs) (lacks_by 10 (codes "sent ") refl) (frame-lacks a xs p)
  entry_text-lacks (Computed c) p =
      let stamps : Lacks 10 (stamps_text name c.stamps) = comma_list-lacks 10 (λ pair. pair.0 < count) (stamp_text name) (λ e. omega (arith, e))
      (λ pair lt. Lacks-append 10 (name pair.0) (64 ∷ decimal pair.1) (lf-lacks pair.0 lt) (low 64 (omega arith), decimal_inside pair.1)) c.stamps (each_of (λ pair. pair.0 < count) c.stamps p) in
      Lacks-append 10 (codes "computed ") _ (lacks_by 10 (codes "computed ") refl)
      (Lacks-append 10 (printed_value c.value) _ (printed_inside c.value)
      (Lacks-append 10 (codes " with ") _ (lacks_by 10 (codes " with ") refl)
      (Lacks-append 10 (stamps_text name c.stamps) _ stamps
      (Lacks-append 10 (codes " picks ") (picks_text c.picks) (lacks_by 10 (codes " picks ") refl) (picks-lack_lf c.picks)))))

-- what an entry of these services names
pub names_below : (count : ℕ) (x : Entry) → IsEntryOf count x → NamesBelow count x
names_below count (Did c) is = tt
names_below count (Took a xs) is = is.0
names_below count (Computed c) is = is.stamps.named
names_below count (Sent a xs) is = is.0
