-- How writes follow one another.
use Rattle.std.proofs.Common.{subst, ℕ, ◌+◌, ◌-◌, List, Option, length, take, drop, take-append-drop}
use Rattle.std.proofs.Math.Seq.{take-add}
use Rattle.std.proofs.lemmas.List.{take_rest}
use Rattle.std.proofs.KnownBytes.{Appends-trans, Appends-kept}
use Rattle.std.specs.Io.KnownBytes.{Appends, Keeps}
use Rattle.qprop_cli.specs.Streams.{AddsBeginning}

-- a write of the next bytes of a text, as `&text[at..]` shows them
pub appends_next : (a b c : Option (List ℕ)) (text : List ℕ) (at n : ℕ) → Appends a b (take at text) → Appends b c (take n (take (length text - at) (drop at text))) → Appends a c (take (at + n) text)
appends_next a b c text at n p q =
    let P : List ℕ → Type 0 = λ r. Appends b c (take n r) in
    rw (take-add at n text) (Appends-trans a b c _ _ p (subst P (take_rest text at) q))

-- what a write that failed leaves: a beginning of the text
pub beginning_stays : (a b c : Option (List ℕ)) (text : List ℕ) (at : ℕ) → Appends a b (take at text) → Keeps b c → AddsBeginning a c text
beginning_stays a b c text at p q =
    record { added = take at text; rest = drop at text; whole = take-append-drop at text; gained = Appends-kept a b c (take at text) p q }
