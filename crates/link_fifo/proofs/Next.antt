-- What is held after a cutter was asked.
use Rattle.std.proofs.Common.{◌≡◌, sym, subst, refl, ℕ, ◌+◌, length, List, ◌++◌, Option, Some, None, Result, Ok, Err, IfOk, IfErr, IfSome}
use Rattle.wire_frame.specs.Stream.{framed_item, IsItem, IsPartial}
use Rattle.wire_frame.specs.Cut.{Cut, past}
use Rattle.link_fifo.specs.Cuts.{IsRead, place_of}
use Rattle.link_fifo.proofs.Streams.{read_next}
use Rattle.link_fifo.proofs.Grown.{place_next}

pub read_after : (E : Type 0) (r : Result (Option (List ℕ)) E) (pieces : List (List ℕ)) (old new : Cut) →
    IfOk r (λ o. IfSome o (λ item. old.held ≡ framed_item item ++ new.held)) → IfOk r (λ o. IfSome o (λ item. IsItem item)) →
    (r ≡ Ok None → IsPartial old.held × (new ≡ old)) → IfErr r (λ _. new ≡ old) → IsRead pieces old.held → IsRead pieces new.held
read_after E (Ok (Some item)) pieces old new front fits none err h = (read_next pieces old.held new.held item h fits front).0
read_after E (Ok None) pieces old new front fits none err h = subst (λ c. IsRead pieces c.held) (sym (none refl).1) h
read_after E (Err e) pieces old new front fits none err h = subst (λ c. IsRead pieces c.held) (sym err) h

pub place_after : (E : Type 0) (r : Result (Option (List ℕ)) E) (pieces : List (List ℕ)) (old new : Cut) →
    IfOk r (λ o. IfSome o (λ item. old.held ≡ framed_item item ++ new.held)) → IfOk r (λ o. IfSome o (λ item. new.offset ≡ past old.offset (length item + 2))) →
    (r ≡ Ok None → IsPartial old.held × (new ≡ old)) → IfErr r (λ _. new ≡ old) → IsRead pieces old.held →
    old.offset ≡ place_of pieces old.held → new.offset ≡ place_of pieces new.held
place_after E (Ok (Some item)) pieces old new front further none err h was = place_next pieces old.held new.held item old.offset new.offset h front was further
place_after E (Ok None) pieces old new front further none err h was = subst (λ c. c.offset ≡ place_of pieces c.held) (sym (none refl).1) was
place_after E (Err e) pieces old new front further none err h was = subst (λ c. c.offset ≡ place_of pieces c.held) (sym err) was
