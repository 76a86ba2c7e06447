use Rattle.std.proofs.Common.{◌≡◌, ◌∙◌, ap, sym, ℕ, List, ◌++◌, length, take, min, arith}
use Rattle.std.proofs.lemmas.List.{take_at, take_min, length-take}
use Rattle.link_fifo.proofs.piece.Piece.cut.Goals as goal

-- the front of a list with something behind it
front : (bytes zeros all : List ℕ) (len : ℕ) → len ≡ min (length bytes) 64 → all ≡ take len bytes ++ zeros → take len all ≡ take 64 bytes
front bytes zeros all len m e =
    let l : min 64 (length bytes) ≡ len = omega (arith, m) in
    let fits : length (take len bytes) ≡ len = omega (arith, m, length-take len bytes) in
    ap (take len) e ∙ take_at (take len bytes) zeros len fits ∙ ap (λ n. take n bytes) (sym l) ∙ take_min 64 bytes

pub returns : goal.returns
returns c = front c.args.bytes.now _ c.with_zeros.result c.min-len.result c.min-len.ensures c.with_zeros.ensures
