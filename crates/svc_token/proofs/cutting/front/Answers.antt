use Rattle.std.proofs.Common.{sym, arith}
use Rattle.svc_token.proofs.WordLemmas.{is_word-front}
use Rattle.svc_token.proofs.cutting.front.Goals as goal

pub word-requires : goal.word-requires
word-requires c =
    rw c.word_len-len.ensures
    (is_word-front c.args.text.now (omega arith) (sym c.if-is_ascii_alphabetic.ensures.value))
