use Rattle.std.proofs.Common.{◌≡◌, length, ◌∙◌, ap, rules, chars, arith}
use Rattle.std.proofs.lemmas.Int.{to_z_pos}
use Rattle.std.proofs.lemmas.Str.{chars_from_encodes}
use Rattle.std.specs.Prelude.{pos}
use Rattle.std.specs.Int.{w64}
use Rattle.svc_value.specs.declared.value.Value.TheVariants.{Int}
use Rattle.svc_expr.proofs.texts.count_characters.Goals as goal

pub returns : goal.returns
returns c =
    let count : c.count.result ≡ length (chars c.args.text.now) = search (rules, chars_from_encodes) in
    let bound = c.count.ensures.bound in
    let len = c.chars.ensures.len in
    ap Int (to_z_pos w64 c.count.result (omega arith) ∙ ap pos count)
