use Rattle.std.proofs.Common.{take, drop, ap, ◌∙◌}
use Rattle.document_reading.proofs.BodyLemmas.{alone_is, over_is, no_members}
use Rattle.document_reading.proofs.body.body.Goals as goal

pub returns-in-empty : goal.returns-in-empty
returns-in-empty c =
    alone_is c.args.tokens.now c.split_at.result.0.now c.split_at.result.1.now c.new.result c.in-empty.len_below c.new.ensures
    (c.split_at.ensures.front ∙ ap (λ n. take n c.args.tokens.now) c.over_at.ensures)
    (c.split_at.ensures.back ∙ ap (λ n. drop n c.args.tokens.now) c.over_at.ensures) c.over.result c.over.ensures

pub returns-in-Ok : goal.returns-in-Ok
returns-in-Ok c =
    over_is c.args.tokens.now c.split_at.result.0.now c.split_at.result.1.now c.in-Ok.members c.in-len1-up.len_at_least
    (c.split_at.ensures.front ∙ ap (λ n. take n c.args.tokens.now) c.over_at.ensures)
    (c.split_at.ensures.back ∙ ap (λ n. drop n c.args.tokens.now) c.over_at.ensures) c.in-Ok.ensures c.over-in-Ok.result c.over-in-Ok.ensures

pub returns-in-Err : goal.returns-in-Err
returns-in-Err c =
    no_members c.args.tokens.now c.split_at.result.0.now c.split_at.result.1.now c.in-len1-up.len_at_least
    (c.split_at.ensures.front ∙ ap (λ n. take n c.args.tokens.now) c.over_at.ensures)
    (c.split_at.ensures.back ∙ ap (λ n. drop n c.args.tokens.now) c.over_at.ensures) c.in-Err.stop c.in-Err.ensures
