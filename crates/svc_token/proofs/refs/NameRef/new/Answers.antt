use Rattle.svc_token.proofs.WordLemmas.{IsName-utf8}
use Rattle.svc_token.proofs.refs.NameRef.new.Goals as goal

pub unreachable-requires : goal.unreachable-requires
unreachable-requires c = c.in-Err.ensures.cases.0 (IsName-utf8 c.args.bytes.now c.requires)
