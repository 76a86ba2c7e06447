use Rattle.std.proofs.Common.{◌≡◌, ◌+◌, ◌<◌, false, length}
use Rattle.svc_token.specs.Cutting.{closing}
use Rattle.svc_token.proofs.cutting.quoted_len.Given as goal

abbrev pub invariant-loop-left : goal.invariant-loop-left
invariant-loop-left l = record {
  read : closing l.len false l.left ≡ closing 1 false l.rest;
  count : l.len + length l.left ≡ length l.rest + 1;
}

abbrev pub decreases-loop-left : goal.decreases-loop-left
decreases-loop-left l = length l.left
