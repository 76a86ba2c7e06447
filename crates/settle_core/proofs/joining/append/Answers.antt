use Rattle.settle_core.proofs.JoinLemmas.{adds_one}
use Rattle.settle_core.proofs.joining.append.Goals as goal

pub returns : goal.returns
returns c = adds_one c.args.reader c.args.sender c.args.bytes c.args.links.now.items c.reserve.new.links.items c.push.new.links.items c.requires.sender c.requires.there c.in_ok-reserve.ensures.same c.push.ensures
