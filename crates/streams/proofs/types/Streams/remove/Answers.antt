use Rattle.std.proofs.Common.{◌-◌, take, ap, ◌∙◌, arith}
use Rattle.streams.proofs.Records.{moved_up}
use Rattle.streams.proofs.types.Streams.remove.Goals as goal

pub returns-clause-records : goal.returns-clause-records
returns-clause-records c = ap (take (c.args.self.now.count - 1)) c.copy_within.ensures.after ∙ moved_up c.args.self.now.records c.args.self.now.count c.args.i c.requires (omega arith)
