use Rattle.cell.specs.Commands.{command_byte}
use Rattle.streams.specs.Views.{streams_seen}
use Rattle.streams.proofs.Orders.{change_keeps, begin_keeps, kept_by_sending}
use Rattle.streams.proofs.types.Streams.sent.Goals as goal

pub returns-in-Forward-clause-order : goal.returns-in-Forward-clause-order
returns-in-Forward-clause-order c = kept_by_sending c.args.way _ _ (begin_keeps c.args.hop c.args.stream _ _ c.begin.ensures)

pub returns-in-Connected-clause-order : goal.returns-in-Connected-clause-order
unfolding streams_seen
returns-in-Connected-clause-order c =
    kept_by_sending c.args.way _ _ (change_keeps (command_byte c.args.command) c.args.stream c.args.hop (streams_seen c.args.self.now) _ c.change.ensures)
