use Rattle.cell.specs.Commands.{command_byte}
use Rattle.streams.specs.Views.{streams_seen}
use Rattle.streams.proofs.Orders.{change_keeps, kept_by_receiving}
use Rattle.streams.proofs.types.Streams.received.Goals as goal

pub returns-in-Connected-clause-order : goal.returns-in-Connected-clause-order
unfolding streams_seen
returns-in-Connected-clause-order c =
    kept_by_receiving c.args.way _ _ (change_keeps (command_byte c.args.command) c.args.stream c.args.hop (streams_seen c.args.self.now) _ c.change.ensures)
