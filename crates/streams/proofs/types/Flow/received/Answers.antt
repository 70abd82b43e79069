-- What does not overrun leaves both counts at 1,000 or below.
use Rattle.std.proofs.Common.{arith}
use Rattle.streams.proofs.Windows.{received-fits}
use Rattle.streams.proofs.types.Flow.received.Goals as goal

pub overflow_add-self : goal.overflow_add-self
overflow_add-self c = let fit = received-fits c.args.command c.args.self.now c.if-overruns.ensures.answer in omega (arith, fit.0, c.raise.ensures)

pub overflow_add-self-2 : goal.overflow_add-self-2
overflow_add-self-2 c = let fit = received-fits c.args.command c.args.self.now c.if-overruns.ensures.answer in omega (arith, fit.1, c.data_count.ensures)

pub invariant_of-self : goal.invariant_of-self
invariant_of-self c =
    let fit = received-fits c.args.command c.args.self.now c.if-overruns.ensures.answer in
    record { small = (omega (arith, fit.0, c.raise.ensures), omega (arith, fit.1, c.data_count.ensures), c.args.self.now.small.2) }
