-- All that travels but SENDME.
use Rattle.std.proofs.Common.{sym, ap, ◌∙◌}
use Rattle.cell.specs.Commands.{command_byte}
use Rattle.model.specs.Messages.{may_send, travels}
use Rattle.messages.proofs.Known.{sendme-stays, travels-sends}
use Rattle.messages.proofs.heading.sendable.Goals as goal

pub returns-in-Sendme-clause-test : goal.returns-in-Sendme-clause-test
returns-in-Sendme-clause-test c =
    sendme-stays c.args.way ∙ ap (λ k. may_send c.args.way (command_byte k)) (sym c.in-Sendme.is) ∙ ap (may_send c.args.way) c.in_ok-command.ensures.command

pub returns-in_default-clause-test : goal.returns-in_default-clause-test
returns-in_default-clause-test c =
    let command = c.in_ok-command.command in
    let byte = c.in_ok-command.ensures.command in
    c.in_ok-command.ensures.test ∙ ap (travels c.args.way) (sym byte) ∙ travels-sends c.args.way command c.in_default.not-Sendme ∙ ap (may_send c.args.way) byte
