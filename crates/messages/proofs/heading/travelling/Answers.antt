-- A number is a command that travels this way, or none.
use Rattle.std.proofs.Common.{◌≡◌, Bool, true, false, is_some, Some, refl, ap, ◌∙◌}
use Rattle.std.specs.Bool.{then_some}
use Rattle.cell.specs.declared.command.Command.{Command}
use Rattle.cell.specs.Commands.{command_from, command_byte}
use Rattle.model.specs.Messages.{travels}
use Rattle.messages.proofs.Results.{value-of}
use Rattle.messages.proofs.Known.{no-command, goes-travels}
use Rattle.messages.proofs.heading.travelling.Goals as goal

then-some : {X : Type 0} (b : Bool) (x : X) → is_some (then_some b x) ≡ b
then-some true x = refl
then-some false x = refl

pub returns-in_err-command-clause-test : goal.returns-in_err-command-clause-test
returns-in_err-command-clause-test c = ap is_some c.from_residual.ensures ∙ no-command c.args.way c.args.number c.try_from.result c.try_from.ensures c.in_err-command.ensures.variant

pub returns-clause-test : goal.returns-clause-test
returns-clause-test c =
    let command = c.in_ok-command.command in
    let n = c.args.number in
    let byte : command_byte command ≡ n =
    (value-of (λ (k : Command). (command_from n ≡ Some k) × (command_byte k ≡ n)) _ c.try_from.result command c.try_from.ensures c.in_ok-command.ensures.value).1 in
    ap is_some c.then_some.ensures ∙ then-some c.goes.result command ∙ c.goes.ensures ∙ goes-travels c.args.way command ∙ ap (travels c.args.way) byte
