-- Which numbers are commands, and where they may go.
use Rattle.std.proofs.Common.{◌≡◌, ℕ, false, is_ok, None, Ok, Err, Result, sym, refl, arith}
use Rattle.std.proofs.lemmas.Bool.Decides.{nat_tests}
use Rattle.cell.specs.declared.command.Command.{Command}
use Rattle.cell.specs.declared.command.Command.TheVariants.{Begin, Data, End, Connected, Sendme, Drop}
use Rattle.cell.specs.declared.command.Way.{Way}
use Rattle.cell.specs.declared.command.Way.TheVariants.{Forward, Backward}
use Rattle.cell.specs.declared.numbers.UnknownCommand.{UnknownCommand}
use Rattle.cell.specs.Commands.{command_byte, command_from, goes_on, Decodes}
use Rattle.model.specs.Messages.{may_send, travels, streamless}
use Rattle.messages.specs.Headings.{owns_no_stream}

pub no_stream : (c : Command) → owns_no_stream c ≡ streamless (command_byte c)
unfolding streamless
no_stream Begin = refl
no_stream Data = refl
no_stream End = refl
no_stream Connected = refl
no_stream Sendme = refl
no_stream Drop = refl

pub goes-travels : (w : Way) (c : Command) → goes_on c w ≡ travels w (command_byte c)
unfolding may_send
goes-travels Forward Begin = refl
goes-travels Forward Data = refl
goes-travels Forward End = refl
goes-travels Forward Connected = refl
goes-travels Forward Sendme = refl
goes-travels Forward Drop = refl
goes-travels Backward Begin = refl
goes-travels Backward Data = refl
goes-travels Backward End = refl
goes-travels Backward Connected = refl
goes-travels Backward Sendme = refl
goes-travels Backward Drop = refl

-- all that travels but SENDME may be sent
pub sendme-stays : (w : Way) → false ≡ may_send w 5
unfolding may_send
sendme-stays Forward = refl
sendme-stays Backward = refl

pub travels-sends : (w : Way) (c : Command) → (c ≡ Sendme → ⊥) → travels w (command_byte c) ≡ may_send w (command_byte c)
unfolding may_send
travels-sends Forward Begin n = refl
travels-sends Forward Data n = refl
travels-sends Forward End n = refl
travels-sends Forward Connected n = refl
travels-sends Forward Sendme n = absurd (n refl)
travels-sends Forward Drop n = refl
travels-sends Backward Begin n = refl
travels-sends Backward Data n = refl
travels-sends Backward End n = refl
travels-sends Backward Connected n = refl
travels-sends Backward Sendme n = absurd (n refl)
travels-sends Backward Drop n = refl

-- a number that is no command's goes nowhere
unknown-travels : (w : Way) (b : ℕ) → command_from b ≡ None → travels w b ≡ false
unfolding may_send
unknown-travels Forward b e = grind (arith, nat_tests)
unknown-travels Backward b e = grind (arith, nat_tests)

pub no-command : (w : Way) (b : ℕ) (r : Result Command UnknownCommand) → Decodes b r → false ≡ is_ok r → false ≡ travels w b
no-command w b (Ok c) d e = cc
no-command w b (Err u) d e = sym (unknown-travels w b d.0)
