-- The rules of a flow, command by command.
use Rattle.std.proofs.Common.{◌≡◌, ◌+◌, ◌*◌, ◌≤◌, false, refl, arith}
use Rattle.cell.specs.Commands.{command_byte}
use Rattle.cell.specs.declared.command.Command.{Command}
use Rattle.cell.specs.declared.command.Command.TheVariants.{Begin, Data, End, Connected, Sendme, Drop}
use Rattle.std.proofs.lemmas.Bool.Decides.{nat_tests}
use Rattle.model.specs.Messages.{is_data, is_sendme}
use Rattle.model.specs.Flows as flows
use Rattle.model.specs.Flows.{overruns}
use Rattle.streams.specs.declared.types.Flow.{Flow}
use Rattle.streams.specs.Views.{flow_seen}

pub other_data : (c : Command) → (c ≡ Data → ⊥) → 0 ≡ is_data (command_byte c)
unfolding is_data
other_data Begin ne = refl
other_data Data ne = absurd (ne refl)
other_data End ne = refl
other_data Connected ne = refl
other_data Sendme ne = refl
other_data Drop ne = refl

pub other_sendme : (c : Command) → (c ≡ Sendme → ⊥) → 0 ≡ is_sendme (command_byte c)
unfolding is_sendme
other_sendme Begin ne = refl
other_sendme Data ne = refl
other_sendme End ne = refl
other_sendme Connected ne = refl
other_sendme Sendme ne = absurd (ne refl)
other_sendme Drop ne = refl

-- what does not overrun leaves both counts at 1,000 or below
fits-unless : (c : Command) (f : flows.Flow) → f.window ≤ 1000 → f.unacknowledged ≤ 1000 → false ≡ overruns (command_byte c) f
    → (f.window + 100 * is_sendme (command_byte c) ≤ 1000) × (f.unacknowledged + is_data (command_byte c) ≤ 1000)
unfolding overruns is_data is_sendme
fits-unless Begin f w u e = (omega arith, omega arith)
fits-unless Data f w u e = (omega arith, grind (arith, nat_tests))
fits-unless End f w u e = (omega arith, omega arith)
fits-unless Connected f w u e = (omega arith, omega arith)
fits-unless Sendme f w u e = (grind (arith, nat_tests), omega arith)
fits-unless Drop f w u e = (omega arith, omega arith)

pub received-fits : (c : Command) (f : Flow) → false ≡ overruns (command_byte c) (flow_seen f)
    → (f.window + 100 * is_sendme (command_byte c) ≤ 1000) × (f.unacknowledged + is_data (command_byte c) ≤ 1000)
received-fits c f = fits-unless c (flow_seen f) f.small.0 f.small.1
