-- The commands of a relay payload, their bytes, and the ways that they go; the numbers of a cell's refusals.
use Rattle.std.specs.Prelude.{◌≡◌, ℕ, Bool, true, false, cond, Some, None, Option, Result, MatchResult, ◌==◌}
use Rattle.cell.specs.declared.command.Command.{Command}
use Rattle.cell.specs.declared.command.Command.TheVariants.{Begin, Data, End, Connected, Sendme, Drop}
use Rattle.cell.specs.declared.command.Way.{Way}
use Rattle.cell.specs.declared.command.Way.TheVariants.{Forward, Backward}
use Rattle.cell.specs.declared.numbers.UnknownCommand.{UnknownCommand}
use Rattle.cell.specs.declared.error.CellError.{CellError}
use Rattle.cell.specs.declared.error.CellError.TheVariants.{Length, Header, TooLong}

abbrev pub command_byte : Command → ℕ
command_byte Begin = 1
command_byte Data = 2
command_byte End = 3
command_byte Connected = 4
command_byte Sendme = 5
command_byte Drop = 10

abbrev pub command_from : ℕ → Option Command
command_from b =
    cond (b == 1) (Some Begin)
    (cond (b == 2) (Some Data)
    (cond (b == 3) (Some End)
    (cond (b == 4) (Some Connected)
    (cond (b == 5) (Some Sendme)
    (cond (b == 10) (Some Drop) None)))))

-- a byte is read as the command that it stands for; a byte that stands for none is given back
abbrev pub Decodes : ℕ → Result Command UnknownCommand → Type 0
Decodes byte r =
    MatchResult r (λ c. (command_from byte ≡ Some c) × (command_byte c ≡ byte)) (λ e. (command_from byte ≡ None) × (e.0 ≡ byte))

-- a command is written as its byte, which is read as the command again
abbrev pub Encodes : Command → ℕ → Type 0
Encodes c byte = (byte ≡ command_byte c) × (command_from byte ≡ Some c)

-- BEGIN goes only from the client to a hop, CONNECTED only back
abbrev pub goes_on : Command → Way → Bool
goes_on Begin Forward = true
goes_on Begin Backward = false
goes_on Data Forward = true
goes_on Data Backward = true
goes_on End Forward = true
goes_on End Backward = true
goes_on Connected Forward = false
goes_on Connected Backward = true
goes_on Sendme Forward = true
goes_on Sendme Backward = true
goes_on Drop Forward = true
goes_on Drop Backward = true

abbrev pub cell_error_number : CellError → ℕ
cell_error_number Length = 1
cell_error_number Header = 2
cell_error_number TooLong = 6
