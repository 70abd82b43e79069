-- What a sending end answers, and what is left where it refuses. The host says whether there is room for a payload that goes on.
use Rattle.std.specs.Prelude.{ℕ, ◌+◌, Bool, true, false, cond, Some, None, Ok, Err, Option, Result}
use Rattle.model.specs.Circuit.{Refusal}
use Rattle.model.specs.Calls.{refusal}
use Rattle.messages.specs.declared.faults.EndFault.{EndFault}
use Rattle.messages.specs.Faults.{fault_of}

abbrev pub placed : ℕ → Option ℕ → Option Refusal
placed k None = None
placed k (Some n) = Some (refusal n k)

abbrev pub unless_coincides : Option ℕ → Result Bool EndFault
unless_coincides None = Ok true
unless_coincides (Some j) = Err (fault_of 11 (j + 1))

-- held for want of room, refused for a coincidence, or sent
abbrev pub if_room : Bool → Option ℕ → Result Bool EndFault
if_room room o = cond room (unless_coincides o) (Ok false)

-- refused, or as the room says
abbrev pub send_answer : Option Refusal → Bool → Option ℕ → Result Bool EndFault
send_answer (Some f) room o = Err (fault_of f.number f.place)
send_answer None room o = if_room room o

-- the same where there is always room
abbrev pub alone : Result Bool EndFault → Result (Unit {0}) EndFault
alone (Ok b) = Ok tt
alone (Err f) = Err f

-- what was sent changes something, and nothing else does
abbrev pub if_sent : {A : Type 0} → Result Bool EndFault → A → A → A
if_sent (Ok true) new old = new
if_sent (Ok false) new old = old
if_sent (Err f) new old = old
