-- A sender's refusal is the answer of the end that it stands for.
use Rattle.std.proofs.Common.{◌≡◌, ℕ, Bool, Some, None, Err, Option}
use Rattle.messages.specs.declared.faults.EndFault.{EndFault}
use Rattle.messages.specs.Faults.{fault_by}
use Rattle.messages.specs.Answers.{placed, send_answer}

pub refused-by : (k : ℕ) (o : Option ℕ) (room : Bool) (co : Option ℕ) (f : EndFault) → fault_by k o ≡ Some f → Err f ≡ send_answer (placed k o) room co
refused-by k None room co f e = cc
refused-by k (Some n) room co f e = cc
