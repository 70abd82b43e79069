-- Points at which the rules are worked out: a window run down, an acknowledgement that is due, a number begun twice.
use Rattle.std.specs.Prelude.{◌≡◌, ℕ, zero, suc, true, false, [], Some, None, Option}
use Rattle.model.specs.Messages.{message}
use Rattle.model.specs.Flows.{Flow, fresh_flow, posted, received}
use Rattle.model.specs.Streams.{Streams, no_streams, client_sends, or_unchanged}
use Rattle.model.specs.Calls.{sending_refusal, acknowledge_refusal}

-- n DATA were sent, one after the other
abbrev pub after_sending : ℕ → Flow → Flow
after_sending zero f = f
after_sending (suc n) f = posted 2 (after_sending n f)

-- n DATA were delivered
abbrev pub after_delivery : ℕ → Flow → Flow
after_delivery zero f = f
after_delivery (suc n) f = received 2 (after_delivery n f)

-- BEGIN of stream n at hop k, where nothing else stands in the way
abbrev pub begin_refusal : ℕ → ℕ → Streams → Option ℕ
begin_refusal k n s = sending_refusal true (client_sends k 1 n s) fresh_flow false (message 1 n [])

-- DATA of a stream whose rule allows it
abbrev pub data_refusal : Streams → Flow → Option ℕ
data_refusal s f = sending_refusal true (Some s) f false (message 2 1 [])

abbrev pub after_begin : ℕ → ℕ → Streams → Streams
after_begin k n s = or_unchanged s (client_sends k 1 n s)

pub record WorkedPoints : Type 0 where
  pub window : (after_sending 1000 fresh_flow).window ≡ 0
  pub data-1000 : (s : Streams) → data_refusal s (after_sending 999 fresh_flow) ≡ None
  pub data-1001 : (s : Streams) → data_refusal s (after_sending 1000 fresh_flow) ≡ Some 9
  pub not-due : acknowledge_refusal (after_delivery 99 fresh_flow) false ≡ Some 12
  pub due : acknowledge_refusal (after_delivery 100 fresh_flow) false ≡ None
  pub begin-9 : (k : ℕ) → begin_refusal k 9 no_streams ≡ None
  pub begin-9-again : (k j : ℕ) → begin_refusal j 9 (after_begin k 9 no_streams) ≡ Some 8
  pub begin-10 : (k j : ℕ) → begin_refusal j 10 (after_begin k 9 no_streams) ≡ None
