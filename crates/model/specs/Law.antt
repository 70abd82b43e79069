-- The law of the circuit, over whole runs.
use Rattle.std.specs.Prelude.{◌≡◌, ℕ, zero, suc, ◌+◌, ◌*◌, ◌<◌, ◌≤◌, Bool, true, false, cond, ◌||◌, List, [], ◌∷◌, ◌++◌, map, length, drop, Some, None, Option, ◌≢◌, nat_lt, slice_index_or}
use Rattle.cell.specs.Frame.{cell_number, framed, payload_of}
use Rattle.model.specs.Lists.{nth, total, first_of}
use Rattle.cell.specs.declared.command.Way.{Way}
use Rattle.cell.specs.declared.command.Way.TheVariants.{Forward, Backward}
use Rattle.model.specs.Messages.{is_data, is_sendme}
use Rattle.model.specs.Ends.{Rules}
use Rattle.model.specs.Streams.{no_streams}
use Rattle.model.specs.Flows.{fresh_flow, window_start, step}
use Rattle.model.specs.Circuit.{Line, Relay, Circuit, Call, carry, bring, Request, Refusal, Answer, refused, accepted, delivered}
use Rattle.model.specs.Calls.{flow_at, called, scratch_length, output_length}
use Rattle.model.specs.Refusals.{refusals, refusal_of}
use Rattle.model.specs.PlainMachine.{entries, fed, pipe, forward_crossings, backward_crossings}
use Rattle.model.specs.Runs.{Posting, World, is_accepted, handed_out, is_destroy, relay_flow, own_forward, own_backward, forward_ciphers, backward_ciphers, mark_given, answer, next, after, start, coincides, Calm}

---- links that hold a cell
abbrev pub holds : Line → Bool
holds l = nat_lt 0 (length l.cells)

abbrev pub any_holds : List Line → Bool
any_holds [] = false
any_holds (l ∷ ls) = holds l || any_holds ls

-- the farthest link that holds a cell, and the nearest; 0 where none does
abbrev pub farthest : List Line → ℕ
farthest [] = 0
farthest (l ∷ ls) = cond (any_holds ls) (suc (farthest ls)) (cond (holds l) 1 0)

abbrev pub nearest : List Line → ℕ
nearest [] = 0
nearest (l ∷ ls) = cond (holds l) 1 (cond (any_holds ls) (suc (nearest ls)) 0)

abbrev pub cells_of : Option Line → List (List ℕ)
cells_of None = []
cells_of (Some l) = l.cells

module _ {K S : Type 0} (R : Rules K S) where
  ---- A: what stands on a link
  -- layers removed in order, by ciphers and the numbers with which they were added
  abbrev pub peeled : List K → List ℕ → List ℕ → List ℕ
  peeled cs [] p = p
  peeled [] (n ∷ ns) p = p
  peeled (c ∷ cs) (n ∷ ns) p = peeled cs ns (R.removed c n p)

  -- the cells of link j, in order, are those of its postings: j's header, and the layers of hops j to the posting's hop over the
  -- payload that its sender sealed
  abbrev pub OnLink : ℕ → List K → List (List ℕ) → List Posting → Type 0
  OnLink j cs [] [] = Unit {0}
  OnLink j cs [] (p ∷ ps) = ⊥
  OnLink j cs (x ∷ xs) [] = ⊥
  OnLink j cs (x ∷ xs) (p ∷ ps) =
      (x ≡ framed (cell_number j) (payload_of x)) × (length p.layers + j ≡ p.entry.hop + 1) × (length p.layers ≤ length cs)
      × (peeled cs p.layers (payload_of x) ≡ p.payload) × OnLink j cs xs ps

  ---- C: n calls more, each at the farthest forward link that holds a cell, each accepted; then none holds one, and not before
  abbrev pub carry_farthest : ℕ → ℕ → World K S → Request
  carry_farthest s o w = record { call = carry (farthest w.circuit.forward); scratch = s; output = o }

  abbrev pub CarriesOut : ℕ → ℕ → ℕ → World K S → Type 0
  CarriesOut s o zero w = (any_holds w.circuit.forward ≡ false) × ((k : ℕ) → pipe Forward k w.rows ≡ [])
  CarriesOut s o (suc n) w =
      (any_holds w.circuit.forward ≡ true) × (is_accepted (answer R w (carry_farthest s o w)) ≡ true) × CarriesOut s o n (next R w (carry_farthest s o w))

  -- the same for the nearest backward link, up to a coincidence
  abbrev pub bring_nearest : ℕ → ℕ → World K S → Request
  bring_nearest s o w = record { call = bring (nearest w.circuit.backward); scratch = s; output = o }

  abbrev pub BringsIn : ℕ → ℕ → ℕ → World K S → Type 0
  BringsIn s o zero w = (any_holds w.circuit.backward ≡ false) × ((k : ℕ) → pipe Backward k w.rows ≡ [])
  BringsIn s o (suc n) w =
      (any_holds w.circuit.backward ≡ true)
      × (coincides R w (bring_nearest s o w) ≡ false
      → (is_accepted (answer R w (bring_nearest s o w)) ≡ true) × BringsIn s o n (next R w (bring_nearest s o w)))

  ---- what holds after every call
  pub record Standing (w : World K S) : Type 0 where
    -- A: the postings are the plain machine's entries
    pub forward_rows : map (map (λ (p : Posting). p.entry)) w.postings.forward ≡ w.rows.forward
    pub backward_rows : map (map (λ (p : Posting). p.entry)) w.postings.backward ≡ w.rows.backward
    -- A: and on each link are their cells
    pub forward_links : (j : ℕ) → OnLink (suc j) (drop j (forward_ciphers w.circuit)) (cells_of (nth w.circuit.forward j)) (slice_index_or w.postings.forward j [])
    pub backward_links : (j : ℕ) → OnLink (suc j) (drop j (backward_ciphers w.circuit)) (cells_of (nth w.circuit.backward j)) (slice_index_or w.postings.backward j [])
    -- A: accepted is delivered, then on the way, in order
    pub order : (v : Way) (k : ℕ) → w.accepted v k ≡ w.delivered v k ++ pipe v k w.rows
    -- B, at the hop at place d
    pub forward_window : (d : ℕ) → d < length w.circuit.relays
        → window_start ≡ (flow_at R w.circuit.client d).window + total (λ m. is_data m.command) (pipe Forward (suc d) w.rows) + (relay_flow (nth w.circuit.relays d)).unacknowledged + step * total (λ m. is_sendme m.command) (pipe Backward (suc d) w.rows)
    pub backward_window : (d : ℕ) → d < length w.circuit.relays
        → window_start ≡ (relay_flow (nth w.circuit.relays d)).window + total (λ m. is_data m.command) (pipe Backward (suc d) w.rows) + (flow_at R w.circuit.client d).unacknowledged + step * total (λ m. is_sendme m.command) (pipe Forward (suc d) w.rows)
    -- C, with buffers long enough
    pub carries_out : (s o : ℕ) → scratch_length ≤ s → output_length ≤ o → CarriesOut s o (forward_crossings 1 w.rows.forward) w
    pub brings_in : (s o : ℕ) → scratch_length ≤ s → output_length ≤ o → BringsIn s o (backward_crossings 1 w.rows.backward) w

  ---- what holds of a call's answer
  -- a bad header, no test passed, a malformed message or an overrun window
  abbrev pub NeverComes : Option Refusal → Type 0
  NeverComes None = Unit {0}
  NeverComes (Some f) = (f.number ≢ 2) × (f.number ≢ 13) × (f.number ≢ 14) × (f.number ≢ 15)

  abbrev pub Marked : Circuit K S → Call → Answer → Type 0
  Marked c x (refused f) = Unit {0}
  Marked c x accepted = Unit {0}
  Marked c x (delivered k m mark) = mark ≡ mark_given c x k m

  pub record Follows (w : World K S) (x : Request) : Type 0 where
    -- the call hands out what the plain machine delivers, and nothing else
    pub delivery : handed_out (answer R w x) ≡ (fed entries w.rows x.call (is_accepted (answer R w x))).arrival
    pub marked : Marked w.circuit x.call (answer R w x)
    pub never : NeverComes (refusal_of (answer R w x))

  pub record Lawful (w : World K S) : Type 0 where
    pub standing : Standing w
    pub follows : (x : Request) → is_destroy x.call ≡ false → coincides R w x ≡ false → Follows w x

  ---- the table: refused exactly where it says, with that number and place, and then nothing changes
  pub record Tabled (c : Circuit K S) (x : Request) : Type 0 where
    pub exact : refusal_of (called R c x).0 ≡ first_of (refusals R c x)
    pub unchanged : (f : Refusal) → (called R c x).0 ≡ refused f → (called R c x).1 ≡ c

---- a fresh circuit: one to eight hops, links empty, each hop's two ends alike, nothing sent
abbrev pub All : {A : Type 0} → (A → Type 0) → List A → Type 0
All P [] = Unit {0}
All P (x ∷ xs) = P x × All P xs

abbrev pub EmptyLine : Line → Type 0
EmptyLine l = (l.cells ≡ []) × (1 ≤ l.capacity)

abbrev pub FreshRelay : {K S : Type 0} → Relay K S → Type 0
FreshRelay r = (r.forward.layer ≡ 0) × (r.backward.layer ≡ 0) × (r.flow ≡ fresh_flow) × (r.streams ≡ no_streams)

pub record Fresh {K S : Type 0} (c : Circuit K S) : Type 0 where
  pub unclosed : c.closed ≡ false
  pub some : 1 ≤ length c.relays
  pub few : length c.relays ≤ 8
  pub forward_ends : c.client.forward ≡ map own_forward c.relays
  pub backward_ends : c.client.backward ≡ map own_backward c.relays
  pub relays : All FreshRelay c.relays
  pub flows : c.client.flows ≡ map (λ r. fresh_flow) c.relays
  pub streams : c.client.streams ≡ no_streams
  pub forward_count : length c.forward ≡ length c.relays
  pub backward_count : length c.backward ≡ length c.relays
  pub forward_links : All EmptyLine c.forward
  pub backward_links : All EmptyLine c.backward

---- From a fresh circuit, after any list of calls:
-- the table is exact, whatever came before, a coincidence or a destroy too;
abbrev pub TableLaw : {K S : Type 0} → Rules K S → Type 0
TableLaw {K} {S} R = (c : Circuit K S) → Fresh c → (xs : List Request) (x : Request) → Tabled R (after R (start c) xs).circuit x

-- and until a destroy or a backward coincidence A, B and C stand, and every further call follows the plain machine.
abbrev pub RunLaw : {K S : Type 0} → Rules K S → Type 0
RunLaw {K} {S} R = (c : Circuit K S) → Fresh c → (xs : List Request) → Calm R (start c) xs → Lawful R (after R (start c) xs)

pub record TheLaw {K S : Type 0} (R : Rules K S) : Type 0 where
  pub table : TableLaw R
  pub run : RunLaw R
