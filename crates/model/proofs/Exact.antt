-- Each call is refused exactly where the table says: the tests of the calls, one inside another, against the table's flat rows.
use Rattle.std.proofs.Common.{◌≡◌, ℕ, suc, ◌+◌, ◌-◌, ◌<◌, ◌≤◌, Bool, true, false, cond, not, ◌&&◌, ◌||◌, eqb, ltb, leb, List, [], ◌∷◌, ◌++◌, map, length, Some, None, Option, sym, refl, ap, ◌∙◌, arith}
use Rattle.std.proofs.lemmas.Bool.{leb-false, eqb-false}
use Rattle.cell.specs.Payload.{Message, blank, command_of}
use Rattle.cell.specs.Frame.{payload_of}
use Rattle.cell.specs.declared.command.Way.TheVariants.{Forward, Backward}
use Rattle.model.specs.Lists.{nth, first_of}
use Rattle.model.specs.Messages.{sendme, is_data, may_send, well_formed}
use Rattle.model.specs.Ends.{Rules, layer_limit, recognises, worn_out, coincidence, recognised_at, unwrapped}
use Rattle.model.specs.Streams.{client_sends, relay_sends, is_broken}
use Rattle.model.specs.Flows.{Flow, step, message_limit, overruns, acknowledged}
use Rattle.model.specs.Circuit.{Line, is_full, Relay, Circuit, Call, send, carry, reply, bring, acknowledge, destroy, Request, Refusal, Answer}
use Rattle.model.specs.Calls.{refusal, headed, stops, passes_on, delivers, flow_at, client_found, relay_removes, send_unless, send_on, send_by, reply_on, reply_by, reply_at, reply_sendme, carry_on, carry_to, carry_cell, carry_at, arrived_at, arrive_cell, arrive, bring_cell, bring_at, act, lacks_room, asks_for, gated, called}
use Rattle.model.specs.Refusals.{Row, row, full_line, full_at, oldest, oldest_of, oldest_at, coincidence_row, send_rows, client_acknowledge_rows, reply_rows, relay_acknowledge_rows, carry_rows, found_rows, arrive_rows, bring_rows, call_rows, refusals, refusal_of}
use Rattle.model.proofs.Places.{nth-within, nth_past}
use Rattle.model.proofs.Small.{Small, relay-can-receive, relay-can-pass, client-can-receive, client-can-send, relay-can-send}
use Rattle.model.proofs.SmallCalls.{in-range}

-- a test that never holds where the first fails
or-idle : (a b : Bool) → (a ≡ false → b ≡ false) → (a || b) ≡ a
or-idle true b h = refl
or-idle false b h = h refl

-- numbers of the sending end, at its hop
abbrev placed : ℕ → List (Bool × ℕ) → List Row
placed k ts = map (λ (t : Bool × ℕ). row t.1 t.0 k) ts

abbrev numbered : ℕ → Option ℕ → Option Refusal
numbered k None = None
numbered k (Some n) = Some (refusal n k)

numbered-cond : (k : ℕ) (b : Bool) (n : ℕ) (o : Option ℕ) → cond b (Some (refusal n k)) (numbered k o) ≡ numbered k (cond b (Some n) o)
numbered-cond k true n o = refl
numbered-cond k false n o = refl

first-placed : (k : ℕ) (ts : List (Bool × ℕ)) → first_of (placed k ts) ≡ numbered k (first_of ts)
first-placed k [] = refl
first-placed k (t ∷ ts) = ap (cond t.0 (Some (refusal t.1 k))) (first-placed k ts) ∙ numbered-cond k t.0 t.1 (first_of ts)

flip : {A : Type 0} (b : Bool) (x y : A) → cond b x y ≡ cond (not b) y x
flip true x y = refl
flip false x y = refl

module _ {K S : Type 0} where
  refusal-cond : (b : Bool) (x y : Answer × Circuit K S) → refusal_of (cond b x y).0 ≡ cond b (refusal_of x.0) (refusal_of y.0)
  refusal-cond true x y = refl
  refusal-cond false x y = refl

  ---- the tests of a list, then the rest
  gated-exact : (c : Circuit K S) (ts rows : List Row) (y : Answer × Circuit K S) → (first_of ts ≡ None → refusal_of y.0 ≡ first_of rows)
      → refusal_of (gated c (first_of ts) y).0 ≡ first_of (ts ++ rows)
  gated-exact c [] rows y h = h refl
  gated-exact c (t ∷ ts) rows y h = go t.0 h (gated-exact c ts rows y)
    where
      go : (b : Bool) → (cond b (Some t.1) (first_of ts) ≡ None → refusal_of y.0 ≡ first_of rows)
          → ((first_of ts ≡ None → refusal_of y.0 ≡ first_of rows) → refusal_of (gated c (first_of ts) y).0 ≡ first_of (ts ++ rows))
          → refusal_of (gated c (cond b (Some t.1) (first_of ts)) y).0 ≡ cond b (Some t.1) (first_of (ts ++ rows))
      go true h ih = refl
      go false h ih = ih h

  placed-exact : (c : Circuit K S) (k : ℕ) (ts : List (Bool × ℕ)) (rows : List Row) (y : Answer × Circuit K S) → refusal_of y.0 ≡ first_of rows
      → refusal_of (gated c (numbered k (first_of ts)) y).0 ≡ first_of (placed k ts ++ rows)
  placed-exact c k ts rows y h = ap (λ o. refusal_of (gated c o y).0) (sym (first-placed k ts)) ∙ gated-exact c (placed k ts) rows y (λ _. h)

module _ {K S : Type 0} (R : Rules K S) where
  send_by-gated : (c : Circuit K S) (d : ℕ) (f : Flow) (m : Message) (o : Option ℕ)
      → send_by R c d f m o ≡ gated c (numbered (d + 1) o) (send_on R c d f m (nth c.forward 0))
  send_by-gated c d f m None = refl
  send_by-gated c d f m (Some n) = refl

  reply_by-gated : (c : Circuit K S) (i : ℕ) (r : Relay K S) (f : Flow) (m : Message) (o : Option ℕ)
      → reply_by R c i r f m o ≡ gated c (numbered (i + 1) o) (reply_on R c i r f m (nth c.backward i))
  reply_by-gated c i r f m None = refl
  reply_by-gated c i r f m (Some n) = refl

  ---- sending from the client
  send_unless-exact : (c : Circuit K S) (d : ℕ) (f : Flow) (m : Message) (l : Line) (o : Option ℕ)
      → refusal_of (send_unless R c d f m l o).0 ≡ first_of (coincidence_row o ∷ [])
  send_unless-exact c d f m l (Some j) = refl
  send_unless-exact c d f m l None = refl

  send_on-exact : (c : Circuit K S) (d : ℕ) (f : Flow) (m : Message) (o : Option Line) → nth c.forward 0 ≡ o → 0 < length c.forward
      → refusal_of (send_on R c d f m o).0 ≡ first_of (row 3 (full_line o) 1 ∷ coincidence_row (coincidence R c.client.forward d (blank m)) ∷ [])
  send_on-exact c d f m None e lt = absurd (omega (arith, nth_past c.forward 0 e))
  send_on-exact c d f m (Some l) e lt =
      refusal-cond (is_full l) _ _ ∙ ap (cond (is_full l) (Some (refusal 3 1))) (send_unless-exact c d f m l (coincidence R c.client.forward d (blank m)))

  send_by-exact : (c : Circuit K S) → Small c → (k : ℕ) (f : Flow) (m : Message) (ts : List (Bool × ℕ)) → 0 < k → k ≤ length c.relays
      → refusal_of (send_by R c (k - 1) f m (first_of ts)).0 ≡ first_of (placed k ts ++ (row 3 (full_at c.forward 1) 1 ∷ coincidence_row (coincidence R c.client.forward (k - 1) (blank m)) ∷ []))
  send_by-exact c s k f m ts lo hi =
      let place : k - 1 + 1 ≡ k = omega arith in
      rw (send_by-gated c (k - 1) f m (first_of ts), place)
      (placed-exact c k ts _ _ (send_on-exact c (k - 1) f m (nth c.forward 0) refl (omega (arith, s.forward_lines))))

  client-idle : (c : Circuit K S) → Small c → (k : ℕ) → 0 < k → k ≤ length c.relays
      → (leb message_limit (flow_at R c.client (k - 1)).sent || worn_out c.client.forward (k - 1)) ≡ leb message_limit (flow_at R c.client (k - 1)).sent
  client-idle c s k lo hi = or-idle _ _ (λ e. client-can-send R c s (k - 1) (omega arith) (leb-false message_limit (flow_at R c.client (k - 1)).sent e))

  send-exact : (c : Circuit K S) → Small c → (k : ℕ) (m : Message) → 0 < k → k ≤ length c.relays → refusal_of (act R c (send k m)).0 ≡ first_of (send_rows R c k m)
  send-exact c s k m lo hi =
      let f : Flow = flow_at R c.client (k - 1) in
      let place : k - 1 + 1 ≡ k = omega arith in
      rw (client-idle c s k lo hi, place)
      (send_by-exact c s k f m ((not (may_send Forward m.command), 5) ∷ (ltb 498 (length m.content), 6) ∷ (is_broken (client_sends k m.command m.stream c.client.streams), 8) ∷ (ltb f.window (is_data m.command), 9) ∷ (leb message_limit f.sent, 10) ∷ []) lo hi)

  client-acknowledge-exact : (c : Circuit K S) → Small c → (k : ℕ) → 0 < k → k ≤ length c.relays
      → refusal_of (act R c (acknowledge k Backward)).0 ≡ first_of (client_acknowledge_rows R c k)
  client-acknowledge-exact c s k lo hi =
      let f : Flow = flow_at R c.client (k - 1) in
      rw (client-idle c s k lo hi) (send_by-exact c s k (acknowledged f) sendme ((ltb f.unacknowledged step, 12) ∷ (leb message_limit f.sent, 10) ∷ []) lo hi)

  ---- sending from a relay
  reply_on-exact : (c : Circuit K S) (i : ℕ) (r : Relay K S) (f : Flow) (m : Message) (o : Option Line) → nth c.backward i ≡ o → i < length c.backward
      → refusal_of (reply_on R c i r f m o).0 ≡ first_of (row 3 (full_line o) (i + 1) ∷ [])
  reply_on-exact c i r f m None e lt = absurd (omega (arith, nth_past c.backward i e))
  reply_on-exact c i r f m (Some l) e lt = refusal-cond (is_full l) _ _

  reply_by-exact : (c : Circuit K S) → Small c → (k : ℕ) (r : Relay K S) (f : Flow) (m : Message) (ts : List (Bool × ℕ)) → 0 < k → k ≤ length c.relays
      → refusal_of (reply_by R c (k - 1) r f m (first_of ts)).0 ≡ first_of (placed k ts ++ (row 3 (full_at c.backward k) k ∷ []))
  reply_by-exact c s k r f m ts lo hi =
      let place : k - 1 + 1 ≡ k = omega arith in
      let line : refusal_of (reply_on R c (k - 1) r f m (nth c.backward (k - 1))).0 ≡ first_of (row 3 (full_at c.backward k) k ∷ []) = reply_on-exact c (k - 1) r f m (nth c.backward (k - 1)) refl (omega (arith, s.backward_lines)) ∙ ap (λ p. first_of (row 3 (full_at c.backward k) p ∷ [])) place in
      ap (λ (y : Answer × Circuit K S). refusal_of y.0) (reply_by-gated c (k - 1) r f m (first_of ts))
      ∙ ap (λ p. refusal_of (gated c (numbered p (first_of ts)) (reply_on R c (k - 1) r f m (nth c.backward (k - 1)))).0) place
      ∙ placed-exact c k ts _ _ line

  relay-idle : (c : Circuit K S) → Small c → (i : ℕ) (r : Relay K S) → nth c.relays i ≡ Some r
      → (leb message_limit r.flow.sent || leb layer_limit r.backward.layer) ≡ leb message_limit r.flow.sent
  relay-idle c s i r e = or-idle _ _ (λ h. relay-can-send c s i r e (leb-false message_limit r.flow.sent h))

  reply-exact : (c : Circuit K S) → Small c → (k : ℕ) (m : Message) (o : Option (Relay K S)) → nth c.relays (k - 1) ≡ o → 0 < k → k ≤ length c.relays
      → refusal_of (reply_at R c (k - 1) m o).0 ≡ first_of (reply_rows R c k m o)
  reply-exact c s k m None e lo hi = absurd (omega (arith, nth_past c.relays (k - 1) e))
  reply-exact c s k m (Some r) e lo hi =
      let place : k - 1 + 1 ≡ k = omega arith in
      rw (relay-idle c s (k - 1) r e, place)
      (reply_by-exact c s k r r.flow m ((not (may_send Backward m.command), 5) ∷ (ltb 498 (length m.content), 6) ∷ (is_broken (relay_sends k m.command m.stream r.streams), 8) ∷ (ltb r.flow.window (is_data m.command), 9) ∷ (leb message_limit r.flow.sent, 10) ∷ []) lo hi)

  relay-acknowledge-exact : (c : Circuit K S) → Small c → (k : ℕ) (o : Option (Relay K S)) → nth c.relays (k - 1) ≡ o → 0 < k → k ≤ length c.relays
      → refusal_of (reply_sendme R c (k - 1) o).0 ≡ first_of (relay_acknowledge_rows R c k o)
  relay-acknowledge-exact c s k None e lo hi = absurd (omega (arith, nth_past c.relays (k - 1) e))
  relay-acknowledge-exact c s k (Some r) e lo hi =
      rw (relay-idle c s (k - 1) r e)
      (reply_by-exact c s k r (acknowledged r.flow) sendme ((ltb r.flow.unacknowledged step, 12) ∷ (leb message_limit r.flow.sent, 10) ∷ []) lo hi)

  ---- carrying
  carry_on-exact : (c : Circuit K S) (i : ℕ) (r : Relay K S) (l : Line) (xs : List (List ℕ)) (y : List ℕ) (o : Option Line) → nth c.forward (i + 1) ≡ o
      → i + 1 < length c.forward → refusal_of (carry_on R c i r l xs y o).0 ≡ cond (full_line o) (Some (refusal 3 (i + 1 + 1))) None
  carry_on-exact c i r l xs y None e lt = absurd (omega (arith, nth_past c.forward (i + 1) e))
  carry_on-exact c i r l xs y (Some g) e lt =
      let place : i + 2 ≡ i + 1 + 1 = omega arith in
      refusal-cond (is_full g) _ _ ∙ ap (λ p. cond (is_full g) (Some (refusal 3 p)) None) place

  -- a relay's tests, with its layer below the limit
  carry_to-exact : (c : Circuit K S) (i : ℕ) (r : Relay K S) (l : Line) (xs : List (List ℕ)) (y : List ℕ) (k : ℕ) (m : Message) (mark : ℕ)
      (worn passes formed over last full : Bool) → worn ≡ false
      → (last ≡ false → refusal_of (carry_to R c i r l xs y passes_on).0 ≡ cond full (Some (refusal 3 (k + 1))) None)
      → refusal_of (carry_to R c i r l xs y (cond worn (stops (refusal 10 k)) (cond passes (cond (not formed) (stops (refusal 14 k)) (cond over (stops (refusal 15 k)) (delivers m mark))) (cond last (stops (refusal 13 k)) passes_on)))).0 ≡ first_of (row 13 (not passes && last) k ∷ row 14 (passes && not formed) k ∷ row 15 (passes && over) k ∷ row 3 (not passes && full) (k + 1) ∷ [])
  carry_to-exact c i r l xs y k m mark true passes formed over last full e h = let z : ◌≡◌ {A = ℕ} 0 1 = cc in absurd (omega arith)
  carry_to-exact c i r l xs y k m mark false true true true last full e h = refl
  carry_to-exact c i r l xs y k m mark false true true false last full e h = refl
  carry_to-exact c i r l xs y k m mark false true false over last full e h = refl
  carry_to-exact c i r l xs y k m mark false false formed over true full e h = refl
  carry_to-exact c i r l xs y k m mark false false formed over false full e h = h refl

  carry_cell-exact : (c : Circuit K S) → Small c → (i : ℕ) (r : Relay K S) (l : Line) (xs : List (List ℕ)) → nth c.relays i ≡ Some r
      → nth c.forward i ≡ Some l → l.cells ≡ xs → refusal_of (carry_cell R c i r l xs).0 ≡ first_of (carry_rows R c (i + 1) (Some r) (oldest xs))
  carry_cell-exact c s i r l [] er el q = refl
  carry_cell-exact c s i r l (x ∷ xs) er el q =
      let y : List ℕ = relay_removes R r (payload_of x) in
      let next : i + 1 + 1 - 1 ≡ i + 1 = omega arith in
      let onward : eqb (i + 1) (length c.relays) ≡ false → refusal_of (carry_to R c i r l xs y passes_on).0 ≡ cond (full_at c.forward (i + 1 + 1)) (Some (refusal 3 (i + 1 + 1))) None = λ e. carry_on-exact c i r l xs y (nth c.forward (i + 1)) refl (omega (arith, s.forward_lines, nth-within c.relays i r er, eqb-false (i + 1) (length c.relays) e)) ∙ ap (λ p. cond (full_line (nth c.forward p)) (Some (refusal 3 (i + 1 + 1))) None) (sym next) in
      refusal-cond (headed (i + 1) x) _ _ ∙ flip (headed (i + 1) x) _ _
      ∙ ap (cond (not (headed (i + 1) x)) (Some (refusal 2 (i + 1))))
      (carry_to-exact c i r l xs y (i + 1) _ _ (leb layer_limit r.forward.layer) (recognises R.tags r.forward.digest y) (well_formed Forward y) (overruns (command_of y) r.flow) (eqb (i + 1) (length c.relays)) (full_at c.forward (i + 1 + 1)) (relay-can-receive c s i r l x xs er el q) onward)

  carry_at-exact : (c : Circuit K S) → Small c → (i : ℕ) (o : Option (Relay K S)) (p : Option Line) → i < length c.relays → nth c.relays i ≡ o
      → nth c.forward i ≡ p → refusal_of (carry_at R c i o p).0 ≡ first_of (carry_rows R c (i + 1) o (oldest_of p))
  carry_at-exact c s i None p lt er el = absurd (omega (arith, nth_past c.relays i er))
  carry_at-exact c s i (Some r) None lt er el = absurd (omega (arith, nth_past c.forward i el, s.forward_lines))
  carry_at-exact c s i (Some r) (Some l) lt er el = carry_cell-exact c s i r l l.cells er el refl

  ---- bringing to the client
  delivery-exact : (c : Circuit K S) (l : Line) (xs : List (List ℕ)) (p : List ℕ) (d : ℕ) (m : Message) (mark : ℕ) (formed over : Bool)
      → refusal_of (arrived_at R c l xs p (cond (not formed) (stops (refusal 14 (d + 1))) (cond over (stops (refusal 15 (d + 1))) (delivers m mark))) (Some d)).0 ≡ first_of (row 14 (not formed) (d + 1) ∷ row 15 over (d + 1) ∷ [])
  delivery-exact c l xs p d m mark false over = refl
  delivery-exact c l xs p d m mark true true = refl
  delivery-exact c l xs p d m mark true false = refl

  found-exact : (c : Circuit K S) → Small c → (l : Line) (xs : List (List ℕ)) (p : List ℕ) (o : Option ℕ)
      → refusal_of (arrived_at R c l xs p (client_found R c.client p o) o).0 ≡ first_of (found_rows R c p o)
  found-exact c s l xs p None = ap (λ n. Some (refusal 13 n)) s.backward_ends
  found-exact c s l xs p (Some d) =
      let y : List ℕ = unwrapped R (suc d) c.client.backward p in
      delivery-exact c l xs p d _ _ (well_formed Backward y) (overruns (command_of y) (flow_at R c.client d))

  arrive_cell-exact : (c : Circuit K S) → Small c → (l : Line) (xs : List (List ℕ)) → nth c.backward 0 ≡ Some l → l.cells ≡ xs
      → refusal_of (arrive_cell R c l xs).0 ≡ first_of (arrive_rows R c (oldest xs))
  arrive_cell-exact c s l [] el q = refl
  arrive_cell-exact c s l (x ∷ xs) el q =
      refusal-cond (headed 1 x) _ _ ∙ flip (headed 1 x) _ _
      ∙ ap (cond (not (headed 1 x)) (Some (refusal 2 1)))
      (rw (client-can-receive c s l x xs el q) (found-exact c s l xs (payload_of x) (recognised_at R c.client.backward (payload_of x))))

  arrive-exact : (c : Circuit K S) → Small c → (o : Option Line) → 0 < length c.relays → nth c.backward 0 ≡ o
      → refusal_of (arrive R c o).0 ≡ first_of (arrive_rows R c (oldest_of o))
  arrive-exact c s None lt el = absurd (omega (arith, nth_past c.backward 0 el, s.backward_lines))
  arrive-exact c s (Some l) lt el = arrive_cell-exact c s l l.cells el refl

  ---- bringing past a relay
  bring_cell-exact : (c : Circuit K S) → Small c → (i : ℕ) (r : Relay K S) (l g : Line) (xs : List (List ℕ)) → nth c.relays i ≡ Some r
      → nth c.backward (i + 1) ≡ Some l → nth c.backward i ≡ Some g → l.cells ≡ xs
      → refusal_of (bring_cell R c i r l g xs).0 ≡ first_of (bring_rows R c (i + 2) (oldest xs))
  bring_cell-exact c s i r l g [] er el eg q = refl
  bring_cell-exact c s i r l g (x ∷ xs) er el eg q =
      let place : i + 1 ≡ i + 2 - 1 = omega arith in
      let there : nth c.backward (i + 2 - 1 - 1) ≡ Some g = ap (nth c.backward) (omega arith) ∙ eg in
      refusal-cond (headed (i + 2) x) _ _ ∙ flip (headed (i + 2) x) _ _
      ∙ ap (cond (not (headed (i + 2) x)) (Some (refusal 2 (i + 2))))
      (rw (relay-can-pass c s i r l x xs er el q, there) (refusal-cond (is_full g) _ _ ∙ ap (λ k. cond (is_full g) (Some (refusal 3 k)) None) place))

  bring_at-exact : (c : Circuit K S) → Small c → (i : ℕ) (o : Option (Relay K S)) (p q : Option Line) → i + 1 < length c.relays → nth c.relays i ≡ o
      → nth c.backward (i + 1) ≡ p → nth c.backward i ≡ q → refusal_of (bring_at R c i o p q).0 ≡ first_of (bring_rows R c (i + 2) (oldest_of p))
  bring_at-exact c s i None p q lt er el eg = absurd (omega (arith, nth_past c.relays i er))
  bring_at-exact c s i (Some r) None q lt er el eg = absurd (omega (arith, nth_past c.backward (i + 1) el, s.backward_lines))
  bring_at-exact c s i (Some r) (Some l) None lt er el eg = absurd (omega (arith, nth_past c.backward i eg, s.backward_lines))
  bring_at-exact c s i (Some r) (Some l) (Some g) lt er el eg = bring_cell-exact c s i r l g l.cells er el eg refl

  ---- all calls
  bring-exact : (c : Circuit K S) → Small c → (j : ℕ) → 0 < j → j ≤ length c.relays → (b : Bool) → eqb j 1 ≡ b
      → refusal_of (cond b (arrive R c (nth c.backward 0)) (bring_at R c (j - 2) (nth c.relays (j - 2)) (nth c.backward (j - 1)) (nth c.backward (j - 2)))).0 ≡ first_of (cond b (arrive_rows R c (oldest_at c.backward 1)) (bring_rows R c j (oldest_at c.backward j)))
  bring-exact c s j lo hi true e = arrive-exact c s (nth c.backward 0) (omega arith) refl
  bring-exact c s j lo hi false e =
      let more : 1 < j = omega (arith, eqb-false j 1 e) in
      let place : j - 2 + 2 ≡ j = omega arith in
      let link : j - 2 + 1 ≡ j - 1 = omega arith in
      bring_at-exact c s (j - 2) (nth c.relays (j - 2)) (nth c.backward (j - 1)) (nth c.backward (j - 2)) (omega arith) refl (ap (nth c.backward) link) refl
      ∙ ap (λ k. first_of (bring_rows R c k (oldest_at c.backward j))) place

  act-exact : (c : Circuit K S) → Small c → (x : Call) → 0 < asks_for x → asks_for x ≤ length c.relays → refusal_of (act R c x).0 ≡ first_of (call_rows R c x)
  act-exact c s (send k m) lo hi = send-exact c s k m lo hi
  act-exact c s (carry j) lo hi =
      let place : j - 1 + 1 ≡ j = omega arith in
      carry_at-exact c s (j - 1) (nth c.relays (j - 1)) (nth c.forward (j - 1)) (omega arith) refl refl
      ∙ ap (λ k. first_of (carry_rows R c k (nth c.relays (j - 1)) (oldest_at c.forward j))) place
  act-exact c s (reply k m) lo hi = reply-exact c s k m (nth c.relays (k - 1)) refl lo hi
  act-exact c s (bring j) lo hi = bring-exact c s j lo hi (eqb j 1) refl
  act-exact c s (acknowledge k Forward) lo hi = relay-acknowledge-exact c s k (nth c.relays (k - 1)) refl lo hi
  act-exact c s (acknowledge k Backward) lo hi = client-acknowledge-exact c s k lo hi
  act-exact c s destroy lo hi = refl

  pub called-exact : (c : Circuit K S) → Small c → (x : Request) → refusal_of (called R c x).0 ≡ first_of (refusals R c x)
  called-exact c s x =
      gated-exact c (row 16 c.closed 0 ∷ row 17 (lacks_room x x.call) 0 ∷ row 7 (eqb (asks_for x.call) 0 || ltb (length c.relays) (asks_for x.call)) (asks_for x.call) ∷ []) (call_rows R c x.call) (act R c x.call)
      (λ e. act-exact c s x.call (in-range c x e).0 (in-range c x e).1)
