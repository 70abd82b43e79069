-- The run law: after every calm list of requests A, B and C stand, and the next call follows the plain machine.
use Rattle.std.proofs.Common.{◌≡◌, ℕ, suc, ◌<◌, List, [], ◌∷◌, map, length, get_or, drop, refl, ap, ◌∙◌, subst, arith}
use Rattle.cell.specs.declared.command.Way.TheVariants.{Forward, Backward}
use Rattle.model.specs.Lists.{nth}
use Rattle.model.specs.Ends.{Rules, End}
use Rattle.model.specs.Circuit.{Line, Relay, Request}
use Rattle.model.specs.Calls.{flow_at}
use Rattle.model.specs.PlainMachine.{Entry, Rows, pipe, forward_crossings, backward_crossings}
use Rattle.model.specs.Runs.{Posting, World, relay_flow, own_forward, own_backward, forward_ciphers, backward_ciphers, next, after, start, Calm}
use Rattle.model.specs.Law.{cells_of, OnLink, Standing, Lawful, RunLaw}
use Rattle.model.proofs.Laws.{Laws}
use Rattle.model.proofs.Threads.{cipher_of}
use Rattle.model.proofs.Stations.{Station, relay_at, line_at, row_at, Over}
use Rattle.model.proofs.Links.{forward-links, backward-links}
use Rattle.model.proofs.Windows.{Both}
use Rattle.model.proofs.Steps.{Good, step}
use Rattle.model.proofs.Drains.{carries-out, brings-in}
use Rattle.model.proofs.Small.{Small}
use Rattle.model.proofs.SmallCalls.{small-called, start_small}
use Rattle.model.proofs.Starts.{start-good}

module _ {K S : Type 0} (R : Rules K S) (L : Laws R) where
  -- the ciphers of a way's ends, hop by hop
  own-ciphers : (own : Relay K S → End K S) (rs : List (Relay K S)) → map cipher_of (map own rs) ≡ map (λ (r : Relay K S). (own r).cipher) rs
  own-ciphers own [] = refl
  own-ciphers own (r ∷ rs) = ap (λ (l : List K). (own r).cipher ∷ l) (own-ciphers own rs)

  -- what stands on the links of stations stands on the links over which they are
  links-over : (j : ℕ) (es : List (End K S)) (ls : List Line) (rs : List (List Posting)) (ks : List K) (ss : List (Station K S)) → Over es ls rs ss → map cipher_of es ≡ ks → OnLink R (suc j) (drop j (map cipher_of (map relay_at ss))) (cells_of (nth (map line_at ss) j)) (get_or (map row_at ss) j []) → OnLink R (suc j) (drop j ks) (cells_of (nth ls j)) (get_or rs j [])
  links-over j es ls rs ks ss o e l =
      subst (λ (v : List (List Posting)). OnLink R (suc j) (drop j ks) (cells_of (nth ls j)) (get_or v j [])) o.rows
      (subst (λ (v : List Line). OnLink R (suc j) (drop j ks) (cells_of (nth v j)) (get_or (map row_at ss) j [])) o.lines
      (subst (λ (v : List K). OnLink R (suc j) (drop j v) (cells_of (nth (map line_at ss) j)) (get_or (map row_at ss) j [])) (ap (map cipher_of) o.ends ∙ e) l))

  stands : (w : World K S) → Good R w → Small w.circuit → Standing R w
  stands w g small =
      let windows : (d : ℕ) → d < length w.circuit.relays → Both (flow_at R w.circuit.client d) (relay_flow (nth w.circuit.relays d)) (pipe Forward (suc d) w.rows) (pipe Backward (suc d) w.rows) = λ d lt. subst (λ (r : Rows Entry). Both (flow_at R w.circuit.client d) (relay_flow (nth w.circuit.relays d)) (pipe Forward (suc d) r) (pipe Backward (suc d) r)) g.rows (g.holds.windows d lt) in
      record {
        forward_rows = ap (λ (r : Rows Entry). r.forward) g.rows;
        backward_rows = ap (λ (r : Rows Entry). r.backward) g.rows;
        forward_links = λ j. links-over j (map own_forward w.circuit.relays) w.circuit.forward w.postings.forward (forward_ciphers w.circuit) g.holds.forward g.holds.forward_over (own-ciphers own_forward w.circuit.relays) (forward-links R L j 1 (suc j) w.circuit.client.forward g.holds.forward g.holds.forward_good (omega arith));
        backward_links = λ j. links-over j (map own_backward w.circuit.relays) w.circuit.backward w.postings.backward (backward_ciphers w.circuit) g.holds.backward g.holds.backward_over (own-ciphers own_backward w.circuit.relays) (backward-links R L j 1 (suc j) w.circuit.client.backward g.holds.backward g.holds.backward_good (omega arith));
        order = g.order;
        forward_window = λ d lt. (windows d lt).0;
        backward_window = λ d lt. (windows d lt).1;
        carries_out = λ s o enough place. carries-out R L s o enough place (forward_crossings 1 w.rows.forward) w g small refl;
        brings_in = λ s o enough place. brings-in R L s o enough place (backward_crossings 1 w.rows.backward) w g small refl;
      }

  lawful : (xs : List Request) (w : World K S) → Good R w → Small w.circuit → Calm R w xs → Lawful R (after R w xs)
  lawful [] w g small calm = record { standing = stands w g small; follows = λ x z e. (step R L w x g z e).0 }
  lawful (x ∷ xs) w g small calm =
      lawful xs (next R w x) (step R L w x g calm.0 calm.1).1 (small-called R w.circuit small x) calm.2

  pub run-law : RunLaw R
  run-law c f xs calm = lawful xs (start c) (start-good R L c f) (start_small c f) calm
