-- A fresh circuit: the invariant at the start of a run.
use Rattle.std.proofs.Common.{◌≡◌, ℕ, zero, suc, ◌<◌, List, [], ◌∷◌, map, length, get_or, sym, refl, ap, ◌∙◌, subst, append-nil, arith}
use Rattle.std.proofs.lemmas.List.{length-map}
use Rattle.cell.specs.declared.command.Way.{Way}
use Rattle.cell.specs.declared.command.Way.TheVariants.{Forward, Backward}
use Rattle.model.specs.Lists.{nth}
use Rattle.model.specs.Ends.{Rules, End}
use Rattle.model.specs.Flows.{Flow, fresh_flow, no_flow}
use Rattle.model.specs.Circuit.{Line, Relay, Circuit}
use Rattle.model.specs.Calls.{flow_at}
use Rattle.model.specs.PlainMachine.{Entry, forward_pipe, backward_pipe, pipe}
use Rattle.model.specs.Runs.{Posting, relay_flow, own_forward, own_backward, start}
use Rattle.model.specs.Law.{All, EmptyLine, FreshRelay, Fresh}
use Rattle.model.proofs.Laws.{Laws}
use Rattle.model.proofs.Stations.{Station, station, Over}
use Rattle.model.proofs.Forward.{GoodForward}
use Rattle.model.proofs.Backward.{GoodBackward}
use Rattle.model.proofs.Rows.{entry_of, plain}
use Rattle.model.proofs.Windows.{Both}
use Rattle.model.proofs.Holding.{Holds}
use Rattle.model.proofs.Steps.{Good}

-- rows with nothing in them
abbrev empty_rows : {A : Type 0} → List Line → List (List A)
empty_rows ls = map (λ l. []) ls

forward-none : (k : ℕ) (ls : List Line) → forward_pipe k (empty_rows ls) ≡ []
forward-none k [] = refl
forward-none k (l ∷ ls) = append-nil (forward_pipe k (empty_rows ls)) ∙ forward-none k ls

backward-none : (k : ℕ) (ls : List Line) → backward_pipe k (empty_rows ls) ≡ []
backward-none k [] = refl
backward-none k (l ∷ ls) = backward-none k ls

plain-none : (ls : List Line) → map (map entry_of) (empty_rows {A = Posting} ls) ≡ empty_rows {A = Entry} ls
plain-none [] = refl
plain-none (l ∷ ls) = ap (λ (r : List (List Entry)). [] ∷ r) (plain-none ls)

module _ {K S : Type 0} where
  -- ends and links of a way, side by side
  abbrev stations_of : List (End K S) → List Line → List (Station K S)
  stations_of [] ls = []
  stations_of (e ∷ es) [] = []
  stations_of (e ∷ es) (l ∷ ls) = station e l [] ∷ stations_of es ls

  stations-over : (es : List (End K S)) (ls : List Line) → length ls ≡ length es → Over es ls (empty_rows ls) (stations_of es ls)
  stations-over [] [] e = record { ends = refl; lines = refl; rows = refl }
  stations-over [] (l ∷ ls) e = absurd (omega arith)
  stations-over (x ∷ es) [] e = absurd (omega arith)
  stations-over (x ∷ es) (l ∷ ls) e =
      let o : Over es ls (empty_rows ls) (stations_of es ls) = stations-over es ls (omega arith) in
      record {
        ends = ap (λ (v : List (End K S)). x ∷ v) o.ends;
        lines = ap (λ (v : List Line). l ∷ v) o.lines;
        rows = ap (λ (v : List (List Posting)). [] ∷ v) o.rows;
      }

  fresh-flow : (rs : List (Relay K S)) (d : ℕ) → d < length rs → All FreshRelay rs → relay_flow (nth rs d) ≡ fresh_flow
  fresh-flow [] d lt a = absurd (omega arith)
  fresh-flow (r ∷ rs) zero lt a = a.0.2
  fresh-flow (r ∷ rs) (suc d) lt a = fresh-flow rs d (omega arith) a.1

  flow-each : (rs : List (Relay K S)) (d : ℕ) → d < length rs → get_or (map (λ (r : Relay K S). fresh_flow) rs) d no_flow ≡ fresh_flow
  flow-each [] d lt = absurd (omega arith)
  flow-each (r ∷ rs) zero lt = refl
  flow-each (r ∷ rs) (suc d) lt = flow-each rs d (omega arith)

fresh-both : Both fresh_flow fresh_flow [] []
fresh-both = (refl, refl)

module _ {K S : Type 0} (R : Rules K S) (L : Laws R) where
  fresh-forward : (j : ℕ) (es : List (End K S)) (ls : List Line) → length ls ≡ length es → All EmptyLine ls → GoodForward R j es (stations_of es ls)
  fresh-forward j [] [] e a = refl
  fresh-forward j [] (l ∷ ls) e a = absurd (omega arith)
  fresh-forward j (x ∷ es) [] e a = absurd (omega arith)
  fresh-forward j (x ∷ es) (l ∷ ls) e a = (es, fresh-forward (suc j) es ls (omega arith) a.1, a.0.0, refl, tt, tt, a.0.1)

  fresh-backward : (j : ℕ) (es : List (End K S)) (ls : List Line) → length ls ≡ length es → All EmptyLine ls → GoodBackward R j es (stations_of es ls)
  fresh-backward j [] [] e a = refl
  fresh-backward j [] (l ∷ ls) e a = absurd (omega arith)
  fresh-backward j (x ∷ es) [] e a = absurd (omega arith)
  fresh-backward j (x ∷ es) (l ∷ ls) e a = (es, fresh-backward (suc j) es ls (omega arith) a.1, a.0.0, refl, tt, a.0.1)

  module _ (c : Circuit K S) (f : Fresh c) where
    plain-start : plain (start c).postings ≡ (start c).rows
    plain-start =
        ap (λ (v : List (List Entry)). record { forward = v; backward = map (map entry_of) (empty_rows {A = Posting} c.backward) }) (plain-none c.forward)
        ∙ ap (λ (v : List (List Entry)). record { forward = empty_rows {A = Entry} c.forward; backward = v }) (plain-none c.backward)

    forward-start : (k : ℕ) → pipe Forward k (plain (start c).postings) ≡ []
    forward-start k = ap (pipe Forward k) plain-start ∙ forward-none k c.forward

    backward-start : (k : ℕ) → pipe Backward k (plain (start c).postings) ≡ []
    backward-start k = ap (pipe Backward k) plain-start ∙ backward-none k c.backward

    start-holds : Holds R c (start c).postings
    start-holds =
        let fs : List (End K S) = map own_forward c.relays in
        let bs : List (End K S) = map own_backward c.relays in
        let fn : length c.forward ≡ length fs = f.forward_count ∙ sym (length-map c.relays own_forward) in
        let bn : length c.backward ≡ length bs = f.backward_count ∙ sym (length-map c.relays own_backward) in
        record {
          unclosed = f.unclosed;
          forward = stations_of fs c.forward;
          backward = stations_of bs c.backward;
          forward_over = stations-over fs c.forward fn;
          backward_over = stations-over bs c.backward bn;
          forward_good = subst (λ (es : List (End K S)). GoodForward R 1 es (stations_of fs c.forward)) (sym f.forward_ends) (fresh-forward 1 fs c.forward fn f.forward_links);
          backward_good = subst (λ (es : List (End K S)). GoodBackward R 1 es (stations_of bs c.backward)) (sym f.backward_ends) (fresh-backward 1 bs c.backward bn f.backward_links);
          flows = ap length f.flows ∙ length-map c.relays (λ (r : Relay K S). fresh_flow);
          windows = λ d lt.
              let a : flow_at R c.client d ≡ fresh_flow = ap (λ (v : List Flow). get_or v d no_flow) f.flows ∙ flow-each c.relays d lt in
              let b : relay_flow (nth c.relays d) ≡ fresh_flow = fresh-flow c.relays d lt f.relays in
              rw (a, b, forward-start (suc d), backward-start (suc d)) fresh-both;
        }

    start-order : (v : Way) (k : ℕ) → [] ≡ pipe v k (start c).rows
    start-order Forward k = sym (forward-none k c.forward)
    start-order Backward k = sym (backward-none k c.backward)

    pub start-good : Good R (start c)
    start-good = record { holds = start-holds; rows = plain-start; order = start-order }
