-- The payload is delivered: it is the hop's message, and the client has taken it.
use Rattle.std.proofs.Common.{rules as std_rules, ◌≡◌, ◌+◌, ◌<◌, map, length, set, vec_items, refl, ap, ◌∙◌, arith}
use Rattle.std.proofs.lemmas.List.{length-map, map-set}
use Rattle.std.proofs.lemmas.Bool.{cond-true}
use Rattle.cell.specs.Payload.{command_of, zeroed}
use Rattle.model.specs.Ends.{advanced}
use Rattle.model.specs.Flows.{received}
use Rattle.model.specs.Calls.{flow_at}
use Rattle.streams.specs.Views.{flow_seen}
use Rattle.rows.specs.Views.{row_seen}
use Rattle.rows.specs.Rows.{advanced_to, can_advance}
use Rattle.hops.specs.Views.{rules}
use Rattle.rows.proofs.Walks.{can-advance}
use Rattle.messages.specs.Delivery.{handed}
use Rattle.client.specs.Views.{client_seen}
use Rattle.client.proofs.Sends.{same-client}
use Rattle.client.proofs.Finds.{arrives-here, took-here}
use Rattle.client.proofs.parts.Client.take_in.Goals as goal

pub returns-clause-client : goal.returns-clause-client
returns-clause-client g c =
    let R = rules g.C.Cipher g.D.Digest in
    let was = c.args.self.now in
    let cl = client_seen {C = g.row.C.Denot} g.D.Digest was in
    let d = c.args.d in
    let y = c.args.bare.now in
    let old = c.flow-flow.ensures in
    let long : length y ≡ 509 = search std_rules in
    let answer = c.in_ok-handed.ensures.answer ∙ ap (handed (d + 1)) (arrives-here R cl d (flow_seen c.flow-flow.result) y long old) in
    let here = took-here R cl d y c.args.payload.now c.in_ok-handed.handed answer in
    let s = g.D.Digest.state c.args.taken in
    let near : d < length cl.backward = simp length-map (omega (arith, was.backward.ends.ok.0)) in
    let backward : row_seen {C = g.row.C.Denot} g.D.Digest c.advance.new.self ≡ advanced R cl.backward d (zeroed y) =
    c.advance.ensures.ends ∙ cond-true (can_advance cl.backward d) (advanced_to cl.backward d s) cl.backward (can-advance cl.backward d near c.requires.unworn) ∙ c.requires.taken in
    let new = c.deliver.new.flow in
    let flows : map flow_seen (set (vec_items was.flows) d new) ≡ set cl.flows d (received (command_of y) (flow_at R cl d)) =
    map-set flow_seen (vec_items was.flows) d new ∙ ap (set cl.flows d) (c.in_ok-handed.ensures.flow ∙ ap (received (command_of y)) old) in
    record {
      state = same-client cl.forward cl.forward _ _ _ _ _ _ refl backward flows c.in_ok-handed.ensures.streams ∙ here.0;
      hops = refl;
    }
