-- As many ends backward as forward, and as many fresh flows.
use Rattle.std.proofs.Common.{◌≡◌, map, replicate, vec_items, sym, refl, ap, ◌∙◌}
use Rattle.model.specs.Flows.{fresh_flow}
use Rattle.streams.specs.Views.{flow_seen}
use Rattle.rows.specs.Views.{row_len, row_seen}
use Rattle.client.specs.Views.{Opened}
use Rattle.client.proofs.Sends.{for-memory, hops-met, map-replicate, same-client}
use Rattle.client.proofs.parts.Client.new.Goals as goal

pub returns-in_err-flows : goal.returns-in_err-flows
returns-in_err-flows g c =
    let met = hops-met c.len-n.result (row_len c.args.forward) (row_len c.args.backward) c.len.result c.len-n.ensures c.len.ensures (sym c.if-not-is_circuit.ensures) in
    for-memory _ (Opened (row_len c.args.forward) (row_len c.args.backward)) c.from_residual.result c.from_residual.ensures met

pub invariant_of-result : goal.invariant_of-result
invariant_of-result g c =
    let met = hops-met c.len-n.result (row_len c.args.forward) (row_len c.args.backward) c.len.result c.len-n.ensures c.len.ensures (sym c.if-not-is_circuit.ensures) in
    record { even = (met.2, c.in_ok-flows.ensures.len ∙ c.len-n.ensures, met.0, met.1) }

pub returns : goal.returns
returns g c =
    let fs = row_seen {C = g.row.C.Denot} g.D.Digest c.args.forward in
    let bs = row_seen {C = g.row.C.Denot} g.D.Digest c.args.backward in
    let n = c.len-n.result in
    let flows : map flow_seen (vec_items c.in_ok-flows.flows) ≡ replicate (row_len c.args.forward) fresh_flow =
    ap (map flow_seen) (c.in_ok-flows.ensures.items_if_clones_equal (λ y e. e)) ∙ map-replicate flow_seen n c.fresh.result ∙ ap (replicate n) c.fresh.ensures.fresh ∙ ap (λ k. replicate k fresh_flow) c.len-n.ensures in
    same-client fs fs bs bs _ _ _ _ refl refl flows c.new.ensures.none
