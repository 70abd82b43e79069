-- Ends, flow and streams, each by its own call.
use Rattle.std.proofs.Common.{◌≡◌, ◌+◌, ◌<◌, length, vec_items, refl, ap, ◌∙◌, arith}
use Rattle.std.proofs.lemmas.List.{length-map, map-set}
use Rattle.std.proofs.lemmas.Bool.{cond-true}
use Rattle.cell.specs.Commands.{command_byte}
use Rattle.cell.specs.Payload.{Message}
use Rattle.model.specs.Streams.{or_unchanged, client_sends}
use Rattle.streams.specs.Views.{flow_seen, streams_seen}
use Rattle.rows.specs.Views.{row_seen}
use Rattle.rows.specs.Rows.{advanced_to, can_advance}
use Rattle.rows.proofs.Walks.{can-advance}
use Rattle.client.specs.Views.{client_seen}
use Rattle.client.proofs.Sends.{same-client}
use Rattle.client.proofs.parts.Client.sent.Goals as goal

pub returns : goal.returns
returns g c =
    let was = c.args.self.now in
    let cl = client_seen {C = g.row.C.Denot} g.D.Digest was in
    let d = c.args.d in
    let s = g.D.Digest.state c.args.taken in
    let near : d < length cl.forward = simp length-map (omega (arith, was.forward.ends.ok.0)) in
    let forward : row_seen {C = g.row.C.Denot} g.D.Digest c.advance.new.self ≡ advanced_to cl.forward d s =
    c.advance.ensures.ends ∙ cond-true (can_advance cl.forward d) (advanced_to cl.forward d s) cl.forward (can-advance cl.forward d near c.requires.unworn) in
    let n = command_byte c.args.cleared.command in
    let streams : streams_seen c.sent.new.self ≡ or_unchanged cl.streams (client_sends (d + 1) n c.args.message.now.stream cl.streams) =
    c.sent.ensures.after ∙ ap (λ (m : Message). or_unchanged cl.streams (client_sends (d + 1) n m.stream cl.streams)) c.message.view_is in
    record {
      client = record {
        state = same-client _ _ cl.backward cl.backward _ _ _ _ forward refl (map-set flow_seen (vec_items was.flows) d c.args.cleared.flow) streams;
        hops = c.advance.ensures.len;
      };
    }
