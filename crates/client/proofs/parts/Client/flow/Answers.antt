-- The element that was read.
use Rattle.std.proofs.Common.{vec_items, sym, ap, ◌∙◌, arith}
use Rattle.std.proofs.lemmas.List.{get_or-map}
use Rattle.model.specs.Flows.{no_flow}
use Rattle.streams.specs.Views.{flow_seen}
use Rattle.client.proofs.parts.Client.flow.Goals as goal

pub returns : goal.returns
returns g c =
    let flows = c.args.self.now.flows in
    ap flow_seen c.index.ensures ∙ sym (get_or-map flow_seen (vec_items flows) c.args.d _ no_flow (omega (arith, flows.ok.0, c.args.self.now.even.1)))
