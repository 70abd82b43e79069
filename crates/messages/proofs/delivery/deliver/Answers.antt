-- The payload is well formed and in bounds: it is delivered.
use Rattle.std.proofs.Common.{◌≡◌, true, false, length, is_some, sym, ap, ◌∙◌}
use Rattle.cell.specs.Commands.{command_byte}
use Rattle.cell.specs.Payload.{command_of, stream_of, message_of}
use Rattle.model.specs.Messages.{well_formed}
use Rattle.model.specs.Flows.{overruns}
use Rattle.model.specs.Streams.{receives, mark_of}
use Rattle.streams.specs.Views.{flow_seen, streams_seen}
use Rattle.messages.specs.Delivery.{handed}
use Rattle.messages.proofs.Arriving.{payload-arrives}
use Rattle.messages.proofs.delivery.deliver.Goals as goal

pub returns-clause-answer : goal.returns-clause-answer
unfolding message_of
returns-clause-answer c =
    let w = c.args.way in
    let k = c.args.hop in
    let f = flow_seen c.args.flow.now in
    let s = streams_seen c.args.streams.now in
    let p = c.args.payload.now in
    let head = c.in_ok-head.head in
    let n = command_byte head.command in
    let same = c.in_ok-reader.ensures.1 in
    let read : is_some c.heading.result ≡ well_formed w p = c.heading.ensures.test ∙ ap (well_formed w) same in
    let good : well_formed w p ≡ true = sym (c.in_ok-head.ensures.variant ∙ read) in
    let parts = rw (c.in_ok-head.ensures.ok_part, same) at c.heading.ensures.parts in
    let fits : overruns (command_of p) f ≡ false = ap (λ m. overruns m f) (sym parts.command) ∙ sym c.if-overruns.ensures.answer in
    let mark : c.into-2.result ≡ mark_of (receives w k (command_of p) (stream_of p) s) =
    c.into-2.ensures ∙ c.accept-mark.ensures.mark ∙ ap (λ m. mark_of (receives w k m head.stream s)) parts.command ∙ ap (λ m. mark_of (receives w k (command_of p) m s)) parts.stream in
    rw (c.into.ensures.0, parts.command, mark, parts.stream, parts.len) (ap (handed k) (sym (payload-arrives w k f s p (ap length (sym same) ∙ c.in_ok-reader.reader.whole) good fits)))
