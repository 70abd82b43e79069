-- The tests in their order: length, command, stream.
use Rattle.std.proofs.Common.{◌≡◌, true, false, is_some, not, ◌||◌, eqb, length, None, sym, ap, ◌∙◌}
use Rattle.cell.proofs.Refused.{data-met}
use Rattle.cell.specs.Commands.{command_byte}
use Rattle.cell.specs.Payload.{command_of, stream_of, length_of, data_of, message_of}
use Rattle.cell.specs.Refusals.{data_refusal}
use Rattle.cell.specs.declared.payload.DataPart.{DataPart}
use Rattle.model.specs.Messages.{travels, streamless, well_formed}
use Rattle.messages.proofs.Results.{value-of, refused-so}
use Rattle.messages.proofs.Known.{no_stream}
use Rattle.messages.proofs.Formed.{data-refused, too_long, stray, owns_none, formed, by-stream, by-command}
use Rattle.messages.proofs.heading.heading.Goals as goal
use Rattle.messages.proofs.heading.heading.Goals.{else-is_streamless-via-then-is_streamless+else-stream-ne0, else-is_streamless-via-else-is_streamless}

pub returns-in_err-part-clause-test : goal.returns-in_err-part-clause-test
returns-in_err-part-clause-test c =
    let w = c.args.way in
    let p = c.args.reader.now.bytes.now in
    ap is_some c.from_residual.ensures
    ∙ refused-so (false ≡ well_formed w p) _ _ c.data_part.result c.data_part.ensures c.in_err-part.ensures.variant (λ e refused. sym (too_long w p (data-refused p e c.args.reader.now.whole refused)))

pub returns-in_err-command-clause-test : goal.returns-in_err-command-clause-test
returns-in_err-command-clause-test c =
    let w = c.args.way in
    ap is_some c.from_residual-in_err-command.ensures ∙ sym (stray w c.args.reader.now.bytes.now (sym (c.in_err-command.ensures.test ∙ ap (travels w) c.command.ensures)))

pub returns-then-stream-ne0-clause-test : goal.returns-then-stream-ne0-clause-test
returns-then-stream-ne0-clause-test c =
    let p = c.args.reader.now.bytes.now in
    let byte : command_byte c.in_ok-command.command ≡ command_of p = c.in_ok-command.ensures.command ∙ c.command.ensures in
    let none : streamless (command_of p) ≡ true = sym (c.if-is_streamless.ensures ∙ no_stream c.in_ok-command.command ∙ ap streamless byte) in
    sym (owns_none c.args.way p none (λ z. c.if-stream-ne0.true (c.stream-stream.ensures ∙ z)))

pub returns : goal.returns
unfolding message_of
returns c =
    let w = c.args.way in
    let p = c.args.reader.now.bytes.now in
    let command = c.in_ok-command.command in
    let byte : command_byte command ≡ command_of p = c.in_ok-command.ensures.command ∙ c.command.ensures in
    let part =
    value-of (λ (d : DataPart). (data_refusal p ≡ None) × (d.at ≡ 11) × (d.len ≡ length_of p) × (d.bytes.now ≡ data_of p) × (length d.bytes.now ≡ d.len)) _ c.data_part.result c.in_ok-part.part c.data_part.ensures c.in_ok-part.ensures.value in
    let way : travels w (command_of p) ≡ true = sym (c.in_ok-command.ensures.test ∙ ap (travels w) c.command.ensures) in
    let stream : (not (streamless (command_of p)) || eqb (stream_of p) 0) ≡ true =
    elim c.else-is_streamless.branch [
      | else-is_streamless-via-then-is_streamless+else-stream-ne0 v ↦ by-stream w p (sym c.stream-stream.ensures ∙ v.if-stream-ne0.false)
      | else-is_streamless-via-else-is_streamless v ↦ by-command w p (sym (v.if-is_streamless.ensures ∙ no_stream command ∙ ap streamless byte))
    ] in
    record {
      test = sym (formed w p (data-met p part.0).1 way stream);
      parts = record { command = byte; stream = c.stream-stream.ensures; len = sym part.4 ∙ ap length part.3 };
    }
