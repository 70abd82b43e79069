use Rattle.std.proofs.Common.{take, arith}
use Rattle.std.proofs.lemmas.Bool.Decides.{nat_tests}
use Rattle.streams.specs.Views.{streams_seen}
use Rattle.streams.proofs.Records.{length_seen, recorded_any}
use Rattle.streams.proofs.types.Streams.may_start.Goals.{then-stream-ne0, else-stream-ne0}
use Rattle.streams.proofs.types.Streams.may_start.Goals as goal

pub returns-then-not-has : goal.returns-then-not-has
unfolding streams_seen
returns-then-not-has c =
    let s = c.args.self.now in
    let recorded = recorded_any c.args.stream (take s.count s.records) in
    elim c.if-stream-ne0.branch [
      | then-stream-ne0 w ↦ grind (arith, nat_tests, c.has_room.ensures, w.has.ensures, recorded, length_seen s)
      | else-stream-ne0 w ↦ grind (arith, nat_tests)
    ]

pub returns-else-not-has : goal.returns-else-not-has
unfolding streams_seen
returns-else-not-has c =
    let s = c.args.self.now in
    let recorded = recorded_any c.args.stream (take s.count s.records) in
    elim c.if-stream-ne0.branch [
      | then-stream-ne0 w ↦ grind (arith, nat_tests, w.has.ensures, recorded)
      | else-stream-ne0 w ↦ grind (arith, nat_tests)
    ]
