use Rattle.std.proofs.Common.{◌≡◌, rules, ℕ, ◌<◌, ◌≤◌, length, sym, ap, ◌∙◌, arith}
use Rattle.cell.specs.Commands.{command_byte}
use Rattle.model.specs.Streams.{with_records, or_unchanged}
use Rattle.streams.specs.declared.types.Effect.TheVariants.{Freed}
use Rattle.streams.specs.Views.{records_seen, streams_seen}
use Rattle.streams.proofs.Records.{Other, applied-none, applied-at, kept_at, freed-at}
use Rattle.streams.proofs.types.Streams.change.Goals as goal
use Rattle.streams.proofs.types.Streams.change.Goals.{in_default-via-in-None-1, in_default-via-in-Some+in-Kept-1}

pub returns-in-Freed : goal.returns-in-Freed
unfolding streams_seen
returns-in-Freed c =
    let found = c.in-Some.ensures in
    let le : c.args.self.now.count ≤ length c.args.self.now.records = omega arith in
    let s = streams_seen c.args.self.now in
    ap (λ h. record { records = records_seen c.remove.new.self; highest = h }) c.remove.ensures.highest
    ∙ freed-at c.args.self.now.records c.args.self.now.count c.in-Some.i c.args.self.now.highest _ found.0 le _ _ c.remove.ensures.records (sym c.in-Freed.ensures.effect)
    ∙ sym (ap (λ o. or_unchanged s (with_records s o)) (applied-at (command_byte c.args.command) c.args.stream c.args.hop c.args.self.now.records c.args.self.now.count c.in-Some.i found.0 le found.1 found.2))

pub returns-in_default : goal.returns-in_default
unfolding streams_seen
returns-in_default c =
    let s = streams_seen c.args.self.now in
    elim c.in_default.branch [
      | in_default-via-in-None-1 w ↦
          let none : (j : ℕ) → j < c.args.self.now.count → Other (command_byte c.args.command) c.args.stream c.args.hop c.args.self.now.records j = search rules in
          ap streams_seen w.self-is ∙ sym (ap (λ o. or_unchanged s (with_records s o)) (applied-none (command_byte c.args.command) c.args.stream c.args.hop c.args.self.now.records c.args.self.now.count none))
      | in_default-via-in-Some+in-Kept-1 w ↦
          let found = w.in-Some.ensures in
          let le : c.args.self.now.count ≤ length c.args.self.now.records = omega arith in
          let other : w.apply.result ≡ Freed → ⊥ = search rules in
          ap streams_seen w.self-is
          ∙ kept_at c.args.self.now.records c.args.self.now.count w.in-Some.i c.args.self.now.highest _ found.0 le _ w.apply.ensures.after (λ e. other (w.apply.ensures.effect ∙ e))
          ∙ sym (ap (λ o. or_unchanged s (with_records s o)) (applied-at (command_byte c.args.command) c.args.stream c.args.hop c.args.self.now.records c.args.self.now.count w.in-Some.i found.0 le found.1 found.2))
    ]
