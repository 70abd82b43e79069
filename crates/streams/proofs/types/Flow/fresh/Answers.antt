use Rattle.std.proofs.Common.{refl}
use Rattle.model.specs.Messages.{is_data, is_sendme, streamless}
use Rattle.model.specs.Streams.{client_sends}
use Rattle.streams.proofs.types.Flow.fresh.Goals as goal

pub returns-clause-worked : goal.returns-clause-worked
unfolding is_data is_sendme client_sends streamless
returns-clause-worked c = record {
  window = refl;
  data-1000 = λ s. refl;
  data-1001 = λ s. refl;
  not-due = refl;
  due = refl;
  begin-9 = λ k. refl;
  begin-9-again = λ k j. refl;
  begin-10 = λ k j. refl;
}
