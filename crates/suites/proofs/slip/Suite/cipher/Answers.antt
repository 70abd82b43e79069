use Rattle.std.proofs.Common.{ℕ, List, sym, ap, ◌∙◌}
use Rattle.aes.specs.Payload.{on_payload}
use Rattle.lioness.specs.Lioness.{lioness_add, lioness_remove}
use Rattle.suites.specs.Opened.{suite_add, suite_remove}
use Rattle.suites.specs.declared.slip.Suite.{Suite}
use Rattle.suites.proofs.slip.Suite.cipher.Goals as goal

pub returns-in-LionessSha3 : goal.returns-in-LionessSha3
returns-in-LionessSha3 c =
    let whole = rw c.unwrap-in-LionessSha3.ensures at c.as_array-in-LionessSha3.ensures.cases in
    record {
      adds = λ n p. c.new-in-LionessSha3.ensures.added p ∙ ap (λ (k : List ℕ). on_payload (lioness_add k) p) whole.same
          ∙ sym (ap (λ (s : Suite). on_payload (suite_add s c.args.key.now n) p) c.in-LionessSha3.is);
      removes = λ n p. c.new-in-LionessSha3.ensures.removed p ∙ ap (λ (k : List ℕ). on_payload (lioness_remove k) p) whole.same
          ∙ sym (ap (λ (s : Suite). on_payload (suite_remove s c.args.key.now n) p) c.in-LionessSha3.is);
    }
