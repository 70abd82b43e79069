-- A layer of counter mode keeps the length, and undoes itself.
-- Assumes nothing.
use Rattle.std.specs.Prelude.{◌≡◌, ℕ, ◌*◌, List, length}
use Rattle.std.proofs.Common.{◌∙◌}
use Rattle.aes.specs.CounterMode.{counter_layer, layer}
use Rattle.aes.specs.declared.CounterMode.{CounterMode}
use Rattle.aes.specs.Layers.{length-streamed, streamed-twice}
use Rattle.aes.specs.PayloadLaws.{length-on_payload, on_payload-undone}

module _ (c : CounterMode) (n : ℕ) (p : List ℕ) where
  pub twice : length p ≡ 509 → counter_layer c n (counter_layer c n p) ≡ p
  twice is =
      let nr = c.schedule.rounds in
      let w = c.schedule.words in
      on_payload-undone (layer nr w n) (layer nr w n) p is (length-streamed nr w (509 * n) p ∙ is) (streamed-twice nr w (509 * n) p)

  pub length-counter_layer : length (counter_layer c n p) ≡ length p
  length-counter_layer =
      let nr = c.schedule.rounds in
      let w = c.schedule.words in
      length-on_payload (layer nr w n) (λ q is. length-streamed nr w (509 * n) q ∙ is) p
