use Rattle.std.proofs.Common.{List, ℕ, sym, refl, ap, ◌∙◌, arith}
use Rattle.sha3.specs.Keccak.{rounds}
use Rattle.sha3.specs.Planes.{flat}
use Rattle.sha3.proofs.Definitions.{shifted}
use Rattle.sha3.proofs.Flat.{rounds-more, rounds-all}
use Rattle.sha3.proofs.permutation.permuted.Goals as goal

pub loop-c-preserved : goal.loop-c-preserved
loop-c-preserved c = record {
  table = c.loop-c.invariant.table;
  same_end = rounds-more _ c.loop-c.c-index _ (flat c.loop-c.b) (flat c.round_of-b.result) _ (omega arith) refl c.round_of-b.ensures c.loop-c.invariant.same_end;
}

pub returns : goal.returns
returns c =
    rounds-all _ c.loop-c.c-index (flat c.loop-c.b) _ (omega arith) c.loop-c.invariant.same_end
    ∙ ap (λ (t : List ℕ). rounds t (flat c.args.a)) (c.loop-c.invariant.table ∙ sym shifted)
