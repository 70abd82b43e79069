-- The laws of the definitions.
use Rattle.std.proofs.Common.{◌≡◌, ℕ, ◌+◌, ◌*◌, ◌/◌, ◌%◌, ◌^◌, ltb, List, ◌++◌, length, replicate, refl, arith}
use Rattle.std.proofs.lemmas.List.{length-append, length-replicate}
use Rattle.std.proofs.lemmas.Bool.{cond_both, ltb-true, ltb-false}
use Rattle.sha_1.specs.Laws.{block_count, Sha1Laws, Abc}
use Rattle.sha_1.specs.Sha1.{extended, schedule, step_to, padding, zeros, be64, sha1}
use Rattle.sha_1.proofs.Schedule.{schedule-length, schedule-word, schedule-later}

pub padded-length : (m : List ℕ) → length (m ++ padding (length m)) ≡ length m + 9 + zeros (length m)
padded-length m =
    omega (
      arith,
      length-append m (padding (length m)),
      length-replicate {A = ℕ} (zeros (length m)) 0,
      length-append (replicate (zeros (length m)) 0) (be64 (8 * length m % 2 ^ 64)),
    )

pub padded-blocks : (m : List ℕ) → length (m ++ padding (length m)) ≡ 64 * block_count (length m)
padded-blocks m =
    let n : ℕ = length m in
    cond_both (ltb (n % 64) 56) (n / 64 + 1) (n / 64 + 2) (λ k. length (m ++ padding n) ≡ 64 * k)
    (λ e. omega (arith, padded-length m, ltb-true (n % 64) 56 e))
    (λ e. omega (arith, padded-length m, ltb-false (n % 64) 56 e))

abc : Abc
unfolding extended schedule step_to sha1
abc = refl

pub sha1-laws : Sha1Laws
sha1-laws = record {
  schedule = λ block. record {
    count = schedule-length block;
    first = schedule-word block;
    later = schedule-later block;
  };
  padded = padded-blocks;
  boundary = record {
    one = λ m e. omega (arith, padded-length m);
    two = λ m e. omega (arith, padded-length m);
  };
  abc = abc;
}
