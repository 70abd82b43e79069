-- What a result says once only its value, or that it has none, was kept.
use Rattle.std.proofs.Common.{◌≡◌, ℕ, false, is_ok, Some, Ok, Err, Result, sym, subst, arith}
use Rattle.std.specs.Result.{result_ok, MatchResult}
use Rattle.std.proofs.lemmas.Option.{none-some, same_Some}

pub value-of : {X E : Type 0} (P : X → Type 0) (Q : E → Type 0) (r : Result X E) (x : X) → MatchResult r P Q → Some x ≡ result_ok r → P x
value-of P Q (Ok y) x m e = subst P (sym (same_Some x y e)) m
value-of P Q (Err d) x m e = absurd (none-some x (sym e))

pub refused-so : {X E : Type 0} (A : Type 0) (P : X → Type 0) (Q : E → Type 0) (r : Result X E) → MatchResult r P Q → false ≡ is_ok r → ((e : E) → Q e → A) → A
refused-so A P Q (Ok y) m e f = cc
refused-so A P Q (Err d) m e f = f d m
