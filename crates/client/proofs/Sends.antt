-- What a client's sending answers, by the tests that the code makes.
use Rattle.std.proofs.Common.{◌≡◌, ℕ, zero, suc, ◌<◌, ◌≤◌, true, ◌&&◌, eqb, ltb, leb, List, ◌∷◌, map, replicate, Ok, Err, Result, refl, sym, ap, subst, arith}
use Rattle.std.specs.Result.{MatchResult, IsErr, IsErrAnd}
use Rattle.std.proofs.lemmas.Bool.{and_parts, ltb-true, leb-true, eqb-true}
use Rattle.model.specs.Ends.{End}
use Rattle.model.specs.Flows.{Flow}
use Rattle.model.specs.Streams.{Streams}
use Rattle.model.specs.Circuit.{Client}
use Rattle.client.specs.declared.faults.OpenError.{OpenError}
use Rattle.client.specs.declared.faults.OpenError.TheVariants.{Memory}

pub map-replicate : {X Y : Type 0} (f : X → Y) (n : ℕ) (x : X) → map f (replicate n x) ≡ replicate n (f x)
map-replicate f zero x = refl
map-replicate f (suc n) x = ap (λ v. f x ∷ v) (map-replicate f n x)

-- the numbers of hops that a client may have, as the code tests them
pub hops-met : (n forward back w : ℕ) → n ≡ forward → w ≡ back → (ltb 0 n && (leb n 8 && eqb w n)) ≡ true → (0 < forward) × (forward ≤ 8) × (back ≡ forward)
hops-met n forward back w p q e =
    let some = and_parts (ltb 0 n) (leb n 8 && eqb w n) e in
    let few = and_parts (leb n 8) (eqb w n) some.1 in
    (omega (arith, ltb-true 0 n some.0), omega (arith, leb-true n 8 few.0), omega (arith, eqb-true w n few.1))

pub same-client : {K S : Type 0} (a b c d : List (End K S)) (v w : List Flow) (s t : Streams) → a ≡ b → c ≡ d → v ≡ w → s ≡ t
    → ◌≡◌ {A = Client K S} (record { forward = a; backward = c; flows = v; streams = s }) (record { forward = b; backward = d; flows = w; streams = t })
same-client a b c d v w s t p q r u = rw (p, q, r, u)

-- nothing is made for want of memory
pub for-memory : {X : Type 0} (P : X → Type 0) (Q : OpenError → Type 0) (r : Result X OpenError) → IsErr r × IsErrAnd r (λ e. e ≡ Memory) → Q Memory → MatchResult r P Q
for-memory P Q (Ok x) is q = absurd is.1
for-memory P Q (Err e) is q = subst Q (sym is.1) q
