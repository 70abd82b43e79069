-- The laws of the definitions.
use Rattle.std.proofs.Common.{◌≡◌, ℕ, ◌+◌, ◌-◌, ◌*◌, ◌/◌, ◌%◌, ◌<◌, Bool, true, eqb, List, ◌∷◌, ◌++◌, length, get_or, replicate, sym, refl, ap, ◌∙◌, zero-add, arith, subst}
use Rattle.std.proofs.lemmas.List.FromFn.{get_or-map-range_with_len, get_or-range_with_len}
use Rattle.std.proofs.lemmas.List.{length-append, length-replicate, length-set}
use Rattle.sha3.specs.Keccak.{theta, offsets, rho, pi, chi, constants, lane, place}
use Rattle.sha3.specs.Laws.{offset_table, constant_table, Abc, Sha3Laws}
use Rattle.sha3.specs.Sha3.{padding, xor_block, sha3}
use Rattle.std.specs.List.{range_with_len}
use Rattle.std.proofs.lemmas.List.Sums.{AllPass-from_list_all}
use Rattle.std.proofs.lemmas.List.Elements.{All-get_or}
use Rattle.std.proofs.lemmas.Bool.Decides.{Decides-eqb}

-- at each of the 25 places, by one computed test
goes : ℕ → Bool
goes i = eqb (place (i / 5 + 3 * ((2 * (i % 5) + 3 * (i / 5)) % 5)) (i / 5)) i

every-place : (i : ℕ) → i < 25 → place (i / 5 + 3 * ((2 * (i % 5) + 3 * (i / 5)) % 5)) (i / 5) ≡ i
unfolding goes
every-place i h =
    let here : goes (get_or (range_with_len 0 25) i 0) ≡ true
    = All-get_or (λ x. goes x ≡ true) (range_with_len 0 25) i 0 h (AllPass-from_list_all goes (range_with_len 0 25) refl) in
    (Decides-eqb _ _).0 (subst (λ (x : ℕ). goes x ≡ true) (get_or-range_with_len 0 25 i 0 h ∙ zero-add i) here)

back : (x y : ℕ) → x < 5 → y < 5 → place (y + 3 * ((2 * x + 3 * y) % 5)) y ≡ place x y
back x y hx hy =
    let i : ℕ = x + 5 * y in
    let ix : i % 5 ≡ x = omega arith in
    let iy : i / 5 ≡ y = omega arith in
    let p : i ≡ place x y = omega arith in
    ap (λ (v : ℕ). place (v + 3 * ((2 * x + 3 * v) % 5)) v) (sym iy)
    ∙ ap (λ (v : ℕ). place (i / 5 + 3 * ((2 * v + 3 * (i / 5)) % 5)) (i / 5)) (sym ix)
    ∙ every-place i (omega arith) ∙ p

place-below : (x y : ℕ) → place x y < 25
place-below x y = omega arith

goes_to : (a : List ℕ) (x y : ℕ) → x < 5 → y < 5 → lane (pi a) y (2 * x + 3 * y) ≡ lane a x y
unfolding pi
goes_to a x y hx hy =
    let j : ℕ = place y (2 * x + 3 * y) in
    let jx : j % 5 ≡ y = omega arith in
    let jy : j / 5 ≡ (2 * x + 3 * y) % 5 = omega arith in
    let e : place (j % 5 + 3 * (j / 5)) (j % 5) ≡ place x y
    = ap (λ (k : ℕ). place (k + 3 * (j / 5)) k) jx ∙ ap (λ (k : ℕ). place (y + 3 * k) y) jy ∙ back x y hx hy in
    get_or-map-range_with_len (λ i. lane a (i % 5 + 3 * (i / 5)) (i % 5)) 0 25 j j 0 (place-below y (2 * x + 3 * y)) (zero-add j)
    ∙ ap (λ (k : ℕ). get_or a k 0) e

size : (n : ℕ) → length (padding n) ≡ 136 - n % 136
size n = length-set (0x06 ∷ replicate {A = ℕ} (135 - n % 136) 0) _ _ ∙ omega (arith, length-replicate {A = ℕ} (135 - n % 136) 0)

padded-length : (m : List ℕ) → length (m ++ padding (length m)) ≡ 136 * (length m / 136 + 1)
padded-length m = omega (arith, length-append m (padding (length m)), size (length m))

walked : offsets ≡ offset_table
unfolding offsets
walked = refl

pub shifted : constants ≡ constant_table
unfolding constants
shifted = refl

abc : Abc
unfolding theta offsets rho pi chi constants xor_block sha3
abc = refl

pub sha3-laws : Sha3Laws
sha3-laws = record {
  walked = walked;
  shifted = shifted;
  goes = goes_to;
  padded = padded-length;
  abc = abc;
}
