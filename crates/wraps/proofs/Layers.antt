-- Layers added one by one, and the tests between them.
use Rattle.std.proofs.Common.{◌≡◌, ℕ, zero, suc, ◌+◌, ◌-◌, ◌<◌, ◌≤◌, Bool, cond, List, [], ◌∷◌, length, drop, Some, None, Option, sym, refl, ap, ◌∙◌, arith}
use Rattle.std.proofs.lemmas.Bool.{lt-ltb, eq-eqb}
use Rattle.model.specs.Lists.{nth}
use Rattle.model.specs.Ends.{Rules, End, recognises, sealed, wrapped, coincidence}
use Rattle.rows.specs.Rows.{Before}
use Rattle.wraps.specs.Wraps.{layered, taken_at, coincides, left_by, from, wrap_refusal, wrap_left}

pub nth_drop : {A : Type 0} (xs : List A) (i k : ℕ) → nth (drop i xs) k ≡ nth xs (i + k)
nth_drop [] zero k = refl
nth_drop [] (suc i) k = refl
nth_drop (x ∷ xs) zero k = let z : 0 + k ≡ k = omega arith in rw z
nth_drop (x ∷ xs) (suc i) k = let z : suc i + k ≡ suc (i + k) = omega arith in rw z (nth_drop xs i k)

pub left-from : (layers : ℕ → List ℕ) (p : List ℕ) (o : Option ℕ) → left_by layers p (coincides o) ≡ layers (from o)
left-from layers p None = refl
left-from layers p (Some j) = refl

pub from-before : (d : ℕ) (o : Option ℕ) → Before d o → from o ≤ d
from-before d None l = omega arith
from-before d (Some j) l = omega arith

module _ {K S : Type 0} (R : Rules K S) where
  ---- the layers of the ends from place i up to d are on: the next nearer end, at place j, is asked
  module _ (es : List (End K S)) (i j d : ℕ) (e n : End K S) (x : List ℕ) (s : j + 1 ≡ i) (l : i ≤ d) (far : drop i es ≡ e ∷ drop (i + 1) es) (near : drop j es ≡ n ∷ drop (j + 1) es) where
    pub layer-step : layered R (drop (j + 1) es) (d - j) x ≡ R.added e.cipher e.layer (layered R (drop (i + 1) es) (d - i) x)
    layer-step = let m : d - j ≡ suc (d - i) = omega arith in rw (m, s, far)

    pub taken_step : (t : Bool) → taken_at R (drop i es) (d - i) x ≡ None → recognises R.tags n.digest (layered R (drop (j + 1) es) (d - j) x) ≡ t → taken_at R (drop j es) (d - j) x ≡ cond t (Some 0) None
    taken_step t none p = let m : d - j ≡ suc (d - i) = omega arith in let q = rw (m, s) at p in rw (m, near, s, none, q)

  layer-zero : (es : List (End K S)) (x : List ℕ) → layered R es 0 x ≡ x
  layer-zero [] x = refl
  layer-zero (y ∷ es) x = refl

  pub layer-none : (es : List (End K S)) (d : ℕ) (x : List ℕ) → layered R (drop (d + 1) es) (d - d) x ≡ x
  layer-none es d x = let n : d - d ≡ 0 = omega arith in rw n (layer-zero (drop (d + 1) es) x)

  pub taken_none : (es : List (End K S)) (d : ℕ) (x : List ℕ) → taken_at R (drop d es) (d - d) x ≡ None
  taken_none es d x = let n : d - d ≡ 0 = omega arith in rw n (go (drop d es))
    where
      go : (es : List (End K S)) → taken_at R es 0 x ≡ None
      go [] = refl
      go (y ∷ es) = refl

  pub taken-up : (es : List (End K S)) (i k : ℕ) (x : List ℕ) → i < length es → taken_at R (drop i es) k x ≡ Some 0 → taken_at R es (i + k) x ≡ Some i
  taken-up [] i k x l h = absurd (omega arith)
  taken-up (y ∷ es) zero k x l h = let z : 0 + k ≡ k = omega arith in rw z h
  taken-up (y ∷ es) (suc i) k x l h =
      let z : suc i + k ≡ suc (i + k) = omega arith in
      rw (z, taken-up es i k x (omega arith) h)

  -- the whole, from the innermost layer
  pub wrapped-layered : (es : List (End K S)) (d : ℕ) (e : End K S) (b : List ℕ) → nth es d ≡ Some e → wrapped R es d b ≡ layered R es (suc d) (sealed R e.digest b)
  wrapped-layered [] d e b h = let z : ◌≡◌ {A = ℕ} 0 1 = cc in absurd (omega arith)
  wrapped-layered (y ∷ es) zero e b h =
      let p : y ≡ e = cc in
      ap (λ (v : End K S). R.added y.cipher y.layer (sealed R v.digest b)) p ∙ ap (R.added y.cipher y.layer) (sym (layer-zero es (sealed R e.digest b)))
  wrapped-layered (y ∷ es) (suc d) e b h = ap (R.added y.cipher y.layer) (wrapped-layered es d e b h)

  pub coincidence-taken : (es : List (End K S)) (d : ℕ) (e : End K S) (b : List ℕ) → nth es d ≡ Some e → coincidence R es d b ≡ taken_at R es d (sealed R e.digest b)
  coincidence-taken [] d e b h = refl
  coincidence-taken (y ∷ es) zero e b h = refl
  coincidence-taken (y ∷ es) (suc d) e b h = rw (coincidence-taken es d e b h, wrapped-layered es d e b h)

  pub wrapped-from : (es : List (End K S)) (i d : ℕ) (e : End K S) (b : List ℕ) → i ≤ d → nth es d ≡ Some e → wrapped R (drop i es) (d - i) b ≡ layered R (drop i es) (d + 1 - i) (sealed R e.digest b)
  wrapped-from es i d e b l h =
      let n : i + (d - i) ≡ d = omega arith in
      let m : d + 1 - i ≡ suc (d - i) = omega arith in
      rw m (wrapped-layered (drop i es) (d - i) e b (nth_drop es i (d - i) ∙ ap (nth es) n ∙ h))

  -- what a wrapping answers and leaves, o being where the layers stopped
  module _ (es : List (End K S)) (d : ℕ) (e : End K S) (b : List ℕ) (o : Option ℕ) (h : nth es d ≡ Some e) (near : d < length es) (long : length b ≡ 509)
      (t : o ≡ taken_at R es d (sealed R e.digest b)) where
    pub wrap-refusal : wrap_refusal R es d b ≡ coincides o
    wrap-refusal = rw (lt-ltb d (length es) near, eq-eqb (length b) 509 long, coincidence-taken es d e b h, sym t)

    pub wrap_left_lem : from o ≤ d → wrap_left R es d b ≡ layered R (drop (from o) es) (d + 1 - from o) (sealed R e.digest b)
    wrap_left_lem l = ap (left_by (λ i. wrapped R (drop i es) (d - i) b) b) wrap-refusal ∙ left-from (λ i. wrapped R (drop i es) (d - i) b) b o ∙ wrapped-from es (from o) d e b l h
