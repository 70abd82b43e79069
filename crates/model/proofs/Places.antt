-- Lists by place.
use Rattle.std.proofs.Common.{◌≡◌, ℕ, zero, suc, ◌<◌, ◌≤◌, ◌≢◌, List, [], ◌∷◌, map, length, get_or, set, Some, None, sym, refl, ap, ◌∙◌, arith}
use Rattle.model.specs.Lists.{nth}

module _ {A : Type 0} where
  pub empty-list : (xs : List A) → length xs ≡ 0 → xs ≡ []
  empty-list [] e = refl
  empty-list (x ∷ xs) e = absurd (omega arith)

  pub nth-some : (xs : List A) (i : ℕ) → i < length xs → (x : A) × (nth xs i ≡ Some x)
  nth-some [] i lt = absurd (omega arith)
  nth-some (x ∷ xs) zero lt = (x, refl)
  nth-some (x ∷ xs) (suc i) lt = nth-some xs i (omega arith)

  pub nth-within : (xs : List A) (i : ℕ) (x : A) → nth xs i ≡ Some x → i < length xs
  nth-within [] i x e = let z : ◌≡◌ {A = ℕ} 0 1 = cc in absurd (omega arith)
  nth-within (y ∷ xs) zero x e = omega arith
  nth-within (y ∷ xs) (suc i) x e = let lt : i < length xs = nth-within xs i x e in omega arith

  pub get_or-nth : (xs : List A) (i : ℕ) (x d : A) → nth xs i ≡ Some x → get_or xs i d ≡ x
  get_or-nth [] i x d e = let z : ◌≡◌ {A = ℕ} 0 1 = cc in absurd (omega arith)
  get_or-nth (y ∷ xs) zero x d e = cc
  get_or-nth (y ∷ xs) (suc i) x d e = get_or-nth xs i x d e

  pub nth_past : (xs : List A) (i : ℕ) → nth xs i ≡ None → length xs ≤ i
  nth_past [] i e = omega arith
  nth_past (x ∷ xs) zero e = let z : ◌≡◌ {A = ℕ} 0 1 = cc in absurd (omega arith)
  nth_past (x ∷ xs) (suc i) e = omega (arith, nth_past xs i e)

  pub nth-get_or : (xs : List A) (i : ℕ) (d : A) → i < length xs → nth xs i ≡ Some (get_or xs i d)
  nth-get_or [] i d lt = absurd (omega arith)
  nth-get_or (x ∷ xs) zero d lt = refl
  nth-get_or (x ∷ xs) (suc i) d lt = nth-get_or xs i d (omega arith)

  pub nth-set-same : (xs : List A) (i : ℕ) (y : A) → i < length xs → nth (set xs i y) i ≡ Some y
  nth-set-same [] i y lt = absurd (omega arith)
  nth-set-same (x ∷ xs) zero y lt = refl
  nth-set-same (x ∷ xs) (suc i) y lt = nth-set-same xs i y (omega arith)

  pub nth-set-other : (xs : List A) (i j : ℕ) (y : A) → j ≢ i → nth (set xs i y) j ≡ nth xs j
  nth-set-other [] i j y n = refl
  nth-set-other (x ∷ xs) zero zero y n = absurd (n refl)
  nth-set-other (x ∷ xs) zero (suc j) y n = refl
  nth-set-other (x ∷ xs) (suc i) zero y n = refl
  nth-set-other (x ∷ xs) (suc i) (suc j) y n = nth-set-other xs i j y (λ e. n (ap suc e))

  module _ {B : Type 0} (f : A → B) where
    pub nth-map : (xs : List A) (i : ℕ) (x : A) → nth xs i ≡ Some x → nth (map f xs) i ≡ Some (f x)
    nth-map [] i x e = let z : ◌≡◌ {A = ℕ} 0 1 = cc in absurd (omega arith)
    nth-map (y ∷ xs) zero x e = let q : y ≡ x = cc in ap (λ (v : A). Some (f v)) q
    nth-map (y ∷ xs) (suc i) x e = nth-map xs i x e

    pub map_set_same : (xs : List A) (i : ℕ) (x y : A) → nth xs i ≡ Some x → f y ≡ f x → map f (set xs i y) ≡ map f xs
    map_set_same [] i x y e q = refl
    map_set_same (z ∷ xs) zero x y e q = let p : z ≡ x = cc in ap (λ (v : B). v ∷ map f xs) (q ∙ ap f (sym p))
    map_set_same (z ∷ xs) (suc i) x y e q = ap (λ (v : List B). f z ∷ v) (map_set_same xs i x y e q)

-- two lists with the same images: an element of the one stands over an element of the other
pub nth-over : {A B C : Type 0} (f : A → C) (g : B → C) (xs : List A) (ys : List B) (i : ℕ) (x : A) → map f xs ≡ map g ys → nth xs i ≡ Some x → (y : B) × (nth ys i ≡ Some y) × (g y ≡ f x)
nth-over f g [] ys i x e q = let z : ◌≡◌ {A = ℕ} 0 1 = cc in absurd (omega arith)
nth-over f g (a ∷ xs) [] i x e q = let z : ◌≡◌ {A = ℕ} 0 1 = cc in absurd (omega arith)
nth-over {A} {B} {C} f g (a ∷ xs) (b ∷ ys) zero x e q =
    let p : a ≡ x = cc in
    let u : f a ≡ g b = cc in
    (b, refl, sym u ∙ ap f p)
nth-over f g (a ∷ xs) (b ∷ ys) (suc i) x e q = let u : map f xs ≡ map g ys = cc in nth-over f g xs ys i x u q
