-- Numbers by place in a list, and their sum: what `set` does to them. And lists of tests of which none holds.
use Rattle.std.proofs.Common.{◌≡◌, ℕ, zero, suc, ◌+◌, ◌*◌, ◌<◌, ◌≤◌, Bool, true, false, cond, List, [], ◌∷◌, map, length, get_or, set, Some, None, Option, refl, ap, suc-mul, arith}
use Rattle.model.specs.Lists.{nth, total, first_of}
use Rattle.model.specs.Law.{All}
use Rattle.model.proofs.Places.{nth-within}

-- a number of the element at a place; 0 past the end
abbrev pub at : {A : Type 0} → (A → ℕ) → List A → ℕ → ℕ
at f [] i = 0
at f (x ∷ xs) zero = f x
at f (x ∷ xs) (suc i) = at f xs i

-- 1 where two places are the same
abbrev pub one : ℕ → ℕ → ℕ
one zero zero = 1
one zero (suc j) = 0
one (suc i) zero = 0
one (suc i) (suc j) = one i j

module _ {A : Type 0} (f : A → ℕ) where
  pub at-nth : (xs : List A) (i : ℕ) (a : A) → nth xs i ≡ Some a → at f xs i ≡ f a
  at-nth [] i a e = absurd (omega (arith, nth-within [] i a e))
  at-nth (x ∷ xs) zero a e = let z : x ≡ a = cc in ap f z
  at-nth (x ∷ xs) (suc i) a e = at-nth xs i a e

  pub at_set : (xs : List A) (i : ℕ) (a b : A) (m n : ℕ) → nth xs i ≡ Some a → f b + m ≡ f a + n
      → (j : ℕ) → at f (set xs i b) j + m * one i j ≡ at f xs j + n * one i j
  at_set [] i a b m n e s j = absurd (omega (arith, nth-within [] i a e))
  at_set (x ∷ xs) zero a b m n e s zero = let z : x ≡ a = cc in omega (arith, ap f z)
  at_set (x ∷ xs) zero a b m n e s (suc j) = omega arith
  at_set (x ∷ xs) (suc i) a b m n e s zero = omega arith
  at_set (x ∷ xs) (suc i) a b m n e s (suc j) = at_set xs i a b m n e s j

  pub at-set-le : (xs : List A) (i : ℕ) (b : A) (m : ℕ) → f b ≤ m → ((j : ℕ) → at f xs j ≤ m) → (j : ℕ) → at f (set xs i b) j ≤ m
  at-set-le [] i b m le h j = omega arith
  at-set-le (x ∷ xs) zero b m le h zero = le
  at-set-le (x ∷ xs) zero b m le h (suc j) = h (suc j)
  at-set-le (x ∷ xs) (suc i) b m le h zero = h 0
  at-set-le (x ∷ xs) (suc i) b m le h (suc j) = at-set-le xs i b m le (λ k. h (suc k)) j

  pub at_same : (xs : List A) (i : ℕ) (a b : A) → nth xs i ≡ Some a → f b ≡ f a → (j : ℕ) → at f (set xs i b) j ≡ at f xs j
  at_same xs i a b e s j = omega (arith, at_set xs i a b 0 0 e (omega arith) j)

  pub at-get_or : (d : A) → f d ≡ 0 → (xs : List A) (i : ℕ) → at f xs i ≡ f (get_or xs i d)
  at-get_or d z [] i = omega arith
  at-get_or d z (x ∷ xs) zero = refl
  at-get_or d z (x ∷ xs) (suc i) = at-get_or d z xs i

  pub at_all : (xs : List A) → All (λ a. f a ≡ 0) xs → (j : ℕ) → at f xs j ≡ 0
  at_all [] h j = refl
  at_all (x ∷ xs) h zero = h.0
  at_all (x ∷ xs) h (suc j) = at_all xs h.1 j

  pub total-set : (xs : List A) (i : ℕ) (a b : A) → nth xs i ≡ Some a → f b ≡ f a + 1 → total f (set xs i b) ≡ total f xs + 1
  total-set [] i a b e s = absurd (omega (arith, nth-within [] i a e))
  total-set (x ∷ xs) zero a b e s = let z : x ≡ a = cc in omega (arith, ap f z)
  total-set (x ∷ xs) (suc i) a b e s = omega (arith, total-set xs i a b e s)

  pub total-same : (xs : List A) (i : ℕ) (b d : A) → f b ≡ f (get_or xs i d) → total f (set xs i b) ≡ total f xs
  total-same [] i b d s = refl
  total-same (x ∷ xs) zero b d s = omega arith
  total-same (x ∷ xs) (suc i) b d s = omega (arith, total-same xs i b d s)

  pub total-le : (xs : List A) (m : ℕ) → ((j : ℕ) → at f xs j ≤ m) → total f xs ≤ length xs * m
  total-le [] m h = omega arith
  total-le (x ∷ xs) m h = omega (arith, suc-mul (length xs) m, h 0, total-le xs m (λ j. h (suc j)))

  -- one of them less
  pub total-lt : (xs : List A) (m i : ℕ) → i < length xs → at f xs i < m → ((j : ℕ) → at f xs j ≤ m) → total f xs < length xs * m
  total-lt [] m i lt s h = absurd (omega arith)
  total-lt (x ∷ xs) m zero lt s h = omega (arith, suc-mul (length xs) m, total-le xs m (λ j. h (suc j)))
  total-lt (x ∷ xs) m (suc i) lt s h = omega (arith, suc-mul (length xs) m, h 0, total-lt xs m i (omega arith) s (λ j. h (suc j)))

pub at_map : {A B : Type 0} (f : B → ℕ) (g : A → B) (xs : List A) (j : ℕ) → at f (map g xs) j ≡ at (λ a. f (g a)) xs j
at_map f g [] j = refl
at_map f g (x ∷ xs) zero = refl
at_map f g (x ∷ xs) (suc j) = at_map f g xs j

pub at_zero : {A : Type 0} (xs : List A) (j : ℕ) → at (λ a. 0) xs j ≡ 0
at_zero [] j = refl
at_zero (x ∷ xs) zero = refl
at_zero (x ∷ xs) (suc j) = at_zero xs j

---- tests
first-fails : {A : Type 0} (b : Bool) (a : A) (o : Option A) → cond b (Some a) o ≡ None → (b ≡ false) × (o ≡ None)
first-fails true a o e = let z : ◌≡◌ {A = ℕ} 0 1 = cc in absurd (omega arith)
first-fails false a o e = (refl, e)

pub none-holds : {A : Type 0} (ts : List (Bool × A)) → first_of ts ≡ None → All (λ (t : Bool × A). t.0 ≡ false) ts
none-holds [] e = tt
none-holds (t ∷ ts) e = let h = first-fails t.0 t.1 (first_of ts) e in (h.0, none-holds ts h.1)

---- all elements
pub all-also : {A : Type 0} (P Q : A → Type 0) → ((a : A) → P a → Q a) → (xs : List A) → All P xs → All Q xs
all-also P Q h [] p = tt
all-also P Q h (x ∷ xs) p = (h x p.0, all-also P Q h xs p.1)
