-- Walks along a row of ends, place by place: what loops over a slice of ends give.
use Rattle.std.proofs.Common.{◌≡◌, ℕ, zero, suc, ◌+◌, ◌-◌, ◌^◌, ◌<◌, ◌≤◌, min, Bool, true, false, cond, not, ◌||◌, ltb, leb, List, [], ◌∷◌, map, length, get_or, take, drop, set, Some, None, Option, is_some, sym, refl, ap, ◌∙◌, arith}
use Rattle.std.proofs.lemmas.Bool.{or_parts, and_from, not_from_false, lt-ltb, eq-eqb}
use Rattle.std.proofs.lemmas.Bool.Decides.{nat_tests}
use Rattle.std.proofs.lemmas.List.{get_or-map, drop_more, length-map, take-map}
use Rattle.std.specs.List.{position, position_or_len}
use Rattle.model.specs.Lists.{nth}
use Rattle.model.specs.Ends.{Rules, End, layer_limit, recognises, further, worn_out, worn_at, moved, moved_to, advanced, recognised_at, unwrapped}
pub use Rattle.rows.specs.Rows.{up_to}
use Rattle.rows.specs.Rows.{advanced_to, can_advance, tried, found_at, seek_left}
use Rattle.hops.specs.Views.{took_to}

-- an element that code has read
pub nth_read : {A B : Type 0} (f : A → B) (xs : List A) (i : ℕ) (x : A) → i < length xs → x ≡ get_or xs i x → nth (map f xs) i ≡ Some (f x)
nth_read f [] i x l e = absurd (omega arith)
nth_read f (y ∷ xs) zero x l e = ap (λ v. Some (f v)) (sym e)
nth_read f (y ∷ xs) (suc i) x l e = nth_read f xs i x (omega arith) e

-- what is left of a list from an element that code has read
pub drop-read : {A B : Type 0} (f : A → B) (xs : List A) (i : ℕ) (x : A) → i < length xs → x ≡ get_or xs i x → drop i (map f xs) ≡ f x ∷ drop (i + 1) (map f xs)
drop-read f xs i x l e =
    let m : i < length (map f xs) = simp length-map (omega arith) in
    drop_more (map f xs) i (f x) m ∙ ap (λ v. v ∷ drop (i + 1) (map f xs)) (get_or-map f xs i x (f x) l ∙ ap f (sym e))

-- a place counted from place n
abbrev pub past : ℕ → Option ℕ → Option ℕ
past zero o = o
past (suc n) o = past n (further o)

pub past-nowhere : (n : ℕ) → past n None ≡ None
past-nowhere zero = refl
past-nowhere (suc n) = past-nowhere n

pub past-place : (n k : ℕ) → past n (Some k) ≡ Some (n + k)
past-place zero k = let z : k ≡ 0 + k = omega arith in ap Some z
past-place (suc n) k = let z : n + suc k ≡ suc n + k = omega arith in past-place n (suc k) ∙ ap Some z

pub past-further : (n : ℕ) (o : Option ℕ) → past n (further o) ≡ past (n + 1) o
past-further n o = let z : n + 1 ≡ suc n = omega arith in rw z

up-to-none : (t : Bool) (o : Option ℕ) → up_to 0 (cond t (Some 0) (further o)) ≡ t
up-to-none true o = refl
up-to-none false None = refl
up-to-none false (Some k) = grind (arith, nat_tests)

up-to-more : (t : Bool) (o : Option ℕ) (d : ℕ) → up_to (suc d) (cond t (Some 0) (further o)) ≡ (t || up_to d o)
up-to-more true o d = grind (arith, nat_tests)
up-to-more false None d = refl
up-to-more false (Some k) d = grind (arith, nat_tests)

some-alone : (t : Bool) → is_some {T = ℕ} (cond t (Some 0) None) ≡ t
some-alone true = refl
some-alone false = refl

some-more : (t : Bool) (o : Option ℕ) → is_some {T = ℕ} (cond t (Some 0) (further o)) ≡ (t || is_some o)
some-more true o = refl
some-more false None = refl
some-more false (Some k) = refl

first-of : (t : Bool) (p n : ℕ) → cond (ltb (cond (not t) (1 + p) 0) (suc n)) (Some (cond (not t) (1 + p) 0)) None ≡ cond t (Some 0) (further (cond (ltb p n) (Some p) None))
first-of true p n = grind (arith, nat_tests)
first-of false p n = grind (arith, nat_tests)

module _ {K S : Type 0} where
  ---- worn out
  -- an end up to d is worn out exactly if the first such end is not past d
  pub worn_up_to : (es : List (End K S)) (d : ℕ) → worn_out es d ≡ up_to d (worn_at es)
  worn_up_to [] d = refl
  worn_up_to (e ∷ es) zero = sym (up-to-none (leb layer_limit e.layer) (worn_at es))
  worn_up_to (e ∷ es) (suc d) = ap (λ b. leb layer_limit e.layer || b) (worn_up_to es d) ∙ sym (up-to-more (leb layer_limit e.layer) (worn_at es) d)

  -- and exactly if there is one among the first d + 1 ends, or among all where there are fewer
  worn-among : (es : List (End K S)) (d n : ℕ) → n ≡ min (length es) (suc d) → is_some {T = ℕ} (worn_at (take n es)) ≡ worn_out es d
  worn-among [] d n h = let z : n ≡ 0 = omega (arith, h) in rw z refl
  worn-among (e ∷ es) zero n h = let z : n ≡ 1 = omega (arith, h) in rw z (some-alone (leb layer_limit e.layer))
  worn-among (e ∷ es) (suc d) n h =
      let z : n ≡ suc (min (length es) (suc d)) = omega (arith, h) in
      rw z (some-more (leb layer_limit e.layer) (worn_at (take (min (length es) (suc d)) es)) ∙ ap (λ b. leb layer_limit e.layer || b) (worn-among es d (min (length es) (suc d)) refl))

  pub worn_near : {A : Type 0} (f : A → End K S) (xs : List A) (d : ℕ) → length xs ≤ 2 ^ 64 - 1
      → is_some {T = ℕ} (worn_at (map f (take (min (length xs) (min (d + 1) (2 ^ 64 - 1))) xs))) ≡ worn_out (map f xs) d
  worn_near f xs d l =
      let n = min (length xs) (min (d + 1) (2 ^ 64 - 1)) in
      ap (λ v. is_some (worn_at v)) (sym (take-map f n xs)) ∙ worn-among (map f xs) d n (omega (arith, length-map xs f, l))

  -- the first end that is worn out, as a search finds it
  pub worn-position : {A : Type 0} (f : A → End K S) (xs : List A) → position (λ x. leb layer_limit (f x).layer) xs ≡ worn_at (map f xs)
  worn-position f [] = refl
  worn-position f (x ∷ xs) =
      first-of (leb layer_limit (f x).layer) (position_or_len (λ y. leb layer_limit (f y).layer) xs) (length xs)
      ∙ ap (λ o. cond (leb layer_limit (f x).layer) (Some 0) (further o)) (worn-position f xs)

  -- an end up to d, where none is worn out
  pub fresh_at : (es : List (End K S)) (d i : ℕ) (e : End K S) → i ≤ d → worn_out es d ≡ false → nth es i ≡ Some e → leb layer_limit e.layer ≡ false
  fresh_at [] d i e l t h = let z : ◌≡◌ {A = ℕ} 0 1 = cc in absurd (omega arith)
  fresh_at (x ∷ es) zero zero e l t h = let p : x ≡ e = cc in rw p at t
  fresh_at (x ∷ es) zero (suc i) e l t h = absurd (omega arith)
  fresh_at (x ∷ es) (suc d) zero e l t h = let p : x ≡ e = cc in rw p at (or_parts (leb layer_limit x.layer) (worn_out es d) t).0
  fresh_at (x ∷ es) (suc d) (suc i) e l t h = fresh_at es d i e (omega arith) (or_parts (leb layer_limit x.layer) (worn_out es d) t).1 h

  ---- moving on
  pub can-advance : (es : List (End K S)) (d : ℕ) → d < length es → worn_out es d ≡ false → can_advance es d ≡ true
  can-advance es d l w = and_from (ltb d (length es)) (not (worn_out es d)) (lt-ltb d (length es) l) (not_from_false (worn_out es d) w)

  pub nth-moved : (es : List (End K S)) (i : ℕ) → nth (moved_to i es) i ≡ nth es i
  nth-moved [] zero = refl
  nth-moved [] (suc i) = refl
  nth-moved (x ∷ es) zero = refl
  nth-moved (x ∷ es) (suc i) = nth-moved es i

  pub move_step : (es : List (End K S)) (i : ℕ) (x : End K S) → nth (moved_to i es) i ≡ Some x → set (moved_to i es) i (moved x) ≡ moved_to (i + 1) es
  move_step [] zero x h = let z : ◌≡◌ {A = ℕ} 0 1 = cc in absurd (omega arith)
  move_step [] (suc i) x h = let z : ◌≡◌ {A = ℕ} 0 1 = cc in absurd (omega arith)
  move_step (y ∷ es) zero x h = let p : y ≡ x = cc in rw p
  move_step (y ∷ es) (suc i) x h = let z : suc i + 1 ≡ suc (i + 1) = omega arith in rw z (ap (λ v. moved y ∷ v) (move_step es i x h))

  pub move-last : (es : List (End K S)) (d : ℕ) (x : End K S) (s : S) → nth (moved_to d es) d ≡ Some x → set (moved_to d es) d (took_to x s) ≡ advanced_to es d s
  move-last [] zero x s h = let z : ◌≡◌ {A = ℕ} 0 1 = cc in absurd (omega arith)
  move-last [] (suc i) x s h = let z : ◌≡◌ {A = ℕ} 0 1 = cc in absurd (omega arith)
  move-last (y ∷ es) zero x s h = let p : y ≡ x = cc in rw p
  move-last (y ∷ es) (suc i) x s h = ap (λ v. moved y ∷ v) (move-last es i x s h)

module _ {K S : Type 0} (R : Rules K S) where
  -- the digest at d took b
  pub advanced-to : (es : List (End K S)) (d : ℕ) (e : End K S) (b : List ℕ) (s : S) → nth es d ≡ Some e → s ≡ R.takes e.digest b → advanced_to es d s ≡ advanced R es d b
  advanced-to [] d e b s h t = refl
  advanced-to (y ∷ es) zero e b s h t = let p : y ≡ e = cc in rw (p, t)
  advanced-to (y ∷ es) (suc d) e b s h t = ap (λ v. moved y ∷ v) (advanced-to es d e b s h t)

  ---- removing layers
  pub unwrap-step : (es : List (End K S)) (j : ℕ) (e : End K S) (x : List ℕ) → nth es j ≡ Some e → unwrapped R (j + 1) es x ≡ R.removed e.cipher e.layer (unwrapped R j es x)
  unwrap-step [] j e x h = let z : ◌≡◌ {A = ℕ} 0 1 = cc in absurd (omega arith)
  unwrap-step (y ∷ es) zero e x h = let p : y ≡ e = cc in rw p
  unwrap-step (y ∷ es) (suc j) e x h = let z : suc j + 1 ≡ suc (j + 1) = omega arith in rw z (unwrap-step es j e (R.removed y.cipher y.layer x) h)

  pub seek-step : (es : List (End K S)) (j : ℕ) (e : End K S) (x : List ℕ) (t : Bool) → drop j es ≡ e ∷ drop (j + 1) es → recognises R.tags e.digest (R.removed e.cipher e.layer x) ≡ t
      → past j (recognised_at R (drop j es) x) ≡ cond t (Some j) (past (j + 1) (recognised_at R (drop (j + 1) es) (R.removed e.cipher e.layer x)))
  seek-step es j e x true h p = let z : j + 0 ≡ j = omega arith in rw (h, p) (past-place j 0 ∙ ap Some z)
  seek-step es j e x false h p = rw (h, p) (past-further j (recognised_at R (drop (j + 1) es) (R.removed e.cipher e.layer x)))

  -- what a search answers and leaves
  module _ (es : List (End K S)) (p : List ℕ) (o : Option ℕ) (long : length p ≡ 509) (at : o ≡ recognised_at R es p) where
    pub found-is : o ≡ found_at R es p
    found-is = rw (eq-eqb (length p) 509 long) at

    pub left_is : unwrapped R (tried (length es) o) es p ≡ seek_left R es p
    left_is = rw (eq-eqb (length p) 509 long, at)
