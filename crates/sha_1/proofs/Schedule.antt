-- The schedule's first words are the block's, and each later one comes from four before it; so sixteen words give the next.
use Rattle.std.proofs.Common.{◌≡◌, ℕ, zero, suc, ◌+◌, ◌-◌, ◌<◌, ◌≤◌, List, [], ◌∷◌, ◌++◌, map, length, get_or, drop, sym, refl, ap, ◌∙◌, subst, ⊎_elim, zero-add, arith}
use Rattle.std.specs.List.{range_with_len}
use Rattle.std.proofs.lemmas.List.{get_or_append_left, get_or_push, length_push, drop_more, drop_all}
use Rattle.std.proofs.lemmas.List.FromFn.{length-map-range_with_len, get_or-map-range_with_len}
use Rattle.std.proofs.lemmas.Bool.{cases_eq}
use Rattle.sha_1.specs.Sha1.{extended, schedule, next_word, mixed, M, steps}
use Rattle.sha_1.specs.Quads.{quad_at, sixteen_at, next_quad, moved_on, four_steps, twenty_steps}
use Rattle.sha_1.specs.declared.words.Quad.{Quad}
use Rattle.sha_1.specs.declared.words.Sixteen.{Sixteen}
use Rattle.sha_1.specs.declared.words.Working.{Working}

pub extended-front : (n : ℕ) (ws : List ℕ) (t : ℕ) → t < length ws → get_or (extended n ws) t 0 ≡ get_or ws t 0
unfolding extended
extended-front zero ws t h = refl
extended-front (suc n) ws t h =
    extended-front n (ws ++ (next_word ws ∷ [])) t (omega (arith, length_push ws (next_word ws)))
    ∙ get_or_append_left ws (next_word ws ∷ []) 0 t h

pub extended-length : (n : ℕ) (ws : List ℕ) → length (extended n ws) ≡ length ws + n
unfolding extended
extended-length zero ws = omega arith
extended-length (suc n) ws = omega (arith, extended-length n (ws ++ (next_word ws ∷ [])), length_push ws (next_word ws))

abbrev pub four_before : List ℕ → ℕ → ℕ
four_before ws t = mixed (get_or ws (t - 3) 0) (get_or ws (t - 8) 0) (get_or ws (t - 14) 0) (get_or ws (t - 16) 0)

mixed-same : (p q r s p' q' r' s' : ℕ) → p ≡ p' → q ≡ q' → r ≡ r' → s ≡ s' → mixed p q r s ≡ mixed p' q' r' s'
mixed-same p q r s p' q' r' s' e f g h = cc

extended-here : (n : ℕ) (ws : List ℕ) → 16 ≤ length ws → get_or (extended (suc n) ws) (length ws) 0 ≡ four_before (extended (suc n) ws) (length ws)
unfolding extended
extended-here n ws lo =
    let m : ℕ = length ws in
    extended-front n (ws ++ (next_word ws ∷ [])) (length ws) (omega (arith, length_push ws (next_word ws)))
    ∙ get_or_push ws (next_word ws) 0 (length ws) refl
    ∙ mixed-same _ _ _ _ _ _ _ _
    (sym (extended-front (suc n) ws (length ws - 3) (omega arith)))
    (sym (extended-front (suc n) ws (length ws - 8) (omega arith)))
    (sym (extended-front (suc n) ws (length ws - 14) (omega arith)))
    (sym (extended-front (suc n) ws (length ws - 16) (omega arith)))

pub extended-later : (n : ℕ) (ws : List ℕ) (t : ℕ) → 16 ≤ length ws → length ws ≤ t → t < length ws + n → get_or (extended n ws) t 0 ≡ four_before (extended n ws) t
unfolding extended
extended-later zero ws t lo at hi = absurd (omega arith)
extended-later (suc n) ws t lo at hi =
    ⊎_elim
    (λ (e : length ws ≡ t). subst (λ (k : ℕ). get_or (extended (suc n) ws) k 0 ≡ four_before (extended (suc n) ws) k) e (extended-here n ws lo))
    (λ (ne : length ws ≡ t → ⊥). extended-later n (ws ++ (next_word ws ∷ [])) t
    (omega (arith, length_push ws (next_word ws))) (omega (arith, length_push ws (next_word ws), ne)) (omega (arith, length_push ws (next_word ws))))
    (cases_eq (length ws) t)

module _ (block : List ℕ) where
  pub schedule-length : length (schedule block) ≡ 80
  unfolding schedule
  schedule-length = omega (arith, extended-length 64 (map (M block) (range_with_len 0 16)), length-map-range_with_len (M block) 0 16)

  pub schedule-word : (t : ℕ) → t < 16 → get_or (schedule block) t 0 ≡ M block t
  unfolding schedule
  schedule-word t h =
      extended-front 64 (map (M block) (range_with_len 0 16)) t (omega (arith, length-map-range_with_len (M block) 0 16))
      ∙ get_or-map-range_with_len (M block) 0 16 t t 0 h (zero-add t)

  pub schedule-later : (t : ℕ) → 16 ≤ t → t < 80 → get_or (schedule block) t 0 ≡ four_before (schedule block) t
  unfolding schedule
  schedule-later t lo hi = extended-later 64 (map (M block) (range_with_len 0 16)) t (omega (arith, length-map-range_with_len (M block) 0 16)) (omega (arith, length-map-range_with_len (M block) 0 16)) (omega (arith, length-map-range_with_len (M block) 0 16))

pub quad-same : {a b c d a' b' c' d' : ℕ} → a ≡ a' → b ≡ b' → c ≡ c' → d ≡ d' → ◌≡◌ {A = Quad} (record { w0 = a; w1 = b; w2 = c; w3 = d }) (record { w0 = a'; w1 = b'; w2 = c'; w3 = d' })
quad-same e f g h = cc

module _ (block : List ℕ) where
  abbrev ws : List ℕ
  ws = schedule block

  -- word t + 16, from the sixteen before it
  next-at : (t a b c d : ℕ) → t < 64 → a ≡ get_or ws (t + 13) 0 → b ≡ get_or ws (t + 8) 0 → c ≡ get_or ws (t + 2) 0 → d ≡ get_or ws t 0 → mixed a b c d ≡ get_or ws (t + 16) 0
  next-at t a b c d lt ea eb ec ed =
      mixed-same _ _ _ _ _ _ _ _
      (ea ∙ ap (λ k. get_or ws k 0) (omega arith))
      (eb ∙ ap (λ k. get_or ws k 0) (omega arith))
      (ec ∙ ap (λ k. get_or ws k 0) (omega arith))
      (ed ∙ ap (λ k. get_or ws k 0) (omega arith))
      ∙ sym (schedule-later block (t + 16) (omega arith) (omega arith))

  -- the place of a word, counted in two ways
  place : (i j : ℕ) → i ≡ j → get_or ws i 0 ≡ get_or ws j 0
  place i j e = ap (λ k. get_or ws k 0) e

  next-quad-at : (t : ℕ) → t + 20 ≤ 80 → next_quad (sixteen_at ws t) ≡ quad_at ws (t + 16)
  next-quad-at t le =
      let first : mixed (get_or ws (t + 12 + 1) 0) (get_or ws (t + 8) 0) (get_or ws (t + 2) 0) (get_or ws t 0) ≡ get_or ws (t + 16) 0
      = next-at t _ _ _ _ (omega arith) (place _ _ (omega arith)) refl refl refl in
      quad-same
      first
      (next-at (t + 1) _ _ _ _ (omega arith) (place _ _ (omega arith)) (place _ _ (omega arith)) (place _ _ (omega arith)) refl ∙ place _ _ (omega arith))
      (next-at (t + 2) _ _ _ _ (omega arith) (place _ _ (omega arith)) (place _ _ (omega arith)) (place _ _ (omega arith)) refl ∙ place _ _ (omega arith))
      (next-at (t + 3) _ _ _ _ (omega arith) (first ∙ place _ _ (omega arith)) (place _ _ (omega arith)) (place _ _ (omega arith)) refl ∙ place _ _ (omega arith))

  moved-on-at : (t : ℕ) → t + 20 ≤ 80 → moved_on (sixteen_at ws t) ≡ sixteen_at ws (t + 4)
  moved-on-at t le =
      let at8 : quad_at ws (t + 8) ≡ quad_at ws (t + 4 + 4) = ap (quad_at ws) (omega arith) in
      let at12 : quad_at ws (t + 12) ≡ quad_at ws (t + 4 + 8) = ap (quad_at ws) (omega arith) in
      let at16 : next_quad (sixteen_at ws t) ≡ quad_at ws (t + 4 + 12) = next-quad-at t le ∙ ap (quad_at ws) (omega arith) in
      cc

  pub sixteen-on : (t u : ℕ) (x y : Sixteen) → t + 32 ≤ 80 → t + 16 ≡ u → x ≡ sixteen_at ws t → y ≡ moved_on (moved_on (moved_on (moved_on x))) → y ≡ sixteen_at ws u
  sixteen-on t u x y le eu ex ey =
      ey ∙ ap (λ (z : Sixteen). moved_on (moved_on (moved_on z))) (ap moved_on ex ∙ moved-on-at t (omega arith))
      ∙ ap (λ (z : Sixteen). moved_on (moved_on z)) (moved-on-at (t + 4) (omega arith))
      ∙ ap moved_on (moved-on-at (t + 4 + 4) (omega arith))
      ∙ moved-on-at (t + 4 + 4 + 4) (omega arith)
      ∙ ap (sixteen_at ws) (omega arith)

-- the steps, four at a time: t is a numeral where this is used, so that f and K at t to t + 3 compute
abbrev pub Four : (ℕ → ℕ → ℕ → ℕ) → ℕ → ℕ → Type 0
Four g k t = (q : Quad) (rest : List ℕ) (v : Working) → steps t (q.w0 ∷ q.w1 ∷ q.w2 ∷ q.w3 ∷ rest) v ≡ steps (t + 4) rest (four_steps g k q v)

drop-quad : (ws : List ℕ) (t : ℕ) → t + 4 ≤ length ws → drop t ws ≡ get_or ws t 0 ∷ get_or ws (t + 1) 0 ∷ get_or ws (t + 2) 0 ∷ get_or ws (t + 3) 0 ∷ drop (t + 4) ws
drop-quad ws t le =
    let one : drop (t + 1) ws ≡ get_or ws (t + 1) 0 ∷ drop (t + 2) ws = drop_more ws (t + 1) 0 (omega arith) ∙ ap (λ k. get_or ws (t + 1) 0 ∷ drop k ws) (omega arith) in
    let two : drop (t + 2) ws ≡ get_or ws (t + 2) 0 ∷ drop (t + 3) ws = drop_more ws (t + 2) 0 (omega arith) ∙ ap (λ k. get_or ws (t + 2) 0 ∷ drop k ws) (omega arith) in
    let three : drop (t + 3) ws ≡ get_or ws (t + 3) 0 ∷ drop (t + 4) ws = drop_more ws (t + 3) 0 (omega arith) ∙ ap (λ k. get_or ws (t + 3) 0 ∷ drop k ws) (omega arith) in
    let zero : drop t ws ≡ get_or ws t 0 ∷ drop (t + 1) ws = drop_more ws t 0 (omega arith) in
    cc

pub steps-four : (g : ℕ → ℕ → ℕ → ℕ) (k : ℕ) (ws : List ℕ) (t : ℕ) (q : Quad) (v v' z : Working) → t + 4 ≤ length ws → Four g k t → q ≡ quad_at ws t → v' ≡ four_steps g k q v
    → steps t (drop t ws) v ≡ z → steps (t + 4) (drop (t + 4) ws) v' ≡ z
steps-four g k ws t q v v' z le four eq ev h =
    ap (steps (t + 4) (drop (t + 4) ws)) (ev ∙ ap (λ (x : Quad). four_steps g k x v) eq)
    ∙ sym (four (quad_at ws t) (drop (t + 4) ws) v)
    ∙ ap (λ (xs : List ℕ). steps t xs v) (sym (drop-quad ws t le))
    ∙ h

-- the same, where the place after the four is counted in another way
steps-four-to : (g : ℕ → ℕ → ℕ → ℕ) (k : ℕ) (ws : List ℕ) (t u : ℕ) (q : Quad) (v z : Working) → t + 4 ≤ length ws → t + 4 ≡ u → Four g k t → q ≡ quad_at ws t
    → steps t (drop t ws) v ≡ z → steps u (drop u ws) (four_steps g k q v) ≡ z
steps-four-to g k ws t u q v z le eu four eq h =
    subst (λ (n : ℕ). steps n (drop n ws) (four_steps g k q v) ≡ z) eu (steps-four g k ws t q v _ z le four eq refl h)

-- twenty steps with one function and one constant
pub steps-twenty : (g : ℕ → ℕ → ℕ → ℕ) (k : ℕ) (ws : List ℕ) (t : ℕ) (a b c d e : Quad) (v v' z : Working) → t + 20 ≤ length ws
    → Four g k t → Four g k (t + 4) → Four g k (t + 8) → Four g k (t + 12) → Four g k (t + 16)
    → a ≡ quad_at ws t → b ≡ quad_at ws (t + 4) → c ≡ quad_at ws (t + 8) → d ≡ quad_at ws (t + 12) → e ≡ quad_at ws (t + 16)
    → v' ≡ twenty_steps g k a b c d e v
    → steps t (drop t ws) v ≡ z → steps (t + 20) (drop (t + 20) ws) v' ≡ z
steps-twenty g k ws t a b c d e v v' z le f0 f4 f8 f12 f16 ea eb ec ed ee ev h =
    let at4 = steps-four-to g k ws t (t + 4) a v z (omega arith) refl f0 ea h in
    let at8 = steps-four-to g k ws (t + 4) (t + 8) b _ z (omega arith) (omega arith) f4 eb at4 in
    let at12 = steps-four-to g k ws (t + 8) (t + 12) c _ z (omega arith) (omega arith) f8 ec at8 in
    let at16 = steps-four-to g k ws (t + 12) (t + 16) d _ z (omega arith) (omega arith) f12 ed at12 in
    ap (steps (t + 20) (drop (t + 20) ws)) ev ∙ steps-four-to g k ws (t + 16) (t + 20) e _ z (omega arith) (omega arith) f16 ee at16

pub steps_all : (ws : List ℕ) (t : ℕ) (v z : Working) → length ws ≤ t → steps t (drop t ws) v ≡ z → v ≡ z
steps_all ws t v z le h = ap (λ (xs : List ℕ). steps t xs v) (sym (drop_all t ws le)) ∙ h
