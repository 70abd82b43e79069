-- A hash over blocks: w bytes to a block, and f, which takes a block into the state.
use Rattle.std.specs.Prelude.{◌≡◌, ℕ, zero, suc, ◌+◌, ◌*◌, ◌/◌, ◌<◌, cond, List, [], ◌∷◌, ◌++◌, length, take, drop, ◌==◌}

-- the first n blocks of the bytes, one after the other
abbrev pub first_blocks : {S : Type 0} → ℕ → (S → List ℕ → S) → ℕ → S → List ℕ → S
first_blocks w f zero s bs = s
first_blocks w f (suc n) s bs = first_blocks w f n (f s (take w bs)) (drop w bs)

-- all whole blocks of the bytes
abbrev pub blocks : {S : Type 0} → ℕ → (S → List ℕ → S) → S → List ℕ → S
blocks w f s bs = first_blocks w f (length bs / w) s bs

-- a hash between two bytes: the state after the whole blocks, and the bytes since
pub record Running (S : Type 0) : Type 0 where
  pub state : S
  pub rest : List ℕ

abbrev pub running_at : {S : Type 0} → S → List ℕ → Running S
running_at s r = record { state = s; rest = r }

-- one byte more
abbrev pub push : {S : Type 0} → ℕ → (S → List ℕ → S) → Running S → ℕ → Running S
push w f h b = cond (length h.rest + 1 == w)
    (running_at (f h.state (h.rest ++ (b ∷ []))) [])
    (running_at h.state (h.rest ++ (b ∷ [])))

abbrev pub feed : {S : Type 0} → ℕ → (S → List ℕ → S) → Running S → List ℕ → Running S
feed w f h [] = h
feed w f h (b ∷ bs) = feed w f (push w f h b) bs

-- bytes one by one give what their blocks give, and keep what is left over
abbrev pub IncrementalLaw : Type 0 → Type 0
IncrementalLaw S = (w : ℕ) (f : S → List ℕ → S) (s : S) (bs : List ℕ) → 0 < w
    → feed w f (running_at s []) bs ≡ running_at (blocks w f s bs) (drop (length bs / w * w) bs)
