-- Rows of ends: how they move on, and what seeking answers and leaves.
use Rattle.std.specs.Prelude.{ℕ, zero, suc, ◌+◌, ◌<◌, Bool, false, cond, not, ◌&&◌, List, [], ◌∷◌, length, Some, None, Option, ◌==◌, nat_le, nat_lt}
use Rattle.model.specs.Ends.{Rules, End, moved, worn_out, recognised_at, unwrapped}
use Rattle.hops.specs.Views.{took_to}

module _ {K S : Type 0} where
  -- the ends up to place d used a layer each, and the digest there is s now
  abbrev pub advanced_to : List (End K S) → ℕ → S → List (End K S)
  advanced_to [] d s = []
  advanced_to (e ∷ es) zero s = took_to e s ∷ es
  advanced_to (e ∷ es) (suc d) s = moved e ∷ advanced_to es d s

  -- there is an end at place d, and no end up to it is worn out
  abbrev pub can_advance : List (End K S) → ℕ → Bool
  can_advance es d = nat_lt d (length es) && not (worn_out es d)

-- a place is before place d
abbrev pub Before : ℕ → Option ℕ → Type 0
Before d None = Unit {0}
Before d (Some j) = j < d

-- there is such a place, and it is not past place d
abbrev pub up_to : ℕ → Option ℕ → Bool
up_to d None = false
up_to d (Some j) = nat_le j d

-- the place and the digest that seeking found
abbrev pub place_of : {D : Type 0} → Option (ℕ × D) → Option ℕ
place_of None = None
place_of (Some x) = Some x.0

-- how many layers it removed, of n
abbrev pub tried : ℕ → Option ℕ → ℕ
tried n None = n
tried n (Some j) = j + 1

module _ {K S : Type 0} (R : Rules K S) where
  abbrev pub found_at : List (End K S) → List ℕ → Option ℕ
  found_at es p = cond (length p == 509) (recognised_at R es p) None

  -- the layers removed up to the end that was found, or all of them
  abbrev pub seek_left : List (End K S) → List ℕ → List ℕ
  seek_left es p = cond (length p == 509) (unwrapped R (tried (length es) (recognised_at R es p)) es p) p
