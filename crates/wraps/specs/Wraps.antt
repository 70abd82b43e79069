-- What wrapping for an end of a row answers and leaves.
use Rattle.std.specs.Prelude.{ℕ, zero, suc, ◌+◌, ◌-◌, ◌<◌, cond, List, [], ◌∷◌, length, drop, Some, None, Option, ◌==◌, nat_lt}
use Rattle.model.specs.Ends.{Rules, End, recognises, farther, wrapped, coincidence}
use Rattle.wraps.specs.declared.error.WrapError.{WrapError}
use Rattle.wraps.specs.declared.error.WrapError.TheVariants.{Length, NoSuchHop, Coincidence}

-- the refusal of a payload that coincides at a place
abbrev pub coincides : Option ℕ → Option WrapError
coincides None = None
coincides (Some j) = Some (Coincidence j)

-- the payload that a wrapping leaves: p is the one given, `layers i` those from place i on over it
abbrev pub left_by : (ℕ → List ℕ) → List ℕ → Option WrapError → List ℕ
left_by layers p None = layers 0
left_by layers p (Some Length) = p
left_by layers p (Some NoSuchHop) = p
left_by layers p (Some (Coincidence j)) = layers (j + 1)

-- the place that layers reach down to
abbrev pub from : Option ℕ → ℕ
from None = 0
from (Some j) = j + 1

abbrev pub Nearer : ℕ → WrapError → Type 0
Nearer d Length = Unit {0}
Nearer d NoSuchHop = Unit {0}
Nearer d (Coincidence j) = j < d

module _ {K S : Type 0} (R : Rules K S) where
  -- the layers of the ends before place d, over x
  abbrev pub layered : List (End K S) → ℕ → List ℕ → List ℕ
  layered [] d x = x
  layered (e ∷ es) zero x = x
  layered (e ∷ es) (suc d) x = R.added e.cipher e.layer (layered es d x)

  -- the farthest end before place d whose test x passes under the layers of the ends past it, that at place d the last
  abbrev pub taken_at : List (End K S) → ℕ → List ℕ → Option ℕ
  taken_at [] d x = None
  taken_at (e ∷ es) zero x = None
  taken_at (e ∷ es) (suc d) x = farther (taken_at es d x) (recognises R.tags e.digest (layered es (suc d) x))

  abbrev pub wrap_refusal : List (End K S) → ℕ → List ℕ → Option WrapError
  wrap_refusal es d b =
      cond (nat_lt d (length es)) (cond (length b == 509) (coincides (coincidence R es d b)) (Some Length)) (Some NoSuchHop)

  -- all layers, or those down to the coincidence
  abbrev pub wrap_left : List (End K S) → ℕ → List ℕ → List ℕ
  wrap_left es d b = left_by (λ i. wrapped R (drop i es) (d - i) b) b (wrap_refusal es d b)
