-- Decimal numbers with one spelling each: no sign, no leading zero.
use Rattle.std.specs.Prelude.{ℕ, ◌+◌, ◌-◌, ◌*◌, cond, ◌&&◌, List, [], ◌∷◌, Some, None, Option, ◌==◌, nat_le}

-- the digits after a number n, the whole at most `most`
abbrev pub continued : ℕ → ℕ → List ℕ → Option ℕ
continued most n [] = Some n
continued most n (c ∷ cs) =
    cond (nat_le 48 c && nat_le c 57) (cond (nat_le (10 * n + (c - 48)) most) (continued most (10 * n + (c - 48)) cs) None) None

-- a number from 0 to `most`
abbrev pub number : ℕ → List ℕ → Option ℕ
number most [] = None
number most (c ∷ []) = continued most 0 (c ∷ [])
number most (c ∷ d ∷ cs) = cond (c == 48) None (continued most 0 (c ∷ d ∷ cs))
