-- Bytes as lower-case hexadecimal, two digits each.
use Rattle.std.specs.Prelude.{ℕ, ◌+◌, ◌-◌, ◌*◌, cond, ◌&&◌, List, [], ◌∷◌, ◌++◌, Some, None, Option, nat_le}

-- the value of a digit, '0' to '9' and 'a' to 'f'
abbrev pub digit_value : ℕ → Option ℕ
digit_value c = cond (nat_le 48 c && nat_le c 57) (Some (c - 48)) (cond (nat_le 97 c && nat_le c 102) (Some (c - 87)) None)

abbrev pub behind : List ℕ → Option (List ℕ) → Option (List ℕ)
behind bs None = None
behind bs (Some more) = Some (bs ++ more)

abbrev pub pair_value : Option ℕ → Option ℕ → Option (List ℕ) → Option (List ℕ)
pair_value None low rest = None
pair_value (Some h) None rest = None
pair_value (Some h) (Some l) rest = behind ((16 * h + l) ∷ []) rest

-- the bytes that a text stands for; none where a digit is missing or no digit
abbrev pub decoded : List ℕ → Option (List ℕ)
decoded [] = Some []
decoded (x ∷ []) = None
decoded (x ∷ y ∷ rest) = pair_value (digit_value x) (digit_value y) (decoded rest)
