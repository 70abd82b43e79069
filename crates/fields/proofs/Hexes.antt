-- Reading hexadecimal pair by pair.
use Rattle.std.proofs.Common.{◌≡◌, ℕ, zero, suc, ◌+◌, ◌*◌, ◌<◌, List, [], ◌∷◌, ◌++◌, length, get_or, drop, Some, None, Option, sym, refl, ap, ◌∙◌, append_assoc, arith}
use Rattle.std.proofs.lemmas.List.{drop_more}
use Rattle.std.specs.Simd.{first_chunks}
use Rattle.fields.specs.Hex.{digit_value, decoded, pair_value, behind}

-- the bytes of pairs of digits
abbrev pub of_pairs : List (List ℕ) → Option (List ℕ)
of_pairs [] = Some []
of_pairs (p ∷ ps) = pair_value (digit_value (get_or p 0 0)) (digit_value (get_or p 1 0)) (of_pairs ps)

-- a text of pairs stands for their bytes
pub decoded_pairs : (n : ℕ) (t : List ℕ) → length t ≡ 2 * n → decoded t ≡ of_pairs (first_chunks 2 n t)
decoded_pairs zero [] e = refl
decoded_pairs zero (x ∷ t) e = absurd (omega arith)
decoded_pairs (suc n) [] e = absurd (omega arith)
decoded_pairs (suc n) (x ∷ []) e = absurd (omega arith)
decoded_pairs (suc n) (x ∷ y ∷ t) e = ap (pair_value (digit_value x) (digit_value y)) (decoded_pairs n t (omega arith))

no_pair : (high low : Option ℕ) → pair_value high low None ≡ None
no_pair None low = refl
no_pair (Some h) None = refl
no_pair (Some h) (Some l) = refl

-- one digit is left over
pub decoded_odd : (n : ℕ) (t : List ℕ) → length t ≡ 2 * n + 1 → decoded t ≡ None
decoded_odd n [] e = absurd (omega arith)
decoded_odd n (x ∷ []) e = refl
decoded_odd zero (x ∷ y ∷ t) e = absurd (omega arith)
decoded_odd (suc n) (x ∷ y ∷ t) e =
    ap (pair_value (digit_value x) (digit_value y)) (decoded_odd n t (omega arith)) ∙ no_pair (digit_value x) (digit_value y)

behind_more : (xs ys : List ℕ) (o : Option (List ℕ)) → behind xs (behind ys o) ≡ behind (xs ++ ys) o
behind_more xs ys None = refl
behind_more xs ys (Some zs) = ap Some (sym (append_assoc xs ys zs))

-- the bytes of the pairs before i, then those of the rest
module _ (ps : List (List ℕ)) (i : ℕ) (bs : List ℕ) (lt : i < length ps) (so_far : of_pairs ps ≡ behind bs (of_pairs (drop i ps))) where
  abbrev high : Option ℕ
  high = digit_value (get_or (get_or ps i []) 0 0)

  abbrev low : Option ℕ
  low = digit_value (get_or (get_or ps i []) 1 0)

  next : of_pairs ps ≡ behind bs (pair_value high low (of_pairs (drop (i + 1) ps)))
  next = so_far ∙ ap (λ r. behind bs (of_pairs r)) (drop_more ps i [] lt)

  pub no_byte : ((rest : Option (List ℕ)) → pair_value high low rest ≡ None) → of_pairs ps ≡ None
  no_byte none = next ∙ ap (behind bs) (none (of_pairs (drop (i + 1) ps)))

  pub one_byte : (b : ℕ) → ((rest : Option (List ℕ)) → pair_value high low rest ≡ behind (b ∷ []) rest) → of_pairs ps ≡ behind (bs ++ (b ∷ [])) (of_pairs (drop (i + 1) ps))
  one_byte b byte = next ∙ ap (behind bs) (byte (of_pairs (drop (i + 1) ps))) ∙ behind_more bs (b ∷ []) (of_pairs (drop (i + 1) ps))
