-- The steps of the key expansion's two loops.
-- Assumes nothing.
use Rattle.std.proofs.Common.{◌≡◌, ℕ, suc, ◌+◌, ◌-◌, ◌<◌, ◌≤◌, List, [], ◌∷◌, ◌++◌, map, length, get_or, take, drop, set, ap, ◌∙◌, arith, get_or-take}
use lib.Bits.{bit_xor}
use Rattle.std.specs.List.{range_with_len}
use Rattle.std.proofs.lemmas.List.{take_more_set, take_at, length-append, length-take, length-drop}
use Rattle.std.proofs.lemmas.List.FromFn.{map-range_with_len_more, length-map-range_with_len}
use Rattle.aes.specs.KeyExpansion.{extended, key_words, next, temp, word_at}

extended-more : (nk i : ℕ) (xs : List ℕ) → nk ≤ i
    → extended nk (i + 1 - nk) xs ≡ extended nk (i - nk) xs ++ (next nk i (extended nk (i - nk) xs) ∷ [])
unfolding extended
extended-more nk i xs le =
    let e : i + 1 - nk ≡ suc (i - nk) = omega arith in
    let f : nk + (i - nk) ≡ i = omega arith in
    ap (λ (n : ℕ). extended nk n xs) e ∙ ap (λ (n : ℕ). extended nk (i - nk) xs ++ (next nk n (extended nk (i - nk) xs) ∷ [])) f

pub take-extended-more : (nk i : ℕ) (w xs : List ℕ) (v : ℕ) → nk ≤ i → 0 < nk → i < length w → take i w ≡ extended nk (i - nk) xs
    → v ≡ bit_xor (get_or w (i - nk) 0) (temp nk i (get_or w (i - 1) 0)) → take (i + 1) (set w i v) ≡ extended nk (i + 1 - nk) xs
unfolding next
take-extended-more nk i w xs v le pos lt was is =
    let a = take_more_set w i v lt in
    let b = extended-more nk i xs le in
    let p = get_or-take i w (i - nk) 0 (omega arith) in
    let q = get_or-take i w (i - 1) 0 (omega arith) in
    cc

pub take-counted-more : (f : ℕ → ℕ) (i : ℕ) (w : List ℕ) → i < length w → take i w ≡ map f (range_with_len 0 i)
    → take (i + 1) (set w i (f i)) ≡ map f (range_with_len 0 (i + 1))
take-counted-more f i w lt was =
    let a = take_more_set w i (f i) lt in
    let b = map-range_with_len_more f 0 i i (omega arith) in
    cc

-- the key's words written over the first nk of zs
module _ (nk : ℕ) (ws zs key : List ℕ) (fits : nk ≤ length zs) (is : ws ≡ key_words (length (take nk zs)) key) where
  length-begun : length ws ≡ nk
  unfolding key_words
  length-begun =
      let e = length-map-range_with_len (word_at key) 0 (length (take nk zs)) in
      let f : length ws ≡ length (take nk zs) = ap length is ∙ e in
      f ∙ simp length-take (omega arith)

  pub begun-whole : length (ws ++ drop nk zs) ≡ length zs
  begun-whole = let e = length-begun in simp (length-append, length-drop) (omega arith)

  pub begun-words : take nk (ws ++ drop nk zs) ≡ extended nk (nk - nk) (key_words nk key)
  unfolding extended
  begun-words =
      let e : nk - nk ≡ 0 = omega arith in
      let f : length (take nk zs) ≡ nk = simp length-take (omega arith) in
      rw e (take_at ws (drop nk zs) nk length-begun ∙ is ∙ ap (λ (n : ℕ). key_words n key) f)
