-- Bytes fed one by one give what their blocks give.
use Rattle.std.proofs.Common.{◌≡◌, ℕ, zero, suc, ◌+◌, ◌-◌, ◌*◌, ◌/◌, ◌%◌, ◌<◌, ◌≤◌, eqb, List, [], ◌∷◌, ◌++◌, fold, length, get_or, take, drop, set, sym, refl, ap, ◌∙◌, add_assoc, suc-mul, zero-mul, add-one, arith}
use native.Mathlib.Nat.{div-eq_of_lt, div-eq-sub-div}
use Rattle.std.proofs.lemmas.List.{append-nil, append_assoc, length_push, length-drop, length-take-le, take-append-drop, drop-drop, take_more, take_more_set}
use Rattle.std.specs.Simd.{first_chunks}
use Rattle.std.proofs.lemmas.Bool.{eq-eqb, ne_eqb, cond-true, cond-false}
use Rattle.std.proofs.lemmas.Nat.{div-add-mod', mod_below}
use Rattle.hash_blocks.specs.Blocks.{Running, running_at, first_blocks, blocks, push, feed}

module _ {S : Type 0} (w : ℕ) (f : S → List ℕ → S) where
  pub feed-append : (t : Running S) (xs ys : List ℕ) → feed w f t (xs ++ ys) ≡ feed w f (feed w f t xs) ys
  feed-append t [] ys = refl
  feed-append t (x ∷ xs) ys = feed-append (push w f t x) xs ys

  pub push-short : (s : S) (r : List ℕ) (b : ℕ) → length r + 1 < w → push w f (running_at s r) b ≡ running_at s (r ++ (b ∷ []))
  push-short s r b h = cond-false (eqb (length r + 1) w) _ _ (ne_eqb (length r + 1) w (λ e. omega arith))

  pub push-full : (s : S) (r : List ℕ) (b : ℕ) → length r + 1 ≡ w → push w f (running_at s r) b ≡ running_at (f s (r ++ (b ∷ []))) []
  push-full s r b h = cond-true (eqb (length r + 1) w) _ _ (eq-eqb (length r + 1) w h)

  pub feed-short : (s : S) (r bs : List ℕ) → length r + length bs < w → feed w f (running_at s r) bs ≡ running_at s (r ++ bs)
  feed-short s r [] h = ap (running_at s) (sym (append-nil r))
  feed-short s r (b ∷ bs) h =
      ap (λ t. feed w f t bs) (push-short s r b (omega arith))
      ∙ feed-short s (r ++ (b ∷ [])) bs (omega (arith, length_push r b))
      ∙ ap (running_at s) (append_assoc r (b ∷ []) bs)

  pub feed-block : (s : S) (r : List ℕ) (b : ℕ) (bs : List ℕ) → length r + length (b ∷ bs) ≡ w → feed w f (running_at s r) (b ∷ bs) ≡ running_at (f s (r ++ (b ∷ bs))) []
  feed-block s r b [] h = push-full s r b (omega arith)
  feed-block s r b (c ∷ bs) h =
      ap (λ t. feed w f t (c ∷ bs)) (push-short s r b (omega arith))
      ∙ feed-block s (r ++ (b ∷ [])) c bs (omega (arith, length_push r b))
      ∙ ap (λ v. running_at (f s v) []) (append_assoc r (b ∷ []) (c ∷ bs))

  pub feed-whole : (s : S) (bs : List ℕ) → 0 < w → length bs ≡ w → feed w f (running_at s []) bs ≡ running_at (f s bs) []
  feed-whole s [] p h = absurd (omega arith)
  feed-whole s (b ∷ bs) p h = feed-block s [] b bs (omega arith)

  pub feed-count : (n : ℕ) (s : S) (bs : List ℕ) → 0 < w → n * w ≤ length bs → length bs < n * w + w
      → feed w f (running_at s []) bs ≡ running_at (first_blocks w f n s bs) (drop (n * w) bs)
  feed-count zero s bs p lo hi = feed-short s [] bs (omega arith) ∙ ap (λ k. running_at s (drop k bs)) (sym (zero-mul w))
  feed-count (suc n) s bs p lo hi =
      let m : suc n * w ≡ n * w + w = suc-mul n w in
      let lo2 : w ≤ length bs = omega arith in
      ap (feed w f (running_at s [])) (sym (take-append-drop w bs))
      ∙ feed-append (running_at s []) (take w bs) (drop w bs)
      ∙ ap (λ t. feed w f t (drop w bs)) (feed-whole s (take w bs) p (length-take-le w bs lo2))
      ∙ feed-count n (f s (take w bs)) (drop w bs) p (omega (arith, length-drop w bs)) (omega (arith, length-drop w bs))
      ∙ ap (running_at (first_blocks w f (suc n) s bs)) (drop-drop (n * w) w bs ∙ ap (λ k. drop k bs) (omega arith))

  pub feed-law : (s : S) (bs : List ℕ) → 0 < w → feed w f (running_at s []) bs ≡ running_at (blocks w f s bs) (drop (length bs / w * w) bs)
  feed-law s bs p =
      feed-count (length bs / w) s bs p (omega (arith, div-add-mod' (length bs) w)) (omega (arith, div-add-mod' (length bs) w, mod_below (length bs) w p))

  pub feed-fills : (s : S) (r bs : List ℕ) → 0 < length bs → length r + length bs ≡ w → feed w f (running_at s r) bs ≡ running_at (f s (r ++ bs)) []
  feed-fills s r [] p h = absurd (omega arith)
  feed-fills s r (b ∷ bs) p h = feed-block s r b bs h

  -- the blocks taken one after the other
  pub fold_chunks : (n : ℕ) (s : S) (bs : List ℕ) → fold f s (first_chunks w n bs) ≡ first_blocks w f n s bs
  fold_chunks zero s bs = refl
  fold_chunks (suc n) s bs = fold_chunks n (f s (take w bs)) (drop w bs)

  -- the first of the blocks that are left
  pub blocks_more : (s : S) (bs : List ℕ) → 0 < w → w ≤ length bs → blocks w f s bs ≡ blocks w f (f s (take w bs)) (drop w bs)
  blocks_more s bs p le =
      let n : length bs / w ≡ suc (length (drop w bs) / w)
      = div-eq-sub-div p le ∙ ap (λ (k : ℕ). k / w + 1) (sym (length-drop w bs)) ∙ add-one (length (drop w bs) / w) in
      ap (λ (k : ℕ). first_blocks w f k s bs) n

  pub blocks-none : (s : S) (bs : List ℕ) → length bs < w → blocks w f s bs ≡ s
  blocks-none s bs lt = ap (λ (k : ℕ). first_blocks w f k s bs) (div-eq_of_lt lt)

  -- n bytes fill the block; then whole blocks, and what is left over
  pub feed-filled : (s : S) (r bs : List ℕ) (n : ℕ) → n ≤ length bs → 0 < n → length r + n ≡ w
      → feed w f (running_at s r) bs ≡ running_at (blocks w f (f s (r ++ take n bs)) (drop n bs)) (drop (length (drop n bs) / w * w) (drop n bs))
  feed-filled s r bs n le p full =
      let k : length (take n bs) ≡ n = length-take-le n bs le in
      ap (feed w f (running_at s r)) (sym (take-append-drop n bs))
      ∙ feed-append (running_at s r) (take n bs) (drop n bs)
      ∙ ap (λ t. feed w f t (drop n bs)) (feed-fills s r (take n bs) (omega arith) (omega arith))
      ∙ feed-law (f s (r ++ take n bs)) (drop n bs) (omega arith)

  -- the same, what is left over by its length
  pub feed-through : (s : S) (r bs : List ℕ) (n : ℕ) → n ≤ length bs → 0 < n → length r + n ≡ w
      → feed w f (running_at s r) bs ≡ running_at (blocks w f (f s (r ++ take n bs)) (drop n bs)) (drop (length (drop n bs) - length (drop n bs) % w) (drop n bs))
  feed-through s r bs n le p full =
      let m : length (drop n bs) / w * w ≡ length (drop n bs) - length (drop n bs) % w = omega (arith, div-add-mod' (length (drop n bs)) w) in
      feed-filled s r bs n le p full ∙ ap (λ (j : ℕ). running_at (blocks w f (f s (r ++ take n bs)) (drop n bs)) (drop j (drop n bs))) m

  -- the same in parts
  pub feed-parts : (s s1 s2 : S) (r bs first later tail : List ℕ) (n : ℕ) → n ≤ length bs → 0 < n → length r + n ≡ w
      → first ≡ take n bs → later ≡ drop n bs → tail ≡ drop (length later - length later % w) later
      → s1 ≡ f s (r ++ first) → s2 ≡ blocks w f s1 later → running_at s2 tail ≡ feed w f (running_at s r) bs
  feed-parts s s1 s2 r bs first later tail n le p full ef el et e1 e2 =
      let h = feed-through s r bs n le p full in
      cc

  -- the same in the parts that the code makes: the whole blocks as a list
  pub feed-chunks : (s s1 s2 : S) (r bs first later tail : List ℕ) (whole : List (List ℕ)) (n : ℕ) → n ≤ length bs → 0 < n → length r + n ≡ w
      → first ≡ take n bs → later ≡ drop n bs → whole ≡ first_chunks w (length later / w) later → tail ≡ drop (length later / w * w) later
      → s1 ≡ f s (r ++ first) → s2 ≡ fold f s1 whole → running_at s2 tail ≡ feed w f (running_at s r) bs
  feed-chunks s s1 s2 r bs first later tail whole n le p full ef el ew et e1 e2 =
      let h = feed-filled s r bs n le p full in
      let k = fold_chunks (length later / w) s1 later in
      cc

-- one byte more of a part that is written into a block
pub put-more : (was xs part : List ℕ) (i k : ℕ) → i + k < length xs → k < length part → take (i + k) xs ≡ take i was ++ take k part
    → take (i + (k + 1)) (set xs (i + k) (get_or part k 0)) ≡ take i was ++ take (k + 1) part
put-more was xs part i k lt lp h =
    ap (λ n. take n (set xs (i + k) (get_or part k 0))) (sym (add_assoc i k 1))
    ∙ take_more_set xs (i + k) (get_or part k 0) lt
    ∙ ap (λ v. v ++ (get_or part k 0 ∷ [])) h
    ∙ append_assoc (take i was) (take k part) (get_or part k 0 ∷ [])
    ∙ ap (λ v. take i was ++ v) (sym (take_more part k 0 lp))

-- what is left over has the length modulo the block's
pub rest-length : {S : Type 0} (w : ℕ) (f : S → List ℕ → S) (s : S) (bs : List ℕ) → 0 < w → length (feed w f (running_at s []) bs).rest ≡ length bs % w
rest-length w f s bs p =
    ap (λ t. length t.rest) (feed-law w f s bs p)
    ∙ length-drop (length bs / w * w) bs
    ∙ omega (arith, div-add-mod' (length bs) w)
