-- The bytes of the key stream: by place, a block written, a part, and a list with the stream exclusive-ored in.
-- Assumes nothing.
use Rattle.std.specs.Prelude.{◌≡◌, ℕ, zero, suc, ◌+◌, ◌-◌, ◌*◌, ◌/◌, ◌%◌, ◌<◌, ◌≤◌, List, [], ◌∷◌, ◌++◌, map, length, take, drop, bit_xor, slice_index, refl}
use Rattle.std.proofs.Common.{ap, ◌∙◌, sym, ⊎_elim, le_of_suc-le-suc, not-suc-le-zero, arith, rules}
use borrow.Rule.Slice.PartMut.{put_mid}
use Rattle.std.proofs.Math.Seq.{paste}
use Rattle.std.specs.List.{range_with_len}
use Rattle.std.proofs.lemmas.List.{places, append_assoc, drop-drop, ext_get_or, length-take, length-drop, length-append, get_or-take, get_or-drop, get_or_append_left, get_or-append_right}
use Rattle.std.proofs.lemmas.List.FromFn.{length-map-range_with_len, get_or-map-range_with_len}
use Rattle.std.proofs.lemmas.Slice.{drop-put_mid, take-put_mid}
use Rattle.std.proofs.lemmas.Bool.{cases_lt}
use Rattle.aes_tables.specs.Words.{bytes, xors}
use Rattle.aes.specs.Cipher.{add_round_key, cipher, last_round, round_key, shift_rows}
use Rattle.aes.specs.KeyStream.{stream_at, stream_block, stream_blocks, stream_bytes, streamed}

length-stream_block : (nr : ℕ) (w : List ℕ) (c : ℕ) → length (stream_block nr w c) ≡ 16
unfolding stream_block cipher last_round add_round_key shift_rows round_key bytes
length-stream_block nr w c = refl

length-stream_blocks : (nr : ℕ) (w : List ℕ) (n : ℕ) → length (stream_blocks nr w n) ≡ 16 * n
unfolding stream_blocks
length-stream_blocks nr w zero = refl
length-stream_blocks nr w (suc n) =
    let a = length-append (stream_blocks nr w n) (stream_block nr w n) in
    let b = length-stream_blocks nr w n in
    let c = length-stream_block nr w n in
    omega arith

-- byte j of block c
in_block : (nr : ℕ) (w : List ℕ) (c k : ℕ) → 16 * c ≤ k → k < 16 * c + 16 → slice_index (stream_block nr w c) (k - 16 * c) ≡ stream_at nr w k
unfolding stream_at
in_block nr w c k le lt =
    let q : k / 16 ≡ c = omega arith in
    let r : k % 16 ≡ k - 16 * c = omega arith in
    cc

in_blocks : (nr : ℕ) (w : List ℕ) (n k : ℕ) → k < 16 * n → slice_index (stream_blocks nr w n) k ≡ stream_at nr w k
unfolding stream_blocks
in_blocks nr w zero k lt = absurd (omega arith)
in_blocks nr w (suc n) k lt =
    let here = stream_blocks nr w n in
    let long = length-stream_blocks nr w n in
    ⊎_elim (λ h. get_or_append_left here (stream_block nr w n) 0 k (omega arith) ∙ in_blocks nr w n k h)
    (λ h. get_or-append_right here (stream_block nr w n) (16 * n) k 0 long h ∙ in_block nr w n k h (omega arith))
    (cases_lt k (16 * n))

-- a part of a list whose elements are f of their places, counted from `from`
pub part-is : (f : ℕ → ℕ) (xs : List ℕ) (off len total from at : ℕ) → off + len ≤ total → total ≤ length xs → from + off ≡ at
    → ((k : ℕ) → k < total → slice_index xs k ≡ f (from + k)) → take len (drop off xs) ≡ map f (range_with_len at len)
part-is f xs off len total from at fits le e all =
    let n : length (take len (drop off xs)) ≡ len = simp (length-take, length-drop) (omega arith) in
    ext_get_or 0 (take len (drop off xs)) (map f (range_with_len at len)) (n ∙ sym (length-map-range_with_len f at len))
    (λ k h. let lt : k < len = omega arith in
    let g : from + (off + k) ≡ at + k = omega arith in
    get_or-take len (drop off xs) k 0 lt ∙ get_or-drop off xs k 0 ∙ all (off + k) (omega arith) ∙ ap f g ∙ sym (get_or-map-range_with_len f at len k (at + k) 0 lt refl))

pub stream_bytes-is : (nr : ℕ) (w : List ℕ) (at len : ℕ) → stream_bytes nr w at len ≡ map (stream_at nr w) (range_with_len at len)
unfolding stream_bytes
stream_bytes-is nr w at len =
    let n = (at + len + 15) / 16 in
    let long = length-stream_blocks nr w n in
    part-is (stream_at nr w) (stream_blocks nr w n) at len (16 * n) 0 at (omega arith) (omega arith) (omega arith)
    (λ k h. in_blocks nr w n k h ∙ ap (stream_at nr w) (sym (plus_none k)))
  where
    plus_none : (k : ℕ) → 0 + k ≡ k
    plus_none k = omega arith

pub streamed-is : (nr : ℕ) (w : List ℕ) (at : ℕ) (p : List ℕ) → streamed nr w at p ≡ xors p (map (stream_at nr w) (range_with_len at (length p)))
unfolding streamed
streamed-is nr w at p = ap (xors p) (stream_bytes-is nr w at (length p))

-- the step of filling a buffer with blocks from `first` on
module _ (d s : List ℕ) (at n : ℕ) (fits : at + n ≤ length d) (is : length s ≡ n) where
  below : (k : ℕ) → k < at → slice_index (paste d at s n) k ≡ slice_index d k
  below k lt = search (rules, places)

  within : (k : ℕ) → at ≤ k → k < at + n → slice_index (paste d at s n) k ≡ slice_index s (k - at)
  within k le lt = search (rules, places)

pub filled_more : (nr : ℕ) (w : List ℕ) (first j : ℕ) (d b : List ℕ) → 16 * j + 16 ≤ length d → length b ≡ 16
    → b ≡ stream_block nr w (first + j) → ((k : ℕ) → k < 16 * j → slice_index d k ≡ stream_at nr w (16 * first + k))
    → (k : ℕ) → k < 16 * (j + 1) → slice_index (paste d (16 * j) b 16) k ≡ stream_at nr w (16 * first + k)
filled_more nr w first j d b fits is e before k lt =
    ⊎_elim (λ h. below d b (16 * j) 16 fits is k h ∙ before k h)
    (λ h. let i : k - 16 * j ≡ 16 * first + k - 16 * (first + j) = omega arith in
    within d b (16 * j) 16 fits is k h (omega arith) ∙ ap (λ (v : List ℕ). slice_index v (k - 16 * j)) e
    ∙ ap (λ (v : ℕ). slice_index (stream_block nr w (first + j)) v) i ∙ in_block nr w (first + j) (16 * first + k) (omega arith) (omega arith))
    (cases_lt k (16 * j))

-- a list with the stream exclusive-ored in, cut after n bytes
xors-cut : (f : ℕ → ℕ) (n at : ℕ) (p : List ℕ) → n ≤ length p
    → xors p (map f (range_with_len at (length p)))
    ≡ xors (take n p) (map f (range_with_len at (length (take n p)))) ++ xors (drop n p) (map f (range_with_len (at + n) (length (drop n p))))
xors-cut f zero at p le = let e : at ≡ at + 0 = omega arith in ap (λ (m : ℕ). xors p (map f (range_with_len m (length p)))) e
xors-cut f (suc n) at [] le = absurd (not-suc-le-zero le)
xors-cut f (suc n) at (x ∷ p) le =
    let e : at + 1 + n ≡ at + suc n = omega arith in
    ap (λ (v : List ℕ). bit_xor x (f at) ∷ v) (xors-cut f n (at + 1) p (le_of_suc-le-suc le))
    ∙ ap (λ (m : ℕ). bit_xor x (f at) ∷ (xors (take n p) (map f (range_with_len (at + 1) (length (take n p)))) ++ xors (drop n p) (map f (range_with_len m (length (drop n p)))))) e

pub streamed-cut : (nr : ℕ) (w : List ℕ) (at n : ℕ) (p : List ℕ) → n ≤ length p
    → streamed nr w at p ≡ streamed nr w at (take n p) ++ streamed nr w (at + n) (drop n p)
streamed-cut nr w at n p le =
    let a = streamed-is nr w at p in
    let b = streamed-is nr w at (take n p) in
    let c = streamed-is nr w (at + n) (drop n p) in
    let d = xors-cut (stream_at nr w) n at p le in
    cc

pub streamed-none : (nr : ℕ) (w : List ℕ) (at : ℕ) → streamed nr w at [] ≡ []
unfolding streamed
streamed-none nr w at = refl

-- the step of a loop that has done `done` bytes and does n more: ys is what the part holds then
pub streamed-more : (nr : ℕ) (w : List ℕ) (at done n k : ℕ) (xs ys : List ℕ) → done + n ≤ length xs → n ≡ k → length ys ≡ n
    → ys ≡ streamed nr w (at + done) (take n (drop done xs))
    → take (done + n) (put_mid done k xs ys) ++ streamed nr w (at + (done + n)) (drop (done + n) (put_mid done k xs ys))
    ≡ take done xs ++ streamed nr w (at + done) (drop done xs)
streamed-more nr w at done n k xs ys le is long e =
    let a = take-put_mid done k xs ys (done + n) (omega arith) (omega arith) in
    let b = drop-put_mid done k xs ys (done + n) (omega arith) (omega arith) (omega arith) in
    let d = drop-drop n done xs in
    let s = streamed-cut nr w (at + done) n (drop done xs) (omega (arith, length-drop done xs)) in
    let g : at + done + n ≡ at + (done + n) = omega arith in
    let h = append_assoc (take done xs) ys (streamed nr w (at + done + n) (drop n (drop done xs))) in
    cc
