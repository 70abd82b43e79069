-- The end of a message, the lanes past a block, and what a running digest is over the bytes that it took.
use Rattle.std.proofs.Common.{◌≡◌, ℕ, suc, ◌+◌, ◌-◌, ◌*◌, ◌%◌, ◌<◌, ◌≤◌, List, ◌∷◌, ◌++◌, length, get_or, take, set, replicate, sym, refl, ap, ◌∙◌, add-one, arith}
use lib.Bits.{bit_xor}
use lib.Seq.{take-set-lt}
use Rattle.std.proofs.lemmas.List.{append_assoc, get_or_past, get_or-take, take-replicate, length-replicate, length-take-le}
use Rattle.hash_blocks.specs.Blocks.{feed}
use Rattle.hash_blocks.specs.Buffers.{running}
use Rattle.hash_blocks.specs.declared.buffer.Buffer.{Buffer}
use Rattle.hash_blocks.proofs.Feed.{feed-append, feed-law, rest-length}
use Rattle.sha3.specs.Sha3.{block_lane, last_marked, padding, absorb_block, zero_state, squeezed, sha3}
use Rattle.hash_blocks.specs.Taking.{took_all, joined}
use Rattle.hash_blocks.proofs.Taking.{held_all}
use Rattle.sha3.specs.Digests.{Sha3State, empty, takes, finish, first_four, tags}

pub lane_past : (bs : List ℕ) (i : ℕ) → length bs ≤ 8 * i → 0 ≡ block_lane bs i
lane_past bs i h =
    omega (
      arith,
      get_or_past bs (8 * i) 0 h,
      get_or_past bs (8 * i + 1) 0 (omega arith),
      get_or_past bs (8 * i + 2) 0 (omega arith),
      get_or_past bs (8 * i + 3) 0 (omega arith),
      get_or_past bs (8 * i + 4) 0 (omega arith),
      get_or_past bs (8 * i + 5) 0 (omega arith),
      get_or_past bs (8 * i + 6) 0 (omega arith),
      get_or_past bs (8 * i + 7) 0 (omega arith),
    )

-- the block that the end is written into
abbrev pub blank : List ℕ
blank = 0x06 ∷ replicate 135 0

last-marked : (j : ℕ) → j ≤ 135 → take (j + 1) (set blank j (bit_xor (get_or blank j 0) 0x80)) ≡ last_marked (0x06 ∷ replicate j 0)
last-marked j h =
    let e : j + 1 ≡ suc j = add-one j in
    let lt : j < j + 1 = omega arith in
    let front : take (j + 1) blank ≡ 0x06 ∷ replicate j 0 = ap (λ (k : ℕ). take k blank) e ∙ ap (λ (v : List ℕ). 0x06 ∷ v) (take-replicate {X = ℕ} j 135 0 h) in
    let n : length (0x06 ∷ replicate {A = ℕ} j 0) - 1 ≡ j = omega (arith, length-replicate {A = ℕ} j 0) in
    take-set-lt (j + 1) blank j (bit_xor (get_or blank j 0) 0x80) lt
    ∙ ap (λ (v : ℕ). set (take (j + 1) blank) j (bit_xor v 0x80)) (sym (get_or-take (j + 1) blank j 0 lt))
    ∙ ap (λ (v : List ℕ). set v j (bit_xor (get_or v j 0) 0x80)) front
    ∙ ap (λ (k : ℕ). set (0x06 ∷ replicate {A = ℕ} j 0) k (bit_xor (get_or (0x06 ∷ replicate {A = ℕ} j 0) k 0) 0x80)) (sym n)

pub end-part : (fill k : ℕ) → fill < 136 → k ≡ 135 - fill + 1 → take k (set blank (135 - fill) (bit_xor (get_or blank (135 - fill) 0) 0x80)) ≡ padding fill
end-part fill k lt e =
    let m : fill ≡ fill % 136 = omega arith in
    ap (λ (j : ℕ). take j (set blank (135 - fill) (bit_xor (get_or blank (135 - fill) 0) 0x80))) e
    ∙ last-marked (135 - fill) (omega arith)
    ∙ ap (λ (j : ℕ). last_marked (0x06 ∷ replicate (135 - j) 0)) m

pub padding-same : (fill n : ℕ) → fill ≡ n % 136 → padding fill ≡ padding n
padding-same fill n e =
    let m : fill % 136 ≡ n % 136 = omega arith in
    ap (λ (j : ℕ). last_marked (0x06 ∷ replicate (135 - j) 0)) m

-- the digest took the bytes m
abbrev pub Took : Sha3State → List ℕ → Type 0
Took s m = s ≡ feed 136 absorb_block empty m

pub took_more : (s : Sha3State) (m p : List ℕ) → Took s m → Took (takes s p) (m ++ p)
took_more s m p h = ap (λ (t : Sha3State). feed 136 absorb_block t p) h ∙ sym (feed-append 136 absorb_block empty m p)

pub took-first : (m : List ℕ) → Took (takes empty m) m
took-first m = refl

-- the padding taken after the bytes m gives the whole hash
pub finish-took : (s : Sha3State) (m : List ℕ) → Took s m → squeezed (finish s) ≡ sha3 m
unfolding finish sha3
finish-took s m h =
    let size : length s.rest ≡ length m % 136 = ap (λ (t : Sha3State). length t.rest) h ∙ rest-length 136 absorb_block zero_state m (omega arith) in
    ap (λ (t : Sha3State). squeezed t.state)
    (ap (λ (t : Sha3State). feed 136 absorb_block t (padding (length s.rest))) h
    ∙ ap (feed 136 absorb_block (feed 136 absorb_block empty m)) (padding-same (length s.rest) (length m) size)
    ∙ sym (feed-append 136 absorb_block empty m (padding (length m)))
    ∙ feed-law 136 absorb_block zero_state (m ++ padding (length m)) (omega arith))

pub tags-took : (s : Sha3State) (m : List ℕ) → Took s m → (ps : List (List ℕ)) (p : List ℕ) → tags (took_all takes s ps) p ≡ take 4 (sha3 (m ++ (joined ps ++ p)))
unfolding first_four
tags-took s m h ps p =
    ap (take 4) (finish-took (takes (took_all takes s ps) p) ((m ++ joined ps) ++ p) (took_more (took_all takes s ps) (m ++ joined ps) p (held_all takes Took took_more s m ps h))
    ∙ ap sha3 (append_assoc m (joined ps) p))

-- a buffer's fill is the length of what is left over
pub fill_is : {S : Type 0} (v : S → List ℕ) (b : Buffer S 136) → b.fill ≡ length (running v b).rest
fill_is v b = sym (length-take-le b.fill b.block (omega (arith, b.unfinished, b.size)))
