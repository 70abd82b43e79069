-- The end of a message, and what a running digest is over the bytes that it took.
use Rattle.std.proofs.Common.{◌≡◌, ℕ, ◌-◌, ◌*◌, ◌%◌, ◌^◌, List, [], ◌∷◌, ◌++◌, length, take, replicate, sym, refl, ap, ◌∙◌, arith}
use Rattle.std.proofs.lemmas.List.{append_assoc, take-replicate, length-append}
use Rattle.hash_blocks.specs.Blocks.{Running, running_at, feed, push}
use Rattle.hash_blocks.proofs.Feed.{feed-append, feed-law}
use Rattle.sha_1.specs.Sha1.{compress, initial_hash, zeros, be64, padding, digest_bytes, sha1}
use Rattle.hash_blocks.specs.Taking.{took_all, joined}
use Rattle.hash_blocks.proofs.Taking.{held_all}
use Rattle.sha_1.specs.Digests.{Sha1State, empty, takes, finish, first_four, tags}
use Rattle.sha_1.specs.declared.words.HashValue.{HashValue}

-- the padding asks for the length modulo 2 ^ 64 only
pub padding-same : (len n : ℕ) → len ≡ n % 2 ^ 64 → padding len ≡ padding n
padding-same len n e =
    let z : len % 64 ≡ n % 64 = omega arith in
    let b : (8 * len) % 2 ^ 64 ≡ (8 * n) % 2 ^ 64 = omega arith in
    ap (λ (k : ℕ). 0x80 ∷ (replicate ((119 - k) % 64) 0 ++ be64 ((8 * len) % 2 ^ 64))) z
    ∙ ap (λ (k : ℕ). 0x80 ∷ (replicate (zeros n) 0 ++ be64 k)) b

pub padded : (t t1 t2 t3 : Running HashValue) (len : ℕ) (zs bs : List ℕ)
    → t1 ≡ feed 64 compress t (0x80 ∷ [])
    → zs ≡ replicate (zeros len) 0 → t2 ≡ feed 64 compress t1 zs
    → bs ≡ be64 ((8 * len) % 2 ^ 64) → t3 ≡ feed 64 compress t2 bs
    → t3 ≡ feed 64 compress t (padding len)
padded t t1 t2 t3 len zs bs e1 ez e2 eb e3 =
    e3 ∙ ap (feed 64 compress t2) eb
    ∙ ap (λ u. feed 64 compress u (be64 ((8 * len) % 2 ^ 64))) (e2 ∙ ap (feed 64 compress t1) ez ∙ ap (λ u. feed 64 compress u (replicate (zeros len) 0)) e1)
    ∙ sym (feed-append 64 compress (push 64 compress t 0x80) (replicate (zeros len) 0) (be64 ((8 * len) % 2 ^ 64)))

pub zeros-part : (len k : ℕ) → k ≡ zeros len → take {A = ℕ} k (replicate {A = ℕ} 64 0) ≡ replicate {A = ℕ} (zeros len) 0
zeros-part len k e = take-replicate {X = ℕ} k 64 0 (omega (arith, e)) ∙ ap (λ (j : ℕ). replicate {A = ℕ} j 0) e

-- the digest took the bytes m
pub record Took (s : Sha1State) (m : List ℕ) : Type 0 where
  pub hash : s.hash ≡ feed 64 compress (running_at initial_hash []) m
  pub count : s.count ≡ length m % 2 ^ 64

pub took_more : (s : Sha1State) (m p : List ℕ) → Took s m → Took (takes s p) (m ++ p)
took_more s m p h = record {
  hash = ap (λ t. feed 64 compress t p) h.hash ∙ sym (feed-append 64 compress (running_at initial_hash []) m p);
  count = omega (arith, h.count, length-append m p);
}

pub took-first : (m : List ℕ) → Took (takes empty m) m
took-first m = took_more empty [] m (record { hash = refl; count = refl })

-- the padding taken after the bytes m gives the whole hash
pub finish-took : (s : Sha1State) (m : List ℕ) → Took s m → digest_bytes (finish s) ≡ sha1 m
unfolding finish sha1
finish-took s m h =
    let e : feed 64 compress s.hash (padding s.count) ≡ feed 64 compress (running_at initial_hash []) (m ++ padding (length m))
    = ap (λ t. feed 64 compress t (padding s.count)) h.hash
    ∙ ap (feed 64 compress (feed 64 compress (running_at initial_hash []) m)) (padding-same s.count (length m) h.count)
    ∙ sym (feed-append 64 compress (running_at initial_hash []) m (padding (length m))) in
    ap (λ (t : Running HashValue). digest_bytes t.state) (e ∙ feed-law 64 compress initial_hash (m ++ padding (length m)) (omega arith))

pub tags-took : (s : Sha1State) (m : List ℕ) → Took s m → (ps : List (List ℕ)) (p : List ℕ) → tags (took_all takes s ps) p ≡ take 4 (sha1 (m ++ (joined ps ++ p)))
unfolding first_four
tags-took s m h ps p =
    ap (take 4) (finish-took (takes (took_all takes s ps) p) ((m ++ joined ps) ++ p) (took_more (took_all takes s ps) (m ++ joined ps) p (held_all takes Took took_more s m ps h))
    ∙ ap sha1 (append_assoc m (joined ps) p))
