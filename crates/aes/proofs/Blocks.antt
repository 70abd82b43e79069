-- A block as four words: read, and written.
-- Assumes nothing.
use Rattle.std.proofs.Common.{◌≡◌, ℕ, ◌+◌, ◌*◌, ◌<◌, ◌≤◌, List, [], ◌∷◌, ◌++◌, length, get_or, take, drop, sym, refl, ap, ◌∙◌, arith}
use lib.Seq.{paste}
use Rattle.std.proofs.lemmas.List.{take_all, drop_all, take-append-drop, drop-drop, drop_more, length-drop}
use Rattle.std.proofs.lemmas.List.Edits.{paste-paste}
use Rattle.aes_tables.specs.Words.{bytes}
use Rattle.aes_tables.proofs.Words.{bytes_word, same-columns}
use Rattle.aes.specs.Cipher.{add_round_key, block, mix_columns, round, round_column, shift_rows, sub_bytes}
use Rattle.aes.specs.KeyExpansion.{word_at}
use Rattle.aes.specs.declared.Columns.{Columns}

pub length-block : (s : Columns) → length (block s) ≡ 16
unfolding block bytes
length-block s = refl

pub round-columns : (s k r : Columns) → bytes r.c0 ≡ round_column s k 0 → bytes r.c1 ≡ round_column s k 1
    → bytes r.c2 ≡ round_column s k 2 → bytes r.c3 ≡ round_column s k 3 → block r ≡ round (block s) (block k)
unfolding bytes block round add_round_key mix_columns shift_rows sub_bytes
round-columns s k r a b c d = same-columns a b c d

take-four : (xs : List ℕ) (k : ℕ) → k + 4 ≤ length xs
    → take 4 (drop k xs) ≡ get_or xs k 0 ∷ get_or xs (k + 1) 0 ∷ get_or xs (k + 2) 0 ∷ get_or xs (k + 3) 0 ∷ []
take-four xs k le =
    let a = drop_more xs k 0 (omega arith) in
    let b = drop_more xs (k + 1) 0 (omega arith) in
    let c = drop_more xs (k + 2) 0 (omega arith) in
    let d = drop_more xs (k + 3) 0 (omega arith) in
    let e : k + 1 + 1 ≡ k + 2 = omega arith in
    let f : k + 2 + 1 ≡ k + 3 = omega arith in
    let g : drop k xs ≡ get_or xs k 0 ∷ get_or xs (k + 1) 0 ∷ get_or xs (k + 2) 0 ∷ get_or xs (k + 3) 0 ∷ drop (k + 3 + 1) xs = cc in
    ap (take 4) g

-- the bytes of word i of a list of bytes
pub bytes-word_at : (xs : List ℕ) (i : ℕ) → 4 * i + 4 ≤ length xs → ((k : ℕ) → get_or xs k 0 < 256) → bytes (word_at xs i) ≡ take 4 (drop (4 * i) xs)
bytes-word_at xs i le small =
    bytes_word (get_or xs (4 * i) 0) (get_or xs (4 * i + 1) 0) (get_or xs (4 * i + 2) 0) (get_or xs (4 * i + 3) 0)
    (small (4 * i)) (small (4 * i + 1)) (small (4 * i + 2)) (small (4 * i + 3))
    ∙ sym (take-four xs (4 * i) le)

pub four-fours : (xs : List ℕ) → length xs ≡ 16 → take 4 (drop 0 xs) ++ (take 4 (drop 4 xs) ++ (take 4 (drop 8 xs) ++ take 4 (drop 12 xs))) ≡ xs
four-fours xs is =
    let a = take-append-drop 4 xs in
    let b = take-append-drop 4 (drop 4 xs) in
    let c = take-append-drop 4 (drop 8 xs) in
    let d = take_all 4 (drop 12 xs) (omega (arith, length-drop 12 xs)) in
    let e = drop-drop 4 4 xs in
    let f = drop-drop 4 8 xs in
    cc

pub paste-columns : (d : List ℕ) (at x y z w : ℕ) → at ≤ length d
    → paste (paste (paste (paste d at (bytes x) 4) (at + 4) (bytes y) 4) (at + 8) (bytes z) 4) (at + 12) (bytes w) 4
    ≡ paste d at (bytes x ++ (bytes y ++ (bytes z ++ bytes w))) 16
unfolding bytes
paste-columns d at x y z w le =
    ap (λ (v : List ℕ). paste (paste v (at + 8) (bytes z) 4) (at + 12) (bytes w) 4) (paste-paste d at (bytes x) (bytes y) 4 4 refl refl le)
    ∙ ap (λ (v : List ℕ). paste v (at + 12) (bytes w) 4) (paste-paste d at (bytes x ++ bytes y) (bytes z) 8 4 refl refl le)
    ∙ paste-paste d at ((bytes x ++ bytes y) ++ bytes z) (bytes w) 12 4 refl refl le

pub paste-whole : (d : List ℕ) (s : Columns) → length d ≡ 16 → paste d 0 (block s) 16 ≡ block s
unfolding block bytes
paste-whole d s is = ap (λ (v : List ℕ). block s ++ v) (drop_all 16 d (omega arith))
