-- Lists of whole cells, and bytes cut into them; what the laws of both kinds of link rest on.
use Rattle.std.specs.Prelude.{◌≡◌, ℕ, zero, suc, ◌+◌, ◌*◌, ◌/◌, ◌<◌, ◌≤◌, List, [], ◌∷◌, ◌++◌, length, take, drop, slice_index_or, refl}
use Rattle.std.proofs.Common.{ap, ◌∙◌, arith}
use Rattle.std.proofs.lemmas.List.{take-append-le, drop-append-le, length-drop, length-take-le, take_all, nil_from_length}
use Rattle.queue.specs.declared.place.Place.{Place}
use Rattle.queue.specs.Ring.{waiting}
use Rattle.queue.proofs.Turns.{length_waiting}
use Rattle.links.specs.Lines.{Whole}
use Rattle.links.specs.Cuts.{cut}

pub whole-none : Whole []
whole-none i lt = absurd (omega arith)

pub whole-push : (cells : List (List ℕ)) (cell : List ℕ) → Whole cells → length cell ≡ 514 → Whole (cells ++ (cell ∷ []))
whole-push [] cell w e zero lt = e
whole-push [] cell w e (suc i) lt = absurd (omega arith)
whole-push (c ∷ cs) cell w e zero lt = w 0 (omega arith)
whole-push (c ∷ cs) cell w e (suc i) lt = whole-push cs cell (λ k h. w (suc k) (omega arith)) e i (omega arith)

pub whole_drop : (cells : List (List ℕ)) → Whole cells → Whole (drop 1 cells)
whole_drop [] w i lt = absurd (omega arith)
whole_drop (c ∷ cs) w i lt = w (suc i) (omega arith)

pub length_cut : (n : ℕ) (bytes : List ℕ) → length (cut n bytes) ≡ n
length_cut zero bytes = refl
length_cut (suc n) bytes = ap suc (length_cut n (drop 514 bytes))

pub whole-cut : (n : ℕ) (bytes : List ℕ) → n * 514 ≤ length bytes → Whole (cut n bytes)
whole-cut zero bytes le i lt = absurd (omega arith)
whole-cut (suc n) bytes le zero lt = length-take-le 514 bytes (omega arith)
whole-cut (suc n) bytes le (suc i) lt =
    let rest : n * 514 ≤ length (drop 514 bytes) = simp length-drop (omega arith) in
    whole-cut n (drop 514 bytes) rest i (omega arith)

pub cut-push : (n : ℕ) (bytes cell : List ℕ) → length bytes ≡ n * 514 → length cell ≡ 514 → cut (suc n) (bytes ++ cell) ≡ cut n bytes ++ (cell ∷ [])
cut-push zero bytes cell e f =
    let none : bytes ≡ [] = nil_from_length bytes (omega arith) in
    rw none (ap (λ v. v ∷ []) (take_all 514 cell (omega arith)))
cut-push (suc n) bytes cell e f =
    let le : 514 ≤ length bytes = omega arith in
    let rest : length (drop 514 bytes) ≡ n * 514 = simp length-drop (omega arith) in
    rw (take-append-le 514 bytes cell le, drop-append-le 514 bytes cell le) (ap (λ v. take 514 bytes ∷ v) (cut-push n (drop 514 bytes) cell rest f))

-- a cell's bytes behind those of n cells
pub cut_push : (n m : ℕ) (bytes cell joined : List ℕ) → joined ≡ bytes ++ cell → m ≡ n + 1 → length bytes ≡ n * 514 → length cell ≡ 514 → cut m joined ≡ cut n bytes ++ (cell ∷ [])
cut_push n m bytes cell joined is more e f =
    let next : m ≡ suc n = omega arith in
    ap (cut m) is ∙ ap (λ k. cut k (bytes ++ cell)) next ∙ cut-push n bytes cell e f

-- what waits in slots is no more than they are
pub waiting-bounded : (slots : List (List ℕ)) (p : Place) (n : ℕ) → length slots ≡ n → p.head < n → p.count ≤ n → length (waiting slots p) ≤ n
waiting-bounded slots p n e head count = omega (arith, length_waiting slots p (omega arith) (omega arith))

-- the oldest cell of some, and the others
pub cut_first : (n : ℕ) (bytes d : List ℕ) → 0 < n → slice_index_or (cut n bytes) 0 d ≡ take 514 bytes
cut_first zero bytes d lt = absurd (omega arith)
cut_first (suc n) bytes d lt = refl

pub cut_rest : (n m : ℕ) (bytes : List ℕ) → m + 1 ≡ n → cut m (drop 514 bytes) ≡ drop 1 (cut n bytes)
cut_rest zero m bytes e = absurd (omega arith)
cut_rest (suc n) m bytes e = let same : m ≡ n = omega arith in ap (λ k. cut k (drop 514 bytes)) same

pub some_below : (head n : ℕ) → head < n → 1 ≤ n
some_below head n lt = omega arith

-- the cells of a ring of bytes
pub few_cells : (capacity : ℕ) → capacity ≤ 4 → capacity ≤ 65535
few_cells capacity le = omega arith

pub cut_bounded : (ring : List ℕ) (p : Place) (capacity : ℕ) → p.count ≤ capacity * 514 → length (cut (p.count / 514) (waiting ring p)) ≤ capacity
cut_bounded ring p capacity le = omega (arith, length_cut (p.count / 514) (waiting ring p))

pub cut_whole : (ring : List ℕ) (p : Place) (capacity : ℕ) → length ring ≡ 2100 → p.head < 2100 → p.count ≤ capacity * 514 → capacity ≤ 4 → Whole (cut (p.count / 514) (waiting ring p))
cut_whole ring p capacity size head count few =
    let long = length_waiting ring p (omega arith) (omega arith) in
    whole-cut (p.count / 514) (waiting ring p) (omega arith)
