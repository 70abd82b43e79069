-- Threads: from the receivers' ends, each waiting posting received in order. That gives each cell of a link, its layer numbers
-- and its tag, and in the end the senders' ends.
use Rattle.std.proofs.Common.{◌≡◌, ℕ, zero, suc, ◌-◌, ◌<◌, ◌≤◌, true, List, [], ◌∷◌, ◌++◌, map, length, take, None, refl, ap, ◌∙◌, arith}
use Rattle.cell.specs.Payload.{Message, blank}
use Rattle.cell.specs.Frame.{cell_number, framed}
use Rattle.cell.specs.declared.command.Way.{Way}
use Rattle.model.specs.Ends.{Rules, End, sealed, wrapped, advanced, coincidence}
use Rattle.model.specs.Runs.{Posting}
use Rattle.model.proofs.Laws.{Laws}
use Rattle.model.proofs.Sealing.{fits, length-sealed}

abbrev pub blank_of : Posting → List ℕ
blank_of p = blank p.entry.message

module _ {K S : Type 0} where
  abbrev pub cipher_of : End K S → K
  cipher_of e = e.cipher

  -- the layer numbers of the ends up to place d
  abbrev pub layers_to : List (End K S) → ℕ → List ℕ
  layers_to [] d = []
  layers_to (e ∷ es) zero = e.layer ∷ []
  layers_to (e ∷ es) (suc d) = e.layer ∷ layers_to es d

  pub layers-take : (es : List (End K S)) (d : ℕ) → map (λ (e : End K S). e.layer) (take (suc d) es) ≡ layers_to es d
  layers-take [] d = refl
  layers-take (e ∷ es) zero = refl
  layers-take (e ∷ es) (suc d) = ap (λ (l : List ℕ). e.layer ∷ l) (layers-take es d)

  pub length-layers : (es : List (End K S)) (d : ℕ) → d < length es → length (layers_to es d) ≡ suc d
  length-layers [] d lt = absurd (omega arith)
  length-layers (e ∷ es) zero lt = refl
  length-layers (e ∷ es) (suc d) lt = ap suc (length-layers es d (omega arith))

module _ {K S : Type 0} (R : Rules K S) where
  -- the payload as the end at place d seals it
  abbrev pub sealed_at : List (End K S) → ℕ → List ℕ → List ℕ
  sealed_at [] d b = []
  sealed_at (e ∷ es) zero b = sealed R e.digest b
  sealed_at (e ∷ es) (suc d) b = sealed_at es d b

  -- the ends of hops j on, once the postings of a row were received
  abbrev pub thread : ℕ → List (End K S) → List Posting → List (End K S)
  thread j es [] = es
  thread j es (p ∷ ps) = thread j (advanced R es (p.entry.hop - j) (blank_of p)) ps

  -- their cells on links j
  abbrev pub cells_for : ℕ → List (End K S) → List Posting → List (List ℕ)
  cells_for j es [] = []
  cells_for j es (p ∷ ps) =
      framed (cell_number j) (wrapped R es (p.entry.hop - j) (blank_of p)) ∷ cells_for j (advanced R es (p.entry.hop - j) (blank_of p)) ps

  -- each is a message of its way for a hop in range, with the payload and the layer numbers of the ends at its place
  abbrev pub Sound : Way → ℕ → List (End K S) → List Posting → Type 0
  Sound w j es [] = Unit {0}
  Sound w j es (p ∷ ps) =
      (fits w p.entry.message ≡ true) × (j ≤ p.entry.hop) × (p.entry.hop - j < length es) × (p.payload ≡ sealed_at es (p.entry.hop - j) (blank_of p))
      × (p.layers ≡ layers_to es (p.entry.hop - j)) × Sound w j (advanced R es (p.entry.hop - j) (blank_of p)) ps

  -- and none is taken for another hop's
  abbrev pub Clean : ℕ → List (End K S) → List Posting → Type 0
  Clean j es [] = Unit {0}
  Clean j es (p ∷ ps) =
      (coincidence R es (p.entry.hop - j) (blank_of p) ≡ None) × Clean j (advanced R es (p.entry.hop - j) (blank_of p)) ps

  ---- a row grows by one
  pub thread-push : (j : ℕ) (es : List (End K S)) (ps : List Posting) (p : Posting) → thread j es (ps ++ p ∷ []) ≡ advanced R (thread j es ps) (p.entry.hop - j) (blank_of p)
  thread-push j es [] p = refl
  thread-push j es (q ∷ ps) p = thread-push j (advanced R es (q.entry.hop - j) (blank_of q)) ps p

  pub cells-push : (j : ℕ) (es : List (End K S)) (ps : List Posting) (p : Posting) → cells_for j es (ps ++ p ∷ []) ≡ cells_for j es ps ++ framed (cell_number j) (wrapped R (thread j es ps) (p.entry.hop - j) (blank_of p)) ∷ []
  cells-push j es [] p = refl
  cells-push j es (q ∷ ps) p =
      ap (λ (l : List (List ℕ)). framed (cell_number j) (wrapped R es (q.entry.hop - j) (blank_of q)) ∷ l) (cells-push j (advanced R es (q.entry.hop - j) (blank_of q)) ps p)

  pub clean-push : (j : ℕ) (es : List (End K S)) (ps : List Posting) (p : Posting) → Clean j es ps → coincidence R (thread j es ps) (p.entry.hop - j) (blank_of p) ≡ None → Clean j es (ps ++ p ∷ [])
  clean-push j es [] p c h = (h, tt)
  clean-push j es (q ∷ ps) p c h = (c.0, clean-push j (advanced R es (q.entry.hop - j) (blank_of q)) ps p c.1 h)

  pub sound-push : (w : Way) (j : ℕ) (es : List (End K S)) (ps : List Posting) (p : Posting) → Sound w j es ps → fits w p.entry.message ≡ true → j ≤ p.entry.hop → p.entry.hop - j < length (thread j es ps) → p.payload ≡ sealed_at (thread j es ps) (p.entry.hop - j) (blank_of p) → p.layers ≡ layers_to (thread j es ps) (p.entry.hop - j) → Sound w j es (ps ++ p ∷ [])
  sound-push w j es [] p c f g l q n = (f, g, l, q, n, tt)
  sound-push w j es (x ∷ ps) p c f g l q n =
      (c.0, c.1, c.2, c.3, c.4, sound-push w j (advanced R es (x.entry.hop - j) (blank_of x)) ps p c.5 f g l q n)

  ---- lengths and ciphers
  pub length-cells : (j : ℕ) (es : List (End K S)) (ps : List Posting) → length (cells_for j es ps) ≡ length ps
  length-cells j es [] = refl
  length-cells j es (p ∷ ps) = ap suc (length-cells j (advanced R es (p.entry.hop - j) (blank_of p)) ps)

  pub length-advanced : (es : List (End K S)) (d : ℕ) (b : List ℕ) → length (advanced R es d b) ≡ length es
  length-advanced [] d b = refl
  length-advanced (e ∷ es) zero b = refl
  length-advanced (e ∷ es) (suc d) b = ap suc (length-advanced es d b)

  pub length-thread : (j : ℕ) (es : List (End K S)) (ps : List Posting) → length (thread j es ps) ≡ length es
  length-thread j es [] = refl
  length-thread j es (p ∷ ps) = length-thread j (advanced R es (p.entry.hop - j) (blank_of p)) ps ∙ length-advanced es (p.entry.hop - j) (blank_of p)

  pub ciphers-advanced : (es : List (End K S)) (d : ℕ) (b : List ℕ) → map cipher_of (advanced R es d b) ≡ map cipher_of es
  ciphers-advanced [] d b = refl
  ciphers-advanced (e ∷ es) zero b = refl
  ciphers-advanced (e ∷ es) (suc d) b = ap (λ (l : List K). e.cipher ∷ l) (ciphers-advanced es d b)

  pub ciphers-thread : (j : ℕ) (es : List (End K S)) (ps : List Posting) → map cipher_of (thread j es ps) ≡ map cipher_of es
  ciphers-thread j es [] = refl
  ciphers-thread j es (p ∷ ps) = ciphers-thread j (advanced R es (p.entry.hop - j) (blank_of p)) ps ∙ ciphers-advanced es (p.entry.hop - j) (blank_of p)

  -- a cell's payload has 509 bytes
  pub length-wrapped : Laws R → (w : Way) (es : List (End K S)) (d : ℕ) (m : Message) → fits w m ≡ true → d < length es → length (wrapped R es d (blank m)) ≡ 509
  length-wrapped L w [] d m f lt = absurd (omega arith)
  length-wrapped L w (e ∷ es) zero m f lt = L.added_length e.cipher e.layer (sealed R e.digest (blank m)) ∙ length-sealed R L e.digest m w f
  length-wrapped L w (e ∷ es) (suc d) m f lt = L.added_length e.cipher e.layer (wrapped R es d (blank m)) ∙ length-wrapped L w es d m f (omega arith)
