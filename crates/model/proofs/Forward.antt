-- The forward way: the relays' ends, threaded through the rows from the last hop inward, are the client's.
use Rattle.std.proofs.Common.{◌≡◌, ℕ, zero, suc, ◌+◌, ◌-◌, ◌<◌, ◌≤◌, Bool, true, false, List, [], ◌∷◌, ◌++◌, map, length, drop, set, Some, None, Option, sym, refl, ap, ◌∙◌, subst, arith}
use Rattle.cell.specs.Frame.{cell_number, framed}
use Rattle.cell.specs.declared.command.Way.TheVariants.{Forward}
use Rattle.model.specs.Lists.{nth}
use Rattle.model.specs.Ends.{Rules, End, recognises, farther, moved, took, sealed, wrapped, advanced, coincidence}
use Rattle.model.specs.Circuit.{holding}
use Rattle.model.specs.Runs.{Posting}
use Rattle.model.proofs.Laws.{Laws}
use Rattle.model.proofs.Sealing.{fits, length-sealed}
use Rattle.model.proofs.Threads.{blank_of, cipher_of, layers_to, sealed_at, thread, cells_for, Sound, Clean, thread-push, cells-push, clean-push, sound-push, length-cells, length-thread, ciphers-thread, length-wrapped}
use Rattle.model.proofs.Stations.{Station, station, relay_at}

-- a posting whose outermost layer a relay removed
abbrev pub peeled_once : Posting → Posting
peeled_once p = record { entry = p.entry; payload = p.payload; layers = drop 1 p.layers }

farther-none : (o : Option ℕ) (b : Bool) → farther o b ≡ None → (o ≡ None) × (b ≡ false)
farther-none None true e = let z : ◌≡◌ {A = ℕ} 0 1 = cc in absurd (omega arith)
farther-none None false e = (refl, refl)
farther-none (Some k) b e = let z : ◌≡◌ {A = ℕ} 0 1 = cc in absurd (omega arith)

module _ {K S : Type 0} (R : Rules K S) where
  -- cs are the client's ends from hop j on
  abbrev pub GoodForward : ℕ → List (End K S) → List (Station K S) → Type 0
  GoodForward j cs [] = cs ≡ []
  GoodForward j cs (s ∷ ss) =
      (es : List (End K S)) × GoodForward (suc j) es ss × (s.line.cells ≡ cells_for R j (s.relay ∷ es) s.row) × (cs ≡ thread R j (s.relay ∷ es) s.row)
      × Clean R j (s.relay ∷ es) s.row × Sound R Forward j (s.relay ∷ es) s.row × (1 ≤ s.line.capacity)

  pub forward-length : (j : ℕ) (cs : List (End K S)) (ss : List (Station K S)) → GoodForward j cs ss → length ss ≡ length cs
  forward-length j cs [] g = sym (ap length g)
  forward-length j cs (s ∷ ss) g = omega (arith, forward-length (suc j) g.0 ss g.1, length-thread R j (s.relay ∷ g.0) s.row, ap length g.3)

  pub forward-ciphers : (j : ℕ) (cs : List (End K S)) (ss : List (Station K S)) → GoodForward j cs ss → map cipher_of cs ≡ map cipher_of (map relay_at ss)
  forward-ciphers j cs [] g = rw g
  forward-ciphers j cs (s ∷ ss) g =
      ap (map cipher_of) g.3 ∙ (ciphers-thread R j (s.relay ∷ g.0) s.row ∙ ap (λ (l : List K). s.relay.cipher ∷ l) (forward-ciphers (suc j) g.0 ss g.1))

  -- what joins the first row
  pub forward-joins : (j : ℕ) (cs : List (End K S)) (s : Station K S) (ss : List (Station K S)) (p : Posting) → GoodForward j cs (s ∷ ss) → fits Forward p.entry.message ≡ true → coincidence R cs (p.entry.hop - j) (blank_of p) ≡ None → j ≤ p.entry.hop → p.entry.hop - j < length cs → p.payload ≡ sealed_at R cs (p.entry.hop - j) (blank_of p) → p.layers ≡ layers_to cs (p.entry.hop - j) → GoodForward j (advanced R cs (p.entry.hop - j) (blank_of p)) (station s.relay (holding s.line (s.line.cells ++ framed (cell_number j) (wrapped R cs (p.entry.hop - j) (blank_of p)) ∷ [])) (s.row ++ p ∷ []) ∷ ss)
  forward-joins j cs s ss p g f c le lt y n =
      let es : List (End K S) = s.relay ∷ g.0 in
      let t : cs ≡ thread R j es s.row = g.3 in
      (g.0, g.1, cc (cells-push R j es s.row p, g.2), cc (thread-push R j es s.row p), clean-push R j es s.row p g.4 (rw (← t) c), sound-push R Forward j es s.row p g.5 f le (rw (← t) lt) (rw (← t) y) (rw (← t) n), g.6)

  -- the posting p is the first of row j, for the hop d places on
  abbrev Head : ℕ → List (End K S) → Station K S → List (Station K S) → Posting → List Posting → ℕ → Type 0
  Head j cs s ss p ps d =
      (es : List (End K S)) × GoodForward (suc j) es ss
      × (s.line.cells ≡ framed (cell_number j) (wrapped R (s.relay ∷ es) d (blank_of p)) ∷ cells_for R j (advanced R (s.relay ∷ es) d (blank_of p)) ps)
      × (cs ≡ thread R j (advanced R (s.relay ∷ es) d (blank_of p)) ps)
      × ((coincidence R (s.relay ∷ es) d (blank_of p) ≡ None) × Clean R j (advanced R (s.relay ∷ es) d (blank_of p)) ps)
      × ((fits Forward p.entry.message ≡ true) × (j ≤ p.entry.hop) × (d < length (s.relay ∷ es)) × (p.payload ≡ sealed_at R (s.relay ∷ es) d (blank_of p)) × (p.layers ≡ layers_to (s.relay ∷ es) d)
      × Sound R Forward j (advanced R (s.relay ∷ es) d (blank_of p)) ps)
      × (1 ≤ s.line.capacity)

  abbrev HeadOf : ℕ → List (End K S) → Station K S → List (Station K S) → List Posting → Type 0
  HeadOf j cs s ss r =
      (es : List (End K S)) × GoodForward (suc j) es ss × (s.line.cells ≡ cells_for R j (s.relay ∷ es) r) × (cs ≡ thread R j (s.relay ∷ es) r) × Clean R j (s.relay ∷ es) r
      × Sound R Forward j (s.relay ∷ es) r × (1 ≤ s.line.capacity)

  head_at : (j d : ℕ) (cs : List (End K S)) (s : Station K S) (ss : List (Station K S)) (p : Posting) (ps : List Posting) → GoodForward j cs (s ∷ ss) → s.row ≡ p ∷ ps → p.entry.hop - j ≡ d → Head j cs s ss p ps d
  head_at j d cs s ss p ps g e q =
      let k : HeadOf j cs s ss (p ∷ ps) = subst (HeadOf j cs s ss) e g in
      subst (Head j cs s ss p ps) q k

  -- delivered at its hop h
  abbrev pub Delivers : ℕ → ℕ → List (End K S) → List (Station K S) → ℕ → Station K S → Posting → List Posting → Type 0
  Delivers h j cs ss i s p ps =
      (x : List ℕ) × (xs : List (List ℕ)) × (s.line.cells ≡ framed (cell_number h) x ∷ xs)
      × (R.removed s.relay.cipher s.relay.layer x ≡ sealed R s.relay.digest (blank_of p)) × (fits Forward p.entry.message ≡ true)
      × GoodForward j cs (set ss i (station (took R s.relay (blank_of p)) (holding s.line xs) ps))

  -- passed on from hop h
  abbrev pub Passes : ℕ → ℕ → List (End K S) → List (Station K S) → ℕ → Station K S → Posting → List Posting → Type 0
  Passes h j cs ss i s p ps =
      (x : List ℕ) × (xs : List (List ℕ)) × (t : Station K S) × (s.line.cells ≡ framed (cell_number h) x ∷ xs)
      × (recognises R.tags s.relay.digest (R.removed s.relay.cipher s.relay.layer x) ≡ false) × (nth ss (suc i) ≡ Some t)
      × GoodForward j cs
      (set (set ss (suc i) (station t.relay (holding t.line (t.line.cells ++ framed (cell_number (suc h)) (R.removed s.relay.cipher s.relay.layer x) ∷ [])) (t.row ++ peeled_once p ∷ []))) i (station (moved s.relay) (holding s.line xs) ps))

  -- as many cells as postings, and room for one
  pub forward-cells : (i j : ℕ) (cs : List (End K S)) (ss : List (Station K S)) (s : Station K S) → GoodForward j cs ss → nth ss i ≡ Some s → (length s.line.cells ≡ length s.row) × (1 ≤ s.line.capacity)
  forward-cells i j cs [] s g at = let z : ◌≡◌ {A = ℕ} 0 1 = cc in absurd (omega arith)
  forward-cells zero j cs (t ∷ ss) s g at =
      let u : t ≡ s = cc in
      subst (λ (v : Station K S). (length v.line.cells ≡ length v.row) × (1 ≤ v.line.capacity)) u (ap length g.2 ∙ length-cells R j (t.relay ∷ g.0) t.row, g.6)
  forward-cells (suc i) j cs (t ∷ ss) s g at = forward-cells i (suc j) g.0 ss s g.1 at

module _ {K S : Type 0} (R : Rules K S) (L : Laws R) where
  delivers-first : (j : ℕ) (cs : List (End K S)) (s : Station K S) (ss : List (Station K S)) (p : Posting) (ps : List Posting) → Head R j cs s ss p ps 0 → Delivers R j j cs (s ∷ ss) 0 s p ps
  delivers-first j cs s ss p ps k =
      (wrapped R (s.relay ∷ k.0) 0 (blank_of p), cells_for R j (advanced R (s.relay ∷ k.0) 0 (blank_of p)) ps, k.2, L.remove_undoes_add _ _ (sealed R s.relay.digest (blank_of p)) (length-sealed R L s.relay.digest p.entry.message Forward k.5.0), k.5.0, (k.0, k.1, refl, k.3, k.4.1, k.5.5, k.6))

  pub forward-delivers : (i j h : ℕ) (cs : List (End K S)) (ss : List (Station K S)) (s : Station K S) (p : Posting) (ps : List Posting) → GoodForward R j cs ss → nth ss i ≡ Some s → s.row ≡ p ∷ ps → h ≡ i + j → p.entry.hop ≡ h → Delivers R h j cs ss i s p ps
  forward-delivers i j h cs [] s p ps g at e q w = let z : ◌≡◌ {A = ℕ} 0 1 = cc in absurd (omega arith)
  forward-delivers zero j h cs (t ∷ ss) s p ps g at e q w =
      let u : t ≡ s = cc in
      let k : Head R j cs s ss p ps 0 = head_at R j 0 cs s ss p ps (subst (λ (v : Station K S). GoodForward R j cs (v ∷ ss)) u g) e (omega arith) in
      let n : j ≡ h = omega arith in
      subst (λ (v : ℕ). Delivers R v j cs (t ∷ ss) 0 s p ps) n (subst (λ (v : Station K S). Delivers R j j cs (v ∷ ss) 0 s p ps) (sym u) (delivers-first j cs s ss p ps k))
  forward-delivers (suc i) j h cs (t ∷ ss) s p ps g at e q w =
      let ih : Delivers R h (suc j) g.0 ss i s p ps = forward-delivers i (suc j) h g.0 ss s p ps g.1 at e (omega arith) w in
      (ih.0, ih.1, ih.2, ih.3, ih.4, (g.0, ih.5, g.2, g.3, g.4, g.5, g.6))

  passes-first : (j : ℕ) (cs : List (End K S)) (s : Station K S) (ss : List (Station K S)) (p : Posting) (ps : List Posting) → Head R j cs s ss p ps (suc (p.entry.hop - suc j)) → suc j ≤ p.entry.hop → Passes R j j cs (s ∷ ss) 0 s p ps
  passes-first j cs s [] p ps k le = let n : length k.0 ≡ 0 = ap length k.1 in absurd (omega (arith, k.5.2))
  passes-first j cs s (t ∷ ss) p ps k le =
      let d : ℕ = p.entry.hop - suc j in
      let b : List ℕ = blank_of p in
      let n : (coincidence R k.0 d b ≡ None) × (recognises R.tags s.relay.digest (wrapped R k.0 d b) ≡ false) = farther-none (coincidence R k.0 d b) (recognises R.tags s.relay.digest (wrapped R k.0 d b)) k.4.0 in
      let lt : d < length k.0 = omega (arith, k.5.2) in
      let u : R.removed s.relay.cipher s.relay.layer (R.added s.relay.cipher s.relay.layer (wrapped R k.0 d b)) ≡ wrapped R k.0 d b = L.remove_undoes_add _ _ (wrapped R k.0 d b) (length-wrapped R L Forward k.0 d p.entry.message k.5.0 lt) in
      let y : (peeled_once p).layers ≡ layers_to k.0 d = ap (drop 1) k.5.4 in
      let P : List ℕ → Type 0 = λ v. GoodForward R j cs (station (moved s.relay) (holding s.line (cells_for R j (advanced R (s.relay ∷ k.0) (suc d) b) ps)) ps ∷ station t.relay (holding t.line (t.line.cells ++ framed (cell_number (suc j)) v ∷ [])) (t.row ++ peeled_once p ∷ []) ∷ ss) in
      let good : P (wrapped R k.0 d b) = (advanced R k.0 d b, forward-joins R (suc j) k.0 t ss (peeled_once p) k.1 k.5.0 n.0 le lt k.5.3 y, refl, k.3, k.4.1, k.5.5, k.6) in
      (wrapped R (s.relay ∷ k.0) (suc d) b, cells_for R j (advanced R (s.relay ∷ k.0) (suc d) b) ps, t, k.2, rw u n.1, refl, subst P (sym u) good)

  pub forward-passes : (i j h : ℕ) (cs : List (End K S)) (ss : List (Station K S)) (s : Station K S) (p : Posting) (ps : List Posting) → GoodForward R j cs ss → nth ss i ≡ Some s → s.row ≡ p ∷ ps → h ≡ i + j → (p.entry.hop ≡ h → ⊥) → Passes R h j cs ss i s p ps
  forward-passes i j h cs [] s p ps g at e q w = let z : ◌≡◌ {A = ℕ} 0 1 = cc in absurd (omega arith)
  forward-passes zero j h cs (t ∷ ss) s p ps g at e q w =
      let u : t ≡ s = cc in
      let a : GoodForward R j cs (s ∷ ss) = subst (λ (v : Station K S). GoodForward R j cs (v ∷ ss)) u g in
      let b : HeadOf R j cs s ss (p ∷ ps) = subst (HeadOf R j cs s ss) e a in
      let n : j ≡ h = omega arith in
      let le : suc j ≤ p.entry.hop = omega (arith, b.5.1) in
      let k : Head R j cs s ss p ps (suc (p.entry.hop - suc j)) = head_at R j (suc (p.entry.hop - suc j)) cs s ss p ps a e (omega arith) in
      let good : Passes R j j cs (s ∷ ss) 0 s p ps = passes-first j cs s ss p ps k le in
      subst (λ (v : Station K S). Passes R h j cs (v ∷ ss) 0 s p ps) (sym u) (subst (λ (v : ℕ). Passes R v j cs (s ∷ ss) 0 s p ps) n good)
  forward-passes (suc i) j h cs (t ∷ ss) s p ps g at e q w =
      let ih : Passes R h (suc j) g.0 ss i s p ps = forward-passes i (suc j) h g.0 ss s p ps g.1 at e (omega arith) w in
      (ih.0, ih.1, ih.2, ih.3, ih.4, ih.5, (g.0, ih.6, g.2, g.3, g.4, g.5, g.6))
