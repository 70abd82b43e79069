-- The backward way: the client's ends, threaded through the rows from the first hop outward, are the relays'.
use Rattle.std.proofs.Common.{◌≡◌, ℕ, zero, suc, ◌+◌, ◌-◌, ◌<◌, ◌≤◌, true, false, ◌||◌, List, [], ◌∷◌, ◌++◌, map, length, set, Some, sym, refl, ap, ◌∙◌, subst, arith}
use Rattle.std.proofs.lemmas.Bool.{or_parts}
use Rattle.cell.specs.Payload.{Message, blank}
use Rattle.cell.specs.Frame.{cell_number, framed}
use Rattle.cell.specs.declared.command.Way.TheVariants.{Backward}
use Rattle.model.specs.Lists.{nth}
use Rattle.model.specs.Ends.{Rules, End, recognises, moved, took, sealed, wrapped, advanced, recognised_at, unwrapped}
use Rattle.model.specs.Circuit.{holding}
use Rattle.model.specs.PlainMachine.{entry}
use Rattle.model.specs.Runs.{Posting, earlier}
use Rattle.model.proofs.Laws.{Laws}
use Rattle.model.proofs.Sealing.{fits, length-sealed, recognises-sealed}
use Rattle.model.proofs.Threads.{blank_of, cipher_of, thread, cells_for, Sound, thread-push, cells-push, sound-push, length-cells, length-thread, ciphers-thread, length-wrapped}
use Rattle.model.proofs.Stations.{Station, station, relay_at}

-- a posting to which a relay added the layer n
abbrev pub added_once : ℕ → Posting → Posting
added_once n p = record { entry = p.entry; payload = p.payload; layers = n ∷ p.layers }

module _ {K S : Type 0} (R : Rules K S) where
  -- cs are the client's ends from hop j on
  abbrev pub GoodBackward : ℕ → List (End K S) → List (Station K S) → Type 0
  GoodBackward j cs [] = cs ≡ []
  GoodBackward j cs (s ∷ ss) =
      (es : List (End K S)) × GoodBackward (suc j) es ss × (s.line.cells ≡ cells_for R j cs s.row) × (thread R j cs s.row ≡ s.relay ∷ es)
      × Sound R Backward j cs s.row × (1 ≤ s.line.capacity)

  pub backward-length : (j : ℕ) (cs : List (End K S)) (ss : List (Station K S)) → GoodBackward j cs ss → length ss ≡ length cs
  backward-length j cs [] g = sym (ap length g)
  backward-length j cs (s ∷ ss) g = omega (arith, backward-length (suc j) g.0 ss g.1, length-thread R j cs s.row, ap length g.3)

  pub backward-ciphers : (j : ℕ) (cs : List (End K S)) (ss : List (Station K S)) → GoodBackward j cs ss → map cipher_of cs ≡ map cipher_of (map relay_at ss)
  backward-ciphers j cs [] g = rw g
  backward-ciphers j cs (s ∷ ss) g =
      sym (ciphers-thread R j cs s.row) ∙ (ap (map cipher_of) g.3 ∙ ap (λ (l : List K). s.relay.cipher ∷ l) (backward-ciphers (suc j) g.0 ss g.1))

  pub backward-cells : (i j : ℕ) (cs : List (End K S)) (ss : List (Station K S)) (s : Station K S) → GoodBackward j cs ss → nth ss i ≡ Some s → (length s.line.cells ≡ length s.row) × (1 ≤ s.line.capacity)
  backward-cells i j cs [] s g at = let z : ◌≡◌ {A = ℕ} 0 1 = cc in absurd (omega arith)
  backward-cells zero j cs (t ∷ ss) s g at =
      let u : t ≡ s = cc in
      subst (λ (v : Station K S). (length v.line.cells ≡ length v.row) × (1 ≤ v.line.capacity)) u (ap length g.2 ∙ length-cells R j cs t.row, g.5)
  backward-cells (suc i) j cs (t ∷ ss) s g at = backward-cells i (suc j) g.0 ss s g.1 at

  -- the row of a station, named
  abbrev RowOf : ℕ → List (End K S) → Station K S → List (Station K S) → List Posting → Type 0
  RowOf j cs s ss r =
      (es : List (End K S)) × GoodBackward (suc j) es ss × (s.line.cells ≡ cells_for R j cs r) × (thread R j cs r ≡ s.relay ∷ es) × Sound R Backward j cs r × (1 ≤ s.line.capacity)

  ---- a relay sends
  abbrev pub sent_by : End K S → ℕ → Message → Posting
  sent_by e h m = record { entry = entry h m; payload = sealed R e.digest (blank m); layers = e.layer ∷ [] }

  abbrev pub sending : ℕ → Station K S → Message → Station K S
  sending h s m =
      station (took R s.relay (blank m)) (holding s.line (s.line.cells ++ framed (cell_number h) (R.added s.relay.cipher s.relay.layer (sealed R s.relay.digest (blank m))) ∷ [])) (s.row ++ sent_by s.relay h m ∷ [])

  pub backward-sends : (i j h : ℕ) (cs : List (End K S)) (ss : List (Station K S)) (s : Station K S) (m : Message) → GoodBackward j cs ss → nth ss i ≡ Some s → h ≡ i + j → fits Backward m ≡ true → GoodBackward j cs (set ss i (sending h s m))
  backward-sends i j h cs [] s m g at q f = let z : ◌≡◌ {A = ℕ} 0 1 = cc in absurd (omega arith)
  backward-sends zero j h cs (t ∷ ss) s m g at q f =
      let u : t ≡ s = cc in
      let a : RowOf j cs s ss s.row = subst (λ (v : Station K S). GoodBackward j cs (v ∷ ss)) u g in
      let p : Posting = sent_by s.relay h m in
      let n : h ≡ j = omega arith in
      let z : h - j ≡ 0 = omega arith in
      let r : thread R j cs s.row ≡ s.relay ∷ a.0 = a.3 in
      let k : thread R j cs (s.row ++ p ∷ []) ≡ took R s.relay (blank m) ∷ a.0 = thread-push R j cs s.row p ∙ rw (r, z) in
      let w : s.line.cells ++ framed (cell_number h) (R.added s.relay.cipher s.relay.layer (sealed R s.relay.digest (blank m))) ∷ [] ≡ cells_for R j cs (s.row ++ p ∷ []) = rw (cells-push R j cs s.row p, r, z, a.2, n) in
      let lt : h - j < length (thread R j cs s.row) = rw r (omega arith) in
      (a.0, a.1, w, k, sound-push R Backward j cs s.row p a.4 f (omega arith) lt (rw (r, z)) (rw (r, z)), a.5)
  backward-sends (suc i) j h cs (t ∷ ss) s m g at q f =
      (g.0, backward-sends i (suc j) h g.0 ss s m g.1 at (omega arith) f, g.2, g.3, g.4, g.5)

  ---- a relay passes on, from station t to station s
  abbrev pub adding : ℕ → Station K S → List ℕ → Posting → Station K S
  adding h s x p =
      station (moved s.relay) (holding s.line (s.line.cells ++ framed (cell_number h) (R.added s.relay.cipher s.relay.layer x) ∷ [])) (s.row ++ added_once s.relay.layer p ∷ [])

  abbrev pub Adds : ℕ → ℕ → List (End K S) → List (Station K S) → ℕ → Station K S → Station K S → Posting → List Posting → Type 0
  Adds h j cs ss i s t p ps =
      (x : List ℕ) × (xs : List (List ℕ)) × (t.line.cells ≡ framed (cell_number (suc h)) x ∷ xs)
      × GoodBackward j cs (set (set ss i (adding h s x p)) (suc i) (station t.relay (holding t.line xs) ps))

  adds-first : (j : ℕ) (cs : List (End K S)) (s t : Station K S) (ss : List (Station K S)) (p : Posting) (ps : List Posting) → (g : GoodBackward j cs (s ∷ t ∷ ss)) → RowOf (suc j) g.0 t ss (p ∷ ps) → Adds j j cs (s ∷ t ∷ ss) 0 s t p ps
  adds-first j cs s t ss p ps g k =
      let d : ℕ = p.entry.hop - suc j in
      let b : List ℕ = blank_of p in
      let q : Posting = added_once s.relay.layer p in
      let z : p.entry.hop - j ≡ suc d = omega (arith, k.4.1) in
      let r : thread R j cs s.row ≡ s.relay ∷ g.0 = g.3 in
      let le : j ≤ p.entry.hop = omega (arith, k.4.1) in
      let lt : p.entry.hop - j < length (thread R j cs s.row) = rw r (omega (arith, k.4.2)) in
      let w : s.line.cells ++ framed (cell_number j) (R.added s.relay.cipher s.relay.layer (wrapped R g.0 d b)) ∷ [] ≡ cells_for R j cs (s.row ++ q ∷ []) = rw (cells-push R j cs s.row q, r, z, g.2) in
      let v : thread R j cs (s.row ++ q ∷ []) ≡ moved s.relay ∷ advanced R g.0 d b = thread-push R j cs s.row q ∙ rw (r, z) in (
        wrapped R g.0 d b,
        cells_for R (suc j) (advanced R g.0 d b) ps,
        k.2,
        (advanced R g.0 d b, (k.0, k.1, refl, k.3, k.4.5, k.5), w, v, sound-push R Backward j cs s.row q g.4 k.4.0 le lt (rw (r, z) k.4.3) (rw (r, z) (ap (λ (l : List ℕ). s.relay.layer ∷ l) k.4.4)), g.5),
      )

  pub backward-adds : (i j h : ℕ) (cs : List (End K S)) (ss : List (Station K S)) (s t : Station K S) (p : Posting) (ps : List Posting) → GoodBackward j cs ss → nth ss i ≡ Some s → nth ss (suc i) ≡ Some t → t.row ≡ p ∷ ps → h ≡ i + j → Adds h j cs ss i s t p ps
  backward-adds i j h cs [] s t p ps g at on e q = let z : ◌≡◌ {A = ℕ} 0 1 = cc in absurd (omega arith)
  backward-adds zero j h cs (a ∷ []) s t p ps g at on e q = let z : ◌≡◌ {A = ℕ} 0 1 = cc in absurd (omega arith)
  backward-adds zero j h cs (a ∷ b ∷ ss) s t p ps g at on e q =
      let u : a ≡ s = cc in
      let v : b ≡ t = cc in
      let n : j ≡ h = omega arith in
      let c : GoodBackward j cs (s ∷ t ∷ ss) = subst (λ (v : Station K S). GoodBackward j cs (s ∷ v ∷ ss)) v (subst (λ (v : Station K S). GoodBackward j cs (v ∷ b ∷ ss)) u g) in
      let k : RowOf (suc j) c.0 t ss (p ∷ ps) = subst (RowOf (suc j) c.0 t ss) e c.1 in
      subst (λ (v : ℕ). Adds v j cs (a ∷ b ∷ ss) 0 s t p ps) n (adds-first j cs s t ss p ps c k)
  backward-adds (suc i) j h cs (a ∷ ss) s t p ps g at on e q =
      let ih : Adds h (suc j) g.0 ss i s t p ps = backward-adds i (suc j) h g.0 ss s t p ps g.1 at on e (omega arith) in
      (ih.0, ih.1, ih.2, (g.0, ih.3, g.2, g.3, g.4, g.5))

  ---- the client takes the first of row 1
  abbrev pub Arrives : List (End K S) → Station K S → List (Station K S) → Posting → List Posting → ℕ → Type 0
  Arrives cs s ss p ps d =
      (xs : List (List ℕ)) × (s.line.cells ≡ framed (cell_number 1) (wrapped R cs d (blank_of p)) ∷ xs) × (fits Backward p.entry.message ≡ true) × (d < length cs)
      × GoodBackward 1 (advanced R cs d (blank_of p)) (station s.relay (holding s.line xs) ps ∷ ss)

  pub backward-arrives : (cs : List (End K S)) (s : Station K S) (ss : List (Station K S)) (p : Posting) (ps : List Posting) → GoodBackward 1 cs (s ∷ ss) → s.row ≡ p ∷ ps → (1 ≤ p.entry.hop) × Arrives cs s ss p ps (p.entry.hop - 1)
  backward-arrives cs s ss p ps g e =
      let k : RowOf 1 cs s ss (p ∷ ps) = subst (RowOf 1 cs s ss) e g in
      (k.4.1, (cells_for R 1 (advanced R cs (p.entry.hop - 1) (blank_of p)) ps, k.2, k.4.0, k.4.2, (k.0, k.1, refl, k.3, k.4.5, k.5)))

-- the client removes layers up to the first end whose test passes
module _ {K S : Type 0} (R : Rules K S) (L : Laws R) where
  undone : (e : End K S) (cs : List (End K S)) (d : ℕ) (m : Message) → fits Backward m ≡ true → d < length cs → R.removed e.cipher e.layer (R.added e.cipher e.layer (wrapped R cs d (blank m))) ≡ wrapped R cs d (blank m)
  undone e cs d m f lt = L.remove_undoes_add _ _ (wrapped R cs d (blank m)) (length-wrapped R L Backward cs d m f lt)

  undone-sealed : (e : End K S) (m : Message) → fits Backward m ≡ true → R.removed e.cipher e.layer (R.added e.cipher e.layer (sealed R e.digest (blank m))) ≡ sealed R e.digest (blank m)
  undone-sealed e m f = L.remove_undoes_add _ _ (sealed R e.digest (blank m)) (length-sealed R L e.digest m Backward f)

  pub recognised-at : (cs : List (End K S)) (d : ℕ) (m : Message) → fits Backward m ≡ true → d < length cs → earlier R cs d (wrapped R cs d (blank m)) ≡ false → recognised_at R cs (wrapped R cs d (blank m)) ≡ Some d
  recognised-at [] d m f lt n = absurd (omega arith)
  recognised-at (e ∷ cs) zero m f lt n = rw (undone-sealed e m f, recognises-sealed R L e.digest m)
  recognised-at (e ∷ cs) (suc d) m f lt n =
      let b : List ℕ = blank m in
      let l : d < length cs = omega arith in
      let u : R.removed e.cipher e.layer (R.added e.cipher e.layer (wrapped R cs d b)) ≡ wrapped R cs d b = undone e cs d m f l in
      let k : (recognises R.tags e.digest (wrapped R cs d b) || earlier R cs d (wrapped R cs d b)) ≡ false = rw u at n in
      let o : (recognises R.tags e.digest (wrapped R cs d b) ≡ false) × (earlier R cs d (wrapped R cs d b) ≡ false) = or_parts _ _ k in
      let ih : recognised_at R cs (wrapped R cs d b) ≡ Some d = recognised-at cs d m f l o.1 in
      rw (u, o.0, ih)

  pub unwrapped-wrapped : (cs : List (End K S)) (d : ℕ) (m : Message) → fits Backward m ≡ true → d < length cs → (s : S) × (unwrapped R (suc d) cs (wrapped R cs d (blank m)) ≡ sealed R s (blank m))
  unwrapped-wrapped [] d m f lt = absurd (omega arith)
  unwrapped-wrapped (e ∷ cs) zero m f lt = (e.digest, undone-sealed e m f)
  unwrapped-wrapped (e ∷ cs) (suc d) m f lt =
      let l : d < length cs = omega arith in
      let ih : (s : S) × (unwrapped R (suc d) cs (wrapped R cs d (blank m)) ≡ sealed R s (blank m)) = unwrapped-wrapped cs d m f l in
      (ih.0, ap (unwrapped R (suc d) cs) (undone e cs d m f l) ∙ ih.1)
