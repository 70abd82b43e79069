-- The layers removed again, with the hops' own ciphers and the numbers of the postings.
use Rattle.std.proofs.Common.{◌≡◌, ℕ, zero, suc, ◌+◌, ◌-◌, ◌<◌, true, List, [], ◌∷◌, map, length, get_or, drop, sym, ap, ◌∙◌, subst, arith}
use Rattle.std.proofs.lemmas.List.{length-map}
use Rattle.cell.specs.Payload.{Message, blank}
use Rattle.cell.specs.Frame.{cell_number, framed, payload_of}
use Rattle.cell.specs.declared.command.Way.{Way}
use Rattle.cell.specs.declared.command.Way.TheVariants.{Forward, Backward}
use Rattle.cell.proofs.Frames.{payload-framed}
use Rattle.model.specs.Lists.{nth}
use Rattle.model.specs.Ends.{Rules, End, sealed, wrapped, advanced}
use Rattle.model.specs.Runs.{Posting}
use Rattle.model.specs.Law.{cells_of, peeled, OnLink}
use Rattle.model.proofs.Laws.{Laws}
use Rattle.model.proofs.Sealing.{fits, length-sealed}
use Rattle.model.proofs.Threads.{blank_of, cipher_of, layers_to, sealed_at, cells_for, Sound, length-layers, ciphers-advanced, length-wrapped}
use Rattle.model.proofs.Stations.{Station, relay_at, line_at, row_at}
use Rattle.model.proofs.Forward.{GoodForward, forward-ciphers}
use Rattle.model.proofs.Backward.{GoodBackward, backward-ciphers}

module _ {K S : Type 0} (R : Rules K S) (L : Laws R) where
  peeled-wrapped : (w : Way) (es : List (End K S)) (d : ℕ) (m : Message) → fits w m ≡ true → d < length es → peeled R (map cipher_of es) (layers_to es d) (wrapped R es d (blank m)) ≡ sealed_at R es d (blank m)
  peeled-wrapped w [] d m f lt = absurd (omega arith)
  peeled-wrapped w (e ∷ es) zero m f lt = L.remove_undoes_add _ _ (sealed R e.digest (blank m)) (length-sealed R L e.digest m w f)
  peeled-wrapped w (e ∷ es) (suc d) m f lt =
      let l : d < length es = omega arith in
      ap (peeled R (map cipher_of es) (layers_to es d)) (L.remove_undoes_add _ _ (wrapped R es d (blank m)) (length-wrapped R L w es d m f l)) ∙ peeled-wrapped w es d m f l

  on_row : (w : Way) (j : ℕ) (es : List (End K S)) (ps : List Posting) → Sound R w j es ps → OnLink R j (map cipher_of es) (cells_for R j es ps) ps
  on_row w j es [] s = tt
  on_row w j es (p ∷ ps) s =
      let d : ℕ = p.entry.hop - j in
      let n : ℕ = cell_number j in
      let y : List ℕ = wrapped R es d (blank_of p) in
      let u : payload_of (framed n y) ≡ y = payload-framed n y in
      let k : length p.layers ≡ suc d = ap length s.4 ∙ length-layers es d s.2 in
      let o : peeled R (map cipher_of es) p.layers (payload_of (framed n y)) ≡ p.payload = rw (u, s.4, s.3) (peeled-wrapped w es d p.entry.message s.0 s.2) in
      (ap (framed n) (sym u), omega (arith, s.1), omega (arith, s.2, length-map es cipher_of), o, subst (λ (l : List K). OnLink R j l (cells_for R j (advanced R es d (blank_of p)) ps) ps) (ciphers-advanced R es d (blank_of p)) (on_row w j (advanced R es d (blank_of p)) ps s.5))

  pub forward-links : (i j h : ℕ) (cs : List (End K S)) (ss : List (Station K S)) → GoodForward R j cs ss → h ≡ i + j → OnLink R h (drop i (map cipher_of (map relay_at ss))) (cells_of (nth (map line_at ss) i)) (get_or (map row_at ss) i [])
  forward-links i j h cs [] g q = tt
  forward-links zero j h cs (s ∷ ss) g q =
      let n : j ≡ h = omega arith in
      let r : OnLink R j (map cipher_of (s.relay ∷ g.0)) (cells_for R j (s.relay ∷ g.0) s.row) s.row = on_row Forward j (s.relay ∷ g.0) s.row g.5 in
      subst (λ (v : ℕ). OnLink R v (map cipher_of (map relay_at (s ∷ ss))) s.line.cells s.row) n
      (subst (λ (l : List (List ℕ)). OnLink R j (map cipher_of (map relay_at (s ∷ ss))) l s.row) (sym g.2)
      (subst (λ (l : List K). OnLink R j (s.relay.cipher ∷ l) (cells_for R j (s.relay ∷ g.0) s.row) s.row) (forward-ciphers R (suc j) g.0 ss g.1) r))
  forward-links (suc i) j h cs (s ∷ ss) g q = forward-links i (suc j) h g.0 ss g.1 (omega arith)

  pub backward-links : (i j h : ℕ) (cs : List (End K S)) (ss : List (Station K S)) → GoodBackward R j cs ss → h ≡ i + j → OnLink R h (drop i (map cipher_of (map relay_at ss))) (cells_of (nth (map line_at ss) i)) (get_or (map row_at ss) i [])
  backward-links i j h cs [] g q = tt
  backward-links zero j h cs (s ∷ ss) g q =
      let n : j ≡ h = omega arith in
      let r : OnLink R j (map cipher_of cs) (cells_for R j cs s.row) s.row = on_row Backward j cs s.row g.4 in
      subst (λ (v : ℕ). OnLink R v (map cipher_of (map relay_at (s ∷ ss))) s.line.cells s.row) n
      (subst (λ (l : List (List ℕ)). OnLink R j (map cipher_of (map relay_at (s ∷ ss))) l s.row) (sym g.2)
      (subst (λ (l : List K). OnLink R j l (cells_for R j cs s.row) s.row) (backward-ciphers R j cs (s ∷ ss) g) r))
  backward-links (suc i) j h cs (s ∷ ss) g q = backward-links i (suc j) h g.0 ss g.1 (omega arith)
