-- One layer more with each turn, until the end that is asked next would take the payload.
use Rattle.std.proofs.Common.{◌≡◌, ◌+◌, ◌-◌, ◌<◌, ◌≤◌, true, false, ◌∷◌, map, length, drop, Some, sym, ap, ◌∙◌, subst, arith}
use Rattle.std.proofs.lemmas.List.{length-map}
use Rattle.model.specs.Ends.{recognises}
use Rattle.wraps.specs.Wraps.{layered, taken_at}
use Rattle.hops.specs.Views.{rules, end_seen}
use Rattle.hops.proofs.Tests.{at_length}
use Rattle.rows.proofs.Walks.{drop-read}
use Rattle.wraps.proofs.Layers.{layer-none, taken_none, layer-step, taken_step, taken-up}
use Rattle.wraps.proofs.wrapping.add_layers.Goals as goal

pub loop-i-init : goal.loop-i-init
loop-i-init g c =
    let R = rules g.C.Cipher g.D.Digest in
    let es = map (end_seen {C = g.row.C.Denot} g.D.Digest) c.args.ends.now in
    record { in_row = omega arith; added = sym (layer-none R es c.args.d c.args.payload.now); none_took = taken_none R es c.args.d c.args.payload.now }

pub loop-i-preserved : goal.loop-i-preserved
loop-i-preserved g c =
    let R = rules g.C.Cipher g.D.Digest in
    let f = end_seen {C = g.row.C.Denot} g.D.Digest in
    let xs = c.args.ends.now in
    let es = map f xs in
    let d = c.args.d in
    let x = c.args.payload.now in
    let q = c.add_and_ask.new.payload in
    let i = c.loop-i.i in
    let j = i - 1 in
    let s : j + 1 ≡ i = omega arith in
    let l : i ≤ d = c.loop-i.invariant.in_row in
    let e = c.index-ends-i-in-loop-i.result in
    let n = c.index-ends-i.result in
    let far : drop i es ≡ f e ∷ drop (i + 1) es = subst (λ k. drop k es ≡ f e ∷ drop (k + 1) es) s (drop-read f xs (j + 1) e (omega arith) c.index-ends-i-in-loop-i.is) in
    let near = drop-read f xs j n (omega arith) c.index-ends-i.is in
    let on : q ≡ layered R (drop (j + 1) es) (d - j) x =
    c.add_and_ask.ensures.layer ∙ ap (R.added e.cipher e.layer) c.loop-i.invariant.added ∙ sym (layer-step R es i j d (f e) (f n) x s l far near) in
    let long : length q ≡ 509 = omega arith in
    let test : recognises R.tags (f n).digest (layered R (drop (j + 1) es) (d - j) x) ≡ false =
    ap (recognises R.tags (f n).digest) (sym on) ∙ sym (at_length q (recognises R.tags (f n).digest q) long) ∙ sym c.add_and_ask.ensures.taken ∙ c.if-add_and_ask.false in
    record { in_row = omega arith; added = on; none_took = taken_step R es i j d (f e) (f n) x s l far near false c.loop-i.invariant.none_took test }

pub returns-then-add_and_ask : goal.returns-then-add_and_ask
returns-then-add_and_ask g c =
    let R = rules g.C.Cipher g.D.Digest in
    let f = end_seen {C = g.row.C.Denot} g.D.Digest in
    let xs = c.args.ends.now in
    let es = map f xs in
    let d = c.args.d in
    let x = c.args.payload.now in
    let q = c.add_and_ask.new.payload in
    let i = c.loop-i.i in
    let j = i - 1 in
    let s : j + 1 ≡ i = omega arith in
    let l : i ≤ d = c.loop-i.invariant.in_row in
    let e = c.index-ends-i-in-loop-i.result in
    let n = c.index-ends-i.result in
    let far : drop i es ≡ f e ∷ drop (i + 1) es = subst (λ k. drop k es ≡ f e ∷ drop (k + 1) es) s (drop-read f xs (j + 1) e (omega arith) c.index-ends-i-in-loop-i.is) in
    let near = drop-read f xs j n (omega arith) c.index-ends-i.is in
    let on : q ≡ layered R (drop (j + 1) es) (d - j) x =
    c.add_and_ask.ensures.layer ∙ ap (R.added e.cipher e.layer) c.loop-i.invariant.added ∙ sym (layer-step R es i j d (f e) (f n) x s l far near) in
    let long : length q ≡ 509 = omega arith in
    let test : recognises R.tags (f n).digest (layered R (drop (j + 1) es) (d - j) x) ≡ true =
    ap (recognises R.tags (f n).digest) (sym on) ∙ sym (at_length q (recognises R.tags (f n).digest q) long) ∙ sym c.add_and_ask.ensures.taken ∙ c.if-add_and_ask.true in
    let z : j + (d - j) ≡ d = omega arith in
    let m : d - j ≡ d + 1 - (j + 1) = omega arith in
    let lt : j < length es = simp length-map (omega arith) in
    let up : taken_at R es (j + (d - j)) x ≡ Some j = taken-up R es j (d - j) x lt (taken_step R es i j d (f e) (f n) x s l far near true c.loop-i.invariant.none_took test) in
    record {
      place = sym (ap (λ k. taken_at R es k x) (sym z) ∙ up);
      layers = on ∙ ap (λ k. layered R (drop (j + 1) es) k x) m;
      before = omega arith;
    }
