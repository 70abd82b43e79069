-- One layer less with each turn, until a test passes or no end is left.
use Rattle.std.proofs.Common.{◌≡◌, ◌+◌, ◌<◌, true, false, ◌&&◌, eqb, [], map, length, get_or, drop, is_some, IfSome, Some, None, Option, sym, ap, ◌∙◌, subst, arith}
use Rattle.std.proofs.lemmas.List.{length-map, drop_all}
use Rattle.cell.specs.Payload.{zeroed}
use Rattle.model.specs.Lists.{nth}
use Rattle.model.specs.Ends.{recognises, recognised_at, unwrapped}
use Rattle.hops.specs.Views.{rules, end_seen}
use Rattle.hops.proofs.Tests.{at_length, unchecked, checked}
use Rattle.rows.proofs.Walks.{past, past-nowhere, nth_read, drop-read, unwrap-step, seek-step, advanced-to, found-is, left_is}
use Rattle.rows.proofs.ends.seek.Goals as goal
use Rattle.rows.proofs.ends.seek.Goals.{then-test, else-test}

pub loop-j-preserved : goal.loop-j-preserved
loop-j-preserved g c =
    let R = rules g.C.Cipher g.D.Digest in
    let f = end_seen {C = g.row.C.Denot} g.D.Digest in
    let xs = c.args.ends.now in
    let es = map f xs in
    let j = c.loop-j.j in
    let e = c.index-ends-j.result in
    let q = c.loop-j.payload in
    let p = c.remove_layer.new.payload in
    let lt : j < length xs = omega arith in
    let is : e ≡ get_or xs j e = c.index-ends-j.is in
    let off : p ≡ R.removed (f e).cipher (f e).layer q = c.remove_layer.ensures in
    let long : length p ≡ 509 = omega arith in
    let test : is_some c.if-test.passed ≡ (eqb (length p) 509 && recognises R.tags (f e).digest p) =
    elim c.if-test.branch [
      | then-test w ↦ ap is_some w.passed-is ∙ sym (unchecked R.tags (f e).digest p (sym c.check_is_zero.ensures ∙ w.if-test.true))
      | else-test w ↦ ap is_some w.passed-is ∙ w.match_tag-passed.ensures.test ∙ checked R.tags (f e).digest p (sym c.check_is_zero.ensures ∙ w.if-test.false)
    ] in
    let fails : recognises R.tags (f e).digest (R.removed (f e).cipher (f e).layer q) ≡ false =
    ap (recognises R.tags (f e).digest) (sym off) ∙ sym (at_length p (recognises R.tags (f e).digest p) long) ∙ sym test ∙ ap is_some c.in_default.is in
    record {
      removed = off ∙ ap (R.removed (f e).cipher (f e).layer) c.loop-j.invariant.removed ∙ sym (unwrap-step R es j (f e) c.args.payload.now (nth_read f xs j e lt is));
      sought = c.loop-j.invariant.sought ∙ seek-step R es j (f e) q false (drop-read f xs j e lt is) fails ∙ ap (λ p. past (j + 1) (recognised_at R (drop (j + 1) es) p)) (sym off);
    }

pub returns-after-loop-j : goal.returns-after-loop-j
returns-after-loop-j g c =
    let R = rules g.C.Cipher g.D.Digest in
    let f = end_seen {C = g.row.C.Denot} g.D.Digest in
    let xs = c.args.ends.now in
    let es = map f xs in
    let p = c.args.payload.now in
    let j = c.loop-j.j in
    let z : j ≡ length es = simp length-map (omega arith) in
    let none : drop j es ≡ [] = drop_all j es (omega arith) in
    let found : None ≡ recognised_at R es p = sym (c.loop-j.invariant.sought ∙ ap (λ l. past j (recognised_at R l c.loop-j.payload)) none ∙ past-nowhere j) in
    record {
      place = found-is R es p None c.if-payload-ne-PAYLOAD_SIZE.false found;
      layers = c.loop-j.invariant.removed ∙ ap (λ n. unwrapped R n es p) z ∙ left_is R es p None c.if-payload-ne-PAYLOAD_SIZE.false found;
      in_row = tt;
      taken = tt;
    }

pub returns-in-Some : goal.returns-in-Some
returns-in-Some g c =
    let R = rules g.C.Cipher g.D.Digest in
    let f = end_seen {C = g.row.C.Denot} g.D.Digest in
    let xs = c.args.ends.now in
    let es = map f xs in
    let j = c.loop-j.j in
    let e = c.index-ends-j.result in
    let q = c.loop-j.payload in
    let p = c.remove_layer.new.payload in
    let lt : j < length xs = omega arith in
    let is : e ≡ get_or xs j e = c.index-ends-j.is in
    let off : p ≡ R.removed (f e).cipher (f e).layer q = c.remove_layer.ensures in
    let long : length p ≡ 509 = omega arith in
    let test : is_some c.if-test.passed ≡ (eqb (length p) 509 && recognises R.tags (f e).digest p) =
    elim c.if-test.branch [
      | then-test w ↦ ap is_some w.passed-is ∙ sym (unchecked R.tags (f e).digest p (sym c.check_is_zero.ensures ∙ w.if-test.true))
      | else-test w ↦ ap is_some w.passed-is ∙ w.match_tag-passed.ensures.test ∙ checked R.tags (f e).digest p (sym c.check_is_zero.ensures ∙ w.if-test.false)
    ] in
    let holds : recognises R.tags (f e).digest (R.removed (f e).cipher (f e).layer q) ≡ true =
    ap (recognises R.tags (f e).digest) (sym off) ∙ sym (at_length p (recognises R.tags (f e).digest p) long) ∙ sym test ∙ ap is_some c.in-Some.is in
    let Took : Option g.row.D.Denot → Type 0 = λ o. IfSome o (λ d. g.D.Digest.state d ≡ g.D.Digest.takes (f e).digest (zeroed p)) in
    let took : Took c.if-test.passed =
    elim c.if-test.branch [
      | then-test w ↦ subst Took (sym w.passed-is) tt
      | else-test w ↦ subst Took (sym w.passed-is) w.match_tag-passed.ensures.taken
    ] in
    let at : nth es j ≡ Some (f e) = nth_read f xs j e lt is in
    let found : Some j ≡ recognised_at R es c.args.payload.now = sym (c.loop-j.invariant.sought ∙ seek-step R es j (f e) q true (drop-read f xs j e lt is) holds) in
    record {
      place = found-is R es c.args.payload.now (Some j) c.if-payload-ne-PAYLOAD_SIZE.false found;
      layers = off ∙ ap (R.removed (f e).cipher (f e).layer) c.loop-j.invariant.removed ∙ sym (unwrap-step R es j (f e) c.args.payload.now at) ∙ left_is R es c.args.payload.now (Some j) c.if-payload-ne-PAYLOAD_SIZE.false found;
      in_row = omega arith;
      taken = advanced-to R es j (f e) (zeroed p) (g.D.Digest.state c.in-Some.taken) at (subst Took c.in-Some.is took);
    }
