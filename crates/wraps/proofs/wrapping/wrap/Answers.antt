-- The payload is sealed and has its layers: all of them, or those down to a coincidence.
use Rattle.std.proofs.Common.{◌≡◌, ◌+◌, ◌-◌, ◌<◌, rules, map, length, get_or, drop, Some, None, sym, ap, ◌∙◌, arith}
use Rattle.std.proofs.lemmas.List.{length-map}
use Rattle.model.specs.Lists.{nth}
use Rattle.model.specs.Ends.{sealed}
use Rattle.hops.specs.Views.{rules as rules_of, end_seen}
use Rattle.rows.proofs.Walks.{nth_read, advanced-to}
use Rattle.wraps.specs.Wraps.{layered, taken_at}
use Rattle.wraps.proofs.Layers.{wrap-refusal, wrap_left_lem, from-before}
use Rattle.wraps.proofs.wrapping.wrap.Goals as goal

pub returns-in-None : goal.returns-in-None
returns-in-None g c =
    let R = rules_of g.C.Cipher g.D.Digest in
    let f = end_seen {C = g.row.C.Denot} g.D.Digest in
    let xs = c.args.ends.now in
    let es = map f xs in
    let d = c.args.d in
    let b = c.args.payload.now in
    let e = c.in_ok-end.end.now in
    let x = sealed R (f e).digest b in
    let in_row : d < length xs = search rules in
    let read : e ≡ get_or xs d e = search rules in
    let long : length b ≡ 509 = search rules in
    let innermost : c.seal.new.payload ≡ x = search rules in
    let took : g.D.Digest.state c.in_ok-taken.taken ≡ g.D.Digest.takes (f e).digest b = search rules in
    let at : nth es d ≡ Some (f e) = nth_read f xs d e in_row read in
    let near : d < length es = simp length-map in_row in
    let stop : None ≡ taken_at R es d x = c.in-None.ensures.place ∙ ap (taken_at R es d) innermost in
    record {
      answer = (wrap-refusal R es d (f e) b None at near long stop, advanced-to R es d (f e) b (g.D.Digest.state c.in_ok-taken.taken) at took);
      nearer = tt;
      layers = c.in-None.ensures.layers ∙ ap (layered R (drop 0 es) (d + 1 - 0)) innermost ∙ sym (wrap_left_lem R es d (f e) b None at near long stop (omega arith));
    }

pub returns-in-Some : goal.returns-in-Some
returns-in-Some g c =
    let R = rules_of g.C.Cipher g.D.Digest in
    let f = end_seen {C = g.row.C.Denot} g.D.Digest in
    let xs = c.args.ends.now in
    let es = map f xs in
    let d = c.args.d in
    let b = c.args.payload.now in
    let e = c.in_ok-end.end.now in
    let x = sealed R (f e).digest b in
    let in_row : d < length xs = search rules in
    let read : e ≡ get_or xs d e = search rules in
    let long : length b ≡ 509 = search rules in
    let innermost : c.seal.new.payload ≡ x = search rules in
    let at : nth es d ≡ Some (f e) = nth_read f xs d e in_row read in
    let near : d < length es = simp length-map in_row in
    let j = c.in-Some.j in
    let stop : Some j ≡ taken_at R es d x = c.in-Some.ensures.place ∙ ap (taken_at R es d) innermost in
    record {
      answer = wrap-refusal R es d (f e) b (Some j) at near long stop;
      nearer = c.in-Some.ensures.before;
      layers = c.in-Some.ensures.layers ∙ ap (layered R (drop (j + 1) es) (d + 1 - (j + 1))) innermost ∙ sym (wrap_left_lem R es d (f e) b (Some j) at near long stop (from-before d (Some j) c.in-Some.ensures.before));
    }
