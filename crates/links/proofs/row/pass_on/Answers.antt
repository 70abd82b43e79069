use Rattle.std.proofs.Common.{◌≡◌, ◌-◌, ◌<◌, true, false, [], ◌∷◌, ◌++◌, length, get_or, drop, set, is_ok, sym, ap, ◌∙◌, arith, rules}
use Rattle.std.proofs.lemmas.List.{length-set, length-append, get_or-map}
use Rattle.links.specs.Lines.{put_answer}
use Rattle.links.specs.Rows.{rows, capacities, row, at_link, joined}
use Rattle.links.proofs.Views.{row-set, row_same}
use Rattle.links.proofs.Answers.{seen, known-seen, put-ok-joins, put-err-keeps, is-ok-unit, when_ok, joined-some, drop-some, pass-put}
use Rattle.links.proofs.row.pass_on.Goals as goal

pub returns-in_err-map_err-2-clause-after : goal.returns-in_err-map_err-2-clause-after
returns-in_err-map_err-2-clause-after g c =
    let m = g.L.Link in
    let ls = c.args.links.now in
    let t = c.in_ok-target.target in
    let y = c.index-links-target.result in
    let old = get_or ls t y in
    let refused : is_ok (put_answer (m.capacity old) (m.cells old) c.args.cell.now) ≡ false =
    ap is_ok (sym c.put.ensures.answer) ∙ sym c.map_err-2.ensures.variant ∙ ap is_ok c.in_err-map_err-2.was in
    let none : is_ok c.from_residual-in_err-map_err-2.result ≡ false = search rules in
    rw none (row_same m.cells [] ls t y c.put.new.self c.in_ok-target.ensures.2 (c.put.ensures.after ∙ put-err-keeps (m.capacity old) (m.cells old) c.args.cell.now refused))

pub returns-in_err-map_err-2-clause-fixed : goal.returns-in_err-map_err-2-clause-fixed
returns-in_err-map_err-2-clause-fixed g c =
    row_same g.L.Link.capacity 0 c.args.links.now c.in_ok-target.target c.index-links-target.result c.put.new.self c.in_ok-target.ensures.2 c.put.ensures.fixed

pub returns : goal.returns
returns g c =
    let m = g.L.Link in
    let ls = c.args.links.now in
    let rs = rows m ls in
    let caps = capacities m ls in
    let from = c.args.from in
    let to = c.args.to in
    let cell = c.args.cell.now in
    let s = c.in_ok-source.source in
    let t = c.in_ok-target.target in
    let e = c.in_ok-source.ensures in
    let f = c.in_ok-target.ensures in
    let y = c.index-links-target.result in
    let z = c.put.new.self in
    let last = set ls t z in
    let source = known-seen m.cells ls from true e.0 in
    let target = known-seen m.cells ls to true f.0 in
    let here = seen m.cells [] ls from s c.index-links-source.result e.1 e.2 in
    let there = seen m.cells [] ls to t y f.1 f.2 in
    let cap = seen m.capacity 0 ls to t y f.1 f.2 in
    let first = c.index-links-source.result in
    let more : 0 < length (m.cells (get_or ls s first)) = c.is_empty.ensures.waits c.if-is_empty.false in
    let some : 0 < length (row rs from) = omega (arith, ap length here) in
    let old = get_or ls t y in
    let put_ok : is_ok (put_answer (m.capacity old) (m.cells old) cell) ≡ true =
    ap is_ok (sym c.put.ensures.answer) ∙ sym c.map_err-2.ensures.variant ∙ ap is_ok c.in_ok-map_err-2.was in
    let put_is : m.cells z ≡ m.cells old ++ (cell ∷ []) = c.put.ensures.after ∙ put-ok-joins (m.capacity old) (m.cells old) cell put_ok in
    let one : rows m last ≡ joined rs to cell =
    row-set m.cells [] ls t y z f.2 (λ v. v ++ (cell ∷ [])) put_is ∙ ap (λ n. set rs n (get_or rs n [] ++ (cell ∷ []))) f.1 in
    let lt : s < length last = rw (length-set ls t z) e.2 in
    let x = c.index-links-source-2.result in
    let w = c.drop_oldest.new.self in
    let gone : m.cells w ≡ drop 1 (m.cells (get_or last s x)) = c.drop_oldest.ensures.after in
    let two = row-set m.cells [] last s x w lt (drop 1) gone in
    let waits : 0 < length (m.cells (get_or last s x)) =
    omega (
      arith,
      joined-some rs (to - 1) s (row rs to ++ (cell ∷ [])) (omega (arith, ap length (ap (λ n. get_or rs n []) e.1))) (omega (arith, length-append (row rs to) (cell ∷ []))),
      ap length (sym (ap (λ v. get_or v s []) one) ∙ get_or-map m.cells last s x [] lt),
    ) in
    let dropped : is_ok c.map_err-3.result ≡ true =
    c.map_err-3.ensures.variant ∙ ap is_ok (c.drop_oldest.ensures.answer ∙ sym (drop-some (m.cells (get_or last s x)) waits)) in
    let whole : length cell ≡ 514 = when_ok _ c.whole_cell.result c.whole_cell.ensures (sym c.map_err.ensures.variant ∙ ap is_ok c.in_ok-map_err.was) in
    record {
      answer = is-ok-unit c.map_err-3.result dropped
          ∙ sym (pass-put caps rs from to cell source target whole some
          ∙ ap (λ n. at_link to (put_answer n (row rs to) cell)) cap
          ∙ ap (λ v. at_link to (put_answer (m.capacity old) v cell)) there
          ∙ ap (at_link to) (is-ok-unit (put_answer (m.capacity old) (m.cells old) cell) put_ok));
      after = rw dropped (two ∙ ap (λ v. set v s (drop 1 (get_or v s []))) one ∙ ap (λ n. set (joined rs to cell) n (drop 1 (get_or (joined rs to cell) n []))) e.1);
      fixed = row_same m.capacity 0 last s x w lt c.drop_oldest.ensures.fixed
          ∙ row_same m.capacity 0 ls t y z f.2 c.put.ensures.fixed;
    }
