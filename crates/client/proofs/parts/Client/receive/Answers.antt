-- The first test that passed is that of the hop at place d.
use Rattle.std.proofs.Common.{rules as std_rules, ◌≡◌, suc, ◌+◌, length, Some, None, sym, refl, ap, ◌∙◌}
use Rattle.model.specs.Ends.{worn_at, recognised_at, unwrapped}
use Rattle.model.specs.Calls.{stops, refusal, client_delivery}
use Rattle.rows.specs.Rows.{place_of, found_at, seek_left}
use Rattle.rows.proofs.Walks.{up_to, worn_up_to}
use Rattle.hops.specs.Views.{rules}
use Rattle.messages.specs.Delivery.{handed}
use Rattle.client.specs.Answers.{hop_at, client_left, client_after, client_leaves, client_taken, client_fate}
use Rattle.client.specs.Views.{client_seen}
use Rattle.client.proofs.Finds.{fate-some, found-place, found_left}
use Rattle.client.proofs.parts.Client.receive.Goals as goal

pub take_in-requires-clause-unworn : goal.take_in-requires-clause-unworn
take_in-requires-clause-unworn g c =
    let cl = client_seen {C = g.row.C.Denot} g.D.Digest c.args.self.now in
    worn_up_to cl.backward c.in_ok-d.d ∙ ap (up_to c.in_ok-d.d) (sym c.in_default.ensures.first)

pub returns : goal.returns
returns g c =
    let R = rules g.C.Cipher g.D.Digest in
    let was = c.args.self.now in
    let cl = client_seen {C = g.row.C.Denot} g.D.Digest was in
    let p = c.args.payload.now in
    let d = c.in_ok-d.d in
    let y = unwrapped R (suc d) cl.backward p in
    let bytes = c.in_ok-payload.payload.now in
    let copied : bytes ≡ p = search std_rules in
    let long : length p ≡ 509 = search std_rules in
    let none : worn_at cl.backward ≡ None = sym c.in_default.ensures.first in
    let at : Some d ≡ found_at R cl.backward p = ap place_of (sym c.in_ok-d.ensures.ok_part) ∙ c.seek.ensures.place ∙ ap (found_at R cl.backward) copied in
    let place : recognised_at R cl.backward p ≡ Some d = found-place R cl.backward p (Some d) long at in
    let same : c.seek.new.payload ≡ y = c.seek.ensures.layers ∙ ap (seek_left R cl.backward) copied ∙ found_left R cl.backward p (Some d) long at d refl in
    let fate : client_fate g.C.Cipher g.D.Digest was p ≡ client_delivery R cl d y = fate-some R cl p (stops (refusal 1 0)) long none d place in
    record {
      answer = c.take_in.ensures.answer ∙ ap (λ v. handed (d + 1) (client_delivery R cl d v)) same ∙ ap (handed (d + 1)) (sym fate) ∙ ap (λ o. handed (hop_at o) (client_fate g.C.Cipher g.D.Digest was p)) (sym place);
      client = record {
        state = c.take_in.ensures.client.state ∙ ap (λ v. client_taken R cl d v (client_delivery R cl d v)) same ∙ ap (client_taken R cl d y) (sym fate) ∙ ap (client_after R cl p (client_fate g.C.Cipher g.D.Digest was p)) (sym place);
        hops = c.take_in.ensures.client.hops;
      };
      payload = c.take_in.ensures.payload ∙ ap (λ v. client_left bytes v (client_delivery R cl d v)) same ∙ ap (λ v. client_left v y (client_delivery R cl d y)) copied ∙ ap (client_left p y) (sym fate) ∙ ap (client_leaves R cl p (client_fate g.C.Cipher g.D.Digest was p)) (sym place);
    }
