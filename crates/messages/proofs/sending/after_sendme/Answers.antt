-- A SENDME is no DATA, and acknowledging changes no count of messages.
use Rattle.std.proofs.Common.{◌≡◌, true, not, ltb, leb, ap, ◌∙◌, arith}
use Rattle.std.proofs.lemmas.Bool.{and_from, not_from_false, le-ltb, cond-true}
use Rattle.model.specs.Messages.{is_data}
use Rattle.model.specs.Flows.{Flow, message_limit, posted, acknowledged}
use Rattle.streams.specs.Views.{flow_seen}
use Rattle.messages.proofs.sending.after_sendme.Goals as goal

pub returns : goal.returns
unfolding is_data
returns c =
    let old = flow_seen c.args.flow in
    let mid = flow_seen c.acknowledged.new.self in
    let less : mid ≡ acknowledged old = c.acknowledged.ensures.after ∙ cond-true c.acknowledged.result (acknowledged old) old (c.acknowledged.ensures.allowed ∙ not_from_false _ c.requires.due) in
    let may : c.posted.result ≡ true =
    c.posted.ensures.allowed ∙ and_from (not (ltb mid.window 0)) (not (leb message_limit mid.sent)) (not_from_false _ (le-ltb mid.window 0 (omega arith))) (not_from_false _ (ap (λ (v : Flow). leb message_limit v.sent) less ∙ c.requires.unspent)) in
    c.posted.ensures.after ∙ cond-true c.posted.result (posted 5 mid) mid may ∙ ap (posted 5) less
