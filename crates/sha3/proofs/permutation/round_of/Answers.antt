use Rattle.std.proofs.Common.{ℕ, List, ap, ◌∙◌}
use Rattle.sha3.specs.Keccak.{rho, pi, chi, iota}
use Rattle.sha3.proofs.permutation.round_of.Goals as goal

pub returns : goal.returns
returns c = ap (iota c.args.c) (c.chi_of-b.ensures ∙ ap chi (c.rho_pi_of.ensures ∙ ap (λ (a : List ℕ). pi (rho a)) c.theta_of.ensures))
