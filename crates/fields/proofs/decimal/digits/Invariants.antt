-- What the digits read gave, and what is left, make the number.
use Rattle.std.proofs.Common.{◌≡◌, ◌≤◌, drop}
use Rattle.fields.specs.Decimal.{continued}
use Rattle.fields.proofs.decimal.digits.Given as goal

abbrev pub invariant-loop-c : goal.invariant-loop-c
invariant-loop-c l = record {
  within : l.n ≤ l.most;
  same_number : continued l.most l.n (drop l.c-index l.text) ≡ continued l.most 0 l.text;
}
