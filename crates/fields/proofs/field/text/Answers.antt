-- The clause of `behind`, read as the test of the definition.
use Rattle.std.proofs.Common.{◌≡◌, ℕ, Bool, true, false, List, ◌++◌, length, drop, nat_eq, Some, None, Option, Bor, MatchOption, MatchResult, Ok, Err, ◌≢◌, refl, sym, ap, ◌∙◌}
use Rattle.std.specs.Option.{option_copied, ok_or}
use Rattle.std.specs.Result.{result_ok}
use Rattle.std.specs.List.{starts_with}
use Rattle.std.proofs.lemmas.Bool.{cond-true, cond-false}
use Rattle.std.proofs.lemmas.Bool.Decides.{Decides-eqb}
use Rattle.std.proofs.lemmas.List.Prefix.{front_rest}
use Rattle.std.proofs.lemmas.Slice.Eq.{starts_is}
use Rattle.fields.specs.Field.{text_of}
use Rattle.fields.specs.declared.field.FieldError.TheVariants.{Name}
use Rattle.fields.proofs.field.text.Goals as goal

no_start : (b : Bool) (s name : List ℕ) → (b ≡ true → s ≡ name ++ drop (length name) s) → ((rest : List ℕ) → s ≢ name ++ rest) → b ≡ false
no_start true s name begun apart = absurd (apart (drop (length name) s) (begun refl))
no_start false s name begun apart = refl

named : (s name : List ℕ) (o : Option (Bor (List ℕ))) → MatchOption o ((rest : List ℕ) → s ≢ name ++ rest) (λ v. s ≡ name ++ v.now)
    → MatchResult (ok_or o Name) (λ v. text_of (Some s) name ≡ Ok v.now) (λ e. text_of (Some s) name ≡ Err e)
named s name None apart =
    cond-false (starts_with nat_eq s name) _ _ (no_start (starts_with nat_eq s name) s name (starts_is Decides-eqb s name _ refl).0 apart)
named s name (Some v) e =
    cond-true (starts_with nat_eq s name) _ _ ((starts_is Decides-eqb s name _ refl).1 v.now e) ∙ ap Ok (front_rest s name v.now e)

pub returns : goal.returns
returns c =
    let part : option_copied c.args.part ≡ Some c.as_bytes.result.now
    = ap option_copied (c.ok_or.ensures.ok_part ∙ ap result_ok c.in_ok-part.was) ∙ ap Some (sym c.as_bytes.ensures.value) in
    rw (c.ok_or-2.ensures.value, part, ← c.as_bytes-2.ensures.value) (named c.as_bytes.result.now c.as_bytes-2.result.now c.behind.result c.behind.ensures)
