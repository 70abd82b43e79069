-- What a field of a line reads as: its value, or why it has none.
use Rattle.std.specs.Prelude.{ℕ, cond, List, length, drop, nat_eq, Option, Some, None, Result, Ok, Err}
use Rattle.std.specs.List.{starts_with}
use Rattle.std.specs.Option.{ok_or}
use Rattle.fields.specs.Decimal.{number}
use Rattle.fields.specs.Hex.{decoded}
use Rattle.fields.specs.declared.field.FieldError.{FieldError}
use Rattle.fields.specs.declared.field.FieldError.TheVariants.{Missing, Name, Number, Hexadecimal, Trailing}

-- the text behind the name in a part of a line
abbrev pub text_of : Option (List ℕ) → List ℕ → Result (List ℕ) FieldError
text_of None name = Err Missing
text_of (Some part) name = cond (starts_with nat_eq part name) (Ok (drop (length name) part)) (Err Name)

-- the number from 0 to `most` that a field's text stands for
abbrev pub number_of : ℕ → Result (List ℕ) FieldError → Result ℕ FieldError
number_of most (Err e) = Err e
number_of most (Ok digits) = ok_or (number most digits) (Number most)

-- the bytes that a field's text stands for
abbrev pub bytes_of : Result (List ℕ) FieldError → Result (List ℕ) FieldError
bytes_of (Err e) = Err e
bytes_of (Ok digits) = ok_or (decoded digits) Hexadecimal

-- nothing is left of the line
abbrev pub end_of : Option (List ℕ) → Result Unit FieldError
end_of None = Ok tt
end_of (Some part) = Err Trailing
