-- What becomes of one record.
use Rattle.model.specs.Streams as model
use Rattle.model.specs.Streams.{becomes, frees, forbidden}
use Rattle.streams.specs.declared.types.Effect.{Effect}
use Rattle.streams.specs.declared.types.Effect.TheVariants.{Kept, Freed, Forbidden}

abbrev pub effect_seen : model.Effect → Effect
effect_seen (becomes s) = Kept
effect_seen frees = Freed
effect_seen forbidden = Forbidden

-- the record itself: it changes only where it stays in use
abbrev pub after_effect : model.StreamRecord → model.Effect → model.StreamRecord
after_effect r (becomes s) = record { number = r.number; hop = r.hop; state = s }
after_effect r frees = r
after_effect r forbidden = r
