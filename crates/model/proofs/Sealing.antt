-- A sealed payload: 509 bytes, its own test passes, and it reads back.
use Rattle.std.proofs.Common.{◌≡◌, ℕ, ◌≤◌, Bool, true, not, ◌&&◌, ◌||◌, eqb, leb, List, [], ◌∷◌, length, refl, ap}
use Rattle.std.proofs.lemmas.Bool.{and_parts, and_from, eq-eqb, leb-true}
use Rattle.cell.specs.Payload.{Message, blank, zeroed, command_of, stream_of, recognised_of, tag_of, length_of, message_of}
use Rattle.cell.specs.Frame.{cell_number, framed}
use Rattle.cell.specs.declared.command.Way.{Way}
use Rattle.cell.specs.declared.command.Way.TheVariants.{Forward, Backward}
use Rattle.cell.proofs.Payloads.{length-tagged-blank, message-tagged-blank, recognised-tagged-blank, length-field-tagged-blank, tag-tagged-blank, zeroed-tagged-blank}
use Rattle.cell.proofs.Frames.{number-framed, cell-command-framed}
use Rattle.model.specs.Lists.{same}
use Rattle.model.specs.Messages.{sendme, may_send, travels, streamless, well_formed}
use Rattle.model.specs.Ends.{Rules, recognises, sealed}
use Rattle.model.specs.Calls.{headed}
use Rattle.model.proofs.Laws.{Laws}

-- a message of its way
unfoldable pub fits : Way → Message → Bool
fits w m = leb (length m.content) 498 && (travels w m.command && (not (streamless m.command) || eqb m.stream 0))

fits-length : (w : Way) (m : Message) → fits w m ≡ true → length m.content ≤ 498
unfolding fits
fits-length w m f = leb-true _ 498 (and_parts _ _ f).0

pub sendme-fits : (w : Way) → fits w sendme ≡ true
unfolding fits streamless may_send
sendme-fits Forward = refl
sendme-fits Backward = refl

same_refl : (xs : List ℕ) → same xs xs ≡ true
same_refl [] = refl
same_refl (x ∷ xs) = and_from (eqb x x) (same xs xs) (eq-eqb x x refl) (same_refl xs)

pub headed-framed : (j : ℕ) (p : List ℕ) → headed j (framed (cell_number j) p) ≡ true
headed-framed j p = and_from _ _ (eq-eqb _ _ (number-framed (cell_number j) p)) (eq-eqb _ _ (cell-command-framed (cell_number j) p))

pub message-fields : (p : List ℕ) → ((message_of p).command ≡ command_of p) × ((message_of p).stream ≡ stream_of p)
unfolding message_of
message-fields p = (refl, refl)

module _ {K S : Type 0} (R : Rules K S) (L : Laws R) (s : S) (m : Message) where
  pub zeroed-sealed : zeroed (sealed R s (blank m)) ≡ blank m
  unfolding sealed
  zeroed-sealed = zeroed-tagged-blank m (R.tags s (blank m)) (L.tag_length s (blank m))

  pub message-sealed : message_of (sealed R s (blank m)) ≡ m
  unfolding sealed
  message-sealed = message-tagged-blank m (R.tags s (blank m)) (L.tag_length s (blank m))

  pub command-sealed : command_of (sealed R s (blank m)) ≡ m.command
  unfolding message_of
  command-sealed = ap (λ (n : Message). n.command) message-sealed

  stream-sealed : stream_of (sealed R s (blank m)) ≡ m.stream
  unfolding message_of
  stream-sealed = ap (λ (n : Message). n.stream) message-sealed

  length-field-sealed : length_of (sealed R s (blank m)) ≡ length m.content
  unfolding sealed
  length-field-sealed = length-field-tagged-blank m (R.tags s (blank m)) (L.tag_length s (blank m))

  tag-sealed : tag_of (sealed R s (blank m)) ≡ R.tags s (blank m)
  unfolding sealed
  tag-sealed = tag-tagged-blank m (R.tags s (blank m)) (L.tag_length s (blank m))

  recognised-sealed : recognised_of (sealed R s (blank m)) ≡ 0
  unfolding sealed
  recognised-sealed = recognised-tagged-blank m (R.tags s (blank m)) (L.tag_length s (blank m))

  pub recognises-sealed : recognises R.tags s (sealed R s (blank m)) ≡ true
  unfolding recognises
  recognises-sealed = rw (recognised-sealed, tag-sealed, zeroed-sealed) (same_refl (R.tags s (blank m)))

  pub well-formed-sealed : (w : Way) → fits w m ≡ true → well_formed w (sealed R s (blank m)) ≡ true
  unfolding fits well_formed
  well-formed-sealed w f = rw (length-field-sealed, command-sealed, stream-sealed) f

  pub length-sealed : (w : Way) → fits w m ≡ true → length (sealed R s (blank m)) ≡ 509
  unfolding sealed
  length-sealed w f = length-tagged-blank m (R.tags s (blank m)) (L.tag_length s (blank m)) (fits-length w m f)
