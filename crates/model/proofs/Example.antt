-- The runs of specs/Example, computed.
use Rattle.std.proofs.Common.{◌≡◌, ℕ, ◌+◌, Bool, true, not, ◌&&◌, List, [], ◌∷◌, map, sym, refl, ap, ◌∙◌, arith}
use lib.Bits.{bit_xor, xor_assoc, xor_self, xor_zero_l}
use Rattle.std.proofs.lemmas.Bool.{not-true, and_parts}
use Rattle.std.proofs.lemmas.List.{length-map}
use Rattle.cell.specs.Payload.{written, blank, tagged, zeroed, command_of, recognised_of, stream_of, tag_of, length_of, data_of, message_of}
use Rattle.cell.specs.Frame.{cell_number, framed, number_of, cell_command_of, payload_of}
use Rattle.model.specs.Messages.{is_data, is_sendme, may_send, streamless, well_formed}
use Rattle.model.specs.Ends.{recognises, sealed}
use Rattle.model.specs.Streams.{client_sends, relay_sends, relay_receives, client_receives}
use Rattle.model.specs.Flows.{fresh_flow, overruns}
use Rattle.model.specs.Circuit.{Request}
use Rattle.model.specs.Runs.{World, is_destroy, next, start, coincides, Calm}
use Rattle.model.specs.Law.{Fresh}
use Rattle.model.specs.Example.{toy, end, circuit, two, requests, stream, Example}

-- exclusive-or with one number twice
xor-twice : (k b : ℕ) → bit_xor k (bit_xor k b) ≡ b
xor-twice k b = sym (xor_assoc k k b) ∙ ap (λ (n : ℕ). bit_xor n b) (xor_self k) ∙ xor_zero_l b

map-twice : (k : ℕ) (p : List ℕ) → map (bit_xor k) (map (bit_xor k) p) ≡ p
map-twice k [] = refl
map-twice k (b ∷ p) = rw (xor-twice k b, map-twice k p)

-- a calm run, by a test that computes
abbrev is_calm : World ℕ ℕ → List Request → Bool
is_calm w [] = true
is_calm w (x ∷ xs) = not (is_destroy x.call) && (not (coincides toy w x) && is_calm (next toy w x) xs)

calm-by-test : (w : World ℕ ℕ) (xs : List Request) → is_calm w xs ≡ true → Calm toy w xs
calm-by-test w [] e = tt
calm-by-test w (x ∷ xs) e =
    let first = and_parts (not (is_destroy x.call)) _ e in
    let rest = and_parts (not (coincides toy w x)) (is_calm (next toy w x) xs) first.1 in
    (not-true (is_destroy x.call) first.0, not-true (coincides toy w x) rest.0, calm-by-test (next toy w x) xs rest.1)

circuit-fresh : (k₁ s₁ k₂ s₂ k₃ s₃ k₄ s₄ : ℕ) → Fresh (circuit fresh_flow fresh_flow (end k₁ s₁) (end k₂ s₂) (end k₃ s₃) (end k₄ s₄))
circuit-fresh k₁ s₁ k₂ s₂ k₃ s₃ k₄ s₄ =
    record {
      unclosed = refl;
      some = omega arith;
      few = omega arith;
      forward_ends = refl;
      backward_ends = refl;
      relays = ((refl, refl, refl, refl), ((refl, refl, refl, refl), tt));
      flows = refl;
      streams = refl;
      forward_count = refl;
      backward_count = refl;
      forward_links = ((refl, omega arith), ((refl, omega arith), tt));
      backward_links = ((refl, omega arith), ((refl, omega arith), tt));
    }

pub example : Example
unfolding written blank tagged zeroed command_of recognised_of stream_of tag_of length_of data_of message_of cell_number framed number_of cell_command_of payload_of is_data is_sendme may_send streamless well_formed recognises sealed client_sends relay_sends relay_receives client_receives overruns
example =
    record {
      removes_what_was_added = λ k n p. map-twice (k + n) p;
      adds_what_was_removed = λ k n p. map-twice (k + n) p;
      keeps_length = λ k n p. (length-map p (bit_xor (k + n)), length-map p (bit_xor (k + n)));
      tags_by_four = λ s p. refl;
      two_fresh = circuit-fresh 16 1 32 2 0 3 0 4;
      stream_calm = calm-by-test (start two) (requests stream) refl;
      stream_answers = refl;
      stream_flows = refl;
      stream_relays = refl;
      stream_rows = refl;
      stream_crossings = refl;
      stream_accepted = refl;
      stream_delivered = refl;
      alike_fresh = circuit-fresh 16 1 32 1 0 1 0 1;
      alike_coincides = refl;
      alike_answers = refl;
      alike_lines = refl;
      limits_answers = refl;
      limits_flows = refl;
      limits_relays = refl;
    }
