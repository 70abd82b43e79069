-- The laws of a payload: reading undoes writing, writing undoes reading, and a tag changes no other field. Crates above read these laws too, so not all of them are cited here.
use Rattle.std.proofs.Common.{◌≡◌, ℕ, suc, ◌+◌, ◌-◌, ◌*◌, ◌/◌, ◌%◌, ◌<◌, ◌≤◌, List, [], ◌∷◌, ◌++◌, length, get_or, take, drop, replicate, sym, refl, ◌∙◌, arith, length-append, Fits, w8}
use native.Mathlib.Nat.{div-add-mod}
use lib.ListN.{length-replicate}
use Rattle.std.proofs.lemmas.List.{take_at, drop_at, take-append-drop, drop-drop, length-take-le}
use Rattle.cell.specs.Payload.{Message, no_tag, written, blank, tagged, zeroed, command_of, recognised_of, stream_of, tag_of, length_of, data_of, message_of, rewritten, WrittenPayload}

---- a long list is its first elements and a rest
first : (P : List ℕ → Type 0) (n : ℕ) → ((a : ℕ) (q : List ℕ) → n ≤ length q → P (a ∷ q)) → (p : List ℕ) → suc n ≤ length p → P p
first P n f [] h = absurd (omega arith)
first P n f (a ∷ q) h = f a q (omega arith)

by-four : (P : List ℕ → Type 0) → ((a b c d : ℕ) (q : List ℕ) → P (a ∷ b ∷ c ∷ d ∷ q)) → (p : List ℕ) → 4 ≤ length p → P p
by-four P f =
    first P 3 (λ a. first (λ v. P (a ∷ v)) 2 (λ b. first (λ v. P (a ∷ b ∷ v)) 1 (λ c. first (λ v. P (a ∷ b ∷ c ∷ v)) 0 (λ d q _. f a b c d q))))

pub by-tag : (P : List ℕ → Type 0) → ((a b c d : ℕ) → P (a ∷ b ∷ c ∷ d ∷ [])) → (t : List ℕ) → length t ≡ 4 → P t
by-tag P f [] e = absurd (omega arith)
by-tag P f (a ∷ []) e = absurd (omega arith)
by-tag P f (a ∷ b ∷ []) e = absurd (omega arith)
by-tag P f (a ∷ b ∷ c ∷ []) e = absurd (omega arith)
by-tag P f (a ∷ b ∷ c ∷ d ∷ []) e = f a b c d
by-tag P f (a ∷ b ∷ c ∷ d ∷ x ∷ t) e = absurd (omega arith)

by-nine : (P : List ℕ → Type 0) → ((a b c d e t₀ t₁ t₂ t₃ : ℕ) (q : List ℕ) → P (a ∷ b ∷ c ∷ d ∷ e ∷ t₀ ∷ t₁ ∷ t₂ ∷ t₃ ∷ q)) → (p : List ℕ) → 9 ≤ length p → P p
by-nine P f p h =
    first P 8
    (λ a v k.
    by-four (λ v. 8 ≤ length v → P (a ∷ v))
    (λ b c d e w k.
    by-four (λ w. P (a ∷ b ∷ c ∷ d ∷ e ∷ w)) (λ t₀ t₁ t₂ t₃ q. f a b c d e t₀ t₁ t₂ t₃ q) w (omega arith))
    v (omega arith) k)
    p h

by-eleven : (P : List ℕ → Type 0) → ((a b c d e t₀ t₁ t₂ t₃ x y : ℕ) (q : List ℕ) → P (a ∷ b ∷ c ∷ d ∷ e ∷ t₀ ∷ t₁ ∷ t₂ ∷ t₃ ∷ x ∷ y ∷ q)) → (p : List ℕ) → 11 ≤ length p → P p
by-eleven P f p h =
    by-nine (λ v. 11 ≤ length v → P v)
    (λ a b c d e t₀ t₁ t₂ t₃ v k.
    first (λ v. P (a ∷ b ∷ c ∷ d ∷ e ∷ t₀ ∷ t₁ ∷ t₂ ∷ t₃ ∷ v)) 1
    (λ x. first (λ v. P (a ∷ b ∷ c ∷ d ∷ e ∷ t₀ ∷ t₁ ∷ t₂ ∷ t₃ ∷ x ∷ v)) 0 (λ y q _. f a b c d e t₀ t₁ t₂ t₃ x y q)) v (omega arith))
    p (omega arith) h

---- a written payload, field by field
module _ (command stream : ℕ) (tag content : List ℕ) where
  pub command-written : command_of (written command stream tag content) ≡ command
  unfolding written command_of
  command-written = refl

  pub recognised-written : recognised_of (written command stream tag content) ≡ 0
  unfolding written recognised_of
  recognised-written = refl

  pub stream-written : stream_of (written command stream tag content) ≡ stream
  unfolding written stream_of
  stream-written = div-add-mod stream 256

  pub length-written : length tag ≡ 4 → length content ≤ 498 → length (written command stream tag content) ≡ 509
  unfolding written
  length-written four le = simp (length-append, length-replicate) (omega arith)

  pub tag-written : length tag ≡ 4 → tag_of (written command stream tag content) ≡ tag
  unfolding written tag_of
  tag-written = by-tag (λ t. tag_of (written command stream t content) ≡ t) (λ a b c d. refl) tag

  pub length-field-written : length tag ≡ 4 → length_of (written command stream tag content) ≡ length content
  unfolding written length_of
  length-field-written = by-tag (λ t. length_of (written command stream t content) ≡ length content) (λ a b c d. div-add-mod (length content) 256) tag

  pub data-written : length tag ≡ 4 → data_of (written command stream tag content) ≡ content
  unfolding written data_of
  data-written four =
      rw (length-field-written four)
      (by-tag (λ t. take (length content) (drop 11 (written command stream t content)) ≡ content) (λ a b c d. take_at content _ (length content) refl) tag four)

  pub message-written : length tag ≡ 4 → message_of (written command stream tag content) ≡ record { command = command; stream = stream; content = content }
  unfolding message_of
  message-written four = let d = data-written four in rw (command-written, stream-written, d)

  pub tagged-written : (t : List ℕ) → length tag ≡ 4 → tagged t (written command stream tag content) ≡ written command stream t content
  unfolding written tagged
  tagged-written t = by-tag (λ u. tagged t (written command stream u content) ≡ written command stream t content) (λ a b c d. refl) tag

---- another tag
module _ (t : List ℕ) (four : length t ≡ 4) where
  -- a fact of both lists that does not look at the tag
  module _ (p : List ℕ) (long : 9 ≤ length p) where
    kept : {X : Type 0} (f : List ℕ → X) → ((a b c d e t₀ t₁ t₂ t₃ u₀ u₁ u₂ u₃ : ℕ) (q : List ℕ) → f (a ∷ b ∷ c ∷ d ∷ e ∷ u₀ ∷ u₁ ∷ u₂ ∷ u₃ ∷ q) ≡ f (a ∷ b ∷ c ∷ d ∷ e ∷ t₀ ∷ t₁ ∷ t₂ ∷ t₃ ∷ q)) → f (tagged t p) ≡ f p
    unfolding tagged
    kept f same =
        by-nine (λ v. f (tagged t v) ≡ f v)
        (λ a b c d e t₀ t₁ t₂ t₃ q.
        by-tag (λ u. f (a ∷ b ∷ c ∷ d ∷ e ∷ (u ++ q)) ≡ f (a ∷ b ∷ c ∷ d ∷ e ∷ t₀ ∷ t₁ ∷ t₂ ∷ t₃ ∷ q))
        (λ u₀ u₁ u₂ u₃. same a b c d e t₀ t₁ t₂ t₃ u₀ u₁ u₂ u₃ q) t four)
        p long

    pub length-tagged : length (tagged t p) ≡ length p
    length-tagged = kept length (λ a b c d e t₀ t₁ t₂ t₃ u₀ u₁ u₂ u₃ q. refl)

    pub command-tagged : command_of (tagged t p) ≡ command_of p
    unfolding command_of
    command-tagged = kept command_of (λ a b c d e t₀ t₁ t₂ t₃ u₀ u₁ u₂ u₃ q. refl)

    pub recognised-tagged : recognised_of (tagged t p) ≡ recognised_of p
    unfolding recognised_of
    recognised-tagged = kept recognised_of (λ a b c d e t₀ t₁ t₂ t₃ u₀ u₁ u₂ u₃ q. refl)

    pub stream-tagged : stream_of (tagged t p) ≡ stream_of p
    unfolding stream_of
    stream-tagged = kept stream_of (λ a b c d e t₀ t₁ t₂ t₃ u₀ u₁ u₂ u₃ q. refl)

    pub length-field-tagged : length_of (tagged t p) ≡ length_of p
    unfolding length_of
    length-field-tagged = kept length_of (λ a b c d e t₀ t₁ t₂ t₃ u₀ u₁ u₂ u₃ q. refl)

    pub data-tagged : data_of (tagged t p) ≡ data_of p
    unfolding data_of length_of
    data-tagged = kept data_of (λ a b c d e t₀ t₁ t₂ t₃ u₀ u₁ u₂ u₃ q. refl)

    pub message-tagged : message_of (tagged t p) ≡ message_of p
    unfolding message_of
    message-tagged = rw (command-tagged, stream-tagged, data-tagged)

    pub tagged-tagged : (u : List ℕ) → tagged u (tagged t p) ≡ tagged u p
    unfolding tagged
    tagged-tagged u = kept (tagged u) (λ a b c d e t₀ t₁ t₂ t₃ u₀ u₁ u₂ u₃ q. refl)

    pub tag-tagged : tag_of (tagged t p) ≡ t
    unfolding tagged tag_of
    tag-tagged = by-nine (λ v. tag_of (tagged t v) ≡ t) (λ a b c d e t₀ t₁ t₂ t₃ q. by-tag (λ u. tag_of (a ∷ b ∷ c ∷ d ∷ e ∷ (u ++ q)) ≡ u) (λ u₀ u₁ u₂ u₃. refl) t four) p long

pub tagged-own : (p : List ℕ) → 9 ≤ length p → tagged (tag_of p) p ≡ p
unfolding tagged tag_of
tagged-own = by-nine (λ v. tagged (tag_of v) v ≡ v) (λ a b c d e t₀ t₁ t₂ t₃ q. refl)

pub length-tag : (p : List ℕ) → length (tag_of p) ≡ 4
unfolding tag_of
length-tag p = refl

---- the tag cleared
module _ (p : List ℕ) (long : 9 ≤ length p) where
  pub length-zeroed : length (zeroed p) ≡ length p
  unfolding zeroed
  length-zeroed = length-tagged no_tag refl p long

  pub message-zeroed : message_of (zeroed p) ≡ message_of p
  unfolding zeroed
  message-zeroed = message-tagged no_tag refl p long

  pub recognised-zeroed : recognised_of (zeroed p) ≡ recognised_of p
  unfolding zeroed
  recognised-zeroed = recognised-tagged no_tag refl p long

  pub zeroed-tagged : (t : List ℕ) → length t ≡ 4 → zeroed (tagged t p) ≡ zeroed p
  unfolding zeroed
  zeroed-tagged t four = tagged-tagged t four p long no_tag

  pub tagged-zeroed : (t : List ℕ) → tagged t (zeroed p) ≡ tagged t p
  unfolding zeroed
  tagged-zeroed t = tagged-tagged no_tag refl p long t

  -- clearing the tag and setting it again changes nothing
  pub tag-restored : tagged (tag_of p) (zeroed p) ≡ p
  tag-restored = tagged-zeroed (tag_of p) ∙ tagged-own p long

---- the payload of a message, with and without its tag
module _ (m : Message) where
  pub length-blank : length m.content ≤ 498 → length (blank m) ≡ 509
  unfolding blank
  length-blank = length-written m.command m.stream no_tag m.content refl

  pub message-blank : message_of (blank m) ≡ m
  unfolding blank
  message-blank = message-written m.command m.stream no_tag m.content refl

  pub recognised-blank : recognised_of (blank m) ≡ 0
  unfolding blank
  recognised-blank = recognised-written m.command m.stream no_tag m.content

  pub zeroed-blank : zeroed (blank m) ≡ blank m
  unfolding blank zeroed
  zeroed-blank = tagged-written m.command m.stream no_tag m.content no_tag refl

  pub tagged-blank : (t : List ℕ) → tagged t (blank m) ≡ written m.command m.stream t m.content
  unfolding blank
  tagged-blank t = tagged-written m.command m.stream no_tag m.content t refl

  module _ (t : List ℕ) (four : length t ≡ 4) where
    pub length-tagged-blank : length m.content ≤ 498 → length (tagged t (blank m)) ≡ 509
    length-tagged-blank le = rw (tagged-blank t) (length-written m.command m.stream t m.content four le)

    pub message-tagged-blank : message_of (tagged t (blank m)) ≡ m
    message-tagged-blank = rw (tagged-blank t) (message-written m.command m.stream t m.content four)

    pub recognised-tagged-blank : recognised_of (tagged t (blank m)) ≡ 0
    recognised-tagged-blank = rw (tagged-blank t) (recognised-written m.command m.stream t m.content)

    pub length-field-tagged-blank : length_of (tagged t (blank m)) ≡ length m.content
    length-field-tagged-blank = rw (tagged-blank t) (length-field-written m.command m.stream t m.content four)

    pub tag-tagged-blank : tag_of (tagged t (blank m)) ≡ t
    tag-tagged-blank = rw (tagged-blank t) (tag-written m.command m.stream t m.content four)

    pub zeroed-tagged-blank : zeroed (tagged t (blank m)) ≡ blank m
    unfolding zeroed blank
    zeroed-tagged-blank = rw (tagged-blank t) (tagged-written m.command m.stream t m.content no_tag four)

---- the written payloads are those that a message has
pub written-payload : (command stream : ℕ) (tag content : List ℕ) → length tag ≡ 4 → length content ≤ 498 → WrittenPayload (written command stream tag content)
unfolding written
written-payload command stream tag content four le =
    let n : ℕ = length content in
    let zeros : List ℕ = replicate (498 - n) 0 in
    let is : length_of (written command stream tag content) ≡ n = length-field-written command stream tag content four in
    record {
      size = length-written command stream tag content four le;
      unrecognised = recognised-written command stream tag content;
      fits = omega arith;
      padding = rw is (by-tag (λ t. drop (11 + n) (written command stream t content) ≡ zeros)
          (λ a b d e. sym (drop-drop n 11 (written command stream (a ∷ b ∷ d ∷ e ∷ []) content)) ∙ drop_at content zeros n refl) tag four);
    }

-- writing undoes reading, for bytes: the low byte of a number is below 256
pub rewritten-same : (p : List ℕ) → WrittenPayload p → get_or p 4 0 < 256 → get_or p 10 0 < 256 → rewritten p ≡ p
unfolding rewritten written command_of recognised_of stream_of tag_of length_of data_of
rewritten-same p w =
    by-eleven (λ v. WrittenPayload v → get_or v 4 0 < 256 → get_or v 10 0 < 256 → rewritten v ≡ v)
    (λ a b c d e t₀ t₁ t₂ t₃ x y q w e-byte y-byte.
    let n : ℕ = 256 * x + y in
    let unrecognised : 256 * b + c ≡ 0 = w.unrecognised in
    let b-zero : b ≡ 0 = omega arith in
    let c-zero : c ≡ 0 = omega arith in
    let d-is : (256 * d + e) / 256 ≡ d = omega arith in
    let e-is : (256 * d + e) % 256 ≡ e = omega arith in
    let size : length q + 11 ≡ 509 = omega (arith, w.size) in
    let le : n ≤ length q = omega (arith, w.fits) in
    let long : length (take n q) ≡ n = length-take-le n q le in
    let x-is : length (take n q) / 256 ≡ x = omega arith in
    let y-is : length (take n q) % 256 ≡ y = omega arith in
    let few : 498 - length (take n q) ≡ 498 - n = omega arith in
    let rest : drop n q ≡ replicate (498 - n) 0 = drop-drop n 11 (a ∷ b ∷ c ∷ d ∷ e ∷ t₀ ∷ t₁ ∷ t₂ ∷ t₃ ∷ x ∷ y ∷ q) ∙ w.padding in
    let whole : take n q ++ drop n q ≡ q = take-append-drop n q in
    cc)
    p (omega (arith, w.size)) w

-- the same, where all bytes of a slice are known to be below 256
pub rewritten_bytes : (p : List ℕ) → WrittenPayload p → ((i : ℕ) → Fits w8 (get_or p i 0)) → rewritten p ≡ p
rewritten_bytes p w bytes = rewritten-same p w (bytes 4).fits (bytes 10).fits
