-- A relay payload: 509 bytes, a header of eleven and then the data, with zeros after the data.
-- Byte 0 is the command, 1-2 the recognised field, 3-4 the stream, 5-8 the tag, 9-10 the data's length. Numbers are big-endian.
use Rattle.std.specs.Prelude.{◌≡◌, ℕ, ◌+◌, ◌-◌, ◌*◌, ◌/◌, ◌%◌, ◌≤◌, List, [], ◌∷◌, ◌++◌, length, take, drop, replicate, slice_index}

pub record Message : Type 0 where
  pub command : ℕ
  pub stream : ℕ
  pub content : List ℕ

-- the two-byte number at a place, and its bytes
abbrev pub number_at : ℕ → List ℕ → ℕ
number_at i p = 256 * slice_index p i + slice_index p (i + 1)

abbrev pub two_bytes : ℕ → List ℕ
two_bytes n = n / 256 ∷ n % 256 ∷ []

abbrev pub no_tag : List ℕ
no_tag = 0 ∷ 0 ∷ 0 ∷ 0 ∷ []

---- writing
unfoldable pub written : ℕ → ℕ → List ℕ → List ℕ → List ℕ
written command stream tag content =
    command ∷ 0 ∷ 0 ∷ (two_bytes stream ++ (tag ++ (two_bytes (length content) ++ (content ++ replicate (498 - length content) 0))))

-- the payload of a message whose tag is not yet known
unfoldable pub blank : Message → List ℕ
blank m = written m.command m.stream no_tag m.content

unfoldable pub tagged : List ℕ → List ℕ → List ℕ
tagged tag p = take 5 p ++ (tag ++ drop 9 p)

unfoldable pub zeroed : List ℕ → List ℕ
zeroed p = tagged no_tag p

---- reading
unfoldable pub command_of : List ℕ → ℕ
command_of p = slice_index p 0

unfoldable pub recognised_of : List ℕ → ℕ
recognised_of p = number_at 1 p

unfoldable pub stream_of : List ℕ → ℕ
stream_of p = number_at 3 p

unfoldable pub tag_of : List ℕ → List ℕ
tag_of p = slice_index p 5 ∷ slice_index p 6 ∷ slice_index p 7 ∷ slice_index p 8 ∷ []

unfoldable pub length_of : List ℕ → ℕ
length_of p = number_at 9 p

unfoldable pub data_of : List ℕ → List ℕ
data_of p = take (length_of p) (drop 11 p)

unfoldable pub message_of : List ℕ → Message
message_of p = record { command = command_of p; stream = stream_of p; content = data_of p }

-- a payload read and written again
unfoldable pub rewritten : List ℕ → List ℕ
rewritten p = written (command_of p) (stream_of p) (tag_of p) (data_of p)

---- which lists are the written form of a message
pub record WrittenPayload (p : List ℕ) : Type 0 where
  pub size : length p ≡ 509
  pub unrecognised : recognised_of p ≡ 0
  pub fits : length_of p ≤ 498
  pub padding : drop (11 + length_of p) p ≡ replicate (498 - length_of p) 0
