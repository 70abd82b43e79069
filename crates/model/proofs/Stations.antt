-- A hop's relay end of one way, with the link of that way and the row of postings on it.
use Rattle.std.proofs.Common.{◌≡◌, ℕ, List, [], map, get_or, set, Some, sym, ap, ◌∙◌}
use Rattle.std.proofs.lemmas.List.{map-set}
use Rattle.model.specs.Lists.{nth}
use Rattle.model.specs.Ends.{End}
use Rattle.model.specs.Circuit.{Line}
use Rattle.model.specs.Runs.{Posting}
use Rattle.model.proofs.Places.{nth-map, get_or-nth, map_set_same}

pub record Station (K S : Type 0) : Type 0 where
  pub relay : End K S
  pub line : Line
  pub row : List Posting

module _ {K S : Type 0} where
  abbrev pub station : End K S → Line → List Posting → Station K S
  station e l ps = record { relay = e; line = l; row = ps }

  abbrev pub relay_at : Station K S → End K S
  relay_at s = s.relay

  abbrev pub line_at : Station K S → Line
  line_at s = s.line

  abbrev pub row_at : Station K S → List Posting
  row_at s = s.row

  -- stations over a way's ends, links and rows
  pub record Over (es : List (End K S)) (ls : List Line) (rs : List (List Posting)) (ss : List (Station K S)) : Type 0 where
    pub ends : map relay_at ss ≡ es
    pub lines : map line_at ss ≡ ls
    pub rows : map row_at ss ≡ rs

  module _ {es : List (End K S)} {ls : List Line} {rs : List (List Posting)} (ss : List (Station K S)) (i : ℕ) (o : Over es ls rs ss) where
    pub over-set : (t : Station K S) → Over (set es i t.relay) (set ls i t.line) (set rs i t.row) (set ss i t)
    over-set t =
        record {
          ends = map-set relay_at ss i t ∙ ap (λ (v : List (End K S)). set v i t.relay) o.ends;
          lines = map-set line_at ss i t ∙ ap (λ (v : List Line). set v i t.line) o.lines;
          rows = map-set row_at ss i t ∙ ap (λ (v : List (List Posting)). set v i t.row) o.rows;
        }

    module _ (s : Station K S) (at : nth ss i ≡ Some s) where
      pub over-line : nth ls i ≡ Some s.line
      over-line = ap (λ (v : List Line). nth v i) (sym o.lines) ∙ nth-map line_at ss i s at

      pub over-row : get_or rs i [] ≡ s.row
      over-row = ap (λ (v : List (List Posting)). get_or v i []) (sym o.rows) ∙ get_or-nth (map row_at ss) i s.row [] (nth-map row_at ss i s at)

      pub over-same : (t : Station K S) → t.relay ≡ s.relay → Over es (set ls i t.line) (set rs i t.row) (set ss i t)
      over-same t e =
          let v : Over (set es i t.relay) (set ls i t.line) (set rs i t.row) (set ss i t) = over-set t in
          record { ends = map_set_same relay_at ss i s t at e ∙ o.ends; lines = v.lines; rows = v.rows }
