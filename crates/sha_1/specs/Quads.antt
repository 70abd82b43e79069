-- The schedule and the steps, four at a time.
use Rattle.std.specs.Prelude.{ℕ, ◌+◌, List, slice_index}
use Rattle.sha_1.specs.Sha1.{mixed, step_by}
use Rattle.sha_1.specs.declared.words.Quad.{Quad}
use Rattle.sha_1.specs.declared.words.Sixteen.{Sixteen}
use Rattle.sha_1.specs.declared.words.Working.{Working}

-- four and sixteen words of a list, from t on
abbrev pub quad_at : List ℕ → ℕ → Quad
quad_at ws t = record { w0 = slice_index ws t; w1 = slice_index ws (t + 1); w2 = slice_index ws (t + 2); w3 = slice_index ws (t + 3) }

abbrev pub sixteen_at : List ℕ → ℕ → Sixteen
sixteen_at ws t = record { p = quad_at ws t; q = quad_at ws (t + 4); r = quad_at ws (t + 8); s = quad_at ws (t + 12) }

-- the words that follow sixteen
abbrev pub next_quad : Sixteen → Quad
next_quad x = record {
  w0 = mixed x.s.w1 x.r.w0 x.p.w2 x.p.w0;
  w1 = mixed x.s.w2 x.r.w1 x.p.w3 x.p.w1;
  w2 = mixed x.s.w3 x.r.w2 x.q.w0 x.p.w2;
  w3 = mixed (mixed x.s.w1 x.r.w0 x.p.w2 x.p.w0) x.r.w3 x.q.w1 x.p.w3;
}

-- the sixteen words from four words on
abbrev pub moved_on : Sixteen → Sixteen
moved_on x = record { p = x.q; q = x.r; r = x.s; s = next_quad x }

abbrev pub four_steps : (ℕ → ℕ → ℕ → ℕ) → ℕ → Quad → Working → Working
four_steps g k q v = step_by g k q.w3 (step_by g k q.w2 (step_by g k q.w1 (step_by g k q.w0 v)))

abbrev pub twenty_steps : (ℕ → ℕ → ℕ → ℕ) → ℕ → Quad → Quad → Quad → Quad → Quad → Working → Working
twenty_steps g k a b c d e v = four_steps g k e (four_steps g k d (four_steps g k c (four_steps g k b (four_steps g k a v))))
