-- What an end counts for one hop: the window of its own DATA, the DATA delivered to it that it has not acknowledged, and the
-- messages it sent.
use Rattle.std.specs.Prelude.{ℕ, ◌+◌, ◌-◌, ◌*◌, Bool, false, cond, ◌==◌, nat_le, nat_lt}
use Rattle.model.specs.Messages.{is_data, is_sendme}

pub record Flow : Type 0 where
  pub window : ℕ
  pub unacknowledged : ℕ
  pub sent : ℕ

abbrev pub window_start : ℕ
window_start = 1000

abbrev pub step : ℕ
step = 100

abbrev pub message_limit : ℕ
message_limit = 16777216

abbrev pub fresh_flow : Flow
fresh_flow = record { window = window_start; unacknowledged = 0; sent = 0 }

-- past the end of a list
abbrev pub no_flow : Flow
no_flow = record { window = 0; unacknowledged = 0; sent = 0 }

abbrev pub posted : ℕ → Flow → Flow
posted c f = record { window = f.window - is_data c; unacknowledged = f.unacknowledged; sent = f.sent + 1 }

abbrev pub received : ℕ → Flow → Flow
received c f = record { window = f.window + step * is_sendme c; unacknowledged = f.unacknowledged + is_data c; sent = f.sent }

abbrev pub acknowledged : Flow → Flow
acknowledged f = record { window = f.window; unacknowledged = f.unacknowledged - step; sent = f.sent }

-- a SENDME that would raise the window above its start, a DATA at 1,000 unacknowledged
unfoldable pub overruns : ℕ → Flow → Bool
overruns c f = cond (c == 2) (nat_le window_start f.unacknowledged) (cond (c == 5) (nat_lt (window_start - step) f.window) false)
