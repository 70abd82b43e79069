-- Both statements are promised by the calls.
use Rattle.points.proofs.worked_points.Goals as goal

pub returns : goal.returns
returns c =
    record {
      points = record { suites = c.worked_points.ensures.points; ends = c.first_window.ensures.worked };
      substituted = c.worked_points.ensures.substituted;
      padded = c.worked_points.ensures.padded;
      window = c.first_window.ensures.window;
    }
