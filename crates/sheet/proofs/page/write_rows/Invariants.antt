-- The loop's invariant: the rows so far are accepted, and stand on the page.
use Rattle.sheet.proofs.Kit.{◌≡◌, accepted, rows, lines_text}
use Rattle.pages.specs.Pages.{put}
use Rattle.sheet.proofs.page.write_rows.Given as goal

abbrev pub invariant-loop-n : goal.invariant-loop-n
invariant-loop-n l = record {
  good : rows l.altitude_m l.pressure_hpa l.humidity_percent l.n ≡ accepted (lines_text l.altitude_m l.pressure_hpa l.humidity_percent l.n);
  written : l.page ≡ put l.initial.page (lines_text l.altitude_m l.pressure_hpa l.humidity_percent l.n);
}
