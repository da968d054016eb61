-- No text that is asked for has more than 150 bytes, the two lines' of the figures. Assumes nothing.
use Rattle.arithmetic.proofs.Kit.{Bool, true, false, arith, lit≤, Float, binary64, to_bits, take}
use Rattle.refusal.specs.Outcomes.{Outcome, accepted, refused}
use Rattle.refusal.specs.declared.judge.Figures.{Figures}
use Rattle.mast.specs.Judge.{judge, judge_strictly}
use Rattle.arithmetic.specs.Ascii.{ascii}
use Rattle.pages.proofs.Short.{Within, whole, both, word-short, refusal-short}
use Rattle.std.specs.Prelude.{Some, None}
use Rattle.text.specs.declared.Order.TheVariants.{AnyOrder, RisingTags}
use Rattle.text.specs.Lines.{double_cell, mark_cell, station_line, air_line}
use Rattle.text.specs.Text.{answer_text}
use Rattle.text.proofs.Stated.{HasRoom}

figure : (x : Float) → Within (double_cell x) 17
figure x = both (whole (ascii " ")) (word-short 16 (to_bits binary64 x))

mark : (b : Bool) → Within (mark_cell b) 2
mark true = record { bound = lit≤ tt }
mark false = record { bound = lit≤ tt }

station : (f : Figures) → Within (station_line f) 59
unfolding station_line
station f = both (both (both (both (whole (ascii "station")) (figure f.altitude_m)) (figure f.temperature_c)) (figure f.pressure_hpa)) (whole (ascii "\n"))

air : (f : Figures) → Within (air_line f) 91
unfolding air_line
air f =
    let three = both (both (both (whole (ascii "air")) (figure f.density_kg_m3)) (figure f.speed_of_sound_mps)) (figure f.pressure_altitude_m) in
    let five = both (both three (figure f.density_matched_altitude_m)) (figure f.vapor_mole_fraction) in
    both (both five (mark f.in_cipm_range)) (whole (ascii "\n"))

pub answer-short : (o : Outcome Figures) → Within (answer_text o) 150
answer-short (accepted f) = both (station f) (air f)
answer-short (refused n values) = record { bound = omega (arith, (refusal-short n).bound) }

pub has_room : HasRoom
has_room (Some AnyOrder) s = (answer-short (judge (take 256 s))).bound
has_room (Some RisingTags) s = (answer-short (judge_strictly (take 256 s))).bound
has_room None s = lit≤ tt
