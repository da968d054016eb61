-- The temperatures from -40 to 50 °C, and from 233.15 to 323.15 K, in six parts: narrow ones, for an analysis takes the worst of a whole part. Assumes nothing.
use Rattle.near.proofs.Kit.{Bool, List, T, Float, span, climb, size, odd, units, round, of_fields, of_bits, lt, eq, le, neg, is_nan, decimal, root, root_in, antilog_root, antilog, exp, Between, in_parts, all}

-- its ends in °C and in K; a decimal above ln(p / p_c), and one above p / p_c
pub record Part : Type 0 where
  pub from : Float
  pub to : Float
  pub from-K : Float
  pub to-K : Float
  pub top : Float
  pub ratio : Float

abbrev pub part_1 : Part
part_1 = record { from = decimal "-40"; to = decimal "-14"; from-K = decimal "233.15"; to-K = decimal "259.15"; top = decimal "-8.88"; ratio = decimal "1.41e-4" }

abbrev pub part_2 : Part
part_2 = record { from = decimal "-14"; to = decimal "9"; from-K = decimal "259.15"; to-K = decimal "282.15"; top = decimal "-7.98"; ratio = decimal "3.46e-4" }

abbrev pub part_3 : Part
part_3 = record { from = decimal "9"; to = decimal "26"; from-K = decimal "282.15"; to-K = decimal "299.15"; top = decimal "-7.63"; ratio = decimal "4.91e-4" }

abbrev pub part_4 : Part
part_4 = record { from = decimal "26"; to = decimal "38"; from-K = decimal "299.15"; to-K = decimal "311.15"; top = decimal "-7.4"; ratio = decimal "6.17e-4" }

abbrev pub part_5 : Part
part_5 = record { from = decimal "38"; to = decimal "46"; from-K = decimal "311.15"; to-K = decimal "319.15"; top = decimal "-7.25"; ratio = decimal "7.17e-4" }

abbrev pub part_6 : Part
part_6 = record { from = decimal "46"; to = decimal "50"; from-K = decimal "319.15"; to-K = decimal "323.15"; top = decimal "-7.28"; ratio = decimal "6.96e-4" }

abbrev pub Every : (Part → Type 0) → Type 0
Every P = P part_1 × P part_2 × P part_3 × P part_4 × P part_5 × P part_6

-- ---- the second decimal is above what exp makes of the first
abbrev pub Below : Part → Type 0
Below q = T (le (exp 60 q.top) q.ratio)

below : Every Below
unfolding exp antilog antilog_root root root_in round units size span climb odd of_fields of_bits le lt eq is_nan neg
below = (tt, tt, tt, tt, tt, tt)

-- ---- what holds of every temperature in a part that passes its tests holds of every temperature
module _ {P : Type 0} (tests : Part → List Bool) (tested : Every (λ q. T (all (tests q)))) (x : Float) where
  pub by-celsius : ((q : Part) → T (all (tests q)) → Below q → Between q.from q.to x → P) → Between (decimal "-40") (decimal "50") x → P
  unfolding of_bits le lt eq
  by-celsius f =
      in_parts x part_1.from part_2.from part_3.from part_4.from part_5.from part_6.from part_6.to tt tt tt tt tt
      (f part_1 tested.0 below.0) (f part_2 tested.1 below.1) (f part_3 tested.2 below.2) (f part_4 tested.3 below.3) (f part_5 tested.4 below.4) (f part_6 tested.5 below.5)

  pub by-kelvin : ((q : Part) → T (all (tests q)) → Below q → Between q.from-K q.to-K x → P) → Between (decimal "233.15") (decimal "323.15") x → P
  unfolding of_bits le lt eq
  by-kelvin f =
      in_parts x part_1.from-K part_2.from-K part_3.from-K part_4.from-K part_5.from-K part_6.from-K part_6.to-K tt tt tt tt tt
      (f part_1 tested.0 below.0) (f part_2 tested.1 below.1) (f part_3 tested.2 below.2) (f part_4 tested.3 below.3) (f part_5 tested.4 below.4) (f part_6 tested.5 below.5)
