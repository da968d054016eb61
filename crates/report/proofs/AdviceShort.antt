-- What is said of a refusal is short. Assumes nothing.
use Rattle.arithmetic.proofs.Kit.{ℕ, ◌≤◌, eqb, lit≤, length}
use Rattle.record.specs.declared.entries.Readings.{Readings}
use Rattle.fields.specs.Fields.{altitude, temperature, station_pressure, qnh, humidity, density_altitude, measured_pressure}
use Rattle.arithmetic.specs.Ascii.{ascii}
use Rattle.pages.proofs.Short.{Within, whole, both, either, refusal-short}
use Rattle.report.specs.declared.Origin.{Origin}
use Rattle.report.specs.declared.Origin.TheVariants.{Record, Words}
use Rattle.report.specs.Fault.{reading_about}
use Rattle.report.specs.Advice.{reading_line, cause_of, sender_advice, typed_advice, advice_for, cause_lines, refused_lines}

reading-short : (m : ℕ) → length (reading_line m) ≤ 30
unfolding reading_line
reading-short m =
    either (eqb m altitude) _ _ (lit≤ tt)
    (either (eqb m temperature) _ _ (lit≤ tt)
    (either (eqb m station_pressure) _ _ (lit≤ tt)
    (either (eqb m qnh) _ _ (lit≤ tt)
    (either (eqb m humidity) _ _ (lit≤ tt)
    (either (eqb m density_altitude) _ _ (lit≤ tt) (either (eqb m measured_pressure) _ _ (lit≤ tt) (lit≤ tt)))))))

cause_of-short : (n : ℕ) → length (cause_of n) ≤ 105
unfolding cause_of
cause_of-short n =
    either (eqb n 1) _ _ (lit≤ tt)
    (either (eqb n 2) _ _ (lit≤ tt)
    (either (eqb n 3) _ _ (lit≤ tt)
    (either (eqb n 4) _ _ (lit≤ tt)
    (either (eqb n 5) _ _ (lit≤ tt)
    (either (eqb n 6) _ _ (lit≤ tt)
    (either (eqb n 7) _ _ (lit≤ tt)
    (either (eqb n 8) _ _ (lit≤ tt)
    (either (eqb n 9) _ _ (lit≤ tt)
    (either (eqb n 10) _ _ (lit≤ tt)
    (either (eqb n 11) _ _ (lit≤ tt)
    (either (eqb n 12) _ _ (lit≤ tt)
    (either (eqb n 13) _ _ (lit≤ tt)
    (either (eqb n 14) _ _ (lit≤ tt)
    (either (eqb n 17) _ _ (lit≤ tt)
    (lit≤ tt)))))))))))))))

sender_short : (n : ℕ) → length (sender_advice n) ≤ 110
unfolding sender_advice
sender_short n =
    either (eqb n 1) _ _ (lit≤ tt)
    (either (eqb n 2) _ _ (lit≤ tt)
    (either (eqb n 3) _ _ (lit≤ tt)
    (either (eqb n 4) _ _ (lit≤ tt)
    (either (eqb n 5) _ _ (lit≤ tt)
    (either (eqb n 6) _ _ (lit≤ tt)
    (either (eqb n 7) _ _ (lit≤ tt)
    (either (eqb n 8) _ _ (lit≤ tt)
    (either (eqb n 9) _ _ (lit≤ tt)
    (either (eqb n 10) _ _ (lit≤ tt)
    (either (eqb n 11) _ _ (lit≤ tt)
    (either (eqb n 12) _ _ (lit≤ tt)
    (either (eqb n 13) _ _ (lit≤ tt)
    (either (eqb n 14) _ _ (lit≤ tt)
    (either (eqb n 17) _ _ (lit≤ tt)
    (lit≤ tt)))))))))))))))

typed-short : (n : ℕ) → length (typed_advice n) ≤ 110
unfolding typed_advice
typed-short n =
    either (eqb n 3) _ _ (lit≤ tt)
    (either (eqb n 4) _ _ (lit≤ tt)
    (either (eqb n 9) _ _ (lit≤ tt)
    (either (eqb n 10) _ _ (lit≤ tt)
    (either (eqb n 11) _ _ (lit≤ tt)
    (either (eqb n 12) _ _ (lit≤ tt)
    (either (eqb n 13) _ _ (lit≤ tt)
    (sender_short n)))))))

advice_short : (o : Origin) (n : ℕ) → length (advice_for o n) ≤ 110
advice_short Record n = sender_short n
advice_short (Words point) n = typed-short n

pub cause_short : (o : Origin) (n : ℕ) → Within (cause_lines o n) 236
unfolding cause_lines
cause_short o n =
    let cause : Within (cause_of n) 105 = record { bound = cause_of-short n } in
    let advice : Within (advice_for o n) 110 = record { bound = advice_short o n } in
    both (both (both (both (whole (ascii "cause: ")) cause) (whole (ascii "\nwhat to do: "))) advice) (whole (ascii "\n"))

pub refused-short : (o : Origin) (r : Readings) (n : ℕ) → Within (refused_lines o r n) 277
unfolding refused_lines
refused-short o r n = both (both (refusal-short n) (record { bound = reading-short (reading_about r n) })) (cause_short o n)
