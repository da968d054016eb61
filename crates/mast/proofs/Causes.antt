-- Each number has exactly its cause, to the first judge and to the strict one. Assumes nothing.
use Rattle.mast.proofs.Kit.{refl, Bool, List, ℕ, then-rows, exactly-by, read_rows, readings, figures_of, reading_rows, resolved, judged, record_rows}
use Rattle.mast.proofs.Stated.{Caused}

pub caused : (strict : Bool) (s : List ℕ) → Caused strict s
unfolding judged
caused strict s =
    let r = readings s in
    let f = figures_of (resolved r) in
    exactly-by f (record_rows strict s) (then-rows (read_rows strict s) (reading_rows r) r f judged refl)
