-- Five outputs drawn from the state after 5 n of them give the counts of record n, and leave the state from which record n + 1 is drawn. Assumes
-- nothing.
use Rattle.load_text.proofs.Kit.{◌≡◌, suc, ◌+◌, ◌*◌, arith, state_after, output, counts_of, load_counts, drawn, ℕ}

pub stepping : (n : ℕ) → drawn (state_after (5 * n)) ≡ record { counts = load_counts n; state = state_after (5 * (n + 1)) }
unfolding drawn load_counts state_after
stepping n =
    let m = 5 * n in
    let one : suc m ≡ m + 1 = omega arith in
    let two : suc (suc m) ≡ m + 2 = omega arith in
    let three : suc (suc (suc m)) ≡ m + 3 = omega arith in
    let four : suc (suc (suc (suc m))) ≡ m + 4 = omega arith in
    let five : suc (suc (suc (suc (suc m)))) ≡ 5 * (n + 1) = omega arith in
    λ i. record { counts = counts_of (output m) (output (one i)) (output (two i)) (output (three i)) (output (four i)); state = state_after (five i) }
