-- The state after n outputs is n times the increment, and repeats after 2 ^ 64 of them. Assumes nothing.
use Rattle.load_text.proofs.Kit.{◌≡◌, refl, sym, ap, ◌∙◌, ℕ, zero, suc, ◌+◌, ◌*◌, ◌/◌, ◌%◌, ◌^◌, div-add-mod', add-mul, mul_right_comm, mul-add-mod_self_right, arith, advanced, state_after}

pub state_is : (n : ℕ) → state_after n ≡ n * 0x9E3779B97F4A7C15 % 2 ^ 64
unfolding state_after
state_is zero = refl
state_is (suc n) = ap advanced (state_is n) ∙ omega arith

times_mod : (n m k : ℕ) → n % m * k % m ≡ n * k % m
times_mod n m k =
    let parts : n * k ≡ n / m * k * m + n % m * k =
    ap (λ (x : ℕ). x * k) (sym (div-add-mod' n m)) ∙ add-mul (n / m * m) (n % m) k ∙ ap (λ (x : ℕ). x + n % m * k) (mul_right_comm (n / m) m k) in
    sym (ap (λ (x : ℕ). x % m) parts ∙ mul-add-mod_self_right (n / m * k) m (n % m * k))

pub state_repeats : (n : ℕ) → state_after (n % 2 ^ 64) ≡ state_after n
state_repeats n = state_is (n % 2 ^ 64) ∙ times_mod n (2 ^ 64) 0x9E3779B97F4A7C15 ∙ sym (state_is n)
