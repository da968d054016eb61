-- The bytes of a number: how many they are, and one shift for each. Assumes nothing.
use Rattle.std.specs.Int.{byte_at, bytes_high_first}
use borrow.Rule.Slice.PartMut.{put_mid}
use Rattle.writer.proofs.Kit.{◌≡◌, refl, sym, ap, ap₂, ◌∙◌, List, [], ◌∷◌, ◌++◌, append-nil, append_assoc, ℕ, zero, suc, ◌+◌, ◌-◌, ◌*◌, ◌/◌, ◌%◌, ◌^◌, ◌≤◌, add-zero, mul-suc, pow-suc, arith, le-ltb, length, take, drop, length-drop, drop_of_length-le, take_all, drop-drop, set, pow-add, sets, sets-eq, bytes, overwritten}

pub length-bytes : (k n : ℕ) → length (bytes k n) ≡ k
unfolding bytes
length-bytes zero n = refl
length-bytes (suc k) n = ap suc (length-bytes k n)

pub shifts : (k : ℕ) → 2 ^ (8 * k) ≡ 256 ^ k
shifts zero = refl
shifts (suc k) = ap (λ (i : ℕ). 2 ^ i) (mul-suc 8 k) ∙ pow-add 2 (8 * k) 8 ∙ ap (λ (p : ℕ). p * 256) (shifts k) ∙ sym (pow-suc 256 k)

-- one store after another
pub sets_append : (l : List ℕ) (i : ℕ) (xs ys : List ℕ) → sets l i (xs ++ ys) ≡ sets (sets l i xs) (i + length xs) ys
sets_append l i [] ys = ap (λ (j : ℕ). sets l j ys) (sym (add-zero i))
sets_append l i (x ∷ xs) ys = sets_append (set l i x) (suc i) xs ys ∙ ap (λ (j : ℕ). sets (sets (set l i x) (suc i) xs) j ys) (omega arith)

-- ---- a part of a buffer, after a write to it: of bytes that fill it
pub part_put : (out f : List ℕ) (at k : ℕ) {part : List ℕ} → k ≡ length f → at + length f ≤ length out → part ≡ f → put_mid at k out part ≡ sets out at f
part_put out f at k size fits is =
    ap₂ (λ (p : List ℕ) (n : ℕ). take at out ++ (p ++ drop n (drop at out))) is size
    ∙ ap (λ (l : List ℕ). take at out ++ (f ++ l)) (drop-drop (length f) at out)
    ∙ sym (append_assoc (take at out) f (drop (at + length f) out))
    ∙ sym (sets-eq f out at fits)

-- of bytes at the start of all that follows a place
pub rest_put : (out f : List ℕ) (at : ℕ) {part : List ℕ} → at + length f ≤ length out → part ≡ overwritten f (take (length out - at) (drop at out)) → put_mid at (length out - at) out part ≡ sets out at f
rest_put out f at {part} fits e =
    let k = length out - at in
    let long : length (drop at out) ≡ k = length-drop at out in
    let all : take k (drop at out) ≡ drop at out = take_all k (drop at out) (omega arith) in
    let fits_here : length f ≤ length (drop at out) = omega arith in
    let is : part ≡ f ++ drop (at + length f) out = e ∙ ap (overwritten f) all ∙ rw (le-ltb (length (drop at out)) (length f) fits_here) (ap (λ (l : List ℕ). f ++ l) (drop-drop (length f) at out)) in
    let none : drop k (drop at out) ≡ [] = drop_of_length-le (drop at out) {i = k} (omega arith) in
    ap₂ (λ (p q : List ℕ). take at out ++ (p ++ q)) is none
    ∙ ap (λ (l : List ℕ). take at out ++ l) (append-nil (f ++ drop (at + length f) out))
    ∙ sym (append_assoc (take at out) f (drop (at + length f) out))
    ∙ sym (sets-eq f out at fits)

-- ---- the last bytes of a number, by the library's
byte_at-is : (k n : ℕ) → byte_at k n ≡ n / 256 ^ k % 256
byte_at-is zero n = ap (λ (b : ℕ). b % 256) (omega arith)
byte_at-is (suc k) n = refl

high_first : (k n : ℕ) → bytes_high_first k n ≡ bytes k n
unfolding bytes
high_first zero n = refl
high_first (suc k) n = ap₂ (λ (b : ℕ) (rest : List ℕ). b ∷ rest) (byte_at-is k n) (high_first k n)

last_of : (j k n : ℕ) → drop j (bytes (j + k) n) ≡ bytes k n
unfolding bytes
last_of zero k n = let all : 0 + k ≡ k = omega arith in ap (λ (i : ℕ). bytes i n) all
last_of (suc j) k n = let one : suc j + k ≡ suc (j + k) = omega arith in ap (λ (i : ℕ). drop (suc j) (bytes i n)) one ∙ last_of j k n

pub last_bytes : (k n : ℕ) {all : List ℕ} → k ≤ 8 → all ≡ bytes_high_first 8 n → take (8 - (8 - k)) (drop (8 - k) all) ≡ bytes k n
last_bytes k n h e =
    let eight : 8 - k + k ≡ 8 = omega arith in
    let left = ap (drop (8 - k)) (e ∙ high_first 8 n ∙ ap (λ (i : ℕ). bytes i n) (sym eight)) ∙ last_of (8 - k) k n in
    ap (take (8 - (8 - k))) left ∙ take_all (8 - (8 - k)) (bytes k n) (omega (arith, length-bytes k n))
