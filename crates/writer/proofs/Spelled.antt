-- The bytes of a number and the number that bytes spell: each undoes the other. Assumes nothing.
use Rattle.writer.proofs.Kit.{◌≡◌, refl, sym, ap, ap₂, ◌∙◌, List, [], ◌∷◌, ◌++◌, append_assoc, ℕ, zero, suc, ◌+◌, ◌*◌, ◌/◌, ◌%◌, ◌^◌, ◌≤◌, ◌<◌, pow-suc, pow-succ', one-le-pow, div-div-eq-div-mul, arith, digits_lt, digits_div, lit<, length, take, drop, get_or, length-drop, get_or-drop, get_or-append-add, get_or_at, take-suc, number_at, bytes, AreBytes}
use native.Mathlib.Nat.{mod-one}
use lib.Arith.{mod-mul, digits_mod}
use Rattle.writer.proofs.Bytes.{length-bytes}

-- the lowest byte apart
pub lowest : (k n : ℕ) → bytes (suc k) n ≡ bytes k (n / 256) ++ (n % 256) ∷ []
unfolding bytes
lowest zero n = ap (λ (b : ℕ). b ∷ []) (omega arith)
lowest (suc k) n = ap₂ (λ (b : ℕ) (rest : List ℕ). b % 256 ∷ rest) (ap (λ (p : ℕ). n / p) (pow-succ' 256 k) ∙ sym (div-div-eq-div-mul n 256 (256 ^ k))) (lowest k n)

-- ---- what the bytes of n spell, wherever they stand
pub spelled : (p q : List ℕ) (k n : ℕ) → number_at (p ++ (bytes k n ++ q)) (length p) k ≡ n % 256 ^ k
unfolding number_at
spelled p q zero n = sym (mod-one n)
spelled p q (suc k) n =
    ap (λ (s : List ℕ). number_at (p ++ s) (length p) (suc k)) (ap (λ (s : List ℕ). s ++ q) (lowest k n) ∙ append_assoc a (b ∷ []) q)
    ∙ ap₂ (λ (w c : ℕ). w * 256 + c) (spelled p (b ∷ q) k (n / 256)) (get_or-append-add p (a ++ b ∷ q) k 0 ∙ get_or_at a b q 0 k (length-bytes k (n / 256)))
    ∙ sym (mod-mul n {m = 256 ^ k} {c = 256} (one-le-pow k 256 (lit< tt)) (lit< tt))
    ∙ ap (λ (m : ℕ). n % m) (sym (pow-suc 256 k))
  where
    a : List ℕ
    a = bytes k (n / 256)

    b : ℕ
    b = n % 256

-- ---- the bytes of what bytes spell
module _ (s : List ℕ) (all : AreBytes s) (i : ℕ) where
  pub word_lt : (k : ℕ) → number_at s i k < 256 ^ k
  unfolding number_at
  word_lt zero = lit< tt
  word_lt (suc k) = rw pow-suc (digits_lt (word_lt k) (all (i + k)))

  pub spells : (k : ℕ) → i + k ≤ length s → bytes k (number_at s i k) ≡ take k (drop i s)
  unfolding number_at bytes
  spells zero h = refl
  spells (suc k) h =
      let w = number_at s i k in
      let b = get_or s (i + k) 0 in
      lowest k (w * 256 + b)
      ∙ ap₂ (λ (u v : ℕ). bytes k u ++ v ∷ []) (digits_div w (all (i + k))) (digits_mod w (all (i + k)))
      ∙ ap₂ (λ (u : List ℕ) (v : ℕ). u ++ v ∷ []) (spells k (omega arith)) (sym (get_or-drop i s k 0))
      ∙ sym (take-suc (drop i s) k 0 (rw length-drop (omega arith)))
