-- Each number from 2 ^ 124 up to 2 ^ 126 is served by its entry of the table of roots, so that `quick_root` never takes the first root for it.
-- Assumes nothing.
use Rattle.arithmetic.proofs.Kit.{◌≡◌, refl, sym, ap, ◌∙◌, Bool, true, false, ◌&&◌, cond, List, ℕ, zero, suc, ◌+◌, ◌-◌, ◌*◌, ◌/◌, ◌^◌, ◌≤◌, ◌<◌, suc-le-suc, zero-add, le_of_suc-le-suc, not-suc-le-zero, le-div_iff_mul-le, div-lt_iff_lt-mul, div-div-eq-div-mul, arith, lt-ltb, le-leb, T, leb, ltb, leb→le, ltb→lt, and_l, and_r, get_or, pow_pos}
use Rattle.std.proofs.Common.{sub-add_cancel}
use Rattle.roots.specs.Root.{root}
use Rattle.roots.specs.Tables.{values, entry, root_table}
use Rattle.std.specs.Prelude.{Some, None}
use Rattle.roots.specs.Quick.{is_near, served, table_root}
use Rattle.roots.proofs.Root.{IsRoot, of-root, roots-le}
use Rattle.roots.proofs.roots.Halves.{next-square}

-- ---- what stands at a place of a table

moved : (i n : ℕ) → i + suc n ≡ suc i + n
moved i n = omega arith

value-at : (f : ℕ → ℕ) (n k i : ℕ) → i < k → get_or (values f n k) i 0 ≡ f (i + n)
unfolding values
value-at f n zero i h = absurd (not-suc-le-zero h)
value-at f n (suc k) zero h = ap f (sym (zero-add n))
value-at f n (suc k) (suc i) h = value-at f (suc n) k i (le_of_suc-le-suc h) ∙ ap f (moved i n)

-- the rule of the table of roots, at each entry; that the constant is this table is computed once (root_table/root_table/Proof)
pub root-at : (n : ℕ) → 256 ≤ n → n < 1024 → get_or root_table (n - 256) 0 ≡ root (n * 2 ^ 20)
unfolding root_table entry
root-at n l h = value-at entry 256 768 (n - 256) (omega arith) ∙ ap entry (sub-add_cancel l)

-- ---- the test of an entry, in inequalities

-- n's number has an entry, and e is near
pub record Serves (n e : ℕ) : Type 0 where
  pub from : 256 ≤ n / 2 ^ 116
  pub to : n / 2 ^ 116 < 1024
  pub low : e < 2 ^ 15
  pub square : e * e * 2 ^ 34 ≤ n / 2 ^ 62
  pub rest : n / 2 ^ 62 < e * e * 2 ^ 34 + 3 * 2 ^ 53

is_false : (b : Bool) → (T b → ⊥) → b ≡ false
is_false true h = absurd (h tt)
is_false false h = refl

module _ (table : List ℕ) (n : ℕ) where
  abbrev pub entry_for : ℕ
  entry_for = get_or table (n / 2 ^ 116 - 256) 0

  serves : T (served table n) → Serves n entry_for
  unfolding served
  serves t =
      let number : ℕ = n / 2 ^ 116 in
      let top : ℕ = n / 2 ^ 62 in
      let square : ℕ = entry_for * entry_for * 2 ^ 34 in
      let below : Bool = ltb top (square + 3 * 2 ^ 53) in
      let few : Bool = ltb number 1024 && is_near n entry_for in
      let near = and_r (ltb number 1024) (is_near n entry_for) (and_r (leb 256 number) few t) in
      let between = and_r (ltb entry_for (2 ^ 15)) (leb square top && below) near in
      record {
        from = leb→le 256 number (and_l (leb 256 number) few t);
        to = ltb→lt number 1024 (and_l (ltb number 1024) (is_near n entry_for) (and_r (leb 256 number) few t));
        low = ltb→lt entry_for (2 ^ 15) (and_l (ltb entry_for (2 ^ 15)) (leb square top && below) near);
        square = leb→le square top (and_l (leb square top) below between);
        rest = ltb→lt top (square + 3 * 2 ^ 53) (and_r (leb square top) below between);
      }

  pub is_near_enough : Serves n entry_for → true ≡ served table n
  unfolding served
  is_near_enough s = sym (rw (le-leb _ _ s.from, lt-ltb _ _ s.to, lt-ltb _ _ s.low, le-leb _ _ s.square, lt-ltb _ _ s.rest) refl)

  pub is_too_far : (Serves n entry_for → ⊥) → false ≡ served table n
  is_too_far far = sym (is_false (served table n) (λ (t : T (served table n)). far (serves t)))

  pub some_where_served : true ≡ served table n → Some (root n) ≡ table_root table n
  unfolding table_root
  some_where_served is = ap (λ (b : Bool). cond b (Some (root n)) None) is

  pub none_where_not : false ≡ served table n → None ≡ table_root table n
  unfolding table_root
  none_where_not is = ap (λ (b : Bool). cond b (Some (root n)) None) is

  pub entry_is : {place e : ℕ} → place ≡ n / 2 ^ 116 - 256 → e ≡ get_or table place 0 → e ≡ entry_for
  entry_is at is = is ∙ ap (λ (k : ℕ). get_or table k 0) at

root_if : (b : Bool) (n r : ℕ) → Some r ≡ cond b (Some (root n)) None → r ≡ root n
root_if true n r e = cc
root_if false n r e = let z : ◌≡◌ {A = ℕ} 0 1 = cc in omega arith

pub root_of_some : (table : List ℕ) (n r : ℕ) → Some r ≡ table_root table n → r ≡ root n
unfolding table_root
root_of_some table n r e = root_if (served table n) n r e

-- ---- the table of 768 serves

near : (top e : ℕ) → top < 2 ^ 64 → IsRoot (top / 2 ^ 54 * 2 ^ 20) e → (e < 2 ^ 15) × (e * e * 2 ^ 34 ≤ top) × (top < e * e * 2 ^ 34 + 3 * 2 ^ 53)
near top e h r =
    let low : e < 2 ^ 15 = suc-le-suc (roots-le (top / 2 ^ 54 * 2 ^ 20) e (2 ^ 15 - 1) r.0 (omega arith)) in
    (low, omega arith, omega (arith, next-square e))

pub table_serves : (n : ℕ) → 2 ^ 124 ≤ n → n < 2 ^ 126 → table_root root_table n ≡ Some (root n)
table_serves n low high =
    let number : ℕ = n / 2 ^ 116 in
    let from : 256 ≤ number = (le-div_iff_mul-le {k = 2 ^ 116} (pow_pos 116)).1 low in
    let to : number < 1024 = (div-lt_iff_lt-mul {k = 2 ^ 116} (pow_pos 116)).1 high in
    let top : n / 2 ^ 62 < 2 ^ 64 = (div-lt_iff_lt-mul {k = 2 ^ 62} (pow_pos 62)).1 high in
    let upper : number ≡ n / 2 ^ 62 / 2 ^ 54 = sym (div-div-eq-div-mul n (2 ^ 62) (2 ^ 54)) in
    let is = near (n / 2 ^ 62) (entry_for root_table n) top (of-root _ _ (root-at number from to ∙ ap (λ (m : ℕ). root (m * 2 ^ 20)) upper)) in
    sym (some_where_served root_table n (is_near_enough root_table n (record { from = from; to = to; low = is.0; square = is.1; rest = is.2 })))
