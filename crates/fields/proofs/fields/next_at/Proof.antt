-- `fields::fields::next_at` meets its contract. Assumes nothing.
use Rattle.fields.proofs.Kit.{◌≡◌, refl, sym, ap, ◌∙◌, List, ℕ, ◌+◌, ◌<◌, ◌≤◌, ◌-◌, arith, rules, le-leb, lt-leb, length, get_or, drop, length-drop, get_or-drop, data_size, size_of, next_at}
use Rattle.fields.proofs.Forms.{at_most_lem}
use Rattle.fields.proofs.fields.next_at.Statement.{statement}
use Rattle.fields.proofs.fields.next_at.Tie as tie

-- by whether the field is whole
cut : (s : List ℕ) (i : ℕ) → length s - i < size_of (drop i s) → length s ≡ next_at s i
unfolding next_at
cut s i h = rw (length-drop, lt-leb (size_of (drop i s)) (length s - i) h)

whole : (s : List ℕ) (i : ℕ) → size_of (drop i s) ≤ length s - i → i + size_of (drop i s) ≡ next_at s i
unfolding next_at
whole s i h = rw (length-drop, le-leb (size_of (drop i s)) (length s - i) h)

-- how long the field is, by its tag
size : (c : tie.After-data_size-size) → let a = c.args in 3 + c.data_size-size.result ≡ size_of (drop a.at a.bytes.now)
size c =
    let a = c.args in
    let at : a.at ≡ a.at + 0 = omega arith in
    let tag = ap (λ (n : ℕ). get_or a.bytes.now n 0) at ∙ sym (get_or-drop a.at a.bytes.now 0 0) in
    ap (λ (n : ℕ). 3 + n) (c.data_size-size.ensures ∙ ap data_size tag)

add_size : tie.Need-overflow_add-size
add_size c = omega (arith, c.data_size-size.ensures, at_most_lem (get_or c.args.bytes.now c.args.at 0))

returns_3 : tie.Need-returns
returns_3 c =
    let a = c.args in
    (ap (λ (n : ℕ). a.at + n) (size c.before) ∙ whole a.bytes.now a.at (omega (arith, size c.before)), refl)

pub next_at_spec : {M : Type 1} → statement M
next_at_spec =
    tie.close (tie.spec (λ c. let a = c.args in (cut a.bytes.now a.at (omega arith), refl))
    (λ c. search rules)
    (λ c κs. search rules)
    add_size
    (λ c. search rules)
    (λ c. let a = c.args in (cut a.bytes.now a.at (omega (arith, size c.before)), refl))
    (λ c. search rules)
    returns_3)
