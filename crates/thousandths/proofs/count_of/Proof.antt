-- `thousandths::count_of` meets its contract. The exponent's field of x's pattern says in which of the ranges of proofs/Fields x lies. Assumes nothing.
use Rattle.arithmetic.proofs.Kit.{◌≡◌, refl, sym, ap, ◌∙◌, subst, Bool, true, not, true≢false, ℕ, ◌^◌, T, leb, Float, nan, inf, fin, is_nan, binary64, fits, round, to_bits, rules}
use Rattle.arithmetic.specs.Whole.{signed}
use Rattle.std.specs.Prelude.{None}
use Rattle.thousandths.specs.Thousandths.{thousandths, nearest_thousandth, counted, if_exact, count_for}
use Rattle.thousandths.proofs.Fields.{small_count, digits-count, great-count}
use Rattle.thousandths.proofs.count_of.Statement.{statement}
use Rattle.thousandths.proofs.count_of.Tie as tie

-- what owning an `f64` tells: the format holds it
held : (c : tie.Start) → T (fits binary64 c.args.x)
held c = subst T (sym c.well_formed.0.1) tt

nan_missing : (x : Float) → true ≡ is_nan x → None ≡ count_for x
unfolding is_nan count_for if_exact counted nearest_thousandth thousandths to_bits round
nan_missing nan h = refl
nan_missing (inf s) h = absurd (true≢false h)
nan_missing (fin s m e) h = absurd (true≢false h)

returns_3 : tie.Need-returns-then-field-lt1012
returns_3 c =
    let start = c.before.before.before.before.before.before in
    let b : ℕ = to_bits binary64 start.args.x in
    c.tried.ensures ∙ ap (if_exact b) c.signed_count.ensures ∙ small_count start.args.x (held start) c.if-field-lt1012.true

returns_4 : tie.Need-returns
returns_4 c =
    let start = c.before.before.before.before.before.before.before in
    let x : Float = start.args.x in
    let b : ℕ = to_bits binary64 x in
    c.tried-2.ensures
    ∙ ap (if_exact b) (c.signed_count-2.ensures ∙ ap (λ (n : ℕ). counted (signed (leb (2 ^ 63) b) n)) c.nearest_count.ensures)
    ∙ digits-count x (held start) c.if-field-lt1012.false c.if-field-ge1045.false

pub count_of_spec : {M : Type 1} → statement M
count_of_spec =
    tie.close (tie.spec (λ c κs. search rules)
    (λ c. nan_missing c.args.x c.if-is_nan.ensures.0)
    (λ c. subst (λ (b : Bool). T (not b)) c.if-is_nan.ensures.0 tt)
    (λ c. let start = c.before.before.before in great-count start.args.x (held start) c.if-field-ge1045.true)
    (λ c κs. search rules)
    (λ c κs. search rules)
    returns_3
    (λ c. search rules)
    (λ c. search rules)
    (λ c κs. search rules)
    (λ c κs. search rules)
    (λ c κs. search rules)
    returns_4)
