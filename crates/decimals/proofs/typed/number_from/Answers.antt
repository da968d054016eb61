-- Assumes nothing.
use Rattle.std.proofs.Common.{◌≡◌, ◌∙◌, sym, ap, arith, ℕ, ◌+◌, ◌-◌, ◌*◌, min, List, drop, get_or}
use Rattle.decimals.specs.Typed.{number_from}
use Rattle.decimals.proofs.TypedDigits.{number_at, number-capped, all_spelt}
use Rattle.decimals.proofs.typed.number_from.Goals as goal

pub loop-byte-preserved : goal.loop-byte-preserved
loop-byte-preserved c =
    let s = c.args.digits.now in
    let i : ℕ = c.loop-byte.byte-index in
    let v : ℕ = c.loop-byte.value in
    let d : ℕ = get_or s i 0 - 48 in
    let after : List ℕ = drop (i + 1) s in
    let capped : c.min-value.result ≡ min (v * 10 + d) 4294967296 = omega (arith, c.min-value.ensures, c.digit.ensures) in (
      omega arith,
      ap (λ (m : ℕ). min (number_from m after) 4294967296) capped
          ∙ number-capped 4294967296 (v * 10 + d) after
          ∙ ap (λ (m : ℕ). min m 4294967296) (sym (number_at s i (omega arith) v))
          ∙ c.loop-byte.invariant.1,
    )

pub returns : goal.returns
returns c =
    omega (arith, c.loop-byte.invariant.0, c.loop-byte.invariant.1, all_spelt c.loop-byte.value c.args.digits.now c.loop-byte.byte-index (omega arith))
