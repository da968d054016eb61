-- What `any` finds among the meanings is what the definition finds.
use Rattle.std.proofs.Common.{◌≡◌, ◌≤◌, ℕ, zero, suc, Bool, ◌||◌, get_or, take, refl, sym, ap, ap₂, ◌∙◌, add-one, arith, rules, tests}
use Rattle.std.specs.List.{list_any, range_with_len}
use Rattle.std.proofs.lemmas.Iterator.{YieldsList-from_range}
use Rattle.std.proofs.lemmas.Iterator.Search.{any_from_yields_List}
use Rattle.std.proofs.lemmas.List.Folds.{list_any_more}
use Rattle.std.proofs.lemmas.List.FromFn.{get_or-range_with_len}
use Rattle.record.specs.declared.entries.Readings.{Readings}
use Rattle.record.specs.Entries.{entry_of}
use Rattle.fields.specs.Fields.{meanings}
use Rattle.vote.specs.Fields.{is_not_in_all, not_in_all_of}
use Rattle.vote.proofs.by_field.any_not_in_all.Goals as goal

abbrev missing : Readings → Readings → Readings → ℕ → Bool
missing a b c m = is_not_in_all (entry_of a m) (entry_of b m) (entry_of c m)

-- of the first n meanings
first : (n : ℕ) (a b c : Readings) → n ≤ meanings → list_any (missing a b c) (take n (range_with_len 0 meanings)) ≡ not_in_all_of n a b c
unfolding not_in_all_of
first zero a b c h = refl
first (suc n) a b c h =
    let here : get_or (range_with_len 0 meanings) n 0 ≡ n = get_or-range_with_len 0 meanings n 0 h ∙ omega arith in
    ap (λ (k : ℕ). list_any (missing a b c) (take k (range_with_len 0 meanings))) (sym (add-one n))
    ∙ list_any_more (missing a b c) (range_with_len 0 meanings) n 0 h
    ∙ ap₂ (λ (p q : Bool). p || q) (first n a b c (omega arith)) (ap (missing a b c) here)

pub returns : goal.returns
returns c =
    let a = c.args in
    any_from_yields_List (missing a.a a.b a.c) _ _ _ c.any.ensures.ran (YieldsList-from_range 0 meanings meanings refl refl) (λ x b q k. search (rules, tests))
    ∙ first meanings a.a a.b a.c (omega arith)
