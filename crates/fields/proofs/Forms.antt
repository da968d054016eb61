-- The form of a field by its tag, how long its data is, and one tag for each meaning in each form. Assumes nothing.
use Rattle.fields.proofs.Kit.{◌≡◌, refl, sym, ap, ap₂, ◌∙◌, Bool, true, false, ◌&&◌, ◌||◌, cond, ℕ, ◌+◌, ◌-◌, ◌≤◌, ◌<◌, arith, le-leb, lt-leb, leb-true, leb, lit≤, meanings, is_count_tag, is_tag, meaning_of, tag_in, data_size}
use mathlib.Core.Bool.{and-eq-true_iff, or-false, or-true}

within : (low high tag : ℕ) → (leb low tag && leb tag high) ≡ true → (low ≤ tag) × (tag ≤ high)
within low high tag e =
    let both = (and-eq-true_iff (leb low tag) (leb tag high)).0 e in
    (leb-true low tag both.0, leb-true tag high both.1)

-- a count's tag is 11 (hex) or more
pub from_first : (tag : ℕ) → is_count_tag tag ≡ true → 17 ≤ tag
from_first tag e = (within 17 (16 + meanings) tag e).0

-- data has a double's eight bytes or a count's four
pub size-by : (tag : ℕ) (b : Bool) → is_count_tag tag ≡ b → data_size tag ≡ cond b 4 8
size-by tag b e = ap {B = ℕ} (λ b. cond b 4 8) e

pub at_most_lem : (tag : ℕ) → data_size tag ≤ 8
at_most_lem tag = go (is_count_tag tag)
  where
    go : (b : Bool) → cond b 4 8 ≤ 8
    go true = lit≤ tt
    go false = lit≤ tt

-- ---- the tag of a meaning
module _ (m : ℕ) (h : m < meanings) where
  pub tag-form : (counts : Bool) → is_count_tag (tag_in counts m) ≡ counts
  tag-form true = ap₂ (λ (a b : Bool). a && b) (le-leb 17 (17 + m) (omega arith)) (le-leb (17 + m) (16 + meanings) (omega arith))
  tag-form false = ap (λ (a : Bool). a && leb (1 + m) (16 + meanings)) (lt-leb 17 (1 + m) (omega arith))

  pub tag-known : (counts : Bool) → is_tag (tag_in counts m) ≡ true
  tag-known true = ap (λ (b : Bool). (leb 1 (17 + m) && leb (17 + m) meanings) || b) (tag-form true) ∙ or-true (leb 1 (17 + m) && leb (17 + m) meanings)
  tag-known false =
      ap (λ (a : Bool). a || is_count_tag (1 + m)) (ap₂ (λ (a b : Bool). a && b) (le-leb 1 (1 + m) (omega arith)) (le-leb (1 + m) meanings (omega arith)))

  pub tag-meaning : (counts : Bool) → meaning_of (tag_in counts m) ≡ m
  tag-meaning counts = ap (λ (b : Bool). cond b (tag_in counts m - 17) (tag_in counts m - 1)) (tag-form counts) ∙ go counts
    where
      go : (b : Bool) → cond b (tag_in b m - 17) (tag_in b m - 1) ≡ m
      go true = omega arith
      go false = omega arith

-- ---- the meaning of a tag
pub record Tagged (tag : ℕ) : Type 0 where
  pub meant : meaning_of tag < meanings
  pub same : tag_in (is_count_tag tag) (meaning_of tag) ≡ tag

pub tagged : (tag : ℕ) → is_tag tag ≡ true → Tagged tag
tagged tag known = go (is_count_tag tag) refl known
  where
    go : (b : Bool) → is_count_tag tag ≡ b → ((leb 1 tag && leb tag meanings) || b) ≡ true → Tagged tag
    go true e known =
        let t = within 17 (16 + meanings) tag e in
        let m : meaning_of tag ≡ tag - 17 = ap (λ (b : Bool). cond b (tag - 17) (tag - 1)) e in
        record { meant = omega arith; same = ap₂ tag_in e m ∙ omega arith }
    go false e known =
        let t = within 1 meanings tag (sym (or-false _) ∙ known) in
        let m : meaning_of tag ≡ tag - 1 = ap (λ (b : Bool). cond b (tag - 17) (tag - 1)) e in
        record { meant = omega arith; same = ap₂ tag_in e m ∙ omega arith }
