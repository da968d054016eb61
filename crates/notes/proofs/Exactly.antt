-- A line is printed exactly if a row with it holds. Assumes nothing.
use Rattle.arithmetic.proofs.Kit.{◌≡◌, refl, sym, ap, ◌∙◌, Bool, true, false, cond, List, [], ◌∷◌, ◌++◌, List-as-Memᴰ, ◌⊎◌, inl, inr, ℕ}
use mathlib.Core.List.Memᴰ
use Rattle.notes.specs.Words.{Note, when, printed}
use Rattle.notes.specs.Laws.{lines, joined, Holds, ExactlyPrinted}

text : (ns : List Note) → printed ns ≡ joined (lines ns)
text [] = refl
text (n ∷ rest) = go n.holds (text rest)
  where
    go : (b : Bool) → printed rest ≡ joined (lines rest) → when b n.line ++ printed rest ≡ joined (cond b (n.line ∷ []) [] ++ lines rest)
    go true h = ap (λ (l : List ℕ). n.line ++ l) h
    go false h = h

because : (ns : List Note) (l : List ℕ) → List-as-Memᴰ l (lines ns) → Holds ns l
because [] l m = absurd (Memᴰ.not-nil m)
because (n ∷ rest) l m = go n.holds refl (because rest l) (Memᴰ.append_cases (cond n.holds (n.line ∷ []) []) m)
  where
    later : Holds rest l → Holds (n ∷ rest) l
    later h = record { row = h.row; among = Memᴰ.tail h.among; holds = h.holds; said = h.said }

    go : (b : Bool) → n.holds ≡ b → (List-as-Memᴰ l (lines rest) → Holds rest l)
        → List-as-Memᴰ l (cond b (n.line ∷ []) []) ⊎ List-as-Memᴰ l (lines rest) → Holds (n ∷ rest) l
    go true e below (inl here) = record { row = n; among = Memᴰ.head refl; holds = e; said = sym (Memᴰ.eq_of_singleton here) }
    go false e below (inl here) = absurd (Memᴰ.not-nil here)
    go true e below (inr there) = later (below there)
    go false e below (inr there) = later (below there)

wherever : (ns : List Note) (l : List ℕ) → Holds ns l → List-as-Memᴰ l (lines ns)
wherever [] l h = absurd (Memᴰ.not-nil h.among)
wherever (n ∷ rest) l h = go (wherever rest l) (Memᴰ.cases_cons h.among)
  where
    here : (b : Bool) → b ≡ true → l ≡ n.line → List-as-Memᴰ l (cond b (n.line ∷ []) [])
    here b e said = rw e (Memᴰ.head said)

    go : (Holds rest l → List-as-Memᴰ l (lines rest)) → (h.row ≡ n) ⊎ List-as-Memᴰ h.row rest → List-as-Memᴰ l (lines (n ∷ rest))
    go below (inl e) =
        Memᴰ.append_left (lines rest) (here n.holds (ap (λ (k : Note). k.holds) (sym e) ∙ h.holds) (sym h.said ∙ ap (λ (k : Note). k.line) e))
    go below (inr m) = Memᴰ.append_right (cond n.holds (n.line ∷ []) []) (below (record { row = h.row; among = m; holds = h.holds; said = h.said }))

pub exactly : (ns : List Note) → ExactlyPrinted ns
exactly ns = record { text = text ns; because = because ns; wherever = wherever ns }
