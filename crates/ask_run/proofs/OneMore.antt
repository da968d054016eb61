-- One line more is answered: where it ends, what is left after it, and that it is whole. Assumes nothing.
use Rattle.arithmetic.proofs.Kit.{◌≡◌, refl, sym, ap, ap₂, ◌∙◌, Bool, true, false, ◌||◌, ◌&&◌, cond, List, [], ◌∷◌, ◌++◌, ℕ, suc, ◌+◌, ◌-◌, ◌≤◌, ◌<◌, add-one, arith, ltb-true, ltb, eqb, length, get_or, take, drop, length-append, drop-drop}
use Rattle.pages.specs.Scan.{index_of, index_after}
use Rattle.std.specs.Borrow.{MutBor}
use Rattle.pages.specs.declared.Page.{Page}
use Rattle.pages.specs.Pages.{Appended, page_from, put}
use Rattle.pages.proofs.Putting.{put_put}
use Rattle.pages.proofs.Growing.{same_length, held-length}
use Rattle.std.specs.Prelude.{Some, None}
use Rattle.questions.specs.declared.line_ends.Line.{Line}
use Rattle.questions.specs.Lines.{line_end, first_line, next_line, has_line, found_line}
use Rattle.lines.specs.Answers.{answer_line}
use Rattle.ask_run.proofs.Short.{answers_fit}
use Rattle.ask_run.specs.Answered.{lines_after, answers_to, AreWhole, Answered}

index_within : (b : ℕ) (s : List ℕ) → index_of b s ≤ length s
unfolding index_of index_after
index_within b [] = omega arith
index_within b (x ∷ s) = go (eqb x b) (index_within b s)
  where
    go : (t : Bool) → index_of b s ≤ length s → index_after t (index_of b s) ≤ suc (length s)
    go true h = omega arith
    go false h = omega arith

end-within : (s : List ℕ) → line_end s ≤ length s
unfolding line_end
end-within s = go (eqb (get_or s (index_of 10 s - 1) 0) 13)
  where
    go : (b : Bool) → cond b (index_of 10 s - 1) (index_of 10 s) ≤ length s
    go true = omega (arith, index_within 10 s)
    go false = index_within 10 s

-- the line that is found
pub record Taken (ended : Bool) (s : List ℕ) (end next : ℕ) : Type 0 where
  pub end_is : end ≡ line_end s
  pub next-is : next ≡ next_line s
  pub whole : has_line ended s ≡ true
  pub end_in : end ≤ length s
  pub next_in : next ≤ length s
  pub some : 0 < next

some_bytes : (ended : Bool) (s : List ℕ) → has_line ended s ≡ true → 0 < length s
some_bytes ended s h = go (ltb (index_of 10 s) (length s)) (ltb 0 (length s)) ended refl refl h
  where
    go : (a b e : Bool) → ltb (index_of 10 s) (length s) ≡ a → ltb 0 (length s) ≡ b → (a || (e && b)) ≡ true → 0 < length s
    go true b e p q h = omega (arith, ltb-true (index_of 10 s) (length s) p)
    go false true e p q h = ltb-true 0 (length s) q
    go false false true p q h = let z : ◌≡◌ {A = ℕ} 0 1 = cc in absurd (omega arith)
    go false false false p q h = let z : ◌≡◌ {A = ℕ} 0 1 = cc in absurd (omega arith)

pub found : (ended : Bool) (s : List ℕ) {r : Line} → Some r ≡ found_line ended s → Taken ended s r.end r.next
unfolding found_line
found ended s {r} e = go (has_line ended s) refl e
  where
    go : (b : Bool) → has_line ended s ≡ b → Some r ≡ cond b (Some (record { end = line_end s; next = next_line s })) None → Taken ended s r.end r.next
    go true h e =
        let end_is : r.end ≡ line_end s = cc in
        let next-is : r.next ≡ next_line s = cc in
        record {
          end_is = end_is;
          next-is = next-is;
          whole = h;
          end_in = omega (arith, end-within s, end_is);
          next_in = omega (arith, next-is);
          some = omega (arith, some_bytes ended s h, next-is);
        }
    go false h e = let z : ◌≡◌ {A = ℕ} 0 1 = cc in absurd (omega arith)

-- ---- after n lines
module _ (ended : Bool) (s : List ℕ) (n taken : ℕ) {end next : ℕ} (rest : drop taken s ≡ lines_after n s) (t : Taken ended (drop taken s) end next) where
  pub rest-again : drop (taken + next) s ≡ lines_after (n + 1) s
  unfolding lines_after
  rest-again =
      sym (drop-drop next taken s)
      ∙ ap₂ (λ (k : ℕ) (l : List ℕ). drop k l) (t.next-is ∙ ap next_line rest) rest
      ∙ ap (λ (k : ℕ). lines_after k s) (sym (add-one n))

  pub whole_again : AreWhole ended n s → AreWhole ended (n + 1) s
  unfolding AreWhole
  whole_again h = rw add-one (h, sym (ap (has_line ended) rest) ∙ t.whole)

  pub text-again : (p : Page) {q r : Page} → q ≡ put p (answers_to n s) → r ≡ put q (answer_line (take end (drop taken s))) → r ≡ put p (answers_to (n + 1) s)
  unfolding answers_to
  text-again p a b =
      let line = ap₂ (λ (k : ℕ) (l : List ℕ). answer_line (take k l)) (t.end_is ∙ ap line_end rest) rest in
      rw add-one
      (b
      ∙ ap (λ (q : Page). put q (answer_line (take end (drop taken s)))) a
      ∙ put_put p (answers_to n s) (answer_line (take end (drop taken s)))
      ∙ ap (λ (l : List ℕ). put p (answers_to n s ++ l)) line)

-- a page that is put, in its bytes
pub appended : (b : MutBor (List ℕ)) {q : Page} {text : List ℕ} → q ≡ put (page_from b 0) text → Appended b.now 0 text q.bytes.now q.at
unfolding put
appended b e = record { all = ap (λ (q : Page). q.bytes.now) e; end = ap (λ (q : Page). q.at) e }

-- each answer is begun with room for the longest
pub room-again : (n : ℕ) (s : List ℕ) {page middle : List ℕ} {written : ℕ} → Appended page 0 (answers_to n s) middle written → length (answers_to n s) ≤ length page
    → written + 4096 ≤ length middle → length (answers_to (n + 1) s) ≤ length page
unfolding answers_to
room-again n s a room free =
    let line = first_line (lines_after n s) in
    rw add-one (omega (arith, length-append (answers_to n s) (answer_line line), answers_fit line, held-length a room, same_length a))

-- ---- what is answered when no more is
pub progressed : {ended : Bool} {s page last : List ℕ} {n taken written : ℕ} → AreWhole ended n s → drop taken s ≡ lines_after n s → taken ≤ length s
    → Appended page 0 (answers_to n s) last written → length (answers_to n s) ≤ length page
    → Answered ended s page last (record { lines = n; taken = taken; written = written })
progressed whole rest few text room = record { whole = whole; rest = rest; taken = few; text = text; room = room }
