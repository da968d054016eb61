-- Texts for people on a lent page that has room for the longest of them. Definitions only.
use Rattle.std.specs.Prelude.{ℕ, ◌+◌, ◌*◌, Bool, not, ◌&&◌, ◌||◌, List, [], ◌∷◌, leb, ltb, eqb, length}
use Rattle.refusal.specs.Outcomes.{Outcome, accepted, refused, row, ◌then◌}
use Rattle.report.specs.declared.Origin.TheVariants.{Record}
use Rattle.report.specs.Advice.{cause_lines}
use Rattle.report.specs.Report.{record_text}

-- 16, before anything else: the page has fewer bytes than the longest text
abbrev pub on_page : ℕ → List ℕ → Outcome (List ℕ) → Outcome (List ℕ)
on_page most page o = row (ltb (length page) most) 16 [] ∷ [] then o

-- ---- the report of a record
abbrev pub report_on : List ℕ → List ℕ → Outcome (List ℕ)
report_on bytes page = on_page (2842 + 2 * length bytes) page (accepted (record_text bytes))

-- ---- the cause of a refusal and what to do, in the report's words; those that a record or a setting sheet can have
abbrev pub has_words : ℕ → Bool
has_words n = (leb 1 n && leb n 15) || eqb n 17

-- 253: any other number
abbrev pub words_on : ℕ → List ℕ → Outcome (List ℕ)
words_on n page = on_page 236 page (row (not (has_words n)) 253 [] ∷ [] then accepted (cause_lines Record n))

-- ---- a lent length: that of the text; what is refused leaves it as it was
abbrev pub text_length_or : ℕ → Outcome (List ℕ) → ℕ
text_length_or before (accepted text) = length text
text_length_or before (refused number values) = before
