-- A text on a page that grows piece by piece: from a position on, each over the bytes that stood there. Definitions only.
use Rattle.std.specs.Prelude.{ℕ, zero, suc, ◌+◌, ◌-◌, ◌≤◌, min, ◌≡◌, List, [], ◌∷◌, ◌++◌, length, take}
use Rattle.std.proofs.lemmas.List.Edits.{sets}
use Rattle.std.specs.Borrow.{MutBor}
use Rattle.pages.specs.declared.Page.{Page}

-- ---- one piece more
-- all the page's bytes: the piece from `at` on, as far as the page reaches, and the rest as it was
unfoldable pub placed : List ℕ → ℕ → List ℕ → List ℕ
placed page at more = sets page at more

-- the position after the piece
unfoldable pub after : List ℕ → ℕ → List ℕ → ℕ
after page at more = at + min (length more) (length page - at)

pub record Appended (page : List ℕ) (at : ℕ) (more last : List ℕ) (next : ℕ) : Type 0 where
  pub all : last ≡ placed page at more
  pub end : next ≡ after page at more

-- ---- a page and where the next piece stands
abbrev pub page_from : MutBor (List ℕ) → ℕ → Page
page_from bytes at = record { bytes = bytes; at = at }

-- the page with a piece more, the same bytes lent
unfoldable pub put : Page → List ℕ → Page
put p text = record p { bytes = record p.bytes { now = placed p.bytes.now p.at text }; at = after p.bytes.now p.at text }

-- ---- a text at the start of a page
-- f 0, f 1, .., f (n - 1)
unfoldable pub up_to : (ℕ → ℕ) → ℕ → List ℕ
up_to f zero = []
up_to f (suc n) = up_to f n ++ (f n ∷ [])

-- the first n places of a buffer hold the bytes; how many these are is said twice, as lending them asks it
pub record Holds (bytes buffer : List ℕ) (n : ℕ) : Type 0 where
  pub text : take n buffer ≡ bytes
  pub within : n ≤ length buffer
  pub counted : n ≡ length (take n buffer)
