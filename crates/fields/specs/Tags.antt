-- The tags of a record's fields in their order, and what it means that they rise. Definitions only.
use Rattle.std.specs.Prelude.{ℕ, ◌≤◌, List, [], ◌∷◌, map}
use Rattle.fields.specs.Fields.{tag_of, heads}

abbrev pub tags : List ℕ → List ℕ
tags s = map tag_of (heads s)

-- no tag is below the one before it
abbrev pub RisingFrom : ℕ → List ℕ → Type 0
RisingFrom last [] = Unit {0}
RisingFrom last (tag ∷ rest) = (last ≤ tag) × RisingFrom tag rest

abbrev pub Rising : List ℕ → Type 0
Rising all = RisingFrom 0 all
