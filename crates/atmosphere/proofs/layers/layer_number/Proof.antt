-- `atmosphere::layers::layer_number` meets its contract: its tests are those of the definition, in the same order. Assumes nothing.
use Rattle.atmosphere.specs.Layers.{layer_at}
use Rattle.atmosphere.proofs.layers.layer_number.Statement.{statement}
use Rattle.atmosphere.proofs.layers.layer_number.Tie as tie

returns_5 : tie.Need-returns-then-geopotential_height-5
unfolding layer_at
returns_5 c = simp (c.if-geopotential_height.false, c.if-geopotential_height-2.false, c.if-geopotential_height-3.false, c.if-geopotential_height-4.false, c.if-geopotential_height-5.true)

returns_6 : tie.Need-returns-then-geopotential_height-6
unfolding layer_at
returns_6 c = simp (c.if-geopotential_height.false, c.if-geopotential_height-2.false, c.if-geopotential_height-3.false, c.if-geopotential_height-4.false, c.if-geopotential_height-5.false, c.if-geopotential_height-6.true)

returns_7 : tie.Need-returns-then-geopotential_height-7
unfolding layer_at
returns_7 c = simp (c.if-geopotential_height.false, c.if-geopotential_height-2.false, c.if-geopotential_height-3.false, c.if-geopotential_height-4.false, c.if-geopotential_height-5.false, c.if-geopotential_height-6.false, c.if-geopotential_height-7.true)

returns_8 : tie.Need-returns
unfolding layer_at
returns_8 c = simp (c.if-geopotential_height.false, c.if-geopotential_height-2.false, c.if-geopotential_height-3.false, c.if-geopotential_height-4.false, c.if-geopotential_height-5.false, c.if-geopotential_height-6.false, c.if-geopotential_height-7.false)

pub layer_number_spec : {M : Type 1} → statement M
layer_number_spec =
    tie.close (tie.spec (λ c. unfold layer_at in simp c.if-geopotential_height.true)
    (λ c. unfold layer_at in simp (c.if-geopotential_height.false, c.if-geopotential_height-2.true))
    (λ c. unfold layer_at in simp (c.if-geopotential_height.false, c.if-geopotential_height-2.false, c.if-geopotential_height-3.true))
    (λ c. unfold layer_at in simp (c.if-geopotential_height.false, c.if-geopotential_height-2.false, c.if-geopotential_height-3.false, c.if-geopotential_height-4.true))
    returns_5
    returns_6
    returns_7
    returns_8)
