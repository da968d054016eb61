-- A double between two others lies on one side of any double between them, and so in one of six parts. Assumes nothing.
use Rattle.exact.proofs.Kit.{◌≡◌, refl, sym, subst, Bool, true, false, T, Float, lt, eq, le, or_left, numbers-of-le, less-of_not_le, Between}

le_of_lt : (x y : Float) → T (lt x y) → T (le x y)
unfolding le
le_of_lt x y = or_left (lt x y) (eq x y)

module _ {P : Type 0} (x : Float) where
  pub side : (lo mid hi : Float) → T (le lo mid) → (Between lo mid x → P) → (Between mid hi x → P) → Between lo hi x → P
  side lo mid hi order first second r = go (le x mid) refl
    where
      go : (c : Bool) → le x mid ≡ c → P
      go true e = first (record { double = r.double; low = r.low; high = subst T (sym e) tt })
      go false e = second (record { double = r.double; low = le_of_lt mid x (less-of_not_le mid x (numbers-of-le lo mid order).1 (numbers-of-le lo x r.low).1 (λ (l : T (le x mid)). subst T e l)); high = r.high })

  pub in_parts : (a b c d e f g : Float) → T (le a b) → T (le b c) → T (le c d) → T (le d e) → T (le e f) → (Between a b x → P) → (Between b c x → P) → (Between c d x → P) → (Between d e x → P) → (Between e f x → P) → (Between f g x → P) → Between a g x → P
  in_parts a b c d e f g ab bc cd de ef first second third fourth fifth sixth = side a b g ab first (side b c g bc second (side c d g cd third (side d e g de fourth (side e f g ef fifth sixth))))
