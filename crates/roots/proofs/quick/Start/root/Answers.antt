use Rattle.arithmetic.proofs.Kit.{subst, ℕ, ◌*◌, ◌≤◌, ◌<◌, add-one}
use Rattle.roots.proofs.Root.{root_unique}
use Rattle.roots.proofs.quick.Start.root.Goals as goal

-- what passes the two tests is the root
pub returns-then-n-square : goal.returns-then-n-square
returns-then-n-square c =
    let n = c.args.n in
    let r = c.near_root-r.result in
    root_unique n r
    (subst (λ (x : ℕ). x ≤ n) c.square.ensures c.if-square-n.true)
    (subst (λ (x : ℕ). n < x * x) (add-one r) (subst (λ (x : ℕ). n < x) c.square-then-square-n.ensures c.if-n-square.true))
