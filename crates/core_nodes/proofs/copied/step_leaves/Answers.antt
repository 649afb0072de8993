use Rattle.std.proofs.Common.{◌≡◌, ◌<◌, ◌-◌, ◌^◌, min, length, sym, ap, ◌∙◌, arith}
use Rattle.core_nodes.specs.Weights.{integer_weight}
use Rattle.core_nodes.proofs.Terms.{step_there, no_step}
use Rattle.core_nodes.proofs.Walks.{whole_at}
use Rattle.core_nodes.proofs.copied.step_leaves.Goals as goal

pub returns-in-len3 : goal.returns-in-len3
returns-in-len3 c = λ w.
    let three : length c.args.args.now ≡ 3 = omega (arith, c.in-len3.len_at_least, c.in-len3.len_below) in
    let lt : 2 < length c.args.args.now = omega (arith, three) in
    c.leaves_of.ensures (whole_at c.args.args.now 2 c.step-item.result lt c.step-item.is w) ∙ ap (λ n. min n (2 ^ 64 - 1)) (sym (step_there (integer_weight c.args.fold) c.args.args.now c.step-item.result three c.step-item.is))

pub returns-in_default : goal.returns-in_default
returns-in_default c = λ w.
    let others : length c.args.args.now ≡ 3 → ⊥ = λ three. omega (arith, three, c.in_default.len_below) in
    ap (λ n. min n (2 ^ 64 - 1)) (sym (no_step (integer_weight c.args.fold) c.args.args.now others))

pub returns-in_default-2 : goal.returns-in_default-2
returns-in_default-2 c = λ w.
    let others : length c.args.args.now ≡ 3 → ⊥ = λ three. omega (arith, three, c.in_default.len_at_least) in
    ap (λ n. min n (2 ^ 64 - 1)) (sym (no_step (integer_weight c.args.fold) c.args.args.now others))
