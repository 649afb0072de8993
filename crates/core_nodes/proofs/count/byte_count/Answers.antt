use Rattle.std.proofs.Common.{◌≡◌, length, ◌∙◌, arith}
use Rattle.core_nodes.proofs.Terms.{one_byte, other_bytes}
use Rattle.core_nodes.proofs.count.byte_count.Goals as goal

pub returns-in-len1 : goal.returns-in-len1
returns-in-len1 c = c.bytes_alone.ensures ∙ one_byte c.args.body.now c.node-item.result (omega (arith, c.in-len1.len_at_least, c.in-len1.len_below)) c.node-item.is

pub returns-in_default : goal.returns-in_default
returns-in_default c =
    let others : length c.args.body.now ≡ 1 → ⊥ = λ one. omega (arith, one, c.in_default.len_below) in
    other_bytes c.args.body.now others

pub returns-in_default-2 : goal.returns-in_default-2
returns-in_default-2 c =
    let others : length c.args.body.now ≡ 1 → ⊥ = λ one. omega (arith, one, c.in_default.len_at_least) in
    other_bytes c.args.body.now others
