use Rattle.std.proofs.Common.{◌≡◌, ◌+◌, ◌++◌, [], ◌∷◌, length, sym, ap, ◌∙◌, arith, length-append}
use Rattle.core_nodes.proofs.Terms.{text_alone, fill_alone, other_alone}
use Rattle.core_nodes.proofs.count.bytes_alone.Goals as goal

pub returns-in-Text : goal.returns-in-Text
returns-in-Text c =
    let same = ap length c.as_bytes.ensures in
    let more : length (c.in-Text.text ++ 0 ∷ []) ≡ length c.in-Text.text + 1 = length-append c.in-Text.text (0 ∷ []) in
    let all = ap length (text_alone c.args.node.now c.in-Text.text c.in-Text.is) in
    omega (arith, same, more, all)

pub returns-in-Fill : goal.returns-in-Fill
returns-in-Fill c = ap length c.as_bytes-in-Fill.ensures ∙ sym (ap length (fill_alone c.args.node.now c.in-Fill.bytes c.in-Fill.named c.in-Fill.is))

pub returns-in_default : goal.returns-in_default
returns-in_default c = sym (other_alone c.args.node.now c.in_default.not-Text c.in_default.not-Fill)
