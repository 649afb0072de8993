use Rattle.std.proofs.Common.{◌+◌, ◌++◌, ◌∙◌, length, sym, ap, arith}
use Rattle.aml_sizes.specs.Capped.{capped}
use Rattle.aml_sizes.specs.Codes.{letters_of}
use Rattle.aml_sizes.specs.TermBytes.{nodes_bytes}
use Rattle.aml_sizes.specs.TermLists.{own_head}
use Rattle.aml_sizes.specs.PackageLengths.{head_lengths, nodes_lengths}
use Rattle.aml_sizes.proofs.NotedLengths.{noted_as}
use Rattle.aml_sizes.proofs.ListLengths.{one_package, one_head, else_if_op}
use Rattle.aml_sizes.proofs.else_if.own_size.Goals as goal

pub returns-then-is_else_if-clause-size : goal.returns-then-is_else_if-clause-size
returns-then-is_else_if-clause-size c =
    let op = else_if_op c.args.op (sym c.is_else_if.ensures ∙ c.if-is_else_if.true) in
    c.else_if_size.ensures.size ∙ ap (λ o. capped (length (own_head o (nodes_bytes c.args.style (letters_of o) c.args.args.now) c.args.body c.args.later) + c.args.body)) (sym op)

pub returns-then-is_else_if-clause-lengths : goal.returns-then-is_else_if-clause-lengths
returns-then-is_else_if-clause-lengths c =
    let op = else_if_op c.args.op (sym c.is_else_if.ensures ∙ c.if-is_else_if.true) in
    noted_as _ _ c.args.notes.now c.else_if_size.new.notes
    (ap (λ o. head_lengths o (nodes_bytes c.args.style (letters_of o) c.args.args.now) c.args.body c.args.later ++ nodes_lengths c.args.style (letters_of o) c.args.args.now) op) c.else_if_size.ensures.lengths

pub returns-else-is_else_if-clause-size : goal.returns-else-is_else_if-clause-size
returns-else-is_else_if-clause-size c =
    let one = one_head c.args.op (nodes_bytes c.args.style (letters_of c.args.op) c.args.args.now) c.args.body c.args.later (sym c.is_else_if.ensures ∙ c.if-is_else_if.false) in
    c.headed_size.ensures.size ∙ ap (λ bs. capped (length bs + c.args.body)) (sym one)

pub returns-else-is_else_if-clause-lengths : goal.returns-else-is_else_if-clause-lengths
returns-else-is_else_if-clause-lengths c =
    let one = one_package c.args.op (nodes_bytes c.args.style (letters_of c.args.op) c.args.args.now) c.args.body c.args.later (sym c.is_else_if.ensures ∙ c.if-is_else_if.false) in
    noted_as _ _ c.args.notes.now c.headed_size.new.notes
    (ap (λ ls. ls ++ nodes_lengths c.args.style (letters_of c.args.op) c.args.args.now) one) (c.headed_size.ensures.lengths c.args.body (omega arith))
