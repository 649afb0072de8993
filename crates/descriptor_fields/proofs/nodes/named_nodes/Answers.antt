use Rattle.std.proofs.Common.{◌++◌, true, None, sym, ap, ◌∙◌, subst}
use Rattle.term_plans.specs.Plans.{plans_of}
use Rattle.descriptor_fields.specs.Nodes.{SaysAt, named_from, entries_among}
use Rattle.descriptor_fields.proofs.Said.{entries_say}
use Rattle.descriptor_fields.proofs.nodes.named_nodes.Goals as goal

pub returns : goal.returns
returns c =
    let ps = plans_of c.args.terms.now in
    subst (λ es. SaysAt es (named_from 0 ps)) (sym (c.in_ok-add_among.ensures ∙ ap (λ xs. xs ++ entries_among true None ps) c.new-named.ensures.items)) (entries_say ps)
