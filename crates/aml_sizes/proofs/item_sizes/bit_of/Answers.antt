use Rattle.std.proofs.Common.{◌∙◌, get_or, take, sym, ap}
use Rattle.aml_sizes.specs.Items.{written_term, behind_items}
use Rattle.aml_sizes.proofs.FieldLists.{item_is, written_anywhere}
use Rattle.aml_sizes.proofs.item_sizes.bit_of.Goals as goal

pub returns-in-Some : goal.returns-in-Some
returns-in-Some c = λ d. ap (λ n. written_term n (get_or c.args.nodes.now c.args.index d).term) c.bit_before.ensures ∙ sym (item_is 0 c.args.nodes.now c.args.index d c.requires)

pub returns-in-None : goal.returns-in-None
returns-in-None c = λ d.
    written_anywhere c.args.nodes.now c.args.index d c.index-nodes-index.result 0 (behind_items 0 (take c.args.index c.args.nodes.now)) c.requires (sym c.offset_of.ensures.value ∙ c.in-None.is)
    ∙ sym (item_is 0 c.args.nodes.now c.args.index d c.requires)
