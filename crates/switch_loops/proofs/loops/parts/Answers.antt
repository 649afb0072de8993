use Rattle.std.proofs.Common.{refl, arith}
use Rattle.acpi_names.proofs.Trees.{form_smaller}
use Rattle.switch_loops.proofs.Keeping.{switch_long, switch_tree, switch_places, no_switch_here}
use Rattle.switch_loops.proofs.loops.parts.Goals as goal

pub only-requires : goal.only-requires
only-requires c = switch_long (record { id = c.args.node.id; place = c.args.node.place }) c.args.node.term c.in-Form.op c.in-Form.args c.in-Form.body c.in-Form.is c.requires

pub returns-in-Form : goal.returns-in-Form
returns-in-Form c = record {
  tree = switch_tree (record { id = c.args.node.id; place = c.args.node.place }) c.args.node.term c.in-Form.op c.in-Form.args c.in-Form.body c.in-Form.is c.requires c.only.result c.only.ensures;
  places = λ inside. switch_places (record { id = c.args.node.id; place = c.args.node.place }) c.args.node.term c.in-Form.op c.in-Form.args c.in-Form.body c.in-Form.is c.requires inside c.args.node.place;
  size = let size = form_smaller c.args.node.term c.in-Form.op c.in-Form.args c.in-Form.body _ _ c.in-Form.is refl refl in omega (arith, size);
}

pub returns-in_default : goal.returns-in_default
returns-in_default c = absurd (no_switch_here c.args.node.term c.in_default.not-Form c.requires)
