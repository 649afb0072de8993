use Rattle.std.proofs.Common.{◌-◌, ◌∙◌, sym, arith}
use Rattle.aml_sizes.proofs.FieldLists.{behind_next_offset, behind_next_own}
use Rattle.aml_sizes.proofs.item_sizes.bit_before.Goals as goal

pub returns-in-Some : goal.returns-in-Some
returns-in-Some c =
    let here = behind_next_offset c.args.nodes.now (c.loop-left.left - 1) c.loop-left.left c.index-nodes-left.result c.in-Some.start (omega arith) (omega arith) (sym c.offset_of.ensures.value ∙ c.in-Some.is) in
    omega (arith, here, c.loop-left.invariant.bits)

pub loop-left-preserved : goal.loop-left-preserved
loop-left-preserved c =
    let here = behind_next_own c.args.nodes.now (c.loop-left.left - 1) c.loop-left.left c.index-nodes-left.result c.index-nodes-left-in-loop-left.result (omega arith) (omega arith) (sym c.offset_of.ensures.value ∙ c.in_default.is) in
    record {
      within = omega arith;
      bound = omega (arith, c.bits_of-bits.ensures.few, c.loop-left.invariant.bound);
      bits = omega (arith, here, c.bits_of-bits.ensures.value, c.loop-left.invariant.bits);
    }
