use Rattle.std.proofs.Common.{refl, arith}
use Rattle.acpi_names.proofs.Trees.{form_smaller}
use Rattle.asl_lower.proofs.Lowered.{args_are, no_args}
use Rattle.asl_lower.proofs.lower.operands.Goals as goal

pub returns-in-Form-clause-args : goal.returns-in-Form-clause-args
returns-in-Form-clause-args c = args_are c.args.term c.in-Form.op c.in-Form.args c.in-Form.body c.in-Form.is

pub returns-in-Form-clause-size : goal.returns-in-Form-clause-size
returns-in-Form-clause-size c = omega (arith, form_smaller c.args.term c.in-Form.op c.in-Form.args c.in-Form.body c.in-Form.args.items c.in-Form.body.items c.in-Form.is refl refl)

pub returns : goal.returns
returns c =
    let none = no_args c.new.result.items c.args.term c.new.ensures.items c.in_default.not-Form in record {
      args = none.0;
      size = omega (arith, none.1);
    }
