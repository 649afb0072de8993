use Rattle.std.proofs.Common.{rules, subst, Some}
use Rattle.asl_macros.specs.Firsts.{Marks}
use Rattle.asl_macros.proofs.TableLaws.{tells_defined}
use Rattle.asl_macros.proofs.Marking.{marked_more}
use Rattle.asl_macros.proofs.table.Macros.define.Goals as goal

pub invariant_of-self : goal.invariant_of-self
invariant_of-self c =
    let marks : Marks c.args.self.now.firsts c.mark.new.firsts c.in_ok-name.name.items = subst (λ t. Marks c.args.self.now.firsts c.mark.new.firsts t) c.deref.ensures.value c.mark.ensures in
    record {
      marked = marked_more c.args.self.now.firsts c.mark.new.firsts c.args.self.now.table c.insert.new.self c.in_ok-name.name (Some c.in_ok-text.text) c.insert.result marks c.args.self.now.marked c.insert.ensures.updates c.insert.ensures.err;
    }

pub returns-clause-ok : goal.returns-clause-ok
returns-clause-ok c = λ history tells. tells_defined c.args.self.now _ history c.in_ok-name.name c.in_ok-text.text c.args.name.now c.args.text.now (search rules) (search rules) c.in_ok-insert.ensures.updates tells
