use Rattle.std.proofs.Common.{sym, subst}
use Rattle.asl_macros.specs.Replacement.{Gives}
use Rattle.asl_macros.proofs.names.replace.Goals as goal

pub returns-then-stays : goal.returns-then-stays
returns-then-stays c = λ history tells. subst (Gives c.whole.result c.args.limit) (sym (c.stays.ensures c.if-stays.true c.args.within history tells)) c.whole.ensures
