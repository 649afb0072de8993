use Rattle.std.proofs.Common.{sym, ap, ◌∙◌}
use Rattle.std.proofs.lemmas.Result.{IfOk-weaker}
use Rattle.data_tables.specs.Compiling.{sealed}
use Rattle.data_generic.proofs.Templates.{template_compiles}
use Rattle.data_generic.proofs.OneTemplate.{template_reads, template_one}
use Rattle.data_generic.proofs.template.default_lines.Goals as goal

pub returns-in_ok-unsealed-in-Some-clause-compiles : goal.returns-in_ok-unsealed-in-Some-clause-compiles
returns-in_ok-unsealed-in-Some-clause-compiles c =
    IfOk-weaker c.seal.result _ _ (λ pieces e. template_compiles c.args.signature.now c.in-Some.table pieces (sym c.table_of.ensures ∙ c.in-Some.is) (e ∙ ap sealed c.in_ok-unsealed-in-Some.ensures)) c.seal.ensures.sealed

pub returns-in_ok-unsealed-in-Some-clause-reads : goal.returns-in_ok-unsealed-in-Some-clause-reads
returns-in_ok-unsealed-in-Some-clause-reads c =
    IfOk-weaker c.seal.result _ _ (λ pieces e. template_reads c.args.signature.now c.in-Some.table pieces (sym c.table_of.ensures ∙ c.in-Some.is) (e ∙ ap sealed c.in_ok-unsealed-in-Some.ensures)) c.seal.ensures.sealed

pub returns-in_ok-unsealed-in-Some-clause-one : goal.returns-in_ok-unsealed-in-Some-clause-one
returns-in_ok-unsealed-in-Some-clause-one c =
    IfOk-weaker c.seal.result _ _ (λ pieces e. template_one c.args.signature.now c.in-Some.table pieces (sym c.table_of.ensures ∙ c.in-Some.is) (e ∙ ap sealed c.in_ok-unsealed-in-Some.ensures)) c.seal.ensures.sealed
