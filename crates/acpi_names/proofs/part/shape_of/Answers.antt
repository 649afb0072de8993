use Rattle.std.proofs.Common.{sym, ap, ◌∙◌, arith}
use Rattle.asl_tree.specs.View.{trees_of}
use Rattle.acpi_names.specs.Walked.{term_shape, OfForm, OfCall}
use Rattle.acpi_names.proofs.Trees.{form_rows, call_rows, form_smaller, call_smaller}
use Rattle.acpi_names.proofs.part.shape_of.Goals as goal

pub returns-in-Call-clause-shape : goal.returns-in-Call-clause-shape
returns-in-Call-clause-shape c =
    ap (λ ns. OfCall c.in-Call.path (trees_of ns)) c.deref.ensures.value ∙ sym (call_rows c.in-Call.path c.in-Call.args) ∙ ap term_shape (sym c.in-Call.is)

pub returns-in-Call-clause-size : goal.returns-in-Call-clause-size
returns-in-Call-clause-size c =
    omega (arith, call_smaller c.args.term.now c.in-Call.path c.in-Call.args c.deref.result.now c.in-Call.is c.deref.ensures.value)

pub returns-in-Form-clause-shape : goal.returns-in-Form-clause-shape
returns-in-Form-clause-shape c =
    ap (λ ns. OfForm c.in-Form.op (trees_of ns) (trees_of c.deref-in-Form-2.result.now)) c.deref-in-Form.ensures.value
    ∙ ap (λ ns. OfForm c.in-Form.op (trees_of c.in-Form.args.items) (trees_of ns)) c.deref-in-Form-2.ensures.value
    ∙ sym (form_rows c.in-Form.op c.in-Form.args c.in-Form.body) ∙ ap term_shape (sym c.in-Form.is)

pub returns-in-Form-clause-size : goal.returns-in-Form-clause-size
returns-in-Form-clause-size c =
    omega (arith, form_smaller c.args.term.now c.in-Form.op c.in-Form.args c.in-Form.body c.deref-in-Form.result.now c.deref-in-Form-2.result.now c.in-Form.is c.deref-in-Form.ensures.value c.deref-in-Form-2.ensures.value)
