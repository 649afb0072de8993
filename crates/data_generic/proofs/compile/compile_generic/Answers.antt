use Rattle.std.proofs.Common.{◌≡◌, Ok, Err, sym, subst, ap, ◌∙◌}
use Rattle.std.proofs.lemmas.Result.{err_from_is_err_and}
use Rattle.std.specs.List.{All}
use Rattle.iasl_messages.specs.declared.message.Message.{Message}
use Rattle.data_text.specs.Source.{text_of}
use Rattle.data_tables.specs.declared.compiled.Compiled.{Compiled}
use Rattle.data_tables.specs.Promise.{AreWithin, IsPlaceIn}
use Rattle.data_generic.specs.Compiling.{generic_text}
use Rattle.data_generic.proofs.Homes.{generic_within, generic_tells}
use Rattle.data_generic.proofs.Law.{reads_compiled}
use Rattle.data_generic.proofs.Only.{only_compiled}
use Rattle.data_generic.proofs.compile.compile_generic.Goals as goal

pub returns-in-Ok-with_texts-clause-reads : goal.returns-in-Ok-with_texts-clause-reads
returns-in-Ok-with_texts-clause-reads c =
    reads_compiled c.args.lines.now.list c.as_slice-lines.result.now c.in_ok-table.table c.in-Ok-with_texts.table c.as_slice-lines.ensures (ap generic_text (sym c.in-Ok.ensures) ∙ c.in_ok-table.ensures) c.in-Ok-with_texts.ensures

pub returns-in-Ok-with_texts-clause-only : goal.returns-in-Ok-with_texts-clause-only
returns-in-Ok-with_texts-clause-only c =
    only_compiled c.args.lines.now.list c.as_slice-lines.result.now c.in_ok-table.table c.in-Ok-with_texts.table c.as_slice-lines.ensures (ap generic_text (sym c.in-Ok.ensures) ∙ c.in_ok-table.ensures) c.in-Ok-with_texts.ensures

pub returns-in-Ok-with_texts-clause-files : goal.returns-in-Ok-with_texts-clause-files
returns-in-Ok-with_texts-clause-files c = λ files main h.
    let text : c.in-Ok.text ≡ text_of c.args.lines.now.list = c.in-Ok.ensures ∙ ap text_of c.as_slice-lines.ensures in
    subst (AreWithin files) (sym (ap (λ (table : Compiled). table.notes) c.in-Ok-with_texts.ensures)) (generic_within files c.args.lines.now.list c.in-Ok.text (Ok c.in_ok-table.table) text c.in_ok-table.ensures main h)

pub returns-in_err-table-clause-files : goal.returns-in_err-table-clause-files
returns-in_err-table-clause-files c = λ files main h.
    let text : c.in-Ok.text ≡ text_of c.args.lines.now.list = c.in-Ok.ensures ∙ ap text_of c.as_slice-lines.ensures in
    let p = err_from_is_err_and c.from_residual.result c.from_residual.ensures.1 in
    rw (p.1, p.2) (generic_within files c.args.lines.now.list c.in-Ok.text (Err c.in_err-table.field-0.0) text c.in_err-table.ensures main h)

pub returns-in-Ok-with_texts-clause-told : goal.returns-in-Ok-with_texts-clause-told
returns-in-Ok-with_texts-clause-told c =
    let lines = c.args.lines.now.list in
    let text : c.in-Ok.text ≡ text_of lines = c.in-Ok.ensures ∙ ap text_of c.as_slice-lines.ensures in
    subst (λ notes. All (λ (m : Message). m.number ≡ 3005) notes × All (λ (m : Message). IsPlaceIn lines m.place) notes) (sym (ap (λ (table : Compiled). table.notes) c.in-Ok-with_texts.ensures)) (generic_tells lines c.in-Ok.text (Ok c.in_ok-table.table) text c.in_ok-table.ensures)

pub returns-in_err-table-clause-told : goal.returns-in_err-table-clause-told
returns-in_err-table-clause-told c =
    let lines = c.args.lines.now.list in
    let text : c.in-Ok.text ≡ text_of lines = c.in-Ok.ensures ∙ ap text_of c.as_slice-lines.ensures in
    let p = err_from_is_err_and c.from_residual.result c.from_residual.ensures.1 in
    rw (p.1, p.2) (generic_tells lines c.in-Ok.text (Err c.in_err-table.field-0.0) text c.in_err-table.ensures)
