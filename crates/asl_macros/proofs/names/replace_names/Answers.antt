use Rattle.std.proofs.Common.{◌∙◌}
use Rattle.std.proofs.lemmas.Result.{err_from_is_err_and}
use Rattle.asl_macros.proofs.Values.{whole_is, too_long_whole}
use Rattle.asl_macros.proofs.names.replace_names.Goals as goal

pub returns-in_err-add_text : goal.returns-in_err-add_text
returns-in_err-add_text c = λ history tells.
    let p = err_from_is_err_and c.from_residual.result c.from_residual.ensures.1 in
    let whole = whole_is c.args.macros.now history c.args.within c.args.in_comment c.args.text.now c.new-out.result.items c.new-active.result.items tells c.new-out.ensures.items c.new-active.ensures.items in
    rw (p.1, p.2) (too_long_whole c.in_err-add_text.field-0.0 c.args.limit c.new-out.result.items c.add_text.new.out.items _ _ c.in_err-add_text.ensures.added whole)

pub returns : goal.returns
returns c = λ history tells.
    let whole = whole_is c.args.macros.now history c.args.within c.args.in_comment c.args.text.now c.new-out.result.items c.new-active.result.items tells c.new-out.ensures.items c.new-active.ensures.items in
    (c.in_ok-add_text.ensures.added.0 ∙ whole, c.in_ok-add_text.ensures.added.1)
