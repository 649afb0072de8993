use Rattle.std.proofs.Common.{◌≡◌, Bool, true, false, refl}
use Rattle.std.specs.Prelude.{not}
use Rattle.asl_macros.specs.Table.{text_at}
use Rattle.asl_macros.proofs.Clear.{four_steps}
use Rattle.asl_macros.proofs.names.passes_four.Goals as goal

none : (b : Bool) → not b ≡ true → b ≡ false
none true e = absurd cc
none false e = refl

pub returns-in-len4-up-clause-clear : goal.returns-in-len4-up-clause-clear
returns-in-len4-up-clause-clear c = λ is before.
    let no : c.may_begin_any.result ≡ false = none c.may_begin_any.result is in
    four_steps (text_at c.args.macros.now) before c.args.text.now c.in-len4-up.len_at_least (c.may_begin_any.ensures.a no) (c.may_begin_any.ensures.b no) (c.may_begin_any.ensures.c no) (c.may_begin_any.ensures.d no)
