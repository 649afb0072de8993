use Rattle.std.proofs.Common.{refl, ◌≡◌, true, false, ◌==◌, length, Some, ap, arith}
use Rattle.std.proofs.lemmas.Grind.{common_steps}
use Rattle.std.specs.Str.{is_utf8}
use Rattle.asl_directives.proofs.Texts.{tests_utf8, tests_other}
use Rattle.asl_directives.proofs.forms.file_name.Goals as goal

pub returns-in-Ok : goal.returns-in-Ok
returns-in-Ok c =
    let e : is_utf8 c.args.bytes.now ≡ true = tests_utf8 c.args.bytes.now c.in-Ok.ensures.cases.1 in
    let some : (length c.args.bytes.now == 0) ≡ false = grind (arith, common_steps) in
    rw (some, e) (ap Some c.in-Ok.ensures.cases.0)

pub returns-in-Err : goal.returns-in-Err
returns-in-Err c =
    let e : is_utf8 c.args.bytes.now ≡ false = tests_other c.args.bytes.now c.in-Err.ensures.cases.0 in
    let some : (length c.args.bytes.now == 0) ≡ false = grind (arith, common_steps) in
    rw (some, e) refl
