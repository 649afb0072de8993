use Rattle.std.proofs.Common.{◌≡◌, ◌++◌, ◌∷◌, List, Result, Ok, Err, refl, sym, ◌∙◌, subst}
use Rattle.std.specs.Prelude.{OnOk, IfErr}
use Rattle.std.proofs.lemmas.Result.{err_from_is_err_and}
use Rattle.iasl_messages.specs.declared.place.Place.{Place}
use Rattle.asl_lexer.specs.declared.mode.Mode.{Mode}
use Rattle.asl_lexer.specs.declared.mode.Mode.TheVariants as m
use Rattle.asl_lexer.specs.declared.token.Token.{Token}
use Rattle.asl_lexer.specs.Class.{class_of}
use Rattle.asl_lexer.specs.Scan.{MarkedByte, begin, step, scan, Fails}
use Rattle.asl_lexer.specs.Marks.{line_marks, break_mark}
use Rattle.asl_lexer.proofs.Steps.{scan_goes, scan_fails}
use Rattle.asl_lexer.proofs.cutter.next_line.Goals as goal

-- where no token is open, the end of a line changes nothing
stays : (at : Place) (done : List Token) → step m.Between at 10 done ≡ Ok (m.Between, done)
unfolding begin class_of
stays at done = refl

on_ok : {A E : Type 0} (r : Result A E) (P Q : Type 0) → (P → Q) → OnOk r P → OnOk r Q
on_ok (Ok x) P Q f p = f p
on_ok (Err e) P Q f p = tt

if_err : {A E : Type 0} (r : Result A E) (P Q : E → Type 0) → ((e : E) → P e → Q e) → IfErr r P → IfErr r Q
if_err (Ok x) P Q f p = tt
if_err (Err e) P Q f p = f e p

skips : (c : goal.After-scan_line) (rest : List MarkedByte)
    → scan (break_mark c.args.line.now ∷ line_marks c.args.line.now ++ rest) c.args.mode.now c.args.tokens.now ≡ scan (line_marks c.args.line.now ++ rest) c.args.mode.now c.args.tokens.now
skips c rest =
    let l = c.args.line.now in let old = c.args.tokens.now in
    subst (λ (mode : Mode). scan (break_mark l ∷ line_marks l ++ rest) mode old ≡ scan (line_marks l ++ rest) mode old) (sym c.in-Between.is)
    (scan_goes (break_mark l) (line_marks l ++ rest) m.Between m.Between old old (stays (break_mark l).place old))

pub returns-in-Between-clause-goes : goal.returns-in-Between-clause-goes
returns-in-Between-clause-goes c = on_ok c.scan_line.result _ _ (λ told rest ends. skips c rest ∙ told rest ends) c.scan_line.ensures.goes

pub returns-in-Between-clause-fails : goal.returns-in-Between-clause-fails
returns-in-Between-clause-fails c =
    if_err c.scan_line.result _ _ (λ stop told rest ends. subst (Fails stop) (sym (skips c rest)) (told rest ends)) c.scan_line.ensures.fails

pub returns-in_err-mode-clause-fails : goal.returns-in_err-mode-clause-fails
returns-in_err-mode-clause-fails c =
    let p = err_from_is_err_and c.from_residual.result c.from_residual.ensures.1 in let stop = c.in_err-mode.field-0.0 in
    let l = c.args.line.now in let old = c.args.tokens.now in
    let failed = subst (λ (mode : Mode). Fails stop (step mode (break_mark l).place 10 old)) c.replace.ensures.value c.in_err-mode.ensures in
    rw (p.1, p.2) (λ rest ends. scan_fails stop (break_mark l) (line_marks l ++ rest) c.args.mode.now old failed)

goes : (c : goal.After-scan_line-2) (rest : List MarkedByte)
    → scan (break_mark c.args.line.now ∷ line_marks c.args.line.now ++ rest) c.args.mode.now c.args.tokens.now ≡ scan (line_marks c.args.line.now ++ rest) c.in_ok-mode.field-0 c.step.new.tokens
goes c rest =
    let l = c.args.line.now in let old = c.args.tokens.now in
    let went = subst (λ (mode : Mode). step mode (break_mark l).place 10 old ≡ Ok (c.in_ok-mode.field-0, c.step.new.tokens)) c.replace.ensures.value c.in_ok-mode.ensures in
    scan_goes (break_mark l) (line_marks l ++ rest) c.args.mode.now c.in_ok-mode.field-0 old c.step.new.tokens went

pub returns-clause-goes : goal.returns-clause-goes
returns-clause-goes c = on_ok c.scan_line-2.result _ _ (λ told rest ends. goes c rest ∙ told rest ends) c.scan_line-2.ensures.goes

pub returns-clause-fails : goal.returns-clause-fails
returns-clause-fails c =
    if_err c.scan_line-2.result _ _ (λ stop told rest ends. subst (Fails stop) (sym (goes c rest)) (told rest ends)) c.scan_line-2.ensures.fails
