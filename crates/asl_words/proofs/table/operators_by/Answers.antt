use Rattle.std.proofs.Common.{sym, ap, ◌∙◌, get_or, []}
use Rattle.asl_words.specs.Begun.{row_begun}
use Rattle.asl_words.proofs.Tables.{operator_letters, operator_at, lent_within, lent_past}
use Rattle.asl_words.proofs.table.operators_by.Goals as goal

pub returns-then-is_numbered : goal.returns-then-is_numbered
unfolding row_begun
returns-then-is_numbered c = sym (c.is_numbered.ensures c.if-is_numbered.true)

pub returns-in-Some-get : goal.returns-in-Some-get
unfolding operator_letters
returns-in-Some-get c =
    ap (λ rows. row_begun rows c.args.word.now) (lent_within c.operator_letters.result.now c.in-Some.place c.in-Some-get.rows.now c.in-Some-get.ensures.lookup.3.0 c.in-Some-get.ensures.lookup.1 ∙ ap (λ letters. get_or letters c.in-Some.place []) c.operator_letters.ensures)
    ∙ operator_at c.args.word.now c.in-Some.place (sym c.in-Some.ensures)

pub returns-in-None : goal.returns-in-None
unfolding operator_letters
returns-in-None c =
    ap (λ rows. row_begun rows c.args.word.now) (lent_past c.operator_letters.result.now c.in-Some.place c.in-None.ensures.lookup.3 ∙ ap (λ letters. get_or letters c.in-Some.place []) c.operator_letters.ensures)
    ∙ operator_at c.args.word.now c.in-Some.place (sym c.in-Some.ensures)
