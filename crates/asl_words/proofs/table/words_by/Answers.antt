use Rattle.std.proofs.Common.{sym, ap, ◌∙◌, get_or, []}
use Rattle.asl_words.specs.Begun.{named_begun}
use Rattle.asl_words.proofs.Tables.{word_letters, word_at, lent_within, lent_past}
use Rattle.asl_words.proofs.table.words_by.Goals as goal

pub returns-in-Some-get : goal.returns-in-Some-get
unfolding word_letters
returns-in-Some-get c =
    ap (λ rows. named_begun rows c.args.text.now) (lent_within c.word_letters.result.now c.in-Some.place c.in-Some-get.rows.now c.in-Some-get.ensures.lookup.3.0 c.in-Some-get.ensures.lookup.1 ∙ ap (λ letters. get_or letters c.in-Some.place []) c.word_letters.ensures)
    ∙ word_at c.args.text.now c.in-Some.place (sym c.in-Some.ensures)

pub returns-in-None : goal.returns-in-None
unfolding word_letters
returns-in-None c =
    ap (λ rows. named_begun rows c.args.text.now) (lent_past c.word_letters.result.now c.in-Some.place c.in-None.ensures.lookup.3 ∙ ap (λ letters. get_or letters c.in-Some.place []) c.word_letters.ensures)
    ∙ word_at c.args.text.now c.in-Some.place (sym c.in-Some.ensures)
