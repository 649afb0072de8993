-- Words that begin with neither I nor E are no If and no ElseIf.
use Rattle.std.proofs.Common.{◌≡◌, ◌⊎◌, inl, inr, ℕ, Bool, true, false, List, [], ◌∷◌, Option, Some, None, take, drop, length, refl, ap, ◌∙◌}
use Rattle.std.specs.Prelude.{◌==◌, ◌&&◌, ◌||◌, not, nat_eq, nat_le, cond, if◌then◌else◌}
use Rattle.std.specs.List.{list_all, find}
use Rattle.std.specs.Cmp.Lexicographic.{pointwise}
use Rattle.std.proofs.lemmas.Bool.{eqb-true}
use Rattle.acpi_state.specs.Outcomes.{choose}
use Rattle.asl_tree.specs.declared.term.Op.{Op}
use Rattle.asl_tree.specs.declared.term.Control.{Control}
use Rattle.asl_words.specs.declared.operator.Operator.{Operator}
use Rattle.asl_words.specs.declared.operator.Known.{Known}
use Rattle.asl_words.specs.declared.operator.Known.TheVariants as known
use Rattle.word_meanings.specs.declared.meaning.Meaning.{Meaning}
use Rattle.word_meanings.specs.declared.meaning.Meaning.TheVariants as is
use Rattle.asl_words.specs.Operators.{operators, row_in, is_filled, op_in, operator_of, word_of}
use Rattle.asl_words.specs.Paths.{is_path}
use Rattle.word_meanings.specs.Meanings.{known_as, name_or_unknown, meaning_of, may_run, run_behind}

-- an operator that goes on with a run, or begins one
abbrev is_run : Op → Bool
is_run (Op.Control Control.If) = true
is_run (Op.Control Control.ElseIf) = true
is_run op = false

runs_by_letters : list_all (λ row. not (is_run row.op) || may_run row.word) operators ≡ true
unfolding operators
runs_by_letters = refl

-- bytes that are a word begin as it does
alike : (bytes : List ℕ) (letter : ℕ) (letters : List ℕ) → is_filled bytes (letter ∷ letters) ≡ true → may_run (letter ∷ letters) ≡ false → may_run bytes ≡ false
alike [] letter letters f e = absurd (cc)
alike (b ∷ bytes) letter letters f e = by (nat_eq b letter) refl f
  where
    by : (same : Bool) → nat_eq b letter ≡ same → ((same && pointwise nat_eq (take (length letters) bytes) letters) && list_all (λ c. c == 32) (drop (length letters) bytes)) ≡ true → may_run (b ∷ bytes) ≡ false
    by true h g = ap (λ n. n == 73 || n == 69) (eqb-true b letter h) ∙ e
    by false h g = absurd (cc)

none_runs : (rows : List Operator) (letter : ℕ) (letters : List ℕ) → list_all (λ row. not (is_run row.op) || may_run row.word) rows ≡ true → may_run (letter ∷ letters) ≡ false
    → choose (op_in (find (λ row. is_filled row.word (letter ∷ letters)) rows)) false is_run ≡ false
none_runs [] letter letters h e = refl
none_runs (row ∷ rows) letter letters h e = by (is_filled row.word (letter ∷ letters)) refl (is_run row.op) refl h (λ g. none_runs rows letter letters g e)
  where
    rest : (b : Bool) → (b && list_all (λ row. not (is_run row.op) || may_run row.word) rows) ≡ true → list_all (λ row. not (is_run row.op) || may_run row.word) rows ≡ true
    rest true g = g
    rest false g = absurd (cc)

    by : (filled : Bool) → is_filled row.word (letter ∷ letters) ≡ filled → (runs : Bool) → is_run row.op ≡ runs
        → ((not runs || may_run row.word) && list_all (λ row. not (is_run row.op) || may_run row.word) rows) ≡ true
        → (list_all (λ row. not (is_run row.op) || may_run row.word) rows ≡ true → choose (op_in (find (λ row. is_filled row.word (letter ∷ letters)) rows)) false is_run ≡ false)
        → choose (op_in (cond filled (Some row) (find (λ row. is_filled row.word (letter ∷ letters)) rows))) false is_run ≡ false
    by true f false r g later = r
    by true f true r g later = let no = alike row.word letter letters f e in absurd (cc)
    by false f runs r g later = later (rest (not runs || may_run row.word) g)

no_run : (run : Option ℕ) (op : Op) → is_run op ≡ false → run_behind run (is.Operator op) ≡ None
no_run run (Op.Control Control.If) e = absurd (cc)
no_run run (Op.Control Control.ElseIf) e = absurd (cc)
no_run run op e = refl

known_runs_not : (run : Option ℕ) (k : Known) → run_behind run (known_as k) ≡ None
known_runs_not run known.LeftOut = refl
known_runs_not run (known.Element e) = refl
known_runs_not run (known.Macro m) = refl
known_runs_not run known.Template = refl
known_runs_not run (known.Descriptor d) = refl
known_runs_not run k = refl

name_runs_not : (run : Option ℕ) (text : List ℕ) (has_body : Bool) → run_behind run (name_or_unknown text has_body) ≡ None
name_runs_not run text has_body = by (is_path text) (nat_le (length text) 4 && not has_body)
  where
    by : (path named : Bool) → run_behind run (if path then is.Path else (if named then is.Name else is.Unknown)) ≡ None
    by true named = refl
    by false true = refl
    by false false = refl

other_runs_not : (run : Option ℕ) (o : Option Known) (text : List ℕ) (has_body : Bool) → run_behind run (choose o (name_or_unknown text has_body) known_as) ≡ None
other_runs_not run None text has_body = name_runs_not run text has_body
other_runs_not run (Some k) text has_body = known_runs_not run k

-- what such a word is begins no run and goes on with none
pub runs_not : (run : Option ℕ) (text : List ℕ) (has_body : Bool) → may_run text ≡ false → run_behind run (meaning_of text has_body) ≡ None
unfolding operator_of row_in
runs_not run [] has_body e = absurd (cc)
runs_not run (letter ∷ letters) has_body e = by (op_in (row_in operators (letter ∷ letters))) (none_runs operators letter letters runs_by_letters e)
  where
    by : (o : Option Op) → choose o false is_run ≡ false → run_behind run (choose o (choose (word_of (letter ∷ letters)) (name_or_unknown (letter ∷ letters) has_body) known_as) is.Operator) ≡ None
    by None h = other_runs_not run (word_of (letter ∷ letters)) (letter ∷ letters) has_body
    by (Some op) h = no_run run op h
