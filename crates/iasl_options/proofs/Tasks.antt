-- What words ask for by the exact definition is their task, and the number that is told of others is that of the word that spoils them.
use Rattle.std.proofs.Common.{◌≡◌, ℕ, suc, ◌+◌, length, codes, Bool, true, false, cond, List, [], ◌∷◌, ◌++◌, take, Option, Some, None, Result, Ok, Err, refl, sym, ap, ◌∙◌, subst, arith}
use Rattle.std.specs.Prelude.{decimal, IfOk}
use Rattle.std.specs.Str.{bytes_eq}
use Rattle.std.proofs.lemmas.Slice.Eq.{bytes_eq-Decides}
use Rattle.iasl_options.specs.declared.request.WordsStop.{WordsStop}
use Rattle.iasl_options.specs.declared.request.WordsStop.TheVariants as stop
use Rattle.iasl_options.specs.declared.task.Task as code
use Rattle.iasl_options.specs.Asking.{Asked, asked_by}
use Rattle.iasl_options.specs.CommandLine.{IsCommandLine, HasHope, IsHopeless, IsOffending, hopeless, ended}
use Rattle.iasl_options.specs.Shown.{IfBad}
use Rattle.data_layout.specs.declared.table.Table.{Table}
use Rattle.data_layout.specs.declared.table.Table.TheVariants as t
use Rattle.iasl_options.specs.Task.{Task, Compiles, Generates, Templates, generate_word, template_word, IsTask, count_in, counted_by, generated_by, table_in, templated_by, template_by, compiled_by, task_by}
use Rattle.iasl_options.specs.TaskShown.{shown_task, TaskAnswers}
use Rattle.iasl_options.proofs.CommandLines.{line_from, line_to}
use Rattle.iasl_options.proofs.Offending.{offending}
use Rattle.iasl_options.proofs.OneOffending.{one_offending, no_line}
use Rattle.iasl_options.proofs.Counts.{counted, counting}

-- the option of generated devices begins no command line
no_such_line : (words : List (List ℕ)) (asked : Asked) → IsCommandLine (generate_word ∷ words) asked → ⊥
no_such_line words asked line =
    let found : asked_by (generate_word ∷ words) ≡ Ok asked = line_to (generate_word ∷ words) asked line in
    let spoilt : asked_by (generate_word ∷ words) ≡ Err 0 = refl in
    cc

-- nor does that of templates
no_template_line : (words : List (List ℕ)) (asked : Asked) → IsCommandLine (template_word ∷ words) asked → ⊥
no_template_line words asked line =
    let found : asked_by (template_word ∷ words) ≡ Ok asked = line_to (template_word ∷ words) asked line in
    let spoilt : asked_by (template_word ∷ words) ≡ Err 0 = refl in
    cc

-- ---- what is found is asked for

compiled_from : (words : List (List ℕ)) (r : Result Asked ℕ) (task : Task) → asked_by words ≡ r → compiled_by r ≡ Ok task → IsTask words task
compiled_from words (Ok asked) task is e =
    let same : Compiles asked ≡ task = cc in
    subst (IsTask words) same (line_from words asked is)
compiled_from words (Err number) task is e = absurd cc

counted_from : (word : List ℕ) (words : List (List ℕ)) (o : Option ℕ) (task : Task) → count_in word ≡ o → counted_by o words ≡ Ok task → IsTask (generate_word ∷ word ∷ words) task
counted_from word words None task is e = absurd cc
counted_from word [] (Some count) task is e =
    let same : Generates count ≡ task = cc in
    let k = counted word count is in
    subst (IsTask (generate_word ∷ word ∷ [])) same (k.0, k.1, ap (λ w. generate_word ∷ w ∷ []) k.2)
counted_from word (other ∷ words) (Some count) task is e = absurd cc

generated_from : (words : List (List ℕ)) (task : Task) → generated_by words ≡ Ok task → IsTask (generate_word ∷ words) task
generated_from [] task e = absurd cc
generated_from (word ∷ words) task e = counted_from word words (count_in word) task refl e

templated_from : (word : List ℕ) (words : List (List ℕ)) (o : Option Table) (task : Task) → table_in word ≡ o → templated_by o words ≡ Ok task → IsTask (template_word ∷ word ∷ words) task
templated_from word words None task is e = absurd cc
templated_from word [] (Some table) task is e =
    let same : Templates table ≡ task = cc in
    subst (IsTask (template_word ∷ word ∷ [])) same (word, is, refl)
templated_from word (other ∷ words) (Some table) task is e = absurd cc

template_from : (words : List (List ℕ)) (task : Task) → template_by words ≡ Ok task → IsTask (template_word ∷ words) task
template_from [] task e = absurd cc
template_from (word ∷ words) task e = templated_from word words (table_in word) task refl e

is_template : (word : List ℕ) → bytes_eq word template_word ≡ true → template_word ≡ word
is_template word e = sym ((bytes_eq-Decides word template_word).0 e)

is_option : (word : List ℕ) → bytes_eq word generate_word ≡ true → generate_word ≡ word
is_option word e = sym ((bytes_eq-Decides word generate_word).0 e)

pub task_from : (words : List (List ℕ)) (task : Task) → task_by words ≡ Ok task → IsTask words task
task_from [] task e = compiled_from [] (asked_by []) task refl e
task_from (word ∷ words) task e = by_word (bytes_eq word generate_word) refl e
  where
    by_template : (b : Bool) → bytes_eq word template_word ≡ b → cond b (template_by words) (compiled_by (asked_by (word ∷ words))) ≡ Ok task → IsTask (word ∷ words) task
    by_template true is k = subst (λ w. IsTask (w ∷ words) task) (is_template word is) (template_from words task k)
    by_template false is k = compiled_from (word ∷ words) (asked_by (word ∷ words)) task refl k

    by_word : (b : Bool) → bytes_eq word generate_word ≡ b → cond b (generated_by words) (cond (bytes_eq word template_word) (template_by words) (compiled_by (asked_by (word ∷ words)))) ≡ Ok task → IsTask (word ∷ words) task
    by_word true is k = subst (λ w. IsTask (w ∷ words) task) (is_option word is) (generated_from words task k)
    by_word false is k = by_template (bytes_eq word template_word) refl k

-- ---- what is asked for is found

pub task_to : (words : List (List ℕ)) (task : Task) → IsTask words task → task_by words ≡ Ok task
task_to [] (Compiles asked) line = ap compiled_by (line_to [] asked line)
task_to (word ∷ words) (Compiles asked) line = by_word (bytes_eq word generate_word) refl
  where
    by_template : (b : Bool) → bytes_eq word template_word ≡ b → cond b (template_by words) (compiled_by (asked_by (word ∷ words))) ≡ Ok (Compiles asked)
    by_template true is = absurd (no_template_line words asked (subst (λ w. IsCommandLine (w ∷ words) asked) (sym (is_template word is)) line))
    by_template false is = ap compiled_by (line_to (word ∷ words) asked line)

    by_word : (b : Bool) → bytes_eq word generate_word ≡ b → cond b (generated_by words) (cond (bytes_eq word template_word) (template_by words) (compiled_by (asked_by (word ∷ words)))) ≡ Ok (Compiles asked)
    by_word true is = absurd (no_such_line words asked (subst (λ w. IsCommandLine (w ∷ words) asked) (sym (is_option word is)) line))
    by_word false is = by_template (bytes_eq word template_word) refl
task_to words (Generates count) h = ap task_by h.2 ∙ ap (λ o. counted_by o []) (counting count h.0 h.1)
task_to words (Templates table) h = ap task_by h.2 ∙ ap (λ o. templated_by o []) h.1

-- ---- the word that spoils words

some_hope : HasHope IsTask (generate_word ∷ [])
some_hope = (decimal 1 ∷ [], Generates 1, (omega arith, omega arith, refl))

alone : (task : Task) → IsTask (generate_word ∷ []) task → ⊥
alone (Compiles asked) line = no_such_line [] asked line
alone (Generates count) h = let e = h.2 in cc
alone (Templates table) h = let e : generate_word ∷ [] ≡ template_word ∷ h.0 ∷ [] = h.2 in cc

-- the two options differ
other_option : (word : List ℕ) (words : List (List ℕ)) → generate_word ∷ words ≡ template_word ∷ word ∷ [] → ⊥
other_option word words e = let same : generate_word ≡ template_word = cc in let length_is : ◌≡◌ {A = ℕ} 10 2 = ap length same in cc

other_way : (count : ℕ) (words : List (List ℕ)) → template_word ∷ words ≡ generate_word ∷ decimal count ∷ [] → ⊥
other_way count words e = let same : template_word ≡ generate_word = cc in let length_is : ◌≡◌ {A = ℕ} 2 10 = ap length same in cc

no_count : (word : List ℕ) → count_in word ≡ None → IsHopeless IsTask (generate_word ∷ word ∷ [])
no_count word none more (Compiles asked) line = no_such_line (word ∷ more) asked line
no_count word none more (Generates count) h =
    let e : generate_word ∷ word ∷ more ≡ generate_word ∷ decimal count ∷ [] = h.2 in
    let same : word ≡ decimal count = cc in
    let found : count_in word ≡ Some count = ap count_in same ∙ counting count h.0 h.1 in
    cc
no_count word none more (Templates table) h = absurd (other_option h.0 (word ∷ more) h.2)

too_many : (word other : List ℕ) → IsHopeless IsTask (generate_word ∷ word ∷ other ∷ [])
too_many word other more (Compiles asked) line = no_such_line (word ∷ other ∷ more) asked line
too_many word other more (Generates count) h =
    let e : generate_word ∷ word ∷ other ∷ more ≡ generate_word ∷ decimal count ∷ [] = h.2 in
    cc
too_many word other more (Templates table) h = absurd (other_option h.0 (word ∷ other ∷ more) h.2)

counted_spoils : (word : List ℕ) (words : List (List ℕ)) (o : Option ℕ) (number : ℕ) → count_in word ≡ o → counted_by o words ≡ Err number → IsOffending IsTask (generate_word ∷ word ∷ words) number
counted_spoils word words None number is e =
    let same : 1 ≡ number = cc in
    subst (IsOffending IsTask (generate_word ∷ word ∷ words)) same (hopeless (omega arith) some_hope (no_count word is))
counted_spoils word [] (Some count) number is e = absurd cc
counted_spoils word (other ∷ words) (Some count) number is e =
    let same : 2 ≡ number = cc in
    let k = counted word count is in
    subst (IsOffending IsTask (generate_word ∷ word ∷ other ∷ words)) same
    (hopeless (omega arith) ([], Generates count, (k.0, k.1, ap (λ w. generate_word ∷ w ∷ []) k.2)) (too_many word other))

generated_spoils : (words : List (List ℕ)) (number : ℕ) → generated_by words ≡ Err number → IsOffending IsTask (generate_word ∷ words) number
generated_spoils [] number e =
    let same : 1 ≡ number = cc in
    subst (IsOffending IsTask (generate_word ∷ [])) same (ended refl some_hope alone)
generated_spoils (word ∷ words) number e = counted_spoils word words (count_in word) number refl e

-- the same of templates
some_template : HasHope IsTask (template_word ∷ [])
some_template = (codes "HPET" ∷ [], Templates t.Hpet, (codes "HPET", refl, refl))

template_alone : (task : Task) → IsTask (template_word ∷ []) task → ⊥
template_alone (Compiles asked) line = no_template_line [] asked line
template_alone (Generates count) h = other_way count [] h.2
template_alone (Templates table) h = let e : template_word ∷ [] ≡ template_word ∷ h.0 ∷ [] = h.2 in cc

no_table : (word : List ℕ) → table_in word ≡ None → IsHopeless IsTask (template_word ∷ word ∷ [])
no_table word none more (Compiles asked) line = no_template_line (word ∷ more) asked line
no_table word none more (Generates count) h = other_way count (word ∷ more) h.2
no_table word none more (Templates table) h =
    let e : template_word ∷ word ∷ more ≡ template_word ∷ h.0 ∷ [] = h.2 in
    let same : word ≡ h.0 = cc in
    let found : table_in word ≡ Some table = ap table_in same ∙ h.1 in
    cc

too_long : (word other : List ℕ) → IsHopeless IsTask (template_word ∷ word ∷ other ∷ [])
too_long word other more (Compiles asked) line = no_template_line (word ∷ other ∷ more) asked line
too_long word other more (Generates count) h = other_way count (word ∷ other ∷ more) h.2
too_long word other more (Templates table) h = let e : template_word ∷ word ∷ other ∷ more ≡ template_word ∷ h.0 ∷ [] = h.2 in cc

templated_spoils : (word : List ℕ) (words : List (List ℕ)) (o : Option Table) (number : ℕ) → table_in word ≡ o → templated_by o words ≡ Err number → IsOffending IsTask (template_word ∷ word ∷ words) number
templated_spoils word words None number is e =
    let same : 1 ≡ number = cc in
    subst (IsOffending IsTask (template_word ∷ word ∷ words)) same (hopeless (omega arith) some_template (no_table word is))
templated_spoils word [] (Some table) number is e = absurd cc
templated_spoils word (other ∷ words) (Some table) number is e =
    let same : 2 ≡ number = cc in
    subst (IsOffending IsTask (template_word ∷ word ∷ other ∷ words)) same (hopeless (omega arith) ([], Templates table, (word, is, refl)) (too_long word other))

template_spoils : (words : List (List ℕ)) (number : ℕ) → template_by words ≡ Err number → IsOffending IsTask (template_word ∷ words) number
template_spoils [] number e =
    let same : 1 ≡ number = cc in
    subst (IsOffending IsTask (template_word ∷ [])) same (ended refl some_template template_alone)
template_spoils (word ∷ words) number e = templated_spoils word words (table_in word) number refl e

hope_of : (words : List (List ℕ)) → HasHope IsCommandLine words → HasHope IsTask words
hope_of words hope = (hope.0, Compiles hope.1, hope.2)

-- words that begin with another word spoil both alike
other_spoils : (word : List ℕ) (words : List (List ℕ)) (number : ℕ) → bytes_eq word generate_word ≡ false → bytes_eq word template_word ≡ false → IsOffending IsCommandLine (word ∷ words) number → IsOffending IsTask (word ∷ words) number
other_spoils word words number is differs (hopeless below hope none) = hopeless below (hope_of (take number (word ∷ words)) hope) by_task
  where
    by_task : IsHopeless IsTask (take (number + 1) (word ∷ words))
    by_task more (Compiles asked) line = none more asked line
    by_task more (Generates count) h =
        let next : suc number ≡ number + 1 = omega arith in
        let e : word ∷ (take number words ++ more) ≡ generate_word ∷ decimal count ∷ [] = ap (λ m. take m (word ∷ words) ++ more) next ∙ h.2 in
        let same : word ≡ generate_word = cc in
        let equal : bytes_eq word generate_word ≡ true = (bytes_eq-Decides word generate_word).1 same in
        cc
    by_task more (Templates table) h =
        let next : suc number ≡ number + 1 = omega arith in
        let e : word ∷ (take number words ++ more) ≡ template_word ∷ h.0 ∷ [] = ap (λ m. take m (word ∷ words) ++ more) next ∙ h.2 in
        let same : word ≡ template_word = cc in
        let equal : bytes_eq word template_word ≡ true = (bytes_eq-Decides word template_word).1 same in
        cc
other_spoils word words number is differs (ended at hope none) = ended at (hope_of (word ∷ words) hope) by_task
  where
    by_task : (task : Task) → IsTask (word ∷ words) task → ⊥
    by_task (Compiles asked) line = none asked line
    by_task (Generates count) h =
        let e : word ∷ words ≡ generate_word ∷ decimal count ∷ [] = h.2 in
        let same : word ≡ generate_word = cc in
        let equal : bytes_eq word generate_word ≡ true = (bytes_eq-Decides word generate_word).1 same in
        cc
    by_task (Templates table) h =
        let e : word ∷ words ≡ template_word ∷ h.0 ∷ [] = h.2 in
        let same : word ≡ template_word = cc in
        let equal : bytes_eq word template_word ≡ true = (bytes_eq-Decides word template_word).1 same in
        cc

none_spoils : (number : ℕ) → IsOffending IsCommandLine [] number → IsOffending IsTask [] number
none_spoils number (hopeless below hope none) = absurd (omega (arith, below))
none_spoils number (ended at hope none) = ended at (hope_of [] hope) by_task
  where
    by_task : (task : Task) → IsTask [] task → ⊥
    by_task (Compiles asked) line = none asked line
    by_task (Generates count) h = let e = h.2 in cc
    by_task (Templates table) h = let e : [] ≡ template_word ∷ h.0 ∷ [] = h.2 in cc

compiled_err : (words : List (List ℕ)) (number : ℕ) → compiled_by (asked_by words) ≡ Err number → IsOffending IsCommandLine words number
compiled_err words number e = by_result (asked_by words) refl e
  where
    by_result : (r : Result Asked ℕ) → asked_by words ≡ r → compiled_by r ≡ Err number → IsOffending IsCommandLine words number
    by_result (Ok asked) is k = absurd cc
    by_result (Err other) is k =
        let same : other ≡ number = cc in
        offending words number (is ∙ ap Err same)

spoils : (words : List (List ℕ)) (number : ℕ) → task_by words ≡ Err number → IsOffending IsTask words number
spoils [] number e = none_spoils number (compiled_err [] number e)
spoils (word ∷ words) number e = by_word (bytes_eq word generate_word) refl e
  where
    by_template : (b : Bool) → bytes_eq word generate_word ≡ false → bytes_eq word template_word ≡ b → cond b (template_by words) (compiled_by (asked_by (word ∷ words))) ≡ Err number → IsOffending IsTask (word ∷ words) number
    by_template true differs is k = subst (λ w. IsOffending IsTask (w ∷ words) number) (is_template word is) (template_spoils words number k)
    by_template false differs is k = other_spoils word words number differs is (compiled_err (word ∷ words) number k)

    by_word : (b : Bool) → bytes_eq word generate_word ≡ b → cond b (generated_by words) (cond (bytes_eq word template_word) (template_by words) (compiled_by (asked_by (word ∷ words)))) ≡ Err number → IsOffending IsTask (word ∷ words) number
    by_word true is k = subst (λ w. IsOffending IsTask (w ∷ words) number) (is_option word is) (generated_spoils words number k)
    by_word false is k = by_template (bytes_eq word template_word) is refl k

told : (words : List (List ℕ)) (number : ℕ) → IsOffending IsTask words number → task_by words ≡ Err number
told words number h = by_result (task_by words) refl
  where
    by_result : (r : Result Task ℕ) → task_by words ≡ r → r ≡ Err number
    by_result (Ok task) e = absurd (no_line IsTask words number h task (task_from words task e))
    by_result (Err other) e = ap Err (one_offending IsTask words other number (spoils words other e) h)

-- ---- what a call answers

pub answer_good : (words : List (List ℕ)) (answer : Result code.Task WordsStop) → TaskAnswers answer (task_by words) → IfOk answer (λ task. IsTask words (shown_task task))
answer_good words (Ok task) h = task_from words (shown_task task) h
answer_good words (Err reason) h = tt

pub answer_every : (words : List (List ℕ)) (answer : Result code.Task WordsStop) → TaskAnswers answer (task_by words) → (task : Task) → IsTask words task → TaskAnswers answer (Ok task)
answer_every words answer h task is = subst (TaskAnswers answer) (task_to words task is) h

pub answer_bad : (words : List (List ℕ)) (answer : Result code.Task WordsStop) → TaskAnswers answer (task_by words) → IfBad answer (IsOffending IsTask words)
answer_bad words (Ok task) h = tt
answer_bad words (Err (stop.Bad number)) h = spoils words number h
answer_bad words (Err stop.Memory) h = tt

pub answer_told : (words : List (List ℕ)) (answer : Result code.Task WordsStop) → TaskAnswers answer (task_by words) → (word : ℕ) → IsOffending IsTask words word → TaskAnswers answer (Err word)
answer_told words answer h word is = subst (TaskAnswers answer) (told words word is) h

pub ruleset answer_rules = (answer_good, answer_every, answer_bad, answer_told)
