-- What words ask for by the exact definition is what they ask for as a command line.
use Rattle.std.proofs.Common.{◌≡◌, ℕ, suc, Bool, true, false, List, [], ◌∷◌, Option, Some, None, Ok, refl, sym, ap, ◌∙◌, subst}
use Rattle.std.specs.Prelude.{is_some, not, if◌then◌else◌, option_and_then}
use Rattle.iasl_options.specs.declared.words.Key.{Key}
use Rattle.iasl_options.specs.declared.words.Key.TheVariants as key
use Rattle.iasl_options.specs.Words.{Setting, PreprocessOnly, NoPreprocessor, Turned, File, Word, Asks, Opens, Unknown, with_value, word_of}
use Rattle.iasl_options.specs.Asking.{Asked, Behind, nothing, with_setting, may_open, settled, behind_word, one_more, at_end, or_spoilt, asked_from, begin, asked_by, as_asked}
use Rattle.iasl_options.specs.CommandLine.{mark, IsValue, AskFor, no_word, preprocess_only, no_preprocessor, switched, rest_of_word, next_word, source_file, said, IsCommandLine}
use Rattle.iasl_options.proofs.Values.{value_is, value_only}
use Rattle.iasl_options.proofs.Settings.{after, good_settings, good_comes}
use Rattle.iasl_options.proofs.WordForms.{Form, form_of, word_switch, word_opens, word_with_value, word_file}

-- words that begin with the value of an option that waits for it
abbrev AskFrom : Option Key → List (List ℕ) → List Setting → Type 0
AskFrom None words settings = AskFor words settings
AskFrom (Some key) [] settings = ⊥
AskFrom (Some key) (value ∷ words) [] = ⊥
AskFrom (Some key) (value ∷ words) (setting ∷ settings) = IsValue key value setting × AskFor words settings

record Found (asked : Asked) (waiting : Option Key) (words : List (List ℕ)) (found : Asked) : Type 0 where
  settings : List Setting
  ask : AskFrom waiting words settings
  come : after asked settings ≡ Some found
  named : is_some found.file ≡ true

-- what is found is what is asked for by all that the words say
abbrev FoundAs : Asked → Option Key → List (List ℕ) → Asked → Type 0
FoundAs asked waiting words found = (all : Asked) × Found asked waiting words all × (as_asked all ≡ found)

-- ---- what is found is asked for

settled_parts : (o : Option Asked) (next : Behind) → settled o ≡ Some next → (o ≡ Some next.asked) × (None ≡ next.waiting)
settled_parts None next e = absurd cc
settled_parts (Some asked) next e =
    let is : record { asked = asked; waiting = None } ≡ next = cc in
    (ap (λ b. Some b.asked) is, ap (λ b. b.waiting) is)

opened_parts : (b : Bool) (asked : Asked) (key : Key) (next : Behind) → (if b then Some (record { asked = asked; waiting = Some key }) else None) ≡ Some next → (b ≡ true) × (record { asked = asked; waiting = Some key } ≡ next)
opened_parts true asked key next e = (refl, cc)
opened_parts false asked key next e = absurd cc

by_setting : (asked : Asked) (setting : Setting) (next : Behind) (words : List (List ℕ)) (found : Asked) → settled (with_setting asked setting) ≡ Some next → Found next.asked next.waiting words found
    → (settings : List Setting) × AskFor words settings × (after asked (setting ∷ settings) ≡ Some found) × (is_some found.file ≡ true)
by_setting asked setting next words found e h =
    let parts = settled_parts (with_setting asked setting) next e in
    (h.settings, subst (λ w. AskFrom w words h.settings) (sym parts.1) h.ask, ap (option_and_then (λ b. after b h.settings)) parts.0 ∙ h.come, h.named)

with_next : (key : Key) (asked : Asked) (word : List ℕ) (words : List (List ℕ)) (found : Asked) (settings : List Setting) → word ≡ mark key → AskFrom (Some key) words settings → after asked settings ≡ Some found → is_some found.file ≡ true
    → Found asked None (word ∷ words) found
with_next key asked word [] found settings is ask e named = absurd ask
with_next key asked word (value ∷ words) found [] is ask e named = absurd ask
with_next key asked word (value ∷ words) found (setting ∷ settings) is ask e named = record { settings = setting ∷ settings; ask = next_word key word value setting words settings is ask.0 ask.1; come = e; named = named }

by_word : (asked : Asked) (word : List ℕ) (w : Word) (next : Behind) (words : List (List ℕ)) (found : Asked) → Form word w → behind_word asked w ≡ Some next → Found next.asked next.waiting words found → Found asked None (word ∷ words) found
by_word asked word (Asks setting) next words found form e h =
    let rest = by_setting asked setting next words found e h in
    record { settings = setting ∷ rest.0; ask = form words rest.0 rest.1; come = rest.2; named = rest.3 }
by_word asked word (Opens key) next words found form e h =
    let is = (opened_parts (may_open asked key) asked key next e).1 in
    let here : Found asked (Some key) words found = subst (λ b. Found b.asked b.waiting words found) (sym is) h in
    with_next key asked word words found here.settings form here.ask here.come here.named
by_word asked word Unknown next words found form e h = absurd cc

one_back : (asked : Asked) (waiting : Option Key) (word : List ℕ) (next : Behind) (words : List (List ℕ)) (found : Asked) → one_more (record { asked = asked; waiting = waiting }) waiting word ≡ Some next → Found next.asked next.waiting words found → Found asked waiting (word ∷ words) found
one_back asked None word next words found e h = by_word asked word (word_of word) next words found (form_of word) e h
one_back asked (Some key) word next words found e h =
    let rest = by_setting asked (with_value key word) next words found e h in
    record { settings = with_value key word ∷ rest.0; ask = (value_is key word, rest.1); come = rest.2; named = rest.3 }

at_the_end : (n : ℕ) (asked : Asked) (waiting : Option Key) (file : Option (List ℕ)) (found : Asked) → asked.file ≡ file → at_end asked waiting file n ≡ Ok found → FoundAs asked waiting [] found
at_the_end n asked None None found is e = absurd cc
at_the_end n asked None (Some file) found is e =
    let same : as_asked asked ≡ found = cc in
    (asked, record { settings = []; ask = no_word; come = refl; named = ap is_some is }, same)
at_the_end n asked (Some key) None found is e = absurd cc
at_the_end n asked (Some key) (Some file) found is e = absurd cc

found_from : (n : ℕ) (behind : Behind) (words : List (List ℕ)) (found : Asked) → asked_from n behind words ≡ Ok found → FoundAs behind.asked behind.waiting words found
found_from n behind [] found e = at_the_end n behind.asked behind.waiting behind.asked.file found refl e
found_from n behind (word ∷ words) found e = by_next (one_more behind behind.waiting word) refl e (λ next. found_from (suc n) next words found)
  where
    by_next : (o : Option Behind) → one_more behind behind.waiting word ≡ o → or_spoilt n o (λ next. asked_from (suc n) next words) ≡ Ok found
        → ((next : Behind) → asked_from (suc n) next words ≡ Ok found → FoundAs next.asked next.waiting words found) → FoundAs behind.asked behind.waiting (word ∷ words) found
    by_next None is k go = absurd cc
    by_next (Some next) is k go =
        let h = go next k in
        (h.0, one_back behind.asked behind.waiting word next words h.0 is h.1, h.2)

-- ---- what is asked for is found

some_step : {A B : Type 0} (f : A → Option B) (o : Option A) (y : B) → option_and_then f o ≡ Some y → (x : A) × (o ≡ Some x) × (f x ≡ Some y)
some_step f None y e = absurd cc
some_step f (Some x) y e = (x, refl, e)

by_one : (n : ℕ) (asked : Asked) (word : List ℕ) (setting : Setting) (words : List (List ℕ)) (settings : List Setting) (found : Asked) → word_of word ≡ Asks setting → after asked (setting ∷ settings) ≡ Some found
    → ((next : Asked) → after next settings ≡ Some found → asked_from (suc n) (record { asked = next; waiting = None }) words ≡ Ok (as_asked found)) → asked_from n (record { asked = asked; waiting = None }) (word ∷ words) ≡ Ok (as_asked found)
by_one n asked word setting words settings found is e go =
    let step = some_step (λ b. after b settings) (with_setting asked setting) found e in
    ap (λ w. or_spoilt n (behind_word asked w) (λ next. asked_from (suc n) next words)) is
    ∙ ap (λ o. or_spoilt n (settled o) (λ next. asked_from (suc n) next words)) step.1
    ∙ go step.0 step.2

-- an option may stand where its value may come
may_come : (asked : Asked) (key : Key) (value : List ℕ) (next : Asked) → with_setting asked (with_value key value) ≡ Some next → may_open asked key ≡ true
may_come asked key.Prefix value next e = by_test (is_some asked.prefix) e
  where
    by_test : (b : Bool) → (if b then None else Some (record { file = asked.file; prefix = Some value; directories = asked.directories; definitions = asked.definitions; only = asked.only; enabled = asked.enabled; switches = asked.switches; ignored = asked.ignored })) ≡ Some next → not b ≡ true
    by_test true k = absurd cc
    by_test false k = refl
may_come asked key.Directory value next e = refl
may_come asked key.Definition value next e = refl
may_come asked key.Message value next e = refl

by_two : (n : ℕ) (asked : Asked) (key : Key) (word value : List ℕ) (words : List (List ℕ)) (settings : List Setting) (found : Asked) → word_of word ≡ Opens key → after asked (with_value key value ∷ settings) ≡ Some found
    → ((next : Asked) → after next settings ≡ Some found → asked_from (suc (suc n)) (record { asked = next; waiting = None }) words ≡ Ok (as_asked found)) → asked_from n (record { asked = asked; waiting = None }) (word ∷ value ∷ words) ≡ Ok (as_asked found)
by_two n asked key word value words settings found is e go =
    let step = some_step (λ b. after b settings) (with_setting asked (with_value key value)) found e in
    ap (λ w. or_spoilt n (behind_word asked w) (λ next. asked_from (suc n) next (value ∷ words))) is
    ∙ ap (λ b. or_spoilt n (if b then Some (record { asked = asked; waiting = Some key }) else None) (λ next. asked_from (suc n) next (value ∷ words))) (may_come asked key value step.0 step.1)
    ∙ ap (λ o. or_spoilt (suc n) (settled o) (λ next. asked_from (suc (suc n)) next words)) step.1
    ∙ go step.0 step.2

named_end : (n : ℕ) (asked : Asked) (file : Option (List ℕ)) → is_some file ≡ true → at_end asked None file n ≡ Ok (as_asked asked)
named_end n asked None h = absurd cc
named_end n asked (Some file) h = refl

found_for : (n : ℕ) (asked : Asked) (words : List (List ℕ)) (settings : List Setting) (found : Asked) → AskFor words settings → after asked settings ≡ Some found → is_some found.file ≡ true → asked_from n (record { asked = asked; waiting = None }) words ≡ Ok (as_asked found)
found_for n asked words settings found no_word e named =
    let same : asked ≡ found = cc in
    named_end n asked asked.file (ap (λ a. is_some a.file) same ∙ named) ∙ ap (λ a. Ok (as_asked a)) same
found_for n asked ws ss found (preprocess_only word words settings is ask) e named = by_one n asked word PreprocessOnly words settings found (ap word_of is) e (λ next k. found_for (suc n) next words settings found ask k named)
found_for n asked ws ss found (no_preprocessor word words settings is ask) e named = by_one n asked word NoPreprocessor words settings found (ap word_of is) e (λ next k. found_for (suc n) next words settings found ask k named)
found_for n asked ws ss found (switched switch word words settings is ask) e named = by_one n asked word (Turned switch) words settings found (ap word_of is ∙ word_switch switch) e (λ next k. found_for (suc n) next words settings found ask k named)
found_for n asked ws ss found (rest_of_word key c cs word setting words settings is value ask) e named =
    by_one n asked word setting words settings found (ap word_of is ∙ word_with_value key c cs ∙ ap Asks (sym (value_only key (c ∷ cs) setting value))) e (λ next k. found_for (suc n) next words settings found ask k named)
found_for n asked ws ss found (next_word key word value setting words settings is of_value ask) e named =
    by_two n asked key word value words settings found (ap word_of is ∙ word_opens key) (ap (λ s. after asked (s ∷ settings)) (sym (value_only key value setting of_value)) ∙ e) (λ next k. found_for (suc (suc n)) next words settings found ask k named)
found_for n asked ws ss found (source_file word words settings plain ask) e named = by_one n asked word (File word) words settings found (word_file word plain) e (λ next k. found_for (suc n) next words settings found ask k named)

-- ---- the whole

pub line_from : (words : List (List ℕ)) (asked : Asked) → asked_by words ≡ Ok asked → IsCommandLine words asked
line_from words asked e =
    let h = found_from 0 begin words asked e in
    let good = good_settings h.1.settings h.0 h.1.come h.1.named in
    (h.1.settings, h.1.ask, good.0, sym h.2 ∙ ap as_asked good.1)

pub line_to : (words : List (List ℕ)) (asked : Asked) → IsCommandLine words asked → asked_by words ≡ Ok asked
line_to words asked line =
    let comes = good_comes line.0 line.2 in
    found_for 0 nothing words line.0 (said line.0) line.1 comes.0 comes.1 ∙ ap Ok (sym line.3)
