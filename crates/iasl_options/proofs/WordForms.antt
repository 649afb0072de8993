-- What a word by itself is, and what words ask for by it.
use Rattle.std.proofs.Common.{◌≡◌, ℕ, Bool, true, false, cond, List, [], ◌∷◌, ◌++◌, take, drop, length, codes, Option, Some, None, refl, sym, ap, ◌∙◌}
use Rattle.std.specs.Prelude.{◌==◌}
use Rattle.std.specs.Str.{bytes_eq}
use Rattle.std.proofs.lemmas.Slice.Eq.{bytes_eq-Decides}
use Rattle.std.proofs.lemmas.List.{take-append-drop}
use Rattle.iasl_options.specs.declared.words.Key.{Key}
use Rattle.iasl_options.specs.declared.words.Key.TheVariants as key
use Rattle.iasl_options.specs.declared.switches.Switch.{Switch}
use Rattle.iasl_options.specs.declared.switches.Switch.TheVariants as switch
use Rattle.iasl_options.specs.Switches.{switch_word, switch_of, or_other}
use Rattle.iasl_options.specs.Words.{Setting, PreprocessOnly, NoPreprocessor, Turned, File, Word, Asks, Opens, Unknown, with_value, valued, behind, begins_with_hyphen, or_turned, or_valued, word_of}
use Rattle.iasl_options.specs.CommandLine.{mark, AskFor, preprocess_only, no_preprocessor, switched, rest_of_word, source_file}
use Rattle.iasl_options.proofs.Values.{value_is}

-- what is known of a word that is this
abbrev pub Form : List ℕ → Word → Type 0
Form word (Asks setting) = (words : List (List ℕ)) (settings : List Setting) → AskFor words settings → AskFor (word ∷ words) (setting ∷ settings)
Form word (Opens key) = word ≡ mark key
Form word Unknown = Unit {0}

cond_form : (word : List ℕ) (b : Bool) (x y : Word) → (b ≡ true → Form word x) → (b ≡ false → Form word y) → Form word (cond b x y)
cond_form word true x y h k = h refl
cond_form word false x y h k = k refl

valued_form : (key : Key) (word value : List ℕ) → word ≡ mark key ++ value → mark key ++ [] ≡ mark key → Form word (valued key value)
valued_form key word [] e n = e ∙ n
valued_form key word (c ∷ cs) e n = λ words settings h. rest_of_word key c cs word (with_value key (c ∷ cs)) words settings e (value_is key (c ∷ cs)) h

marked_form : (key : Key) (word : List ℕ) (rest : Word) → mark key ++ [] ≡ mark key → Form word rest → Form word (or_valued key (behind (mark key) word) rest)
marked_form key word rest none h = by_mark (bytes_eq (take (length (mark key)) word) (mark key)) refl
  where
    by_mark : (c : Bool) → bytes_eq (take (length (mark key)) word) (mark key) ≡ c → Form word (or_valued key (cond c (Some (drop (length (mark key)) word)) None) rest)
    by_mark false e = h
    by_mark true e =
        let front : take (length (mark key)) word ≡ mark key = (bytes_eq-Decides (take (length (mark key)) word) (mark key)).0 e in
        let whole : word ≡ mark key ++ drop (length (mark key)) word = sym (take-append-drop (length (mark key)) word) ∙ ap (λ xs. xs ++ drop (length (mark key)) word) front in
        valued_form key word (drop (length (mark key)) word) whole none

-- a switch that is found is written so
abbrev IsSwitch : List ℕ → Option Switch → Type 0
IsSwitch word None = Unit {0}
IsSwitch word (Some one) = word ≡ switch_word one

or_is : (word : List ℕ) (one : Switch) (other : Option Switch) → IsSwitch word other → IsSwitch word (or_other word one other)
or_is word one other h = by_test (bytes_eq word (switch_word one)) refl
  where
    by_test : (b : Bool) → bytes_eq word (switch_word one) ≡ b → IsSwitch word (cond b (Some one) other)
    by_test true e = (bytes_eq-Decides word (switch_word one)).0 e
    by_test false e = h

switch_is : (word : List ℕ) → IsSwitch word (switch_of word)
switch_is word =
    or_is word switch.Brief _ (
    or_is word switch.Strict _ (
    or_is word switch.CText _ (
    or_is word switch.Listing _ (
    or_is word switch.Generic _ (
    or_is word switch.LongIntegers _ (
    or_is word switch.WrittenNames _ (
    or_is word switch.Unfolded _ (
    or_is word switch.Unoptimised _ (
    or_is word switch.WrappedExternals _ (
    or_is word switch.Acpica _ (
    or_is word switch.NoRemarks _ (
    or_is word switch.ErrorsAlone _ (
    or_is word switch.NoMessages _ (
    or_is word switch.NoSignon _ (
    or_is word switch.FirstLevel _ (
    or_is word switch.SecondLevel _ (
    or_is word switch.ThirdLevel _ tt)))))))))))))))))

turned_form : (word : List ℕ) (found : Option Switch) (rest : Word) → IsSwitch word found → Form word rest → Form word (or_turned found rest)
turned_form word None rest is h = h
turned_form word (Some one) rest is h = λ words settings ask. switched one word words settings is ask

pub form_of : (word : List ℕ) → Form word (word_of word)
form_of word =
    cond_form word (bytes_eq word (codes "-P")) _ _ (λ e words settings h. preprocess_only word words settings ((bytes_eq-Decides word (codes "-P")).0 e) h) (λ _.
    cond_form word (bytes_eq word (codes "-Pn")) _ _ (λ e words settings h. no_preprocessor word words settings ((bytes_eq-Decides word (codes "-Pn")).0 e) h) (λ _.
    turned_form word (switch_of word) _ (switch_is word) (
    marked_form key.Prefix word _ refl (
    marked_form key.Directory word _ refl (
    marked_form key.Definition word _ refl (
    marked_form key.Message word _ refl (
    cond_form word (begins_with_hyphen word) Unknown (Asks (File word)) (λ _. tt) (λ e words settings h. source_file word words settings e h))))))))

-- ---- the other way

pub word_preprocess_only : word_of (codes "-P") ≡ Asks PreprocessOnly
word_preprocess_only = refl

pub word_no_preprocessor : word_of (codes "-Pn") ≡ Asks NoPreprocessor
word_no_preprocessor = refl

pub word_switch : (one : Switch) → word_of (switch_word one) ≡ Asks (Turned one)
word_switch switch.Brief = refl
word_switch switch.Strict = refl
word_switch switch.CText = refl
word_switch switch.Listing = refl
word_switch switch.Generic = refl
word_switch switch.LongIntegers = refl
word_switch switch.WrittenNames = refl
word_switch switch.Unfolded = refl
word_switch switch.Unoptimised = refl
word_switch switch.WrappedExternals = refl
word_switch switch.Acpica = refl
word_switch switch.NoSignon = refl
word_switch switch.FirstLevel = refl
word_switch switch.SecondLevel = refl
word_switch switch.ThirdLevel = refl
word_switch switch.NoRemarks = refl
word_switch switch.ErrorsAlone = refl
word_switch switch.NoMessages = refl

pub word_opens : (key : Key) → word_of (mark key) ≡ Opens key
word_opens key.Prefix = refl
word_opens key.Directory = refl
word_opens key.Definition = refl
word_opens key.Message = refl

pub word_with_value : (key : Key) (c : ℕ) (cs : List ℕ) → word_of (mark key ++ c ∷ cs) ≡ Asks (with_value key (c ∷ cs))
word_with_value key.Prefix c cs = refl
word_with_value key.Directory c cs = refl
word_with_value key.Definition c cs = refl
word_with_value key.Message c cs = refl

no_hyphen : (c : ℕ) (cs : List ℕ) → (c == 45) ≡ false → word_of (c ∷ cs) ≡ Asks (File (c ∷ cs))
no_hyphen c cs e = rw e refl

pub word_file : (word : List ℕ) → begins_with_hyphen word ≡ false → word_of word ≡ Asks (File word)
word_file [] e = refl
word_file (c ∷ cs) e = no_hyphen c cs e
